-- `figures::compare::figures` meets its contract: both are run.
use Rattle.figures.proofs.Compares.{figures_written}
use Rattle.figures.proofs.compare.figures.Goals as goal

pub returns : goal.returns
returns c =
    figures_written c.args.mode c.args.table.now c.args.schedule.now c.translate-written.ensures c.type_inv.table c.if-written-ne0.false
    c.run_both.ensures

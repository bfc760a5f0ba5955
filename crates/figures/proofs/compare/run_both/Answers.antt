-- `figures::compare::run_both` meets its contract.
use Rattle.figures.proofs.Compares.{compared_refused, compared_both}
use Rattle.figures.proofs.compare.run_both.Goals as goal

-- the program is refused
pub returns-then-program-ne0 : goal.returns-then-program-ne0
returns-then-program-ne0 c =
    compared_refused c.args.table.now c.args.schedule.now c.args.copy.now c.run_program-program.ensures c.if-program-ne0.true c.refused.ensures

-- both are run
pub returns : goal.returns
returns c =
    compared_both c.args.table.now c.args.schedule.now c.args.copy.now c.run_program-program.ensures c.run_copy-copied.result
    c.if-program-ne0.false c.read_concurrent-read.ensures c.run_copy-copied.ensures

-- `figures::compare::run_program` meets its contract.
use Rattle.figures.proofs.Compares.{program_ran}
use Rattle.figures.proofs.compare.run_program.Goals as goal

pub returns : goal.returns
returns c = program_ran c.args.table.now c.args.schedule.now c.type_inv.table c.run_concurrent.ensures

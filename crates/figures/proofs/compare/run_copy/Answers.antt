-- `figures::compare::run_copy` meets its contract.
use Rattle.figures.proofs.Compares.{copy_ran}
use Rattle.figures.proofs.compare.run_copy.Goals as goal

pub returns : goal.returns
returns c = copy_ran c.args.copy.now c.args.schedule.now c.type_inv.copy c.args.locations c.run_sequential.ensures

-- `parse::block::read_values` meets its contract.
use Rattle.parse.proofs.Values.{values_ways}
use Rattle.parse.proofs.block.read_values.Goals as goal

pub returns-in_err-position : goal.returns-in_err-position
returns-in_err-position c = let none = c.in_err-position.was in search (values_ways, c.from_residual.ensures)

pub loop-preserved : goal.loop-preserved
loop-preserved c = let some = c.in_ok-position.was in search values_ways

pub returns : goal.returns
returns c = search values_ways

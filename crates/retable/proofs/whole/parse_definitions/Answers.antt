-- `retable::whole::parse_definitions` meets its contract.
use Rattle.retable.proofs.Assembling.{defined_ways}
use Rattle.retable.proofs.whole.parse_definitions.Goals as goal

pub loop-init : goal.loop-init
loop-init c = search defined_ways

pub loop-preserved : goal.loop-preserved
loop-preserved c = search defined_ways

pub returns : goal.returns
returns c = search defined_ways

-- `retable::whole::find` meets its contract.
use Rattle.retable.proofs.Assembling.{middle_ways}
use Rattle.retable.proofs.whole.find.Goals as goal

pub returns : goal.returns
returns c = search middle_ways

-- `retable::whole::parse_definition` meets its contract.
use Rattle.retable.proofs.Assembling.{definition_ways}
use Rattle.retable.proofs.whole.parse_definition.Goals as goal

pub returns : goal.returns
returns c = search definition_ways

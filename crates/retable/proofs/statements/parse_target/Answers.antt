-- `retable::statements::parse_target` meets its contract.
use Rattle.retable.proofs.Arguing.{target_ways}
use Rattle.retable.proofs.statements.parse_target.Goals as goal

pub returns : goal.returns
returns c = search target_ways

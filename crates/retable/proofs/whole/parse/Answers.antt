-- `retable::whole::parse` meets its contract.
use Rattle.retable.proofs.Assembling.{parse_ways}
use Rattle.retable.proofs.whole.parse.Goals as goal

pub returns-then-q-ge-FAR : goal.returns-then-q-ge-FAR
returns-then-q-ge-FAR c = search parse_ways

pub returns : goal.returns
returns c = search parse_ways

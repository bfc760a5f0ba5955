-- `retable::frames::parse_locals` meets its contract.
use Rattle.retable.proofs.Heading.{locals_ways}
use Rattle.retable.proofs.frames.parse_locals.Goals as goal

pub returns : goal.returns
returns c = search locals_ways

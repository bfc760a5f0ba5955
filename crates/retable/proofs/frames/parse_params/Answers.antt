-- `retable::frames::parse_params` meets its contract.
use Rattle.retable.proofs.Heading.{params_ways}
use Rattle.retable.proofs.frames.parse_params.Goals as goal

pub returns-then-peek-eq118 : goal.returns-then-peek-eq118
returns-then-peek-eq118 c = search params_ways

pub returns : goal.returns
returns c = search params_ways

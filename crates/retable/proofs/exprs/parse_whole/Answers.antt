-- `retable::exprs::parse_whole` meets its contract.
use Rattle.retable.proofs.Leaves.{leaf_ways}
use Rattle.retable.proofs.exprs.parse_whole.Goals as goal

pub returns-then-peek-eq45 : goal.returns-then-peek-eq45
returns-then-peek-eq45 c = search leaf_ways

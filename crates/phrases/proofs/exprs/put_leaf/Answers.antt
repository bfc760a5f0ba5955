-- `phrases::exprs::put_leaf` meets its contract.
use Rattle.phrases.proofs.Leaves.{leaf_ways}
use Rattle.phrases.proofs.exprs.put_leaf.Goals as goal

pub returns-in-3 : goal.returns-in-3
returns-in-3 c = search leaf_ways

pub returns-in_default : goal.returns-in_default
returns-in_default c = search leaf_ways

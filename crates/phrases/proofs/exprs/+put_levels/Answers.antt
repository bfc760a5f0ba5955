-- `phrases::exprs::put_levels` meets its contract.
use Rattle.phrases.proofs.Leaves.{leaf_ways}
use Rattle.phrases.proofs.exprs.+put_levels.Goals as goal
use Rattle.phrases.proofs.exprs.+put_levels.Goals.{then-depth-eq0-via-then-depth-eq0, then-depth-eq0-via-else-depth-eq0+then-t-at}

pub returns-then-depth-eq0 : goal.returns-then-depth-eq0
returns-then-depth-eq0 t c = elim c.then-depth-eq0.branch [
  | then-depth-eq0-via-then-depth-eq0 w ↦ search leaf_ways
  | then-depth-eq0-via-else-depth-eq0+then-t-at w ↦ search leaf_ways
]

pub returns-then-mark-lt-ADD : goal.returns-then-mark-lt-ADD
returns-then-mark-lt-ADD t c = search leaf_ways

pub returns-then-mark-gt-AND : goal.returns-then-mark-gt-AND
returns-then-mark-gt-AND t c = search leaf_ways

pub returns : goal.returns
returns t c = search leaf_ways

-- `variables::leaf` meets its contract.
use Rattle.labels.proofs.Gathering.{leaf_ways}
use Rattle.labels.proofs.variables.leaf.Goals as goal
use Rattle.labels.proofs.variables.leaf.Goals.{else-mark-eq-LOCAL-via-then-mark-eq-LOCAL+else-at-code, else-mark-eq-LOCAL-via-else-mark-eq-LOCAL}

pub returns-then-at-code : goal.returns-then-at-code
returns-then-at-code c = search leaf_ways

pub returns-else-mark-eq-LOCAL : goal.returns-else-mark-eq-LOCAL
returns-else-mark-eq-LOCAL c = elim c.else-mark-eq-LOCAL.branch [
  | else-mark-eq-LOCAL-via-then-mark-eq-LOCAL+else-at-code w ↦ search leaf_ways
  | else-mark-eq-LOCAL-via-else-mark-eq-LOCAL w ↦ search leaf_ways
]

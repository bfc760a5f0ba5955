-- `label_map::begin` meets its contract.
use Rattle.labels.proofs.Filling.{begin_ways}
use Rattle.labels.proofs.label_map.begin.Goals as goal
use Rattle.labels.proofs.label_map.begin.Goals.{else-at-t-via-then-at-t+else-t-at-eq-END, else-at-t-via-else-at-t}

pub returns-then-t-at-eq-END : goal.returns-then-t-at-eq-END
returns-then-t-at-eq-END c = search begin_ways

pub returns-else-at-t : goal.returns-else-at-t
returns-else-at-t c =
    elim c.else-at-t.branch [ else-at-t-via-then-at-t+else-t-at-eq-END w ↦ search begin_ways | else-at-t-via-else-at-t w ↦ search begin_ways ]

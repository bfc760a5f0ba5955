-- `labels::after_exprs` meets its contract.
use Rattle.labels.proofs.Counting.{skip_ways}
use Rattle.labels.proofs.count.after_exprs.Goals as goal

pub loop-preserved : goal.loop-preserved
loop-preserved c = search skip_ways

-- `variables::gather_each` meets its contract.
use Rattle.labels.proofs.Gathering.{each_ways}
use Rattle.labels.proofs.variables.gather_each.Goals as goal

pub loop-init : goal.loop-init
loop-init c = search each_ways

pub loop-preserved : goal.loop-preserved
loop-preserved c = search each_ways

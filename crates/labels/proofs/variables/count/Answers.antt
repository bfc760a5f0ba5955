-- `variables::count` meets its contract.
use Rattle.labels.proofs.Gathering.{count_set_ways}
use Rattle.labels.proofs.variables.count.Goals as goal

pub returns : goal.returns
returns c = search count_set_ways

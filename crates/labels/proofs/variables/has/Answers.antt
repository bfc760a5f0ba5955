-- `variables::has` meets its contract.
use Rattle.labels.proofs.Gathering.{has_ways}
use Rattle.labels.proofs.variables.has.Goals as goal

pub returns-then-x-lt-LOCALS : goal.returns-then-x-lt-LOCALS
returns-then-x-lt-LOCALS c = search has_ways

pub returns-else-x-lt-LOCALS : goal.returns-else-x-lt-LOCALS
returns-else-x-lt-LOCALS c = search has_ways

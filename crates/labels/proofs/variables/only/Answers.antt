-- `variables::only` meets its contract.
use Rattle.labels.proofs.Gathering.{only_ways}
use Rattle.labels.proofs.variables.only.Goals as goal

pub returns-then-x-lt-LOCALS : goal.returns-then-x-lt-LOCALS
returns-then-x-lt-LOCALS c = search only_ways

pub returns-else-x-lt-LOCALS : goal.returns-else-x-lt-LOCALS
returns-else-x-lt-LOCALS c = search only_ways

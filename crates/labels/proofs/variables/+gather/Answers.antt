-- `variables::gather` meets its contract.
use Rattle.labels.proofs.Gathering.{gather_ways}
use Rattle.labels.proofs.variables.+gather.Goals as goal

pub returns-then-depth-eq0 : goal.returns-then-depth-eq0
returns-then-depth-eq0 t c = search gather_ways

pub returns-in-1 : goal.returns-in-1
returns-in-1 t c = search gather_ways

pub returns-in-2 : goal.returns-in-2
returns-in-2 t c = search gather_ways

pub returns-in_default : goal.returns-in_default
returns-in_default t c = search gather_ways

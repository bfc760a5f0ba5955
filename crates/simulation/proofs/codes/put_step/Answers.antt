-- `simulation::codes::put_step` meets its contract.
use Rattle.simulation.proofs.Labels.{label_ways}
use Rattle.simulation.proofs.codes.put_step.Goals as goal

pub returns-then-t-at-eq-ATOMIC : goal.returns-then-t-at-eq-ATOMIC
returns-then-t-at-eq-ATOMIC c = search label_ways

pub returns-else-t-at-eq-ATOMIC : goal.returns-else-t-at-eq-ATOMIC
returns-else-t-at-eq-ATOMIC c = search label_ways

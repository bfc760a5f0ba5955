-- `simulation::codes::put_passes` meets its contract.
use Rattle.simulation.proofs.Labels.{label_ways}
use Rattle.simulation.proofs.codes.put_passes.Goals as goal

pub loop-x-preserved : goal.loop-x-preserved
loop-x-preserved c = search label_ways

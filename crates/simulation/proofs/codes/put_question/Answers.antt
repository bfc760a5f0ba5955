-- `simulation::codes::put_question` meets its contract.
use Rattle.simulation.proofs.Labels.{label_ways}
use Rattle.simulation.proofs.codes.put_question.Goals as goal

pub returns : goal.returns
returns c = search label_ways

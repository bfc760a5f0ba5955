-- `simulation::simulate::put_label` meets its contract.
use Rattle.simulation.proofs.Simulating.{simulate_ways}
use Rattle.simulation.proofs.simulate.put_label.Goals as goal

pub returns : goal.returns
returns c = search simulate_ways

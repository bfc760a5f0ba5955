-- `simulation::simulate::put_call_at` meets its contract.
use Rattle.simulation.proofs.Simulating.{simulate_ways}
use Rattle.simulation.proofs.simulate.put_call_at.Goals as goal

pub returns : goal.returns
returns c = search simulate_ways

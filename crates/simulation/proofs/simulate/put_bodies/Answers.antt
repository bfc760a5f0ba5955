-- `simulation::simulate::put_bodies` meets its contract.
use Rattle.simulation.proofs.Simulating.{simulate_ways}
use Rattle.simulation.proofs.simulate.put_bodies.Goals as goal

pub loop-done-preserved : goal.loop-done-preserved
loop-done-preserved c = search simulate_ways

pub returns : goal.returns
returns c = search simulate_ways

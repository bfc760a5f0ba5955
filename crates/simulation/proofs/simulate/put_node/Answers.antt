-- `simulation::simulate::put_node` meets its contract.
use Rattle.simulation.proofs.Simulating.{simulate_ways}
use Rattle.simulation.proofs.simulate.put_node.Goals as goal

pub returns-in-0 : goal.returns-in-0
returns-in-0 c = search simulate_ways

pub returns-in-37 : goal.returns-in-37
returns-in-37 c = search simulate_ways

pub returns-in-35 : goal.returns-in-35
returns-in-35 c = search simulate_ways

pub returns-in-36 : goal.returns-in-36
returns-in-36 c = search simulate_ways

pub returns-in_default : goal.returns-in_default
returns-in_default c = search simulate_ways

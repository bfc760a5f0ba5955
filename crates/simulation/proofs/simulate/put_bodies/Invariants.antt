-- `simulation::simulate::put_bodies` meets its contract.
use Rattle.simulation.specs.Laws.Bodies.{Simulating}
use Rattle.simulation.proofs.simulate.put_bodies.Given as goal

abbrev pub invariant-loop-done : goal.invariant-loop-done
invariant-loop-done l = Simulating l.t l.shape l.map l.bounds l.offsets l.done l.initial.out l.out

-- `simulation::codes::put_passes` meets its contract.
use Rattle.emit.specs.Laws.Sources.{Passing}
use Rattle.simulation.proofs.codes.put_passes.Given as goal

abbrev pub invariant-loop-x : goal.invariant-loop-x
invariant-loop-x l = Passing l.t l.at l.count l.callee l.initial.out l.next l.x l.out

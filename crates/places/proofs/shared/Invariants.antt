-- `places::shared` meets its contract.
use Rattle.places.specs.Laws.Raising.{Rounds}
use Rattle.places.proofs.shared.Given as goal

abbrev pub invariant-loop : goal.invariant-loop
invariant-loop l = Rounds l.bodies.table.now l.bodies.procedures l.bodies.records l.counter l.starts

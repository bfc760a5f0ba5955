-- `places::marks::calls_of` meets its contract.
use Rattle.places.specs.Laws.Marking.{Marking}
use Rattle.places.proofs.marks.calls_of.Given as goal

abbrev pub invariant-loop-q : goal.invariant-loop-q
invariant-loop-q l = Marking l.bodies.table.now l.bodies.procedures l.bodies.records l.q l.calls

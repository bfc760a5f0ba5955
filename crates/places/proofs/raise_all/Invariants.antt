-- `places::raise_all` meets its contract.
use Rattle.places.specs.Laws.Raising.{Rounding}
use Rattle.places.proofs.raise_all.Given as goal

abbrev pub invariant-loop-q : goal.invariant-loop-q
invariant-loop-q l = Rounding l.bodies.table.now l.bodies.procedures l.bodies.records l.initial.starts l.q l.starts

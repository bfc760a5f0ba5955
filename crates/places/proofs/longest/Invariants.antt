-- `places::longest` meets its contract.
use Rattle.places.specs.Laws.Raising.{LongestTo}
use Rattle.places.proofs.longest.Given as goal

abbrev pub invariant-loop-m : goal.invariant-loop-m
invariant-loop-m l = LongestTo l.bodies.table.now l.bodies.procedures l.bodies.records l.starts l.m l.row

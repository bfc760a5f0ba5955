-- `scan::names::names_right` meets its contract.
use Rattle.scan.specs.Laws.NameScans.{Before}
use Rattle.scan.proofs.names.names_right.Given as goal

abbrev pub invariant-loop-m : goal.invariant-loop-m
invariant-loop-m l = Before l.bodies.table.now l.bodies.procedures l.locations l.bodies.records l.m

-- `places::in_order` meets its contract.
use Rattle.places.specs.Laws.Raising.{InOrder}
use Rattle.places.proofs.in_order.Given as goal

abbrev pub invariant-loop-m : goal.invariant-loop-m
invariant-loop-m l = InOrder l.bodies.table.now l.bodies.procedures l.bodies.records l.m l.starts l.row

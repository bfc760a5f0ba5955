-- `reader::set::set_before_read` meets its contract.
use Rattle.reader.specs.Laws.SetScans.{Before}
use Rattle.reader.proofs.set.set_before_read.Given as goal

abbrev pub invariant-loop-m : goal.invariant-loop-m
invariant-loop-m l = Before l.bodies.table.now l.bodies.procedures l.bodies.records l.m

-- `scan::label_count::count_labels` meets its contract.
use Rattle.std.proofs.Common.{◌-◌}
use Rattle.scan.specs.Laws.LabelScans.{Counting}
use Rattle.scan.proofs.label_count.count_labels.Given as goal

abbrev pub invariant-loop-i : goal.invariant-loop-i
invariant-loop-i l = Counting l.bodies.table.now l.bodies.procedures l.bodies.records l.i l.labels l.within

abbrev pub decreases-loop-i : goal.decreases-loop-i
decreases-loop-i l = l.bodies.records - l.i

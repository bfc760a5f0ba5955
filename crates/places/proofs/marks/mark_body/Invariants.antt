-- `places::marks::mark_body` meets its contract.
use Rattle.std.proofs.Common.{◌-◌}
use Rattle.places.specs.Laws.Marking.{marked_by}
use Rattle.scan.specs.Laws.Scans.{From}
use Rattle.places.proofs.marks.mark_body.Given as goal

abbrev pub invariant-loop-i : goal.invariant-loop-i
invariant-loop-i l = From l.t l.end (marked_by l.initial.called) l.at (marked_by l.called) l.i

abbrev pub decreases-loop-i : goal.decreases-loop-i
decreases-loop-i l = l.end - l.i

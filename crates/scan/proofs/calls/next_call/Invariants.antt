-- `scan::calls::next_call` meets its contract.
use Rattle.std.proofs.Common.{◌-◌}
use Rattle.scan.specs.Laws.CallScans.{Passing}
use Rattle.scan.proofs.calls.next_call.Given as goal

abbrev pub invariant-loop-i : goal.invariant-loop-i
invariant-loop-i l = Passing l.t l.end l.states l.at l.i

abbrev pub decreases-loop-i : goal.decreases-loop-i
decreases-loop-i l = l.end - l.i

-- `reader::set::known_exprs` meets its contract.
use Rattle.std.proofs.Common.{length, ◌-◌}
use Rattle.reader.specs.Laws.KnownScans.{KnowsFrom}
use Rattle.reader.proofs.set.known_exprs.Given as goal

abbrev pub invariant-loop-left : goal.invariant-loop-left
invariant-loop-left l = KnowsFrom l.t l.at l.count l.set l.i l.left

abbrev pub decreases-loop-left : goal.decreases-loop-left
decreases-loop-left l = length l.t - l.i

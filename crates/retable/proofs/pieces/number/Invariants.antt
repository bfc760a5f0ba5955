-- `retable::pieces::number` meets its contract.
use Rattle.std.proofs.Common.{length, ◌-◌}
use Rattle.retable.proofs.Places.{DigitsFrom}
use Rattle.retable.proofs.pieces.number.Given as goal

abbrev pub invariant-loop-i : goal.invariant-loop-i
invariant-loop-i l = DigitsFrom l.x l.at l.i l.n

abbrev pub decreases-loop-i : goal.decreases-loop-i
decreases-loop-i l = length l.x - l.i

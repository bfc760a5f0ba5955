-- `retable::frames::parse_sizes` meets its contract.
use Rattle.retable.proofs.Framing.{SizesFrom}
use Rattle.retable.proofs.frames.parse_sizes.Given as goal

abbrev pub invariant-loop-count : goal.invariant-loop-count
invariant-loop-count l = SizesFrom l.x l.at 0 l.initial.out l.fn.to l.next l.count l.out l.to

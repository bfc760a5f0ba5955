-- `retable::frames::count_unsets` meets its contract.
use Rattle.retable.proofs.Heading.{UnsetsFrom}
use Rattle.retable.proofs.frames.count_unsets.Given as goal

abbrev pub invariant-loop-count : goal.invariant-loop-count
invariant-loop-count l = UnsetsFrom l.x l.at l.params l.next l.count

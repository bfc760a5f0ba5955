-- `retable::frames::skip_declarations` meets its contract.
use Rattle.retable.proofs.Heading.{DeclaredFrom}
use Rattle.retable.proofs.frames.skip_declarations.Given as goal

abbrev pub invariant-loop-count : goal.invariant-loop-count
invariant-loop-count l = DeclaredFrom l.x l.at 0 l.next l.count

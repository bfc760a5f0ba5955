-- `retable::frames::more_params` meets its contract.
use Rattle.retable.proofs.Heading.{ParamsFrom}
use Rattle.retable.proofs.frames.more_params.Given as goal

abbrev pub invariant-loop-count : goal.invariant-loop-count
invariant-loop-count l = ParamsFrom l.x l.at 1 l.next l.count

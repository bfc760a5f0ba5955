-- `frame::procedures::put_declarations` meets its contract.
use Rattle.frame.specs.Frames.{DeclarationsFrom}
use Rattle.frame.proofs.procedures.put_declarations.Given as goal

abbrev pub invariant-loop-k : goal.invariant-loop-k
invariant-loop-k l = DeclarationsFrom l.t l.from l.n l.initial.page l.k l.page

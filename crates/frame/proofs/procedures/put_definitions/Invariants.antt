-- `frame::procedures::put_definitions` meets its contract.
use Rattle.frame.specs.Frames.{DefinitionsFrom}
use Rattle.frame.proofs.procedures.put_definitions.Given as goal

abbrev pub invariant-loop-k : goal.invariant-loop-k
invariant-loop-k l = DefinitionsFrom l.t l.from l.n l.initial.page l.k l.next l.page

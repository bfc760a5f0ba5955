-- `quick::turn::call` meets its contract.
use Rattle.quick.proofs.Deciding.{Calling}
use Rattle.quick.proofs.turn.call.Given as goal

abbrev pub invariant-loop-i : goal.invariant-loop-i
invariant-loop-i l = Calling l.t l.initial.words l.words l.base l.at l.count l.next l.i

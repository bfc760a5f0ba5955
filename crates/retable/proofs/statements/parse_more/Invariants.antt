-- `retable::statements::parse_more` meets its contract.
use Rattle.retable.proofs.Arguing.{MoreFrom}
use Rattle.retable.proofs.statements.parse_more.Given as goal

abbrev pub invariant-loop-count : goal.invariant-loop-count
invariant-loop-count l = MoreFrom l.x l.at 1 l.initial.out l.fn.to l.next l.count l.out l.to

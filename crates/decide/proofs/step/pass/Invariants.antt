-- `decide::step::pass` meets its contract.
use Rattle.decide.proofs.Passing.{Passing}
use Rattle.decide.proofs.step.pass.Given as goal

abbrev pub invariant-loop-i : goal.invariant-loop-i
invariant-loop-i l = Passing l.t l.initial.words l.words l.base l.from l.count l.at l.i

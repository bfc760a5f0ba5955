-- `zeroth::procedure::put_switch` meets its contract.
use Rattle.zeroth.specs.Laws.Zeroth.{SwitchLeft}
use Rattle.zeroth.proofs.procedure.put_switch.Given as goal

abbrev pub invariant-loop-k : goal.invariant-loop-k
invariant-loop-k l = SwitchLeft l.labels l.k l.initial.out l.out

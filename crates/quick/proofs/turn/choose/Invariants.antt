-- `quick::turn::choose` meets its contract.
use Rattle.std.proofs.Common.{◌-◌}
use Rattle.quick.proofs.Choosing.{Choosing}
use Rattle.quick.proofs.turn.choose.Given as goal

abbrev pub invariant-loop-steps : goal.invariant-loop-steps
invariant-loop-steps l = Choosing l.t l.jumps l.words l.base l.at l.left l.head l.v l.to l.steps

abbrev pub decreases-loop-steps : goal.decreases-loop-steps
decreases-loop-steps l = l.left - l.steps

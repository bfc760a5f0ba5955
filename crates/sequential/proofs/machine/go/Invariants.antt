-- `sequential::go` meets its contract: what is left of the budget, from the present configuration, is the run from the start.
use Rattle.std.proofs.Common.{◌-◌}
use Rattle.sequential.proofs.Running.{Going}
use Rattle.sequential.proofs.machine.go.Given as goal

abbrev pub invariant-loop-state : goal.invariant-loop-state
invariant-loop-state l = Going l.t l.records l.schedule l.jumps l.starts l.initial.words l.initial.back l.initial.cells l.h l.budget l.initial.events l.words l.back l.cells l.events l.state l.steps

abbrev pub decreases-loop-state : goal.decreases-loop-state
decreases-loop-state l = l.budget - l.steps

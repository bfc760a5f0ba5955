-- `sequential::go` meets its contract: what is left of the budget, from the present configuration, is the run from the start.
use Rattle.std.proofs.Common.{rules}
use Rattle.sequential.proofs.Running.{going_inside, going_few, going_ways}
use Rattle.sequential.proofs.Turning.{going_words, left_facing, left_blocked, left_due, left_on, turning_ways}
use Rattle.sequential.proofs.machine.go.Goals as goal

pub loop-state-init : goal.loop-state-init
loop-state-init c = first_of (search (going_ways, rules), search (turning_ways, rules))

pub returns-then-state-eq0 : goal.returns-then-state-eq0
returns-then-state-eq0 c = first_of (search (going_ways, rules), search (turning_ways, rules))

pub returns-then-steps-budget : goal.returns-then-steps-budget
returns-then-steps-budget c = first_of (search (going_ways, rules), search (turning_ways, rules))

pub overflow_mul-base : goal.overflow_mul-base
overflow_mul-base c = first_of (search (going_ways, rules), search (turning_ways, rules))

pub decide-fast-requires : goal.decide-fast-requires
decide-fast-requires c = first_of (search (going_ways, rules), search (turning_ways, rules))

pub carry_words-state-requires : goal.carry_words-state-requires
carry_words-state-requires c = first_of (search (going_ways, rules), search (turning_ways, rules))

pub loop-state-preserved-then-taken-gt0 : goal.loop-state-preserved-then-taken-gt0
loop-state-preserved-then-taken-gt0 c =
    going_words c.loop-state.invariant c.if-state-eq0.false c.decide-fast.ensures c.if-taken-gt0.true c.steps-taken.ensures c.if-steps-budget.false c.carry_words-state.ensures

pub used_up-requires : goal.used_up-requires
used_up-requires c = first_of (search (going_ways, rules), search (turning_ways, rules))

pub returns-then-used_up : goal.returns-then-used_up
returns-then-used_up c = first_of (search (going_ways, rules), search (turning_ways, rules))

pub due-step-requires : goal.due-step-requires
due-step-requires c = (
  left_facing c.loop-state.invariant c.if-state-eq0.false c.decide-fast.ensures c.if-steps-budget.false c.used_up.ensures c.if-used_up.false,
  going_inside c.loop-state.invariant c.if-state-eq0.false,
  search rules,
  going_few c.loop-state.invariant c.if-state-eq0.false,
)

pub returns-in-Blocked : goal.returns-in-Blocked
returns-in-Blocked c =
    left_blocked c.loop-state.invariant c.if-state-eq0.false c.decide-fast.ensures c.if-steps-budget.false c.used_up.ensures c.if-used_up.false c.due-step.ensures
    c.in-Blocked.is c.outcome-in-Blocked.ensures

pub carry_out-state-requires : goal.carry_out-state-requires
carry_out-state-requires c =
    left_due c.loop-state.invariant c.if-state-eq0.false c.decide-fast.ensures c.if-steps-budget.false c.used_up.ensures c.if-used_up.false c.due-step.ensures
    c.in_default.not-Blocked

pub loop-state-preserved : goal.loop-state-preserved
loop-state-preserved c =
    left_on c.loop-state.invariant c.if-state-eq0.false c.decide-fast.ensures c.if-steps-budget.false c.used_up.ensures c.if-used_up.false c.due-step.ensures
    c.in_default.not-Blocked c.carry_out-state.ensures

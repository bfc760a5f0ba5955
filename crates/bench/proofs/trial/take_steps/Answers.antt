-- `bench::trial::take_steps` meets its contract: what is left of the steps, from the present state, is all of them from the start.
use Rattle.bench.proofs.Taking.{taken_blocked, taken_more, take_ways}
use Rattle.bench.proofs.trial.take_steps.Goals as goal

pub returns-then-depths-thread-eq0 : goal.returns-then-depths-thread-eq0
returns-then-depths-thread-eq0 c = search take_ways

pub step-stepped-requires : goal.step-stepped-requires
step-stepped-requires c = search take_ways

pub returns-then-is_err : goal.returns-then-is_err
returns-then-is_err c =
    taken_blocked c.loop-taken.invariant c.loop-taken-test.true c.if-depths-thread-eq0.false c.step-stepped.ensures c.is_err.ensures.value c.if-is_err.true

pub loop-taken-preserved : goal.loop-taken-preserved
loop-taken-preserved c =
    taken_more c.loop-taken.invariant c.loop-taken-test.true c.if-depths-thread-eq0.false c.step-stepped.ensures c.is_err.ensures.value c.if-is_err.false

pub returns : goal.returns
returns c = search take_ways

-- `bench::trial::play` meets its contract: what is left of the counts, from the present state, is all of them from the start.
use Rattle.std.proofs.Common.{rules}
use Rattle.bench.proofs.Playing.{play_ways, turns_blocked, turns_next}
use Rattle.bench.proofs.trial.play.Goals as goal

pub rounds-init : goal.rounds-init
rounds-init c = search (play_ways, rules)

pub loop-thread-init : goal.loop-thread-init
loop-thread-init c = search (play_ways, rules)

pub take_steps-requires : goal.take_steps-requires
take_steps-requires c = search (play_ways, rules)

pub loop-thread-preserved : goal.loop-thread-preserved
loop-thread-preserved c =
    turns_next c.rounds.invariant c.rounds-test.true c.loop-thread.invariant c.loop-thread-test.true c.take_steps.ensures c.if-take_steps.false

pub rounds-preserved : goal.rounds-preserved
rounds-preserved c = search (play_ways, rules)

pub returns-after-rounds : goal.returns-after-rounds
returns-after-rounds c = search (play_ways, rules)

pub returns-then-take_steps : goal.returns-then-take_steps
returns-then-take_steps c =
    turns_blocked c.rounds.invariant c.loop-thread.invariant c.rounds-test.true c.loop-thread-test.true c.take_steps.ensures c.if-take_steps.true

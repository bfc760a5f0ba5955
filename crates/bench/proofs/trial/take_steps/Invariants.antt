-- `bench::trial::take_steps` meets its contract: what is left of the steps, from the present state, is all of them from the start.
use Rattle.std.proofs.Common.{◌-◌}
use Rattle.bench.proofs.Taking.{Left}
use Rattle.bench.proofs.trial.take_steps.Given as goal

abbrev pub invariant-loop-taken : goal.invariant-loop-taken
invariant-loop-taken l = Left l.t l.map l.bounds l.starts l.thread l.steps l.initial.labels l.initial.depths l.initial.words l.initial.cells l.labels l.depths l.words l.cells (l.steps - l._taken)

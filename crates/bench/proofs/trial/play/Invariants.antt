-- `bench::trial::play` meets its contract: what is left of the counts, from the present state, is all of them from the start.
use Rattle.std.proofs.Common.{◌+◌, ◌*◌}
use Rattle.bench.proofs.Playing.{Rounds, Turns}
use Rattle.bench.proofs.trial.play.Given as goal

abbrev pub invariant-loop-thread : goal.invariant-loop-thread
invariant-loop-thread l = Turns l.t l.map l.bounds l.starts l.rounds l.threads l.counts l.initial.labels l.initial.depths l.initial.words l.initial.cells (l.threads * l.round) l.round l.labels l.depths l.words l.cells l.blocked (l.threads * l.round + l.thread) l.thread

abbrev pub invariant-rounds : goal.invariant-rounds
invariant-rounds l = Rounds l.t l.map l.bounds l.starts l.rounds l.threads l.counts l.initial.labels l.initial.depths l.initial.words l.initial.cells l.labels l.depths l.words l.cells l.blocked (l.threads * l.round) l.round

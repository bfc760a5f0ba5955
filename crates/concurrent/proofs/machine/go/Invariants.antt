-- `concurrent::go` meets its contract: what is left of the run, from the present state, is the run from the start.
use Rattle.concurrent.proofs.ConcurrentRun.{Going}
use Rattle.concurrent.proofs.machine.go.Given as goal

abbrev pub invariant-loop-taken : goal.invariant-loop-taken
invariant-loop-taken l = Going l.t l.threads l.schedule l.map l.bounds l.starts l.initial.labels l.initial.depths l.initial.words l.initial.cells l.initial.events l.labels l.depths l.words l.cells l.events l.taken l.count

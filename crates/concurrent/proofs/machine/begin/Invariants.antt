-- `concurrent::begin` meets its contract: the threads before `i` have begun.
use Rattle.std.proofs.Common.{◌≤◌}
use Rattle.concurrent.specs.Concurrent.{Begins}
use Rattle.concurrent.proofs.machine.begin.Given as goal

abbrev pub invariant-loop-i : goal.invariant-loop-i
invariant-loop-i l = Begins l.t l.at l.i l.bounds l.labels l.depths × (l.i ≤ l.threads)

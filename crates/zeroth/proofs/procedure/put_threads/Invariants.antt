-- `zeroth::procedure::put_threads` meets its contract.
use Rattle.zeroth.specs.Laws.Zeroth.{ThreadsLeft}
use Rattle.zeroth.proofs.procedure.put_threads.Given as goal

abbrev pub invariant-loop-k : goal.invariant-loop-k
invariant-loop-k l = ThreadsLeft l.part l.t l.shape l.bounds l.k l.initial.out l.out

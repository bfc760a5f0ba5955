-- `labels::after_exprs` meets its contract.
use Rattle.labels.proofs.Counting.{Skipping}
use Rattle.labels.proofs.count.after_exprs.Given as goal

abbrev pub invariant-loop : goal.invariant-loop
invariant-loop l = Skipping l.t l.at l.n l.i l.counter

-- `bench::counts::fill_counts` meets its contract: the counts from `i` on stand in their places.
use Rattle.bench.proofs.Counting.{Placing}
use Rattle.bench.proofs.counts.fill_counts.Given as goal

abbrev pub invariant-loop-i : goal.invariant-loop-i
invariant-loop-i l = Placing l.number l.base l.n l.initial.counts l.counts l.rest l.i

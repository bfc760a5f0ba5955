-- `bench::search::search` meets its contract: no allotment before `number` blocks.
use Rattle.bench.proofs.Searching.{Seeking}
use Rattle.bench.proofs.search.search.Given as goal

abbrev pub invariant-loop-number : goal.invariant-loop-number
invariant-loop-number l = Seeking l.t l.procedures l.locations l.threads l.count l.rounds l.most l.total l.initial.out l.mains l.map l.bounds l.starts l.out l.counts l.labels l.depths l.words l.cells l.number

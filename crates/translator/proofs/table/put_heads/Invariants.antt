-- `translator::table::put_heads` meets its contract.
use Rattle.translator.specs.Laws.Tables.{Heading}
use Rattle.translator.proofs.table.put_heads.Given as goal

abbrev pub invariant-loop-k : goal.invariant-loop-k
invariant-loop-k l = Heading l.t l.shape l.map l.offsets l.k l.initial.out l.out

-- `translator::table::put_rows` meets its contract.
use Rattle.std.proofs.Common.{replicate}
use Rattle.value.specs.Values.{bytes}
use Rattle.format.specs.Encode.{each}
use Rattle.writer.specs.Laws.Pages.{Puts}
use Rattle.translator.proofs.table.put_rows.Given as goal

abbrev pub invariant-loop : goal.invariant-loop
invariant-loop l = Puts l.initial.out (each (bytes 2) (replicate l.counter l.size)) l.out

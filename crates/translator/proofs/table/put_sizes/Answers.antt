-- `translator::table::put_sizes` meets its contract.
use Rattle.translator.proofs.Tabling.{table_ways}
use Rattle.translator.proofs.table.put_sizes.Goals as goal

pub returns-then-t-until : goal.returns-then-t-until
returns-then-t-until c = search table_ways

pub returns : goal.returns
returns c = search table_ways

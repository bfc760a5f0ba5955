-- `translator::table::put_rows` meets its contract.
use Rattle.translator.proofs.Tabling.{table_ways}
use Rattle.translator.proofs.table.put_rows.Goals as goal

pub loop-preserved : goal.loop-preserved
loop-preserved c = search table_ways

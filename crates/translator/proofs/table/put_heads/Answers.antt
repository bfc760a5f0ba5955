-- `translator::table::put_heads` meets its contract.
use Rattle.translator.proofs.Tabling.{table_ways}
use Rattle.translator.proofs.table.put_heads.Goals as goal

pub loop-k-preserved : goal.loop-k-preserved
loop-k-preserved c = search table_ways

pub returns : goal.returns
returns c = search table_ways

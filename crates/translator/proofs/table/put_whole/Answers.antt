-- `translator::table::put_whole` meets its contract.
use Rattle.translator.proofs.Tabling.{table_ways}
use Rattle.translator.proofs.table.put_whole.Goals as goal

pub returns : goal.returns
returns c = search table_ways

-- `translator::table::put_trailer` meets its contract.
use Rattle.translator.proofs.Tabling.{table_ways}
use Rattle.translator.proofs.table.put_trailer.Goals as goal

pub returns : goal.returns
returns c = search table_ways

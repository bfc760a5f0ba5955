-- `mender::search::try_procedures` meets its contract.
use Rattle.std.proofs.Common.{rules}
use Rattle.mender.proofs.Searching.{procedures_ways}
use Rattle.mender.proofs.search.try_procedures.Goals as goal

pub loop-threads-preserved : goal.loop-threads-preserved
loop-threads-preserved c = search procedures_ways

pub returns-else-rest-ne0-2 : goal.returns-else-rest-ne0-2
returns-else-rest-ne0-2 c = search (rules, procedures_ways)

-- `mender::search::find` meets its contract.
use Rattle.mender.proofs.Searching.{find_ways}
use Rattle.mender.proofs.search.find.Goals as goal

pub returns-in_default : goal.returns-in_default
returns-in_default c = search find_ways

pub loop-procedure-preserved : goal.loop-procedure-preserved
loop-procedure-preserved c = search find_ways

pub returns : goal.returns
returns c = search find_ways

-- `mender::search::try_counts` meets its contract.
use Rattle.mender.proofs.Searching.{counts_ways}
use Rattle.mender.proofs.search.try_counts.Goals as goal

pub returns-then-accepted : goal.returns-then-accepted
returns-then-accepted c = search counts_ways

pub returns : goal.returns
returns c = search counts_ways

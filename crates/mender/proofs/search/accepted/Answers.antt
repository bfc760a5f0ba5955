-- `mender::search::accepted` meets its contract.
use Rattle.mender.proofs.Searching.{accepted_checked}
use Rattle.mender.proofs.search.accepted.Goals as goal

pub returns : goal.returns
returns c = accepted_checked c.check.result c.check.ensures c.is_ok.ensures.value

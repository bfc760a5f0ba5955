-- `mender::mend_by` meets its contract.
use Rattle.mender.proofs.Answering.{answer_ways}
use Rattle.mender.proofs.mend_by.Goals as goal

pub returns-then-list-length : goal.returns-then-list-length
returns-then-list-length c = search answer_ways

pub returns : goal.returns
returns c = search answer_ways

-- `mender::mend_found` meets its contract.
use Rattle.mender.proofs.Answering.{answer_ways}
use Rattle.mender.proofs.mend_found.Goals as goal

pub returns-in-None : goal.returns-in-None
returns-in-None c = search answer_ways

pub returns-in-One : goal.returns-in-One
returns-in-One c = search answer_ways

pub returns-in-Several : goal.returns-in-Several
returns-in-Several c = search answer_ways

-- `translator::write_copy` meets its contract.
use Rattle.translator.proofs.Answering.{answer_ways}
use Rattle.translator.proofs.write_copy.Goals as goal

pub returns-then-length-gt-LONGEST : goal.returns-then-length-gt-LONGEST
returns-then-length-gt-LONGEST c = search answer_ways

pub returns-then-out-length : goal.returns-then-out-length
returns-then-out-length c = search answer_ways

pub returns : goal.returns
returns c = search answer_ways

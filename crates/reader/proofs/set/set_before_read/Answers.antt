-- `reader::set::set_before_read` meets its contract.
use Rattle.reader.specs.Laws.SetScans.{proc_ways}
use Rattle.reader.proofs.set.set_before_read.Goals as goal

pub returns-then-not-body_set : goal.returns-then-not-body_set
returns-then-not-body_set c = search proc_ways

pub returns : goal.returns
returns c = search proc_ways

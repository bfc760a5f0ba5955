-- `reader::set::body_set` meets its contract.
use Rattle.reader.specs.Laws.SetScans.{proc_ways}
use Rattle.reader.proofs.set.body_set.Goals as goal

pub returns : goal.returns
returns c = search proc_ways

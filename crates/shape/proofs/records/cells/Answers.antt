-- `shape::records::cells` meets its contract.
use Rattle.shape.proofs.Rule3.{cells_ways}
use Rattle.shape.proofs.records.cells.Goals as goal

pub loop-i-preserved : goal.loop-i-preserved
loop-i-preserved c = search cells_ways

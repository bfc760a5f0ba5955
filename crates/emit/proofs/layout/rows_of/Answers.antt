-- `emit::layout::rows_of` meets its contract.
use Rattle.emit.proofs.Placing.{place_ways}
use Rattle.emit.proofs.layout.rows_of.Goals as goal

pub returns : goal.returns
returns c = search place_ways

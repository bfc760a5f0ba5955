-- `emit::layout::main_of` meets its contract.
use Rattle.emit.proofs.Placing.{place_ways}
use Rattle.emit.proofs.layout.main_of.Goals as goal

pub returns-then-from-k : goal.returns-then-from-k
returns-then-from-k c = search place_ways

pub returns : goal.returns
returns c = search place_ways

-- `emit::layout::locals_of` meets its contract.
use Rattle.emit.proofs.Placing.{place_ways}
use Rattle.emit.proofs.layout.locals_of.Goals as goal

pub returns-then-from-m : goal.returns-then-from-m
returns-then-from-m c = search place_ways

pub returns : goal.returns
returns c = search place_ways

-- `emit::layout::site_of` meets its contract.
use Rattle.emit.proofs.Placing.{place_ways}
use Rattle.emit.proofs.layout.site_of.Goals as goal

pub returns-then-m-ge-PROCEDURES : goal.returns-then-m-ge-PROCEDURES
returns-then-m-ge-PROCEDURES c = search place_ways

pub returns : goal.returns
returns c = search place_ways

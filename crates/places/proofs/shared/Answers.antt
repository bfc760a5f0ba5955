-- `places::shared` meets its contract.
use Rattle.places.specs.Laws.Raising.{raise_ways}
use Rattle.places.proofs.shared.Goals as goal

pub loop-init : goal.loop-init
loop-init c = search raise_ways

pub loop-preserved : goal.loop-preserved
loop-preserved c = search raise_ways

pub returns : goal.returns
returns c = search raise_ways

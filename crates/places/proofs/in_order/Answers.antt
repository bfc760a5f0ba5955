-- `places::in_order` meets its contract.
use Rattle.places.specs.Laws.Raising.{raise_ways}
use Rattle.places.proofs.in_order.Goals as goal

pub loop-m-init : goal.loop-m-init
loop-m-init c = search raise_ways

pub loop-m-preserved : goal.loop-m-preserved
loop-m-preserved c = search raise_ways

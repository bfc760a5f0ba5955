-- `places::raise_callees` meets its contract.
use Rattle.places.specs.Laws.Raising.{raise_ways}
use Rattle.places.proofs.raise_callees.Goals as goal

pub loop-m-preserved : goal.loop-m-preserved
loop-m-preserved c = search raise_ways

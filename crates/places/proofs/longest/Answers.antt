-- `places::longest` meets its contract.
use Rattle.places.specs.Laws.Raising.{raise_ways}
use Rattle.places.proofs.longest.Goals as goal

pub loop-m-preserved : goal.loop-m-preserved
loop-m-preserved c = search raise_ways

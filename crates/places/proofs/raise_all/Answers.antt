-- `places::raise_all` meets its contract.
use Rattle.places.specs.Laws.Raising.{raise_ways}
use Rattle.places.proofs.raise_all.Goals as goal

pub loop-q-preserved : goal.loop-q-preserved
loop-q-preserved c = search raise_ways

pub returns : goal.returns
returns c = search raise_ways

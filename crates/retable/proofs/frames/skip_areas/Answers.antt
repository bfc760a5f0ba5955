-- `retable::frames::skip_areas` meets its contract.
use Rattle.retable.proofs.Framing.{areas_ways}
use Rattle.retable.proofs.frames.skip_areas.Goals as goal

pub loop-init : goal.loop-init
loop-init c = search areas_ways

pub loop-preserved : goal.loop-preserved
loop-preserved c = search areas_ways

pub returns : goal.returns
returns c = search areas_ways

-- `retable::frames::parse_sizes` meets its contract.
use Rattle.retable.proofs.Framing.{sizes_ways}
use Rattle.retable.proofs.frames.parse_sizes.Goals as goal

pub returns-then-peek-ne122 : goal.returns-then-peek-ne122
returns-then-peek-ne122 c = search sizes_ways

pub loop-count-preserved : goal.loop-count-preserved
loop-count-preserved c = search sizes_ways

pub returns : goal.returns
returns c = search sizes_ways

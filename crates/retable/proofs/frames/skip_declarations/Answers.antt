-- `retable::frames::skip_declarations` meets its contract.
use Rattle.retable.proofs.Heading.{declared_ways}
use Rattle.retable.proofs.frames.skip_declarations.Goals as goal

pub returns-then-peek-ne118 : goal.returns-then-peek-ne118
returns-then-peek-ne118 c = search declared_ways

pub loop-count-preserved : goal.loop-count-preserved
loop-count-preserved c = search declared_ways

pub returns : goal.returns
returns c = search declared_ways

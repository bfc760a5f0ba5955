-- `retable::frames::skip_args` meets its contract.
use Rattle.retable.proofs.Heading.{lines_ways}
use Rattle.retable.proofs.frames.skip_args.Goals as goal

pub loop-init : goal.loop-init
loop-init c = search lines_ways

pub loop-preserved : goal.loop-preserved
loop-preserved c = search lines_ways

pub returns : goal.returns
returns c = search lines_ways

-- `retable::frames::more_params` meets its contract.
use Rattle.std.proofs.Common.{◌≤◌, arith}
use Rattle.retable.proofs.Heading.{params_ways}
use Rattle.retable.proofs.frames.more_params.Goals as goal

pub returns-then-peek-ne44 : goal.returns-then-peek-ne44
returns-then-peek-ne44 c = search params_ways

pub loop-count-preserved : goal.loop-count-preserved
loop-count-preserved c = search params_ways

pub returns : goal.returns
returns c = let most : c.loop-count.count ≤ 255 = c.loop-count.auto.count-end (omega arith) in search params_ways

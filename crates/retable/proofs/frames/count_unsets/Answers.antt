-- `retable::frames::count_unsets` meets its contract.
use Rattle.std.proofs.Common.{◌≤◌, arith}
use Rattle.retable.proofs.Heading.{unsets_ways}
use Rattle.retable.proofs.frames.count_unsets.Goals as goal

pub returns-then-body_begins : goal.returns-then-body_begins
returns-then-body_begins c = search unsets_ways

pub loop-count-preserved : goal.loop-count-preserved
loop-count-preserved c = search unsets_ways

pub returns : goal.returns
returns c = let most : c.loop-count.count ≤ 255 = c.loop-count.auto.count-end (omega arith) in search unsets_ways

-- `retable::statements::parse_more` meets its contract.
use Rattle.std.proofs.Common.{◌≤◌, arith}
use Rattle.retable.proofs.Arguing.{more_ways}
use Rattle.retable.proofs.statements.parse_more.Goals as goal

pub returns-then-peek-ne44 : goal.returns-then-peek-ne44
returns-then-peek-ne44 c = search more_ways

pub loop-count-preserved : goal.loop-count-preserved
loop-count-preserved c = search more_ways

pub returns : goal.returns
returns c = let most : c.loop-count.count ≤ 255 = c.loop-count.auto.count-end (omega arith) in search more_ways

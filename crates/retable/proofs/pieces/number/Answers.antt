-- `retable::pieces::number` meets its contract.
use Rattle.retable.proofs.Places.{place_ways}
use Rattle.retable.proofs.pieces.number.Goals as goal

pub returns-then-b-lt48 : goal.returns-then-b-lt48
returns-then-b-lt48 c = search place_ways

pub returns-then-b-gt57 : goal.returns-then-b-gt57
returns-then-b-gt57 c = search place_ways

pub returns-then-n-gt999999999 : goal.returns-then-n-gt999999999
returns-then-n-gt999999999 c = search place_ways

pub loop-i-preserved : goal.loop-i-preserved
loop-i-preserved c = search place_ways

pub returns : goal.returns
returns c = search place_ways

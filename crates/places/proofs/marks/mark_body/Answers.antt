-- `places::marks::mark_body` meets its contract.
use Rattle.places.specs.Laws.Marking.{mark_ways}
use Rattle.places.proofs.marks.mark_body.Goals as goal

pub loop-i-smaller : goal.loop-i-smaller
loop-i-smaller c = search mark_ways

pub loop-i-preserved : goal.loop-i-preserved
loop-i-preserved c = search mark_ways

pub returns : goal.returns
returns c = search mark_ways

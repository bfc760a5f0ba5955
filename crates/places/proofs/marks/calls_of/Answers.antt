-- `places::marks::calls_of` meets its contract.
use Rattle.places.specs.Laws.Marking.{marks_start, mark_ways}
use Rattle.places.proofs.marks.calls_of.Goals as goal

pub loop-q-preserved : goal.loop-q-preserved
loop-q-preserved c = search mark_ways

pub loop-q-init : goal.loop-q-init
loop-q-init c = marks_start

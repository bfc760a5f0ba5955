-- `reader::set::known_exprs` meets its contract.
use Rattle.reader.specs.Laws.KnownScans.{known_ways}
use Rattle.reader.proofs.set.known_exprs.Goals as goal

pub returns-then-t-i : goal.returns-then-t-i
returns-then-t-i c = search known_ways

pub returns-then-operands-eq-NO_MARK : goal.returns-then-operands-eq-NO_MARK
returns-then-operands-eq-NO_MARK c = search known_ways

pub returns-then-not-leaf_known : goal.returns-then-not-leaf_known
returns-then-not-leaf_known c = search known_ways

pub loop-left-preserved : goal.loop-left-preserved
loop-left-preserved c = search known_ways

-- `jumps::onward` meets its contract.
use Rattle.std.proofs.Common.{rules}
use Rattle.jumps.proofs.Jumping.{onward_ways}
use Rattle.jumps.proofs.ways.onward.Goals as goal

pub returns-then-t-at-eq-END : goal.returns-then-t-at-eq-END
returns-then-t-at-eq-END c = search (onward_ways, rules)

pub returns-else-t-at-eq-END : goal.returns-else-t-at-eq-END
returns-else-t-at-eq-END c = search (onward_ways, rules)

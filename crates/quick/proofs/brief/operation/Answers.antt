-- `quick::brief::operation` meets its contract.
use Rattle.std.proofs.Common.{rules}
use Rattle.quick.proofs.Wording.{brief_ways}
use Rattle.quick.proofs.brief.operation.Goals as goal

pub bounds-t-at-2 : goal.bounds-t-at-2
bounds-t-at-2 c = search (brief_ways, rules)

pub bounds-t-at-then-t-at-eq-LOCAL : goal.bounds-t-at-then-t-at-eq-LOCAL
bounds-t-at-then-t-at-eq-LOCAL c = search (brief_ways, rules)

pub local-requires : goal.local-requires
local-requires c = search (brief_ways, rules)

pub number-requires : goal.number-requires
number-requires c = search (brief_ways, rules)

pub returns-then-t-at-eq-NUMBER : goal.returns-then-t-at-eq-NUMBER
returns-then-t-at-eq-NUMBER c = search (brief_ways, rules)

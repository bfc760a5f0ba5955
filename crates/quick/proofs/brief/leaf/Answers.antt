-- `quick::brief::leaf` meets its contract.
use Rattle.std.proofs.Common.{rules}
use Rattle.quick.proofs.Wording.{brief_ways}
use Rattle.quick.proofs.brief.leaf.Goals as goal

pub bounds-t-at : goal.bounds-t-at
bounds-t-at c = search (brief_ways, rules)

pub local-requires : goal.local-requires
local-requires c = search (brief_ways, rules)

pub number-requires : goal.number-requires
number-requires c = search (brief_ways, rules)

pub location-requires : goal.location-requires
location-requires c = search (brief_ways, rules)

pub returns-in-5 : goal.returns-in-5
returns-in-5 c = search (brief_ways, rules)

pub returns-in-1 : goal.returns-in-1
returns-in-1 c = search (brief_ways, rules)

pub returns-in-2 : goal.returns-in-2
returns-in-2 c = search (brief_ways, rules)

pub returns-in-3 : goal.returns-in-3
returns-in-3 c = search (brief_ways, rules)

pub returns-in-4 : goal.returns-in-4
returns-in-4 c = search (brief_ways, rules)

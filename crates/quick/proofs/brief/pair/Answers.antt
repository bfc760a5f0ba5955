-- `quick::brief::pair` meets its contract.
use Rattle.std.proofs.Common.{rules}
use Rattle.quick.proofs.Wording.{brief_ways}
use Rattle.quick.proofs.brief.pair.Goals as goal

pub short-a-requires : goal.short-a-requires
short-a-requires c = search (brief_ways, rules)

pub short-b-requires : goal.short-b-requires
short-b-requires c = search (brief_ways, rules)

pub returns : goal.returns
returns c = search (brief_ways, rules)

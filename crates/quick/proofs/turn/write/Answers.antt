-- `quick::turn::write` meets its contract.
use Rattle.std.proofs.Common.{rules}
use Rattle.quick.proofs.Turning.{part_ways}
use Rattle.quick.proofs.turn.write.Goals as goal

pub local-offset-requires : goal.local-offset-requires
local-offset-requires c = search (part_ways, rules)

pub returns : goal.returns
returns c = search (part_ways, rules)

-- `quick::turn::assign` meets its contract.
use Rattle.std.proofs.Common.{rules}
use Rattle.quick.proofs.Turning.{part_ways}
use Rattle.quick.proofs.turn.assign.Goals as goal

pub returns : goal.returns
returns c = search (part_ways, rules)

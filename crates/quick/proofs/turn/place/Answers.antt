-- `quick::turn::place` meets its contract.
use Rattle.std.proofs.Common.{rules}
use Rattle.quick.proofs.Turning.{part_ways}
use Rattle.quick.proofs.turn.place.Goals as goal

pub returns-then-cell-start : goal.returns-then-cell-start
returns-then-cell-start c = search (part_ways, rules)

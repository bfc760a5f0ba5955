-- `quick::turn::read` meets its contract.
use Rattle.std.proofs.Common.{rules}
use Rattle.quick.proofs.Turning.{part_ways}
use Rattle.quick.proofs.turn.read.Goals as goal

pub offset_bounds-cells-cell : goal.offset_bounds-cells-cell
offset_bounds-cells-cell c = search (part_ways, rules)

pub bounds-cells-cell : goal.bounds-cells-cell
bounds-cells-cell c = search (part_ways, rules)

pub returns : goal.returns
returns c = search (part_ways, rules)

-- `engine::memory::find` meets its contract.
use Rattle.std.proofs.Common.{rules}
use Rattle.engine.proofs.Placing.{find_ways}
use Rattle.engine.proofs.memory.find.Goals as goal

pub returns-then-location-ge-LOCATIONS : goal.returns-then-location-ge-LOCATIONS
returns-then-location-ge-LOCATIONS c = search (find_ways, rules)

pub returns-then-cell-wide : goal.returns-then-cell-wide
returns-then-cell-wide c = search (find_ways, rules)

pub returns : goal.returns
returns c = search (find_ways, rules)

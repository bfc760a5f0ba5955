-- `quick::turn::decide` meets its contract.
use Rattle.std.proofs.Common.{rules}
use Rattle.quick.proofs.Deciding.{turning_ways}
use Rattle.quick.proofs.turn.decide.Goals as goal

pub bounds-t-at-in-32 : goal.bounds-t-at-in-32
bounds-t-at-in-32 c = search (turning_ways, rules)

pub returns-then-t-at-lt-LEAVES : goal.returns-then-t-at-lt-LEAVES
returns-then-t-at-lt-LEAVES c = search (turning_ways, rules)

pub bounds-t-at-in-33 : goal.bounds-t-at-in-33
bounds-t-at-in-33 c = search (turning_ways, rules)

pub expression-e-requires : goal.expression-e-requires
expression-e-requires c = search (turning_ways, rules)

pub write-requires : goal.write-requires
write-requires c = search (turning_ways, rules)

pub bounds-t-at-in-34 : goal.bounds-t-at-in-34
bounds-t-at-in-34 c = search (turning_ways, rules)

pub local-o-requires : goal.local-o-requires
local-o-requires c = search (turning_ways, rules)

pub read-requires : goal.read-requires
read-requires c = search (turning_ways, rules)

pub number-requires : goal.number-requires
number-requires c = search (turning_ways, rules)

pub read-requires-in-1 : goal.read-requires-in-1
read-requires-in-1 c = search (turning_ways, rules)

pub probe-requires : goal.probe-requires
probe-requires c = search (turning_ways, rules)

pub returns-else-t-at-lt-LEAVES : goal.returns-else-t-at-lt-LEAVES
returns-else-t-at-lt-LEAVES c = search (turning_ways, rules)

pub returns-else-t-at-ne-LOCAL : goal.returns-else-t-at-ne-LOCAL
returns-else-t-at-ne-LOCAL c = search (turning_ways, rules)

pub returns-in-5 : goal.returns-in-5
returns-in-5 c = search (turning_ways, rules)

pub returns-in-1 : goal.returns-in-1
returns-in-1 c = search (turning_ways, rules)

pub returns-in-37 : goal.returns-in-37
returns-in-37 c = search (turning_ways, rules)

pub returns-in_default : goal.returns-in_default
returns-in_default c = search (turning_ways, rules)

-- `sequential::carry_out` meets its contract: one law for each step.
use Rattle.std.proofs.Common.{rules}
use Rattle.sequential.proofs.CarryingOut.{carry_ways}
use Rattle.sequential.proofs.machine.carry_out.Goals as goal

pub put-requires : goal.put-requires
put-requires c = search (carry_ways, rules)

pub settle-to-requires : goal.settle-to-requires
settle-to-requires c = search (carry_ways, rules)

pub put-requires-in-Read : goal.put-requires-in-Read
put-requires-in-Read c = search (carry_ways, rules)

pub settle-requires : goal.settle-requires
settle-requires c = search (carry_ways, rules)

pub put-requires-in-Write : goal.put-requires-in-Write
put-requires-in-Write c = search (carry_ways, rules)

pub settle-requires-in-Write : goal.settle-requires-in-Write
settle-requires-in-Write c = search (carry_ways, rules)

pub branch-to-requires : goal.branch-to-requires
branch-to-requires c = search (carry_ways, rules)

pub settle-to-requires-in-Call : goal.settle-to-requires-in-Call
settle-to-requires-in-Call c = search (carry_ways, rules)

pub enter-start-requires : goal.enter-start-requires
enter-start-requires c = search (carry_ways, rules)

pub put-requires-in-Select : goal.put-requires-in-Select
put-requires-in-Select c = search (carry_ways, rules)

pub settle-requires-in-Select : goal.settle-requires-in-Select
settle-requires-in-Select c = search (carry_ways, rules)

pub selected-requires : goal.selected-requires
selected-requires c = search (carry_ways, rules)

pub returns-in-Return : goal.returns-in-Return
returns-in-Return c = search (carry_ways, rules)

pub returns-in-Assign : goal.returns-in-Assign
returns-in-Assign c = search (carry_ways, rules)

pub returns-in-Read : goal.returns-in-Read
returns-in-Read c = search (carry_ways, rules)

pub returns-in-Write : goal.returns-in-Write
returns-in-Write c = search (carry_ways, rules)

pub returns-in-Test : goal.returns-in-Test
returns-in-Test c = search (carry_ways, rules)

pub returns-in-Call : goal.returns-in-Call
returns-in-Call c = search (carry_ways, rules)

pub returns-in-Select : goal.returns-in-Select
returns-in-Select c = search (carry_ways, rules)

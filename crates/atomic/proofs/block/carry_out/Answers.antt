-- `atomic::block::carry_out` meets its contract.
use Rattle.atomic.proofs.Carrying.{carries_other, carry_ways}
use Rattle.atomic.proofs.block.carry_out.Goals as goal

pub put-requires-in-Write : goal.put-requires-in-Write
put-requires-in-Write c = search carry_ways

pub returns-in-Assign : goal.returns-in-Assign
returns-in-Assign c = search carry_ways

pub returns-in-Read : goal.returns-in-Read
returns-in-Read c = search carry_ways

pub returns-in-Write : goal.returns-in-Write
returns-in-Write c = search carry_ways

pub returns-in-Blocked : goal.returns-in-Blocked
returns-in-Blocked c = search carry_ways

pub returns-in_default : goal.returns-in_default
returns-in_default c = carries_other c.in_default.not-Assign c.in_default.not-Read c.in_default.not-Write c.in_default.not-Blocked

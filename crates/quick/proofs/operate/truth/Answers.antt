-- `quick::operate::truth` meets its contract.
use Rattle.std.proofs.Common.{rules}
use Rattle.quick.proofs.Operating.{operate_ways}
use Rattle.quick.proofs.operate.truth.Goals as goal

pub returns-then-b : goal.returns-then-b
returns-then-b c = search (operate_ways, rules)

pub returns-else-b : goal.returns-else-b
returns-else-b c = search (operate_ways, rules)

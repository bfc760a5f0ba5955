-- `quick::operate::is_truth` meets its contract.
use Rattle.std.proofs.Common.{rules}
use Rattle.quick.proofs.Operating.{operate_ways}
use Rattle.quick.proofs.operate.is_truth.Goals as goal

pub returns-then-w-eq-FALSE : goal.returns-then-w-eq-FALSE
returns-then-w-eq-FALSE c = search (operate_ways, rules)

pub returns : goal.returns
returns c = search (operate_ways, rules)

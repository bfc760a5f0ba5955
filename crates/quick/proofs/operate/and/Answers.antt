-- `quick::operate::and` meets its contract.
use Rattle.std.proofs.Common.{rules}
use Rattle.quick.proofs.Operating.{operate_ways}
use Rattle.quick.proofs.operate.and.Goals as goal

pub returns-then-left-eq-FALSE : goal.returns-then-left-eq-FALSE
returns-then-left-eq-FALSE c = search (operate_ways, rules)

pub returns-then-left-eq-TRUE : goal.returns-then-left-eq-TRUE
returns-then-left-eq-TRUE c = search (operate_ways, rules)

-- `quick::operate::equal` meets its contract.
use Rattle.std.proofs.Common.{rules}
use Rattle.quick.proofs.Operating.{operate_ways}
use Rattle.quick.proofs.operate.equal.Goals as goal

pub returns : goal.returns
returns c = search (operate_ways, rules)

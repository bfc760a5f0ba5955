-- `quick::operate::wholes` meets its contract.
use Rattle.std.proofs.Common.{rules}
use Rattle.quick.proofs.Operating.{operate_ways}
use Rattle.quick.proofs.operate.wholes.Goals as goal

pub returns-in-18 : goal.returns-in-18
returns-in-18 c = search (operate_ways, rules)

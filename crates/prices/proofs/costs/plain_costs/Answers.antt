-- `costs::plain_costs` meets its contract.
use Rattle.prices.proofs.Costing.{plain_ways}
use Rattle.prices.proofs.costs.plain_costs.Goals as goal

pub returns-in-32 : goal.returns-in-32
returns-in-32 c = search plain_ways

pub returns-in-33 : goal.returns-in-33
returns-in-33 c = search plain_ways

pub returns-in_default : goal.returns-in_default
returns-in_default c = search plain_ways

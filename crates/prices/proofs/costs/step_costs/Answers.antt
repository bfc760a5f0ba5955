-- `costs::step_costs` meets its contract.
use Rattle.std.proofs.Common.{arith}
use Rattle.prices.proofs.Stepping.{step_test, step_plain, step_ways}
use Rattle.prices.proofs.costs.step_costs.Goals as goal
use Rattle.prices.proofs.costs.step_costs.Goals.{in_default-via-then-this-lt35, in_default-via-else-this-lt35+else-this-lt37}

pub inside_costs-requires : goal.inside_costs-requires
inside_costs-requires c = search step_ways

pub returns-in-37 : goal.returns-in-37
returns-in-37 c = search step_ways

pub returns-in-38 : goal.returns-in-38
returns-in-38 c = search step_ways

pub returns-in-36 : goal.returns-in-36
returns-in-36 c = step_test (omega arith) c.gather.ensures c.count.ensures c.exactly-in-36.ensures

pub returns-in_default : goal.returns-in_default
returns-in_default c = elim c.in_default.branch [
  | in_default-via-then-this-lt35 w ↦ step_plain (λ z. omega arith) (λ z. omega arith) (λ z. omega arith) (λ z. omega arith) (λ z. omega arith) c.plain_costs.ensures c.exactly-in_default.ensures
  | in_default-via-else-this-lt35+else-this-lt37 w ↦ step_plain (λ z. omega arith) (λ z. omega arith) (λ z. omega arith) (λ z. omega arith) (λ z. omega arith) c.plain_costs.ensures c.exactly-in_default.ensures
]

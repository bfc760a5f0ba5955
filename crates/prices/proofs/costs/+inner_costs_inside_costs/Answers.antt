-- `costs::inner_costs` meets its contract.
use Rattle.std.proofs.Common.{rules}
use Rattle.prices.proofs.Costing.{inside_ways}
use Rattle.prices.proofs.costs.+inner_costs_inside_costs.Goals as goal

pub inner_costs-inside_costs-yes-requires : goal.inner_costs-inside_costs-yes-requires
inner_costs-inside_costs-yes-requires t c = (search rules, search inside_ways)

pub inner_costs-inside_costs-no-requires : goal.inner_costs-inside_costs-no-requires
inner_costs-inside_costs-no-requires t c = (search rules, search inside_ways)

pub inner_costs-returns-then-t-at-eq-IF : goal.inner_costs-returns-then-t-at-eq-IF
inner_costs-returns-then-t-at-eq-IF t c = search inside_ways

pub inner_costs-returns : goal.inner_costs-returns
inner_costs-returns t c = search inside_ways

pub inside_costs-inner_costs-one-requires : goal.inside_costs-inner_costs-one-requires
inside_costs-inner_costs-one-requires t c = (search rules, search inside_ways)

pub inside_costs-loop-i-preserved : goal.inside_costs-loop-i-preserved
inside_costs-loop-i-preserved t c = search inside_ways

pub inside_costs-returns : goal.inside_costs-returns
inside_costs-returns t c = search inside_ways

-- The cycle of the walks over an atomic block meets its contracts.
use Rattle.std.proofs.Common.{length, ◌+◌, ◌-◌}
use Rattle.prices.specs.Costs.{Walking}
use Rattle.prices.proofs.costs.+inner_costs_inside_costs.Given as goal

abbrev pub decreases-inner_costs : goal.decreases-inner_costs
decreases-inner_costs l = l.depth + l.depth + 1

abbrev pub decreases-inside_costs : goal.decreases-inside_costs
decreases-inside_costs l = l.depth + l.depth

abbrev pub invariant-inside_costs-loop-i : goal.invariant-inside_costs-loop-i
invariant-inside_costs-loop-i l = Walking l.t l.at l.depth l.i l.least l.most

abbrev pub decreases-inside_costs-loop-i : goal.decreases-inside_costs-loop-i
decreases-inside_costs-loop-i l = length l.t - l.i

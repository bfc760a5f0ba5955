-- `variables::gather_each` meets its contract.
use Rattle.labels.specs.Walks.{Gathering}
use Rattle.labels.proofs.variables.gather_each.Given as goal

abbrev pub invariant-loop : goal.invariant-loop
invariant-loop l = Gathering l.code l.at l.count l.set l.i l.counter

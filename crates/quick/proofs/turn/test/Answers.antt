-- `quick::turn::test` meets its contract.
use Rattle.std.proofs.Common.{rules}
use Rattle.quick.proofs.Turning.{part_ways}
use Rattle.quick.proofs.turn.test.Goals as goal

pub returns-then-e-eq-TRUE : goal.returns-then-e-eq-TRUE
returns-then-e-eq-TRUE c = search (part_ways, rules)

pub returns-then-e-eq-FALSE : goal.returns-then-e-eq-FALSE
returns-then-e-eq-FALSE c = search (part_ways, rules)

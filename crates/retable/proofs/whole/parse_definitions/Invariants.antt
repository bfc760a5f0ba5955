-- `retable::whole::parse_definitions` meets its contract.
use Rattle.std.proofs.Common.{◌-◌}
use Rattle.retable.proofs.Assembling.{DefinedFrom}
use Rattle.retable.proofs.whole.parse_definitions.Given as goal

abbrev pub invariant-loop : goal.invariant-loop
invariant-loop l = DefinedFrom l.x l.at l.count l.initial.out 0 l.initial.records 0 l.next (l.count - l.counter) l.out l.to l.records l.row

-- `retable::frames::skip_areas` meets its contract.
use Rattle.std.proofs.Common.{◌-◌}
use Rattle.retable.proofs.Framing.{AreasFrom}
use Rattle.retable.proofs.frames.skip_areas.Given as goal

abbrev pub invariant-loop : goal.invariant-loop
invariant-loop l = AreasFrom l.x l.at l.count l.next (l.count - l.counter)

-- `scan::names::tokens_named` meets its contract.
use Rattle.std.proofs.Common.{◌-◌}
use Rattle.scan.specs.Laws.NameScans.{To}
use Rattle.scan.proofs.names.tokens_named.Given as goal

abbrev pub invariant-loop-i : goal.invariant-loop-i
invariant-loop-i l = To l.bodies.table.now l.bodies.procedures l.locations l.bodies.records l.locals l.at l.end l.i

abbrev pub decreases-loop-i : goal.decreases-loop-i
decreases-loop-i l = l.end - l.i

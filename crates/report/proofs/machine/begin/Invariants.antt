-- `report::machine::begin` meets its contract: the threads before `i` have begun.
use Rattle.std.proofs.Common.{◌≤◌}
use Rattle.report.specs.Running.{Begins}
use Rattle.report.proofs.machine.begin.Given as goal

abbrev pub invariant-loop-i : goal.invariant-loop-i
invariant-loop-i l = Begins l.t l.at l.records l.i l.depths l.heights l.rows × (l.i ≤ l.threads)

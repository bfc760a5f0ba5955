-- `report::machine::go` meets its contract: what is left of the run, from the present state, is the run from the start.
use Rattle.report.proofs.Going.{Going}
use Rattle.report.proofs.machine.go.Given as goal

abbrev pub invariant-loop-taken : goal.invariant-loop-taken
invariant-loop-taken l = Going l.t l.records l.threads l.schedule l.starts l.initial.depths l.initial.heights l.initial.rows l.initial.words l.initial.cells l.initial.events l.depths l.heights l.rows l.ends l.words l.cells l.events l.taken l.count

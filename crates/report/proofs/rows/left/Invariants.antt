-- `report::rows::left` meets its contract: the rows from `n` on are used up.
use Rattle.report.proofs.Rowing.{Leaving}
use Rattle.report.proofs.rows.left.Given as goal

abbrev pub invariant-loop-n : goal.invariant-loop-n
invariant-loop-n l = Leaving l.t l.rows l.low l.height l.n

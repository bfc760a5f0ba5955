-- `shape::records::cells` meets its contract.
use Rattle.shape.proofs.Rule3.{CellsFrom}
use Rattle.shape.proofs.records.cells.Given as goal

abbrev pub invariant-loop-i : goal.invariant-loop-i
invariant-loop-i l = CellsFrom l.body l.at l.count l.total l.i

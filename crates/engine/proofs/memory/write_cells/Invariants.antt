-- `engine::memory::write_cells` meets its contract.
use Rattle.engine.specs.Laws.Writing.{Writing}
use Rattle.engine.proofs.memory.write_cells.Given as goal

abbrev pub invariant-loop-i : goal.invariant-loop-i
invariant-loop-i l = Writing l.cells l.count l.initial.out l.out l.i

-- `engine::memory::write_cells` meets its contract.
use Rattle.engine.specs.Laws.Writing.{writing_ways}
use Rattle.engine.proofs.memory.write_cells.Goals as goal

pub loop-i-preserved : goal.loop-i-preserved
loop-i-preserved c = search writing_ways

pub returns : goal.returns
returns c = search writing_ways

-- `engine::memory::set_starts` meets its contract.
use Rattle.std.proofs.Common.{◌≤◌}
use Rattle.engine.specs.Work.{start_words, sizes_at}
use Rattle.engine.specs.Laws.Starting.{Starting}
use Rattle.engine.proofs.memory.set_starts.Given as goal

abbrev pub invariant-loop-i : goal.invariant-loop-i
invariant-loop-i l = Starting (sizes_at l.t l.at l.count) l.starts l.i l.total × (l.i ≤ l.count)

abbrev pub invariant-loop-i-2 : goal.invariant-loop-i-2
invariant-loop-i-2 l = Starting (sizes_at l.t l.at l.count) l.starts l.i l.total × (l.count ≤ l.i) × (l.i ≤ start_words)

-- `frame::locations::put_lines` meets its contract.
use Rattle.frame.specs.Frames.{sized, SizesFrom}
use Rattle.frame.proofs.locations.put_lines.Given as goal

abbrev pub invariant-loop-k : goal.invariant-loop-k
invariant-loop-k l = SizesFrom (sized l.line) l.t l.from l.n l.initial.page l.k l.page

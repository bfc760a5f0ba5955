-- `frame::heads::put_lines` meets its contract.
use Rattle.std.proofs.Common.{◌-◌}
use Rattle.value.specs.Lists.{upto}
use Rattle.format.specs.Encode.{each}
use Rattle.typeset.specs.Page.{Onto}
use Rattle.frame.specs.Frames.{twice}
use Rattle.frame.proofs.heads.put_lines.Given as goal

abbrev pub invariant-loop-j : goal.invariant-loop-j
invariant-loop-j l = Onto l.initial.page (each (twice l.line) (upto l.from (l.n - l.from))) l.page (each (twice l.line) (upto l.j (l.n - l.j)))

-- `frame::heads::put_others` meets its contract.
use Rattle.std.proofs.Common.{◌-◌}
use Rattle.value.specs.Lists.{upto}
use Rattle.format.specs.Encode.{each}
use Rattle.ctext.proofs.Laws.FrameText.{another}
use Rattle.typeset.specs.Page.{Onto}
use Rattle.frame.proofs.heads.put_others.Given as goal

abbrev pub invariant-loop-j : goal.invariant-loop-j
invariant-loop-j l = Onto l.initial.page (each another (upto 1 (l.n - 1))) l.page (each another (upto l.j (l.n - l.j)))

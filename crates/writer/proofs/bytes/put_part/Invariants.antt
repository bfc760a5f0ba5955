-- `writer::bytes::put_part` meets its contract.
use Rattle.std.proofs.Math.Seq.{slice}
use Rattle.writer.specs.Laws.Put.{Onto}
use Rattle.writer.proofs.bytes.put_part.Given as goal

abbrev pub invariant-loop-i : goal.invariant-loop-i
invariant-loop-i l = Onto l.initial.out l.at (slice l.from l.until l.t) l.out l.p (slice l.i l.until l.t)

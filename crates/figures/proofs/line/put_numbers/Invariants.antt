-- `figures::line::put_numbers` meets its contract: the numbers so far are written.
use Rattle.std.proofs.Common.{take}
use Rattle.std.specs.List.{flat_map}
use Rattle.writer.specs.Laws.Put.{Put}
use Rattle.agreement.specs.Line.{spaced}
use Rattle.figures.proofs.line.put_numbers.Given as goal

abbrev pub invariant-loop-n : goal.invariant-loop-n
invariant-loop-n l = Put l.initial.out l.initial.p (flat_map spaced (take l.n-index l.numbers)) l.out l.p

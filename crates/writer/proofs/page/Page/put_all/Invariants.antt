-- `writer::page::Page::put_all` meets its contract.
use Rattle.std.proofs.Common.{take}
use Rattle.writer.specs.Laws.Pages.{Puts}
use Rattle.writer.proofs.page.Page.put_all.Given as goal

abbrev pub invariant-loop-byte : goal.invariant-loop-byte
invariant-loop-byte l = Puts l.initial.self (take l.byte-index l.bytes) l.self

-- `writer::page::Page::put_all` meets its contract.
use Rattle.writer.proofs.Paging.{puts_next}
use Rattle.writer.proofs.page.Page.put_all.Goals as goal

pub loop-byte-preserved : goal.loop-byte-preserved
loop-byte-preserved c = search puts_next

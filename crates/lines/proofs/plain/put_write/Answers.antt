-- `lines::plain::put_write` meets its contract.
use Rattle.lines.proofs.Plainly.{plain_ways}
use Rattle.lines.proofs.plain.put_write.Goals as goal

pub returns : goal.returns
returns c = search plain_ways

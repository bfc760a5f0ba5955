-- `lines::plain::put_read` meets its contract.
use Rattle.lines.proofs.Plainly.{plain_ways}
use Rattle.lines.proofs.plain.put_read.Goals as goal

pub returns : goal.returns
returns c = search plain_ways

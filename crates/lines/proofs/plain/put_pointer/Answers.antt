-- `lines::plain::put_pointer` meets its contract.
use Rattle.lines.proofs.Plainly.{plain_ways}
use Rattle.lines.proofs.plain.put_pointer.Goals as goal

pub returns : goal.returns
returns c = search plain_ways

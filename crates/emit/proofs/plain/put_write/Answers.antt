-- `emit::plain::put_write` meets its contract.
use Rattle.emit.proofs.Plainly.{plain_ways}
use Rattle.emit.proofs.plain.put_write.Goals as goal

pub returns : goal.returns
returns c = search plain_ways

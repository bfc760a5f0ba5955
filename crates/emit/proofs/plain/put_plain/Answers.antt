-- `emit::plain::put_plain` meets its contract.
use Rattle.emit.proofs.Plainly.{plain_ways}
use Rattle.emit.proofs.plain.put_plain.Goals as goal

pub returns-in_default : goal.returns-in_default
returns-in_default c = search plain_ways

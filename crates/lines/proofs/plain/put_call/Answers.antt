-- `lines::plain::put_call` meets its contract.
use Rattle.lines.proofs.Plainly.{plain_ways}
use Rattle.lines.proofs.plain.put_call.Goals as goal

pub returns : goal.returns
returns c = search plain_ways

-- `lines::args::put_next` meets its contract.
use Rattle.lines.proofs.Plainly.{plain_ways}
use Rattle.lines.proofs.args.put_next.Goals as goal

pub returns : goal.returns
returns c = search plain_ways

-- `lines::args::put_args` meets its contract.
use Rattle.lines.proofs.Plainly.{plain_ways}
use Rattle.lines.proofs.args.put_args.Goals as goal

pub returns : goal.returns
returns c = search plain_ways

-- `lines::args::put_more` meets its contract.
use Rattle.lines.proofs.Plainly.{plain_ways}
use Rattle.lines.proofs.args.put_more.Goals as goal

pub loop-preserved : goal.loop-preserved
loop-preserved c = search plain_ways

pub returns : goal.returns
returns c = search plain_ways

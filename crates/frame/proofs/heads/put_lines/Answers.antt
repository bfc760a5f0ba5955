-- `frame::heads::put_lines` meets its contract.
use Rattle.frame.proofs.Heading.{head_ways}
use Rattle.frame.proofs.heads.put_lines.Goals as goal

pub loop-j-preserved : goal.loop-j-preserved
loop-j-preserved c = search head_ways

pub returns : goal.returns
returns c = search head_ways

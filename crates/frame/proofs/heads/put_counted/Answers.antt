-- `frame::heads::put_counted` meets its contract.
use Rattle.frame.proofs.Heading.{head_ways}
use Rattle.frame.proofs.heads.put_counted.Goals as goal

pub returns : goal.returns
returns c = search head_ways

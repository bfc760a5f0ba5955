-- `frame::heads::put_twice` meets its contract.
use Rattle.frame.proofs.Heading.{head_ways}
use Rattle.frame.proofs.heads.put_twice.Goals as goal

pub returns : goal.returns
returns c = search head_ways

-- `frame::heads::put_params` meets its contract.
use Rattle.frame.proofs.Heading.{head_ways}
use Rattle.frame.proofs.heads.put_params.Goals as goal

pub returns-then-n-eq0 : goal.returns-then-n-eq0
returns-then-n-eq0 c = search head_ways

pub returns : goal.returns
returns c = search head_ways

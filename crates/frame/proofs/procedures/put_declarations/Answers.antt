-- `frame::procedures::put_declarations` meets its contract.
use Rattle.frame.proofs.Defining.{define_ways}
use Rattle.frame.proofs.procedures.put_declarations.Goals as goal

pub loop-k-preserved : goal.loop-k-preserved
loop-k-preserved c = search define_ways

pub returns : goal.returns
returns c = search define_ways

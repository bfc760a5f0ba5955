-- `frame::procedures::put_declaration` meets its contract.
use Rattle.frame.proofs.Defining.{define_ways}
use Rattle.frame.proofs.procedures.put_declaration.Goals as goal

pub returns : goal.returns
returns c = search define_ways

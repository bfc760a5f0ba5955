-- `frame::procedures::put_definition` meets its contract.
use Rattle.frame.proofs.Defining.{define_ways}
use Rattle.frame.proofs.procedures.put_definition.Goals as goal

pub returns : goal.returns
returns c = search define_ways

-- `frame::locations::put_sized` meets its contract.
use Rattle.frame.proofs.Placing.{place_ways}
use Rattle.frame.proofs.locations.put_sized.Goals as goal

pub returns : goal.returns
returns c = search place_ways

-- `zeroth::procedure::put_initial` meets its contract.
use Rattle.zeroth.proofs.Rounding.{round_ways}
use Rattle.zeroth.proofs.procedure.put_initial.Goals as goal

pub returns : goal.returns
returns c = search round_ways

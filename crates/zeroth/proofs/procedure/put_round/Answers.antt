-- `zeroth::procedure::put_round` meets its contract.
use Rattle.zeroth.proofs.Rounding.{round_ways}
use Rattle.zeroth.proofs.procedure.put_round.Goals as goal

pub returns : goal.returns
returns c = search round_ways

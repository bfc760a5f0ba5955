-- `zeroth::procedure::put_judge` meets its contract.
use Rattle.zeroth.proofs.Rounding.{round_ways}
use Rattle.zeroth.proofs.procedure.put_judge.Goals as goal

pub returns : goal.returns
returns c = search round_ways

-- `zeroth::procedure::put_thread` meets its contract.
use Rattle.zeroth.proofs.Rounding.{round_ways}
use Rattle.zeroth.proofs.procedure.put_thread.Goals as goal

pub returns-in-Beginning : goal.returns-in-Beginning
returns-in-Beginning c = search round_ways

pub returns-in-From : goal.returns-in-From
returns-in-From c = search round_ways

-- `zeroth::procedure::put_threads` meets its contract.
use Rattle.zeroth.proofs.Rounding.{round_ways}
use Rattle.zeroth.proofs.procedure.put_threads.Goals as goal

pub loop-k-preserved : goal.loop-k-preserved
loop-k-preserved c = search round_ways

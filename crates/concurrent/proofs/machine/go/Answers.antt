-- `concurrent::go` meets its contract: what is left of the run, from the present state, is the run from the start.
use Rattle.concurrent.proofs.ConcurrentRun.{going_ways}
use Rattle.concurrent.proofs.machine.go.Goals as goal

pub loop-taken-init : goal.loop-taken-init
loop-taken-init c = search going_ways

pub returns-then-finished : goal.returns-then-finished
returns-then-finished c = search going_ways

pub step-requires : goal.step-requires
step-requires c = search going_ways

pub returns-in-Err : goal.returns-in-Err
returns-in-Err c = search going_ways

pub loop-taken-preserved : goal.loop-taken-preserved
loop-taken-preserved c = search going_ways

pub returns-then-finished-2 : goal.returns-then-finished-2
returns-then-finished-2 c = search going_ways

pub returns : goal.returns
returns c = search going_ways

-- `shape::bodies::right_bodies` meets its contract.
use Rattle.shape.proofs.Rule4.{bodies_ways}
use Rattle.shape.proofs.bodies.right_bodies.Goals as goal

pub returns-then-offset-position : goal.returns-then-offset-position
returns-then-offset-position c = search bodies_ways

pub returns-in_default : goal.returns-in_default
returns-in_default c = search bodies_ways

pub loop-procedure-preserved : goal.loop-procedure-preserved
loop-procedure-preserved c = search bodies_ways

pub returns : goal.returns
returns c = search bodies_ways

-- The cycle `+put_expr` meets its contracts.
use Rattle.emit.proofs.Copying.{copy_ways}
use Rattle.emit.proofs.exprs.+put_expr.Goals as goal

pub returns-then-depth-eq0 : goal.returns-then-depth-eq0
returns-then-depth-eq0 t c = search copy_ways

pub returns-then-t-at : goal.returns-then-t-at
returns-then-t-at t c = search copy_ways

pub returns-then-t-end : goal.returns-then-t-end
returns-then-t-end t c = search copy_ways

pub returns-then-mark-eq-LOCAL : goal.returns-then-mark-eq-LOCAL
returns-then-mark-eq-LOCAL t c = search copy_ways

pub returns-in-1 : goal.returns-in-1
returns-in-1 t c = search copy_ways

pub returns-in-2 : goal.returns-in-2
returns-in-2 t c = search copy_ways

pub returns-else-mark-eq-LOCAL : goal.returns-else-mark-eq-LOCAL
returns-else-mark-eq-LOCAL t c = search copy_ways

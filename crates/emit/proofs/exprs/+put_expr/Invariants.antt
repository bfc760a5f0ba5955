-- The cycle `+put_expr` meets its contracts.
use Rattle.emit.proofs.exprs.+put_expr.Given as goal

abbrev pub decreases-put_expr : goal.decreases-put_expr
decreases-put_expr l = l.depth

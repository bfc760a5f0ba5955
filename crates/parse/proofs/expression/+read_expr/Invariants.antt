-- `parse::expression::read_expr` meets its contract.
use Rattle.parse.proofs.expression.+read_expr.Given as goal

abbrev pub decreases-read_expr : goal.decreases-read_expr
decreases-read_expr l = l.depth

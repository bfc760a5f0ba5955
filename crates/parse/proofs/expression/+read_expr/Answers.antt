-- `parse::expression::read_expr` meets its contract.
use Rattle.parse.proofs.Expressions.{expr_ways}
use Rattle.parse.proofs.expression.+read_expr.Goals as goal

pub returns-in_ok-middle-in-2 : goal.returns-in_ok-middle-in-2
returns-in_ok-middle-in-2 t c =
    let inside = c.in_ok-mark.ensures.lookup.3.0 in
    let marked = rw (c.in_ok-mark.ensures.lookup.3.1 0) at c.operands.ensures in
    let first = c.in_ok-middle-in-2.was in
    search expr_ways

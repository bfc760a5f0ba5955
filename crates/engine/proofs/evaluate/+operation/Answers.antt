-- `engine::evaluate::operation` meets its contract; the allowed depth falls.
use Rattle.std.proofs.Common.{rules, arith, ◌+◌, ◌-◌}
use Rattle.engine.specs.Evaluated.{Evaluates}
use Rattle.engine.proofs.Evaluating.{inside, listed, deep, shallow, operand, right, as_leaf, eval_ways}
use Rattle.engine.proofs.evaluate.+operation.Goals.{then-t-first-lt-LEAVES, else-t-first-lt-LEAVES, then-t-second-lt-LEAVES, else-t-second-lt-LEAVES}
use Rattle.engine.proofs.evaluate.+operation.Goals as goal

pub bounds-t-first : goal.bounds-t-first
bounds-t-first t c = inside (operand c.requires.0 c.requires.1)

pub leaf-a-requires : goal.leaf-a-requires
leaf-a-requires t c = shallow c.if-t-first-lt-LEAVES.true (operand c.requires.0 c.requires.1)

pub overflow_sub-depth : goal.overflow_sub-depth
overflow_sub-depth t c = deep c.requires.0

pub operation-a-requires : goal.operation-a-requires
operation-a-requires t c =
    (omega (arith, deep c.requires.0, c.decreases), (operand c.requires.0 c.requires.1, c.if-t-first-lt-LEAVES.false))

pub row_of-row-requires : goal.row_of-row-requires
row_of-row-requires t c = listed c.requires.0 c.requires.1

pub bounds-t-second : goal.bounds-t-second
bounds-t-second t c =
    let a = c.args in
    let x : Evaluates a.t.now a.locals.now a.base (a.at + 1) (a.depth - 1) c.if-t-first-lt-LEAVES.a =
    elim c.if-t-first-lt-LEAVES.branch [
      | then-t-first-lt-LEAVES w ↦ rw w.a-is (as_leaf w.if-t-first-lt-LEAVES.true w.leaf-a.ensures)
      | else-t-first-lt-LEAVES w ↦ rw w.a-is w.operation-a.ensures
    ]
    in
    inside (right c.requires.0 c.requires.1 c.row_of-row.ensures.0 c.if-row-eq2.true x)

pub leaf-b-requires : goal.leaf-b-requires
leaf-b-requires t c =
    let a = c.args in
    let x : Evaluates a.t.now a.locals.now a.base (a.at + 1) (a.depth - 1) c.if-t-first-lt-LEAVES.a =
    elim c.if-t-first-lt-LEAVES.branch [
      | then-t-first-lt-LEAVES w ↦ rw w.a-is (as_leaf w.if-t-first-lt-LEAVES.true w.leaf-a.ensures)
      | else-t-first-lt-LEAVES w ↦ rw w.a-is w.operation-a.ensures
    ]
    in
    shallow c.if-t-second-lt-LEAVES.true (right c.requires.0 c.requires.1 c.row_of-row.ensures.0 c.if-row-eq2.true x)

pub overflow_sub-depth-else-t-second-lt-LEAVES : goal.overflow_sub-depth-else-t-second-lt-LEAVES
overflow_sub-depth-else-t-second-lt-LEAVES t c = deep c.requires.0

pub operation-b-requires : goal.operation-b-requires
operation-b-requires t c =
    let a = c.args in
    let x : Evaluates a.t.now a.locals.now a.base (a.at + 1) (a.depth - 1) c.if-t-first-lt-LEAVES.a =
    elim c.if-t-first-lt-LEAVES.branch [
      | then-t-first-lt-LEAVES w ↦ rw w.a-is (as_leaf w.if-t-first-lt-LEAVES.true w.leaf-a.ensures)
      | else-t-first-lt-LEAVES w ↦ rw w.a-is w.operation-a.ensures
    ]
    in (
      omega (arith, deep c.requires.0, c.decreases),
      (right c.requires.0 c.requires.1 c.row_of-row.ensures.0 c.if-row-eq2.true x, c.if-t-second-lt-LEAVES.false),
    )

pub returns-after-t-second-lt-LEAVES : goal.returns-after-t-second-lt-LEAVES
returns-after-t-second-lt-LEAVES t c =
    let a = c.args in
    let x : Evaluates a.t.now a.locals.now a.base (a.at + 1) (a.depth - 1) c.if-t-first-lt-LEAVES.a =
    elim c.if-t-first-lt-LEAVES.branch [
      | then-t-first-lt-LEAVES w ↦ rw w.a-is (as_leaf w.if-t-first-lt-LEAVES.true w.leaf-a.ensures)
      | else-t-first-lt-LEAVES w ↦ rw w.a-is w.operation-a.ensures
    ]
    in
    let y : Evaluates a.t.now a.locals.now a.base c.if-t-first-lt-LEAVES.a.next (a.depth - 1) c.if-t-second-lt-LEAVES.b =
    elim c.if-t-second-lt-LEAVES.branch [
      | then-t-second-lt-LEAVES w ↦ rw w.b-is (as_leaf w.if-t-second-lt-LEAVES.true w.leaf-b.ensures)
      | else-t-second-lt-LEAVES w ↦ rw w.b-is w.operation-b.ensures
    ]
    in
    search (eval_ways, rules)

pub returns-else-row-eq2 : goal.returns-else-row-eq2
returns-else-row-eq2 t c =
    let a = c.args in
    let x : Evaluates a.t.now a.locals.now a.base (a.at + 1) (a.depth - 1) c.if-t-first-lt-LEAVES.a =
    elim c.if-t-first-lt-LEAVES.branch [
      | then-t-first-lt-LEAVES w ↦ rw w.a-is (as_leaf w.if-t-first-lt-LEAVES.true w.leaf-a.ensures)
      | else-t-first-lt-LEAVES w ↦ rw w.a-is w.operation-a.ensures
    ]
    in
    search (eval_ways, rules)

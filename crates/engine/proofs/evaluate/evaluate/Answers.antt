-- `engine::evaluate::evaluate` meets its contract.
use Rattle.engine.proofs.Evaluating.{eval_ways}
use Rattle.engine.proofs.evaluate.evaluate.Goals as goal

pub bounds-t-at : goal.bounds-t-at
bounds-t-at c = search eval_ways

pub leaf-requires : goal.leaf-requires
leaf-requires c = search eval_ways

pub returns-then-t-at-lt-LEAVES : goal.returns-then-t-at-lt-LEAVES
returns-then-t-at-lt-LEAVES c = search eval_ways

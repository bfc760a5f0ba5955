-- `engine::evaluate::operation` meets its contract; the allowed depth falls.
use Rattle.engine.proofs.evaluate.+operation.Given as goal

abbrev pub decreases-operation : goal.decreases-operation
decreases-operation l = l.depth

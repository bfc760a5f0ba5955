-- The walk over an expression ends.
use Rattle.labels.proofs.variables.+gather.Given as goal

abbrev pub decreases-gather : goal.decreases-gather
decreases-gather l = l.depth

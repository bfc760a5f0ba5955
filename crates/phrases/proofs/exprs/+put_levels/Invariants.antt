-- The text of an expression meets its contract.
use Rattle.phrases.proofs.exprs.+put_levels.Given as goal

abbrev pub decreases-put_levels : goal.decreases-put_levels
decreases-put_levels l = l.depth

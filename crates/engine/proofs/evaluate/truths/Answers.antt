-- `engine::evaluate::truths` meets its contract.
use Rattle.std.proofs.Common.{rules}
use Rattle.engine.specs.Evaluated.{operated₂}
use Rattle.engine.proofs.Operands.{ways}
use Rattle.engine.proofs.evaluate.truths.Goals as goal

pub returns-in_default : goal.returns-in_default
returns-in_default c = search (ways, rules)

pub returns-then-not-a : goal.returns-then-not-a
returns-then-not-a c = search (ways, rules)

pub returns-in_err-right : goal.returns-in_err-right
unfolding operated₂
returns-in_err-right c = search rules

pub returns : goal.returns
unfolding operated₂
returns c = search rules

-- `engine::evaluate::one` meets its contract.
use Rattle.std.proofs.Common.{rules}
use Rattle.engine.specs.Evaluated.{operated₁}
use Rattle.engine.proofs.evaluate.one.Goals as goal

pub returns-in_err-operand : goal.returns-in_err-operand
unfolding operated₁
returns-in_err-operand c = search rules

pub returns : goal.returns
unfolding operated₁
returns c = search rules

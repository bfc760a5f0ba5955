-- `engine::word::unpack` meets its contract.
use Rattle.engine.specs.Words.{held}
use Rattle.engine.proofs.word.unpack.Goals as goal

pub returns : goal.returns
unfolding held
returns c = c.value_of.ensures

-- `engine::word::pack` meets its contract.
use Rattle.engine.specs.Laws.Words.{word_held}
use Rattle.engine.proofs.Values.{value_held}
use Rattle.engine.proofs.word.pack.Goals as goal

pub returns : goal.returns
returns c = word_held c.args.v (value_held c.args.v _ c.well_formed.0) c.cell_kind.ensures c.cell_number.ensures

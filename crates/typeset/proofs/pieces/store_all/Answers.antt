-- `typeset::pieces::store_all` meets its contract.
use Rattle.typeset.proofs.Setting.{stores_whole}
use Rattle.typeset.proofs.pieces.store_all.Goals as goal

pub returns-clause-stored : goal.returns-clause-stored
returns-clause-stored c = search stores_whole

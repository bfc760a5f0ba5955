-- `typeset::prelude::put_prelude` meets its contract.
use Rattle.ctext.specs.Pieces.{say}
use Rattle.ctext.specs.Prelude.{prelude}
use Rattle.typeset.proofs.prelude.put_prelude.Goals as goal

-- the bytes in the code are those of the definition
pub returns : goal.returns
unfolding prelude say
returns c = c.put_all.ensures

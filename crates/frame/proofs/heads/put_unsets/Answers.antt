-- `frame::heads::put_unsets` meets its contract.
use Rattle.ctext.specs.Pieces.{say}
use Rattle.frame.proofs.heads.put_unsets.Goals as goal

-- the lines in the code are those of the definition
pub returns : goal.returns
unfolding say
returns c = c.put_lines.ensures

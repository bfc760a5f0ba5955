-- `frame::locations::put_locations` meets its contract.
use Rattle.ctext.specs.Pieces.{say}
use Rattle.frame.proofs.locations.put_locations.Goals as goal

-- the lines in the code are those of the definition
pub returns : goal.returns
unfolding say
returns c = c.put_lines.ensures

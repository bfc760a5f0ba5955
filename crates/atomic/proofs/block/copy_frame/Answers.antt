-- `atomic::block::copy_frame` meets its contract.
use Rattle.atomic.proofs.InsideBlock.{cut_length, copies_cut}
use Rattle.atomic.proofs.block.copy_frame.Goals as goal

pub copy_from_slice-requires : goal.copy_from_slice-requires
copy_from_slice-requires c = cut_length _ _ _ _ c.requires.0 c.requires.1

pub returns : goal.returns
returns c = rw c.copy_from_slice.ensures.after (copies_cut _ _ c.requires.0)

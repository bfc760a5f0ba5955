-- `clib::store` meets its contract.
use Rattle.clib.proofs.Storing.{stored_first}
use Rattle.clib.proofs.store.Goals as goal

pub returns : goal.returns
returns c = search (stored_first, c.copy_from_slice.ensures.after, c.min-n.ensures)

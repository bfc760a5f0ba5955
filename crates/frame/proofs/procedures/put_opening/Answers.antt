-- `frame::procedures::put_opening` meets its contract.
use Rattle.frame.proofs.Defining.{opening_put}
use Rattle.frame.proofs.procedures.put_opening.Goals as goal

-- each call after the one before it
pub returns : goal.returns
returns c =
    opening_put _ _ _
    c.put.ensures
    c.put_head.ensures
    c.put_counted.ensures
    c.put_all.ensures
    c.put_arguments.ensures
    c.put_unsets.ensures

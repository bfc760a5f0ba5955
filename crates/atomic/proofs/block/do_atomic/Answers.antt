-- `atomic::block::do_atomic` meets its contract.
use Rattle.atomic.proofs.Carrying.{handed_on}
use Rattle.atomic.proofs.InsideBlock.{doing_tried, whole_blocked, whole_done}
use Rattle.atomic.proofs.block.do_atomic.Goals as goal

pub do_all-tried-requires : goal.do_all-tried-requires
do_all-tried-requires c = doing_tried c.copy_frame.ensures c.copy_frame.auto.copy _ c.requires

pub returns-in_err-tried : goal.returns-in_err-tried
returns-in_err-tried c =
    rw (handed_on _ c.from_residual.ensures.1) (whole_blocked c.copy_frame.ensures c.copy_frame.auto.copy c.do_all-tried.ensures c.in_err-tried.was)

pub returns : goal.returns
returns c = whole_done c.copy_frame.ensures c.copy_frame.auto.copy c.do_all-tried.ensures c.in_ok-tried.was c.do_all.ensures

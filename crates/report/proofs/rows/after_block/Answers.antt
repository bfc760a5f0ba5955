-- `report::rows::after_block` meets its contract.
use Rattle.report.proofs.Rowing.{passes_found}
use Rattle.report.proofs.rows.after_block.Goals as goal

pub returns : goal.returns
returns c = passes_found c.requires c.count_block-next.ensures

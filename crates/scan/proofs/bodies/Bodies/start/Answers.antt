-- `scan::bodies::Bodies::start` meets its contract.
use Rattle.scan.specs.Laws.Laid.{starts_here}
use Rattle.scan.proofs.bodies.Bodies.start.Goals as goal

pub returns : goal.returns
returns c = starts_here _ _ _ _ c.requires c.offset.ensures.0 c.min.ensures

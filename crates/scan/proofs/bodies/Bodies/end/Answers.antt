-- `scan::bodies::Bodies::end` meets its contract.
use Rattle.scan.specs.Laws.Laid.{end_ways}
use Rattle.scan.proofs.bodies.Bodies.end.Goals as goal

pub returns-then-m-self : goal.returns-then-m-self
returns-then-m-self c = search end_ways

pub returns-else-m-self : goal.returns-else-m-self
returns-else-m-self c = search end_ways

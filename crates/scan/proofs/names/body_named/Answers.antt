-- `scan::names::body_named` meets its contract.
use Rattle.scan.specs.Laws.NameScans.{ways}
use Rattle.scan.proofs.names.body_named.Goals as goal

pub returns : goal.returns
returns c = search ways

-- `scan::names::names_right` meets its contract.
use Rattle.scan.specs.Laws.NameScans.{ways}
use Rattle.scan.proofs.names.names_right.Goals as goal

pub returns-then-not-body_named : goal.returns-then-not-body_named
returns-then-not-body_named c = search ways

pub returns : goal.returns
returns c = search ways

-- `scan::names::tokens_named` meets its contract.
use Rattle.scan.specs.Laws.NameScans.{ways}
use Rattle.scan.proofs.names.tokens_named.Goals as goal

pub returns-then-not-token_named : goal.returns-then-not-token_named
returns-then-not-token_named c = search ways

pub loop-i-smaller : goal.loop-i-smaller
loop-i-smaller c = search ways

pub loop-i-preserved : goal.loop-i-preserved
loop-i-preserved c = search ways

pub returns : goal.returns
returns c = search ways

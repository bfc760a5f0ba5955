-- `typeset::pieces::Page::put` meets its contract.
use Rattle.typeset.proofs.Setting.{set_ways}
use Rattle.typeset.proofs.pieces.Page.put.Goals as goal

pub returns-in_default : goal.returns-in_default
returns-in_default c = search set_ways

pub returns-then-differs : goal.returns-then-differs
returns-then-differs c = search set_ways

pub returns : goal.returns
returns c = search set_ways

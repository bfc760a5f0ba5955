-- `typeset::pieces::Page::differs` meets its contract.
use Rattle.typeset.proofs.Setting.{set_ways}
use Rattle.typeset.proofs.pieces.Page.differs.Goals as goal

pub returns-then-at-self : goal.returns-then-at-self
returns-then-at-self c = search set_ways

pub returns-else-at-self : goal.returns-else-at-self
returns-else-at-self c = search set_ways

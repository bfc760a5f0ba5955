-- The digits of a number meet their contract.
use Rattle.typeset.proofs.Setting.{set_ways}
use Rattle.typeset.proofs.pieces.Page.+put_digits.Goals as goal
use Rattle.typeset.proofs.pieces.Page.+put_digits.Goals.{then-n-ge10, else-n-ge10}

pub returns-then-most-eq0 : goal.returns-then-most-eq0
returns-then-most-eq0 t c = search set_ways

pub returns : goal.returns
returns t c = elim c.if-n-ge10.branch [ then-n-ge10 w ↦ search set_ways | else-n-ge10 w ↦ search set_ways ]

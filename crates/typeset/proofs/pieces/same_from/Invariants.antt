-- `typeset::pieces::same_from` meets its contract.
use Rattle.std.proofs.Common.{◌≡◌, ◌+◌}
use lib.ListN.{drop}
use Rattle.typeset.specs.Page.{agreeing}
use Rattle.typeset.proofs.pieces.same_from.Given as goal

abbrev pub invariant-loop-i : goal.invariant-loop-i
invariant-loop-i l = agreeing l.text l.at l.piece ≡ l.i + agreeing l.text (l.at + l.i) (drop l.i l.piece)

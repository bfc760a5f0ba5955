-- `typeset::pieces::store_all` meets its contract.
use Rattle.std.proofs.Common.{◌≡◌, ◌+◌}
use lib.ListN.{drop}
use Rattle.std.proofs.lemmas.List.Edits.{sets}
use Rattle.typeset.proofs.pieces.store_all.Given as goal

abbrev pub invariant-loop-i : goal.invariant-loop-i
invariant-loop-i l = sets l.initial.out l.at l.bytes ≡ sets l.out (l.at + l.i) (drop l.i l.bytes)

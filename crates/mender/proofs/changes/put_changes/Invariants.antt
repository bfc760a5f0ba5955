-- `mender::changes::put_changes` meets its contract.
use Rattle.mender.proofs.Trailing.{Listing}
use Rattle.mender.proofs.changes.put_changes.Given as goal

abbrev pub invariant-loop-i : goal.invariant-loop-i
invariant-loop-i l = Listing l.old l.table l.initial.page l.page l.i

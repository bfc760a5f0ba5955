-- `mender::search::try_procedures` meets its contract.
use Rattle.parse.specs.Ends.{kind_of}
use Prim.Native.Nat.{◌/◌}
use Rattle.mender.proofs.Searching.{Trying}
use Rattle.mender.proofs.search.try_procedures.Given as goal

abbrev pub invariant-loop-threads : goal.invariant-loop-threads
invariant-loop-threads l = Trying (kind_of l.kind) l.initial.table l.initial.found l.procedures l.at l.table l.found (l.rest / 2) l.threads

-- `mender::search::find` meets its contract.
use Rattle.parse.specs.Ends.{kind_of}
use Rattle.mender.proofs.Searching.{Finding}
use Rattle.mender.proofs.search.find.Given as goal

abbrev pub invariant-loop-procedure : goal.invariant-loop-procedure
invariant-loop-procedure l = Finding (kind_of l.kind) l.initial.table l.table l.found l.procedure l.position

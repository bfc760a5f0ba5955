-- `concurrent::run` meets its contract.
use Rattle.std.proofs.Common.{refl}
use Rattle.concurrent.proofs.ConcurrentCall.{accepted_mains, accepted_starting, run_taken, run_outcome}
use Rattle.concurrent.proofs.machine.run.Goals as goal

pub prepare-requires : goal.prepare-requires
prepare-requires c = record { cells = _; accepted = c.requires.0; map_long = refl; bounds_long = refl; starts_long = refl }

pub begin-requires : goal.begin-requires
begin-requires c = (accepted_mains c.requires.0, refl, refl)

pub go-ran-requires : goal.go-ran-requires
go-ran-requires c = accepted_starting c.requires.0 c.requires.1 c.prepare.ensures.maps c.prepare.ensures.starts c.begin.ensures

pub overflow_sub-result : goal.overflow_sub-result
overflow_sub-result c = run_taken
    (accepted_starting c.requires.0 c.requires.1 c.prepare.ensures.maps c.prepare.ensures.starts c.begin.ensures)
    c.go-ran.ensures

pub returns : goal.returns
returns c = run_outcome c.prepare.ensures.maps c.prepare.ensures.starts c.begin.ensures c.go-ran.ensures c.write_out.ensures c.number.ensures c.reason.ensures

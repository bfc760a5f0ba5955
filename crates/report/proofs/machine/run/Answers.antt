-- `report::machine::run` meets its contract.
use Rattle.std.proofs.Common.{refl}
use Rattle.report.proofs.Calling.{accepted_beginning, accepted_starting, run_taken, run_outcome}
use Rattle.report.proofs.machine.run.Goals as goal

pub begin-requires : goal.begin-requires
begin-requires c = (accepted_beginning c.requires.0, refl, refl, refl)

pub go-ran-requires : goal.go-ran-requires
go-ran-requires c = accepted_starting c.requires.0 c.requires.1 c.set_starts.ensures c.begin.ensures

pub overflow_sub-result : goal.overflow_sub-result
overflow_sub-result c = run_taken (accepted_starting c.requires.0 c.requires.1 c.set_starts.ensures c.begin.ensures) c.go-ran.ensures

pub returns : goal.returns
returns c = run_outcome c.set_starts.ensures c.begin.ensures c.go-ran.ensures c.write_out.ensures c.number.ensures c.reason.ensures

-- `sequential::run` meets its contract.
use Rattle.std.proofs.Common.{rules, ℕ}
use Rattle.std.proofs.lemmas.List.{length-replicate}
use Rattle.jumps.specs.Jumps.{positions}
use Rattle.sequential.proofs.Calling.{accepted_starting, run_outcome, call_ways}
use Rattle.sequential.proofs.machine.run.Goals as goal

pub fill-requires : goal.fill-requires
fill-requires c = search (call_ways, rules)

pub go-ran-requires : goal.go-ran-requires
go-ran-requires c =
    accepted_starting c.requires (length-replicate {A = ℕ} positions 0) c.fill.ensures c.set_starts.ensures

pub overflow_sub-result : goal.overflow_sub-result
overflow_sub-result c = search (call_ways, rules)

pub returns : goal.returns
returns c =
    run_outcome (length-replicate {A = ℕ} positions 0) c.fill.ensures c.set_starts.ensures c.go-ran.ensures c.write_cells.ensures c.number.ensures c.reason.ensures

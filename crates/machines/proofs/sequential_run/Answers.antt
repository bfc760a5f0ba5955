-- `machines::sequential_run` meets its contract.
use Rattle.std.proofs.Common.{arith}
use Rattle.reader.proofs.Verdicts.{slice_bytes}
use Rattle.concurrent.proofs.ConcurrentCall.{handed_on}
use Rattle.sequential.proofs.Calling.{accepted_cells}
use Rattle.machines.proofs.Running.{sequential_unread, sequential_accepted, sequential_long, sequential_short, sequential_ran}
use Rattle.machines.proofs.sequential_run.Goals as goal

pub returns-in_err-read : goal.returns-in_err-read
returns-in_err-read c =
    rw (handed_on _ c.from_residual.ensures.1)
    (sequential_unread c.args.table.now (slice_bytes c.args.table.now c.type_inv.table) c.args.budget c.args.h c.args.schedule.now c.args.cells.now c.args.events.now c.check.ensures c.in_err-read.was)

pub returns-then-schedule-gt-ENTRIES : goal.returns-then-schedule-gt-ENTRIES
returns-then-schedule-gt-ENTRIES c =
    sequential_long c.args.table.now (slice_bytes c.args.table.now c.type_inv.table) c.args.budget c.args.h c.args.schedule.now c.args.cells.now c.args.events.now c.check.ensures c.in_ok-read.was c.if-schedule-gt-ENTRIES.true

pub overflow_mul-read : goal.overflow_mul-read
overflow_mul-read c =
    let few = accepted_cells (sequential_accepted c.args.table.now (slice_bytes c.args.table.now c.type_inv.table) c.args.budget c.args.h c.args.schedule.now c.args.cells.now c.args.events.now c.check.ensures c.in_ok-read.was) in
    record { fits = omega arith }

pub returns-then-cells-read : goal.returns-then-cells-read
returns-then-cells-read c =
    sequential_short c.args.table.now (slice_bytes c.args.table.now c.type_inv.table) c.args.budget c.args.h c.args.schedule.now c.args.cells.now c.args.events.now c.check.ensures c.in_ok-read.was c.if-schedule-gt-ENTRIES.false c.if-cells-read.true

pub run-requires : goal.run-requires
run-requires c = sequential_accepted c.args.table.now (slice_bytes c.args.table.now c.type_inv.table) c.args.budget c.args.h c.args.schedule.now c.args.cells.now c.args.events.now c.check.ensures c.in_ok-read.was

pub returns : goal.returns
returns c =
    sequential_ran c.args.table.now (slice_bytes c.args.table.now c.type_inv.table) c.args.budget c.args.h c.args.schedule.now c.args.cells.now c.args.events.now c.check.ensures c.in_ok-read.was c.if-schedule-gt-ENTRIES.false c.if-cells-read.false c.run.ensures

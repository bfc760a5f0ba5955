-- `machines::runnable` meets its contract.
use Rattle.std.proofs.Common.{arith}
use Rattle.reader.proofs.Verdicts.{slice_bytes}
use Rattle.concurrent.proofs.ConcurrentCall.{handed_on, accepted_cells}
use Rattle.machines.proofs.Running.{unread, run_accepted, unscheduled, short, runs}
use Rattle.machines.proofs.runnable.Goals as goal

pub returns-in_err-read : goal.returns-in_err-read
returns-in_err-read c =
    rw (handed_on _ c.from_residual.ensures.1)
    (unread c.args.table.now (slice_bytes c.args.table.now c.type_inv.table) c.args.schedule.now c.args.cells.now c.check.ensures c.in_err-read.was)

pub returns-then-not-scheduled : goal.returns-then-not-scheduled
returns-then-not-scheduled c =
    unscheduled c.args.table.now (slice_bytes c.args.table.now c.type_inv.table) c.args.schedule.now c.args.cells.now c.check.ensures c.in_ok-read.was
    c.scheduled.ensures c.if-not-scheduled.true

pub overflow_mul-read : goal.overflow_mul-read
overflow_mul-read c =
    let few = accepted_cells (run_accepted c.args.table.now (slice_bytes c.args.table.now c.type_inv.table) c.args.schedule.now c.args.cells.now c.check.ensures c.in_ok-read.was) in
    record { fits = omega arith }

pub returns-then-cells-read : goal.returns-then-cells-read
returns-then-cells-read c =
    short c.args.table.now (slice_bytes c.args.table.now c.type_inv.table) c.args.schedule.now c.args.cells.now c.check.ensures c.in_ok-read.was
    c.scheduled.ensures c.if-not-scheduled.false c.if-cells-read.true

pub returns : goal.returns
returns c =
    runs c.args.table.now (slice_bytes c.args.table.now c.type_inv.table) c.args.schedule.now c.args.cells.now c.check.ensures c.in_ok-read.was
    c.scheduled.ensures c.if-not-scheduled.false c.if-cells-read.false

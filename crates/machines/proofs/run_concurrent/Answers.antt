-- `machines::run_concurrent` meets its contract.
use Rattle.semantics.specs.Calls.{concurrent_outcome}
use Rattle.machines.proofs.run_concurrent.Goals as goal

pub run-requires : goal.run-requires
run-requires c =
    let m = c.runnable.ensures.may c.in-Ok.read c.in-Ok.is in
    (m.accepted, m.entries)

pub returns-in-Ok : goal.returns-in-Ok
returns-in-Ok c =
    (c.runnable.ensures.may c.in-Ok.read c.in-Ok.is).ran
    (concurrent_outcome c.args.schedule.now c.args.cells.now c.args.events.now) c.args.events.now _ c.run.ensures.same

pub returns-in-Err : goal.returns-in-Err
returns-in-Err c =
    rw c.refused.ensures
    (c.runnable.ensures.refused c.in-Err.refusal c.in-Err.is
    (concurrent_outcome c.args.schedule.now c.args.cells.now c.args.events.now) c.args.events.now)

-- `concurrent::threads::take_turn` meets its contract.
use Rattle.atomic.proofs.Carrying.{handed_on}
use Rattle.concurrent.proofs.TurningAtomic.{turns_stopped, turns_done}
use Rattle.concurrent.proofs.Turning.{call_byte, call_room, call_above, turns_carried, turns_blocked, turn_ways}
use Rattle.concurrent.proofs.threads.take_turn.Goals as goal

pub bounds-t-at : goal.bounds-t-at
bounds-t-at c = search turn_ways

pub do_atomic-requires : goal.do_atomic-requires
do_atomic-requires c = search turn_ways

pub returns-then-t-at-eq-ATOMIC : goal.returns-then-t-at-eq-ATOMIC
returns-then-t-at-eq-ATOMIC c = turns_done c.if-t-at-eq-ATOMIC.true c.do_atomic.ensures c.in_ok-done.was

pub returns-in_err-done : goal.returns-in_err-done
returns-in_err-done c =
    rw (handed_on _ c.from_residual.ensures.1) (turns_stopped c.if-t-at-eq-ATOMIC.true c.do_atomic.ensures c.in_err-done.was)

pub decide-step-requires : goal.decide-step-requires
decide-step-requires c = search turn_ways

pub byte-requires : goal.byte-requires
byte-requires c = call_byte c.if-t-at-eq-ATOMIC.false c.decide-step.ensures c.in-Call.is c.requires

pub clear-requires : goal.clear-requires
clear-requires c = (
  call_room c.if-t-at-eq-ATOMIC.false c.decide-step.ensures c.in-Call.is c.byte.ensures.0 c.requires,
  call_above c.if-t-at-eq-ATOMIC.false c.decide-step.ensures c.in-Call.is c.requires,
)

pub carry_out-requires : goal.carry_out-requires
carry_out-requires c = search turn_ways

pub returns-in-Return : goal.returns-in-Return
returns-in-Return c = search turn_ways

pub returns-in-Test : goal.returns-in-Test
returns-in-Test c = search turn_ways

pub returns-in-Call : goal.returns-in-Call
returns-in-Call c = search turn_ways

pub returns-in_ok-done-in_default : goal.returns-in_ok-done-in_default
returns-in_ok-done-in_default c =
    turns_carried c.if-t-at-eq-ATOMIC.false c.decide-step.ensures c.carry_out.ensures c.in_ok-done-in_default.was

pub returns-in_err-done-in_default : goal.returns-in_err-done-in_default
returns-in_err-done-in_default c =
    rw (handed_on _ c.from_residual-in_err-done-in_default.ensures.1)
    (turns_blocked c.if-t-at-eq-ATOMIC.false c.decide-step.ensures c.carry_out.ensures
    (record { no_return = c.in_default.not-Return; no_test = c.in_default.not-Test; no_call = c.in_default.not-Call })
    c.in_err-done-in_default.was)

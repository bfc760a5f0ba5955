-- `report::step::rule` meets its contract.
use Rattle.atomic.proofs.Carrying.{handed_on}
use Rattle.report.proofs.Ruled.{rule_ways, rule_atomic, rule_atomic_blocks, rule_carrying, rule_carried, rule_blocked, rule_call_byte, rule_call_room, rule_call_above, rule_record}
use Rattle.report.proofs.step.rule.Goals as goal

pub do_atomic-went-requires : goal.do_atomic-went-requires
do_atomic-went-requires c = search rule_ways

pub returns-in-Ok : goal.returns-in-Ok
returns-in-Ok c = rule_atomic c.if-t-at-eq-ATOMIC.true c.do_atomic-went.ensures c.in-Ok.is

pub returns-in-Err : goal.returns-in-Err
returns-in-Err c = rule_atomic_blocks c.if-t-at-eq-ATOMIC.true c.do_atomic-went.ensures c.in-Err.is

pub decide-step-requires : goal.decide-step-requires
decide-step-requires c = search rule_ways

pub carry_out-requires : goal.carry_out-requires
carry_out-requires c = rule_carrying c.if-t-at-eq-ATOMIC.false c.decide-step.ensures c.requires.stepping c.requires.ready

pub after_test-requires : goal.after_test-requires
after_test-requires c = search rule_ways

pub byte-requires : goal.byte-requires
byte-requires c = rule_call_byte c.if-t-at-eq-ATOMIC.false c.decide-step.ensures c.in-Call.is c.requires.stepping c.requires.ready

pub clear-requires : goal.clear-requires
clear-requires c = (
  rule_call_room c.if-t-at-eq-ATOMIC.false c.decide-step.ensures c.in-Call.is c.byte.ensures.0 c.requires.stepping c.requires.ready,
  rule_call_above c.if-t-at-eq-ATOMIC.false c.decide-step.ensures c.in-Call.is c.requires.stepping c.requires.ready,
)

pub body-requires : goal.body-requires
body-requires c = rule_record c.if-t-at-eq-ATOMIC.false c.decide-step.ensures c.in-Call.is c.byte.ensures.0 c.clear.ensures
    c.requires.stepping c.requires.ready

pub returns-in-Test : goal.returns-in-Test
returns-in-Test c = search rule_ways

pub returns-in-Call : goal.returns-in-Call
returns-in-Call c = search rule_ways

pub returns-in_ok-done-in_default : goal.returns-in_ok-done-in_default
returns-in_ok-done-in_default c =
    rule_carried c.if-t-at-eq-ATOMIC.false c.decide-step.ensures c.carry_out.ensures c.in_ok-done-in_default.was

pub returns-in_err-done-in_default : goal.returns-in_err-done-in_default
returns-in_err-done-in_default c =
    rw (handed_on _ c.from_residual.ensures.1)
    (rule_blocked c.if-t-at-eq-ATOMIC.false c.decide-step.ensures c.carry_out.ensures
    (record { no_test = c.in_default.not-Test; no_call = c.in_default.not-Call })
    c.in_err-done-in_default.was)

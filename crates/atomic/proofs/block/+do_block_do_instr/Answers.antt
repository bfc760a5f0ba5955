-- The two functions of an atomic block meet their contracts.
use Rattle.std.proofs.Common.{arith, rules}
use Rattle.atomic.proofs.Carrying.{handed_on}
use Rattle.atomic.proofs.Inside.{instr_carrying, does_carried, doing_then, then_after, does_then_blocked, does_then, doing_else, instr_ways}
use Rattle.atomic.proofs.InsideBlock.{going_deep, going_one, going_on, going_less, going_stop, block_ways}
use Rattle.atomic.proofs.block.+do_block_do_instr.Goals as goal

pub do_block-bounds-t-i : goal.do_block-bounds-t-i
do_block-bounds-t-i t c = first_of (search instr_ways, search block_ways)

pub do_block-overflow_sub-depth : goal.do_block-overflow_sub-depth
do_block-overflow_sub-depth t c = first_of (search instr_ways, search block_ways)

pub do_block-do_instr-requires : goal.do_block-do_instr-requires
do_block-do_instr-requires t c =
    (omega (arith, going_deep c.loop-i.invariant.0, c.decreases), going_one c.loop-i.invariant.0 c.loop-i-test.true)

pub do_block-returns-in_err-done : goal.do_block-returns-in_err-done
do_block-returns-in_err-done t c =
    rw (handed_on _ c.from_residual.ensures.1) (going_stop c.loop-i.invariant.0 c.loop-i-test.true c.do_instr.ensures c.in_err-done.was)

pub do_block-loop-i-smaller : goal.do_block-loop-i-smaller
do_block-loop-i-smaller t c = going_less c.loop-i.invariant.0 c.loop-i-test.true c.do_instr.ensures c.in_ok-done.was

pub do_block-loop-i-preserved : goal.do_block-loop-i-preserved
do_block-loop-i-preserved t c =
    (going_on c.loop-i.invariant.0 c.loop-i-test.true c.do_instr.ensures c.in_ok-done.was, search rules, search rules, search rules)

pub do_block-returns : goal.do_block-returns
do_block-returns t c = first_of (search instr_ways, search block_ways)

pub do_instr-decide-step-requires : goal.do_instr-decide-step-requires
do_instr-decide-step-requires t c = first_of (search instr_ways, search block_ways)

pub do_instr-do_block-requires : goal.do_instr-do_block-requires
do_instr-do_block-requires t c =
    (omega (arith, c.decreases), doing_then c.decide-step.ensures c.in-Test.is c.if-truth.true c.requires)

pub do_instr-returns-in_err-done : goal.do_instr-returns-in_err-done
do_instr-returns-in_err-done t c =
    rw (handed_on _ c.from_residual.ensures.1)
    (does_then_blocked c.decide-step.ensures c.in-Test.is c.if-truth.true c.do_block.ensures c.in_err-done.was)

pub do_instr-count_block-requires : goal.do_instr-count_block-requires
do_instr-count_block-requires t c =
    then_after c.decide-step.ensures c.in-Test.is c.if-truth.true c.do_block.ensures c.in_ok-done.was c.requires

pub do_instr-returns-then-truth : goal.do_instr-returns-then-truth
do_instr-returns-then-truth t c =
    does_then c.decide-step.ensures c.in-Test.is c.if-truth.true c.do_block.ensures c.in_ok-done.was c.count_block.ensures

pub do_instr-count_block-no-requires : goal.do_instr-count_block-no-requires
do_instr-count_block-no-requires t c = first_of (search instr_ways, search block_ways)

pub do_instr-do_block-requires-in-Test : goal.do_instr-do_block-requires-in-Test
do_instr-do_block-requires-in-Test t c =
    (omega (arith, c.decreases), doing_else c.decide-step.ensures c.in-Test.is c.if-truth.false c.count_block-no.ensures c.requires)

pub do_instr-returns-in-Test : goal.do_instr-returns-in-Test
do_instr-returns-in-Test t c = first_of (search instr_ways, search block_ways)

pub do_instr-carry_out-requires : goal.do_instr-carry_out-requires
do_instr-carry_out-requires t c =
    instr_carrying c.decide-step.ensures c.in_default.not-Test c.requires

pub do_instr-returns : goal.do_instr-returns
do_instr-returns t c =
    does_carried c.decide-step.ensures c.in_default.not-Test c.carry_out.ensures

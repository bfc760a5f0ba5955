-- `count::count_block` meets its contract.
use Rattle.std.proofs.Common.{rules}
use Rattle.labels.proofs.Counting.{count_ways}
use Rattle.labels.proofs.count.+count_block_count_instr.Goals as goal

pub count_block-count_instr-one-requires : goal.count_block-count_instr-one-requires
count_block-count_instr-one-requires t c = (search rules, search count_ways)

pub count_block-loop-i-preserved : goal.count_block-loop-i-preserved
count_block-loop-i-preserved t c = search count_ways

pub count_block-returns : goal.count_block-returns
count_block-returns t c = search count_ways

pub count_instr-count_block-body-requires : goal.count_instr-count_block-body-requires
count_instr-count_block-body-requires t c = (search rules, search count_ways)

pub count_instr-count_block-yes-requires : goal.count_instr-count_block-yes-requires
count_instr-count_block-yes-requires t c = (search rules, search count_ways)

pub count_instr-count_block-no-requires : goal.count_instr-count_block-no-requires
count_instr-count_block-no-requires t c = (search rules, search count_ways)

pub count_instr-count_block-requires : goal.count_instr-count_block-requires
count_instr-count_block-requires t c = (search rules, search count_ways)

pub count_instr-after_plain-requires : goal.count_instr-after_plain-requires
count_instr-after_plain-requires t c = search count_ways

pub count_instr-returns-in-35 : goal.count_instr-returns-in-35
count_instr-returns-in-35 t c = search count_ways

pub count_instr-returns-in-36 : goal.count_instr-returns-in-36
count_instr-returns-in-36 t c = search count_ways

pub count_instr-returns-in-38 : goal.count_instr-returns-in-38
count_instr-returns-in-38 t c = search count_ways

pub count_instr-returns-in_default : goal.count_instr-returns-in_default
count_instr-returns-in_default t c = search count_ways

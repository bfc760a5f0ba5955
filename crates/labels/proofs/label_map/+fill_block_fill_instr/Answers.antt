-- `label_map::fill_block` meets its contract.
use Rattle.std.proofs.Common.{rules}
use Rattle.labels.proofs.Filling.{fill_ways}
use Rattle.labels.proofs.label_map.+fill_block_fill_instr.Goals as goal

pub fill_block-count_instr-one-requires : goal.fill_block-count_instr-one-requires
fill_block-count_instr-one-requires t c = search fill_ways

pub fill_block-fill_instr-requires : goal.fill_block-fill_instr-requires
fill_block-fill_instr-requires t c = (search rules, (search fill_ways, search rules))

pub fill_block-loop-i-preserved : goal.fill_block-loop-i-preserved
fill_block-loop-i-preserved t c = search fill_ways

pub fill_block-returns : goal.fill_block-returns
fill_block-returns t c = search fill_ways

pub fill_instr-fill_block-requires : goal.fill_instr-fill_block-requires
fill_instr-fill_block-requires t c = (search rules, (search fill_ways, search rules))

pub fill_instr-count_block-counted-requires : goal.fill_instr-count_block-counted-requires
fill_instr-count_block-counted-requires t c = search fill_ways

pub fill_instr-fill_block-requires-in-36 : goal.fill_instr-fill_block-requires-in-36
fill_instr-fill_block-requires-in-36 t c = (search rules, (search fill_ways, search rules))

pub fill_instr-fill_block-requires-in-36-2 : goal.fill_instr-fill_block-requires-in-36-2
fill_instr-fill_block-requires-in-36-2 t c = (search rules, (search fill_ways, search rules))

pub fill_instr-returns-in-35 : goal.fill_instr-returns-in-35
fill_instr-returns-in-35 t c = search fill_ways

pub fill_instr-returns-in-36 : goal.fill_instr-returns-in-36
fill_instr-returns-in-36 t c = search fill_ways

-- The parsers of blocks and instructions meet their contracts.
use Rattle.retable.proofs.Nesting.{if_ways, instr_ways, block_ways, stuck_ways}
use Rattle.retable.proofs.blocks.+parse_block_parse_if_parse_instr.Goals as goal

pub parse_block-returns-then-depth-eq0 : goal.parse_block-returns-then-depth-eq0
parse_block-returns-then-depth-eq0 t c = first_of (search if_ways, search instr_ways, search block_ways, search stuck_ways)

pub parse_block-returns-then-ends : goal.parse_block-returns-then-ends
parse_block-returns-then-ends t c = first_of (search if_ways, search instr_ways, search block_ways, search stuck_ways)

pub parse_block-returns-then-one-i : goal.parse_block-returns-then-one-i
parse_block-returns-then-one-i t c = first_of (search if_ways, search instr_ways, search block_ways, search stuck_ways)

pub parse_block-loop-i-preserved : goal.parse_block-loop-i-preserved
parse_block-loop-i-preserved t c = first_of (search if_ways, search instr_ways, search block_ways, search stuck_ways)

pub parse_block-returns : goal.parse_block-returns
parse_block-returns t c = first_of (search if_ways, search instr_ways, search block_ways, search stuck_ways)

pub parse_if-returns : goal.parse_if-returns
parse_if-returns t c = first_of (search if_ways, search instr_ways, search block_ways, search stuck_ways)

pub parse_instr-returns-then-first-eq120 : goal.parse_instr-returns-then-first-eq120
parse_instr-returns-then-first-eq120 t c = first_of (search if_ways, search instr_ways, search block_ways, search stuck_ways)

pub parse_instr-returns-then-first-eq119 : goal.parse_instr-returns-then-first-eq119
parse_instr-returns-then-first-eq119 t c = first_of (search if_ways, search instr_ways, search block_ways, search stuck_ways)

pub parse_instr-returns-then-first-eq105 : goal.parse_instr-returns-then-first-eq105
parse_instr-returns-then-first-eq105 t c = first_of (search if_ways, search instr_ways, search block_ways, search stuck_ways)

pub parse_instr-returns-then-third-eq119 : goal.parse_instr-returns-then-third-eq119
parse_instr-returns-then-third-eq119 t c = first_of (search if_ways, search instr_ways, search block_ways, search stuck_ways)

pub parse_instr-returns-then-third-eq99 : goal.parse_instr-returns-then-third-eq99
parse_instr-returns-then-third-eq99 t c = first_of (search if_ways, search instr_ways, search block_ways, search stuck_ways)

pub parse_instr-returns : goal.parse_instr-returns
parse_instr-returns t c = first_of (search if_ways, search instr_ways, search block_ways, search stuck_ways)

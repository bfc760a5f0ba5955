-- Blocks and instructions meet their contracts: they call each other, the depth falling.
use Rattle.lines.proofs.Nested.{nested_ways}
use Rattle.lines.proofs.blocks.+put_block_put_closed_put_instr.Goals as goal

pub put_block-returns-then-depth-eq0 : goal.put_block-returns-then-depth-eq0
put_block-returns-then-depth-eq0 t c = search nested_ways

pub put_block-returns-then-t-next-eq-END : goal.put_block-returns-then-t-next-eq-END
put_block-returns-then-t-next-eq-END t c = search nested_ways

pub put_block-loop-next-preserved : goal.put_block-loop-next-preserved
put_block-loop-next-preserved t c = search nested_ways

pub put_block-returns : goal.put_block-returns
put_block-returns t c = search nested_ways

pub put_closed-returns : goal.put_closed-returns
put_closed-returns t c = search nested_ways

pub put_instr-returns-in-35 : goal.put_instr-returns-in-35
put_instr-returns-in-35 t c = search nested_ways

pub put_instr-returns-in-36 : goal.put_instr-returns-in-36
put_instr-returns-in-36 t c = search nested_ways

pub put_instr-returns-in_default : goal.put_instr-returns-in_default
put_instr-returns-in_default t c = search nested_ways

-- Blocks and instructions meet their contracts: they call each other, the depth falling.
use Rattle.std.proofs.Common.{length, ◌-◌, ◌+◌, ◌*◌}
use Rattle.lines.specs.Lines.{Later}
use Rattle.lines.proofs.blocks.+put_block_put_closed_put_instr.Given as goal

abbrev pub decreases-put_block : goal.decreases-put_block
decreases-put_block l = 3 * l.depth

abbrev pub decreases-put_closed : goal.decreases-put_closed
decreases-put_closed l = 3 * l.depth + 1

abbrev pub decreases-put_instr : goal.decreases-put_instr
decreases-put_instr l = 3 * l.depth + 2

abbrev pub invariant-put_block-loop-next : goal.invariant-put_block-loop-next
invariant-put_block-loop-next l = Later l.t l.at l.depth l.spaces l.initial.page l.next l.page

abbrev pub decreases-put_block-loop-next : goal.decreases-put_block-loop-next
decreases-put_block-loop-next l = length l.t - l.next

-- The two walks that count labels meet their contracts.
use Rattle.std.proofs.Common.{◌+◌, ◌-◌, length}
use Rattle.labels.proofs.Counting.{Counting}
use Rattle.labels.proofs.count.+count_block_count_instr.Given as goal

abbrev pub decreases-count_block : goal.decreases-count_block
decreases-count_block l = l.depth + l.depth

abbrev pub decreases-count_instr : goal.decreases-count_instr
decreases-count_instr l = l.depth + l.depth + 1

abbrev pub invariant-count_block-loop-i : goal.invariant-count_block-loop-i
invariant-count_block-loop-i l = Counting l.t l.at l.depth l.i l.n

abbrev pub decreases-count_block-loop-i : goal.decreases-count_block-loop-i
decreases-count_block-loop-i l = length l.t - l.i

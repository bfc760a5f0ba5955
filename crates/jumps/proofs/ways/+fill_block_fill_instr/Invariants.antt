-- The two walks that fill the jump table meet their contracts.
use Rattle.std.proofs.Common.{length, ◌+◌, ◌-◌}
use Rattle.jumps.proofs.Jumping.{Filling}
use Rattle.jumps.proofs.ways.+fill_block_fill_instr.Given as goal

abbrev pub decreases-fill_block : goal.decreases-fill_block
decreases-fill_block l = l.depth + l.depth

abbrev pub decreases-fill_instr : goal.decreases-fill_instr
decreases-fill_instr l = l.depth + l.depth + 1

abbrev pub invariant-fill_block-loop-i : goal.invariant-fill_block-loop-i
invariant-fill_block-loop-i l = Filling l.t l.at l.depth l.after l.initial.jumps l.i l.jumps

abbrev pub decreases-fill_block-loop-i : goal.decreases-fill_block-loop-i
decreases-fill_block-loop-i l = length l.t - l.i

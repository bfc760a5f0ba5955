-- The two functions of an atomic block meet their contracts.
use Rattle.std.proofs.Common.{◌≡◌, ◌+◌, length, ◌-◌}
use Rattle.atomic.proofs.InsideBlock.{Going}
use Rattle.atomic.proofs.block.+do_block_do_instr.Given as goal

abbrev pub decreases-do_block : goal.decreases-do_block
decreases-do_block l = l.depth + l.depth

abbrev pub decreases-do_instr : goal.decreases-do_instr
decreases-do_instr l = l.depth + l.depth + 1

abbrev pub invariant-do_block-loop-i : goal.invariant-do_block-loop-i
invariant-do_block-loop-i l = Going l.t l.thread l.label l.base l.starts l.depth l.at l.initial.words l.initial.cells l.initial.events l.count l.i l.words l.cells l.events l.n × (length l.words ≡ length l.initial.words)
    × (length l.cells ≡ length l.initial.cells) × (length l.events ≡ length l.initial.events)

abbrev pub decreases-do_block-loop-i : goal.decreases-do_block-loop-i
decreases-do_block-loop-i l = length l.t - l.i

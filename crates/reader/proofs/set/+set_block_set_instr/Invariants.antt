-- `reader::set::set_block` and `set_instr`, which call each other, meet their contracts.
use Rattle.std.proofs.Common.{length, ◌-◌, ◌+◌}
use Rattle.reader.specs.Laws.SetScans.{SetsFrom}
use Rattle.reader.proofs.set.+set_block_set_instr.Given as goal

abbrev pub decreases-set_block : goal.decreases-set_block
decreases-set_block l = l.depth + l.depth

abbrev pub decreases-set_instr : goal.decreases-set_instr
decreases-set_instr l = l.depth + l.depth + 1

abbrev pub invariant-set_block-loop-i : goal.invariant-set_block-loop-i
invariant-set_block-loop-i l = SetsFrom l.t l.at l.depth l.set l.i l.known

abbrev pub decreases-set_block-loop-i : goal.decreases-set_block-loop-i
decreases-set_block-loop-i l = length l.t - l.i

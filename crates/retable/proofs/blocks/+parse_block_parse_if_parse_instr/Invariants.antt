-- The parsers of blocks and instructions meet their contracts.
use Rattle.std.proofs.Common.{length, ◌-◌, ◌+◌, ◌*◌}
use Rattle.retable.proofs.Nesting.{BlockFrom}
use Rattle.retable.proofs.blocks.+parse_block_parse_if_parse_instr.Given as goal

abbrev pub decreases-parse_block : goal.decreases-parse_block
decreases-parse_block l = l.depth * 3

abbrev pub decreases-parse_if : goal.decreases-parse_if
decreases-parse_if l = l.depth * 3 + 1

abbrev pub decreases-parse_instr : goal.decreases-parse_instr
decreases-parse_instr l = l.depth * 3 + 2

abbrev pub invariant-parse_block-loop-i : goal.invariant-parse_block-loop-i
invariant-parse_block-loop-i l = BlockFrom l.x l.at l.depth l.width l.initial.out l.to l.i l.out l.p

abbrev pub decreases-parse_block-loop-i : goal.decreases-parse_block-loop-i
decreases-parse_block-loop-i l = length l.x - l.i

-- `parse::block::read_block` and `parse::block::read_instruction` meet their contracts.
use Rattle.std.proofs.Common.{length, ◌-◌, ◌+◌}
use Rattle.parse.specs.Ends.{here_of}
use Rattle.parse.proofs.Blocks.{BlockFrom}
use Rattle.parse.proofs.block.+read_block_read_instruction.Given as goal

abbrev pub decreases-read_block : goal.decreases-read_block
decreases-read_block l = l.depth + l.depth

abbrev pub decreases-read_instruction : goal.decreases-read_instruction
decreases-read_instruction l = l.depth + l.depth + 1

abbrev pub invariant-read_block-loop-position : goal.invariant-read_block-loop-position
invariant-read_block-loop-position l = BlockFrom l.code l.depth (here_of l.context) l.at l.position

abbrev pub decreases-read_block-loop-position : goal.decreases-read_block-loop-position
decreases-read_block-loop-position l = length l.code - l.position

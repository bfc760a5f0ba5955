-- `parse::block::read_block` and `parse::block::read_instruction` meet their contracts.
use Rattle.std.proofs.Common.{sym, ◌∙◌}
use Rattle.parse.proofs.Blocks.{block_ways}
use Rattle.parse.proofs.block.+read_block_read_instruction.Goals as goal

pub read_block-returns-then-code-position-eq-END :
    goal.read_block-returns-then-code-position-eq-END
read_block-returns-then-code-position-eq-END t c = search block_ways

pub read_instruction-returns-in_err-second-in-36 :
    goal.read_instruction-returns-in_err-second-in-36
read_instruction-returns-in_err-second-in-36 t c =
    let inside = c.in_ok-get.ensures.lookup.3.0 in
    let form = sym (c.in_ok-get.ensures.lookup.3.1 0) ∙ c.in-36.is in
    let first = c.in_ok-first-in-36.was in
    let second = c.in_err-second-in-36.was in
    search (block_ways, c.from_residual-in_err-second-in-36.ensures)

pub read_instruction-returns-in_ok-body-in-35-2 : goal.read_instruction-returns-in_ok-body-in-35-2
read_instruction-returns-in_ok-body-in-35-2 t c =
    let inside = c.in_ok-get.ensures.lookup.3.0 in
    let form = sym (c.in_ok-get.ensures.lookup.3.1 0) ∙ c.in-35.is in
    let first = c.in_ok-body-in-35-2.was in
    search block_ways

pub read_instruction-returns-in_ok-second-in-36 : goal.read_instruction-returns-in_ok-second-in-36
read_instruction-returns-in_ok-second-in-36 t c =
    let inside = c.in_ok-get.ensures.lookup.3.0 in
    let form = sym (c.in_ok-get.ensures.lookup.3.1 0) ∙ c.in-36.is in
    let first = c.in_ok-first-in-36.was in
    let second = c.in_ok-second-in-36.was in
    search block_ways

-- `reader::set::set_block` and `set_instr`, which call each other, meet their contracts.
use Rattle.reader.specs.Laws.SetScans.{ways}
use Rattle.reader.proofs.set.+set_block_set_instr.Goals as goal

pub set_instr-returns-in_err-next-in-35 : goal.set_instr-returns-in_err-next-in-35
set_instr-returns-in_err-next-in-35 t c =
    let test = c.in_ok-body-in-35.was in
    let body = c.in_err-next-in-35.was in
    search (ways, c.from_residual-in_err-next-in-35.ensures)

pub set_instr-returns-in_ok-next-in-35 : goal.set_instr-returns-in_ok-next-in-35
set_instr-returns-in_ok-next-in-35 t c =
    let test = c.in_ok-body-in-35.was in
    let body = c.in_ok-next-in-35.was in
    search ways

pub set_instr-returns-in_err-no-in-36 : goal.set_instr-returns-in_err-no-in-36
set_instr-returns-in_err-no-in-36 t c =
    let test = c.in_ok-yes-in-36.was in
    let first = c.in_err-no-in-36.was in
    search (ways, c.from_residual-in_err-no-in-36.ensures)

pub set_instr-returns-in_err-next-in-36 : goal.set_instr-returns-in_err-next-in-36
set_instr-returns-in_err-next-in-36 t c =
    let test = c.in_ok-yes-in-36.was in
    let first = c.in_ok-no-in-36.was in
    let second = c.in_err-next-in-36.was in
    search (ways, c.from_residual-in_err-next-in-36.ensures)

pub set_instr-returns-in_ok-next-in-36 : goal.set_instr-returns-in_ok-next-in-36
set_instr-returns-in_ok-next-in-36 t c =
    let test = c.in_ok-yes-in-36.was in
    let first = c.in_ok-no-in-36.was in
    let second = c.in_ok-next-in-36.was in
    search ways

pub set_block-loop-i-preserved : goal.set_block-loop-i-preserved
set_block-loop-i-preserved t c = let next = c.in_ok-i.was in search ways

pub set_block-returns : goal.set_block-returns
set_block-returns t c = search ways

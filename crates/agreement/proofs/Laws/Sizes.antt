-- A table bounds the procedures in it: each instruction takes two bytes at least. So a procedure of the copy has at most
-- half as many instructions as the copy's table has bytes.
use Rattle.std.specs.Prelude.{ℕ, suc, ◌*◌, ◌≤◌, ◌≡◌, ◌∷◌, ◌++◌, length}
use Rattle.std.proofs.Common.{arith, length-append}
use Rattle.value.specs.Maybe.{is}
use Rattle.value.specs.Lists.{at}
use Rattle.format.specs.Syntax.{Instr, assign, write, read, while, if, call, atomic, select, Block, end, step, Proc, Program}
use Rattle.format.specs.Syntax.{Plain, Kind}
use Rattle.format.specs.Encode.{expr, instr, block, table}
use Rattle.format.proofs.Laws.Procs.{body_in_table}
use Rattle.semantics.specs.Threads.{size, size_i}
use Rattle.agreement.proofs.Laws.Cheap.{expr_vars}

mutual
  -- an instruction has twice its instructions in bytes
  instr_bytes : (i : Instr Plain) → 2 * size_i i ≤ length (instr i)
  instr_bytes (assign x e) = omega arith
  instr_bytes (write y o e) = omega arith
  instr_bytes (read x y o) = omega arith
  instr_bytes (while e b) = omega (arith, length-append (0x23 ∷ expr e) (block b), expr_vars 0 e, block_bytes b)
  instr_bytes (if e b c) =
      omega (
        arith,
        length-append (0x24 ∷ expr e) (block b ++ block c),
        length-append (block b) (block c),
        expr_vars 0 e,
        block_bytes b,
        block_bytes c,
      )
  instr_bytes (call m es) = omega arith
  instr_bytes (atomic b) = omega (arith, block_bytes b)
  instr_bytes (select a b) = omega arith

  -- a block has twice its instructions in bytes, and one more for its end
  pub block_bytes : (b : Block Plain) → suc (2 * size b) ≤ length (block b)
  block_bytes end = omega arith
  block_bytes (step a i b) = omega (arith, length-append (instr i) (block b), instr_bytes i, block_bytes b)

-- a procedure of a program has at most half as many instructions as the table has bytes
pub table_bytes : (k : Kind) (p : Program Plain) (m : ℕ) {q : Proc Plain} → at p.procs m ≡ is q → 2 * size q.body ≤ length (table k p)
table_bytes k p m {q} e = omega (arith, block_bytes q.body, body_in_table k p m e)

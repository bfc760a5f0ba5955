-- The readers of instructions, of blocks and of bodies are exact.
use Rattle.std.specs.Prelude.{ℕ, zero, suc, ◌≤◌, ◌<◌, ◌≡◌, refl, List, [], ◌∷◌, ◌++◌, Bool, true, length, get_or, eqb}
use Rattle.std.proofs.Common.{arith, ◌∙◌, append_assoc, length-append, eqb-true}
use Rattle.value.specs.Maybe.{is, ◌>>=◌}
use Rattle.value.specs.Values.{bytes}
use Rattle.value.proofs.Laws.Lists.{Each}
use Rattle.format.specs.Syntax.{Instr, assign, write, read, while, if, call, atomic, select, Block, end, step, Plain}
use Rattle.format.specs.Encode.{each}
use Rattle.format.specs.Encode as E
use Rattle.format.specs.Decode.{times, expr, max_depth, max_nesting}
use Rattle.format.specs.Decode.{Form, assign_form, write_form, read_form, while_form, if_form, call_form, atomic_form, select_form, no_form, forms}
use Rattle.format.specs.Decode.{formed, instr, row, block}
use Rattle.value.proofs.Laws.Tables.{looked_up}
use Rattle.value.proofs.Laws.Bytes.{Bytes}
use Rattle.format.proofs.Laws.Reading.{If, none, chain, Took, Exact, left, read_as_lem, byte_exact, number_exact, times_exact}
use Rattle.format.proofs.Laws.Depths.{nesting}
use Rattle.format.proofs.Laws.Fits.{ExprFits, InstrFits, BlockFits}
use Rattle.format.proofs.Laws.Exprs.{expr_exact}

-- is this the byte of the form
abbrev pub forms? : ℕ → Form → Bool
forms? m assign_form = eqb m 0x20
forms? m write_form = eqb m 0x21
forms? m read_form = eqb m 0x22
forms? m while_form = eqb m 0x23
forms? m if_form = eqb m 0x24
forms? m call_form = eqb m 0x25
forms? m atomic_form = eqb m 0x26
forms? m select_form = eqb m 0x27
forms? m no_form = true

-- each byte is that of the form in the table
pub form_right : (m : ℕ) → forms? m (get_or forms m no_form) ≡ true
form_right m = looked_up forms? forms no_form (λ n. refl) refl m

-- n expressions at most 16 deep
exprs_exact : (n : ℕ) → Exact (times (expr max_depth) n) (each E.expr) (λ es. (length es ≡ n) × Each (ExprFits max_depth) es)
exprs_exact = times_exact (expr max_depth) E.expr (ExprFits max_depth) (expr_exact max_depth)

-- ---- the first byte of an instruction

-- it is not 00, which ends a block
pub begins : {A : Type 0} (i : Instr A) → (m : ℕ) × (ops : List ℕ) × (E.instr i ≡ suc m ∷ ops)
begins (assign x e) = (0x1f, _, refl)
begins (write y o e) = (0x20, _, refl)
begins (read x y o) = (0x21, _, refl)
begins (while e b) = (0x22, _, refl)
begins (if e b c) = (0x23, _, refl)
begins (call m es) = (0x24, _, refl)
begins (atomic b) = (0x25, _, refl)
begins (select a b) = (0x26, _, refl)

-- how many instructions stand in a row
abbrev steps : Block Plain → ℕ
steps end = 0
steps (step a i b) = suc (steps b)

-- they are fewer than the block's bytes
steps_length : (b : Block Plain) → steps b < length (E.block b)
steps_length end = omega arith
steps_length (step a i b) =
    let first : (m : ℕ) × (ops : List ℕ) × (E.instr i ≡ suc m ∷ ops) = begins i in
    let some : 1 ≤ length (E.instr i) = rw first.2 (omega arith) in
    rw length-append (omega (arith, steps_length b))

-- a block is at least one block
pub nesting_pos : {A : Type 0} (b : Block A) → 1 ≤ nesting b
nesting_pos end = omega arith
nesting_pos (step a i b) = omega arith

-- ---- where the blocks inside are read exactly

module _ (d : ℕ) (inner : Exact (block d) E.block (BlockFits d)) where
  -- an instruction is read back
  instr_undoes : (i : Instr Plain) → InstrFits d i → (rest : List ℕ) → instr (block d) (E.instr i ++ rest) ≡ is (i, rest)
  instr_undoes (assign x e) h rest = rw ((expr_exact max_depth).undoes e h.1.1 rest)
  instr_undoes (write y o e) h rest =
      rw (
        append_assoc (E.expr o) (E.expr e) rest,
        (expr_exact max_depth).undoes o h.1.1 (E.expr e ++ rest),
        (expr_exact max_depth).undoes e h.1.2 rest,
      )
  instr_undoes (read x y o) h rest = rw ((expr_exact max_depth).undoes o h.1.2 rest)
  instr_undoes (while e b) h rest =
      rw (append_assoc (E.expr e) (E.block b) rest, (expr_exact max_depth).undoes e h.1.0 (E.block b ++ rest), inner.undoes b (h.0, h.1.1) rest)
  instr_undoes (if e b c) h rest =
      rw (
        append_assoc (E.expr e) (E.block b ++ E.block c) rest,
        append_assoc (E.block b) (E.block c) rest,
        (expr_exact max_depth).undoes e h.1.0 (E.block b ++ (E.block c ++ rest)),
        inner.undoes b (omega (arith, h.0), h.1.1) (E.block c ++ rest),
        inner.undoes c (omega (arith, h.0), h.1.2) rest,
      )
  instr_undoes (call m es) h rest =
      rw ((number_exact 2).undoes m h.1.0 (length es ∷ (each E.expr es ++ rest)), (exprs_exact (length es)).undoes es (refl, h.1.2) rest)
  instr_undoes (atomic b) h rest = rw (inner.undoes b (h.0, h.1) rest)
  instr_undoes (select a b) h rest = rw ((number_exact 2).undoes a h.1.0 (bytes 2 b ++ rest), (number_exact 2).undoes b h.1.1 rest)

  -- an instruction with a form of this byte
  after_form : (m : ℕ) (bs : List ℕ) → Bytes bs → (k : Form) → forms? m k ≡ true → If (Took E.instr (InstrFits d) (m ∷ bs)) (formed (block d) k bs)
  after_form m bs h assign_form t =
      chain _ (byte_exact.only bs h) λ (x, r) target.
      chain _ ((expr_exact max_depth).only r (left target h)) λ (e, q) source.
      read_as_lem (assign x e) q (rw (eqb-true m 0x20 t, target.same, source.same)) (omega arith, (target.fits, source.fits))
  after_form m bs h write_form t =
      chain _ (byte_exact.only bs h) λ (y, r) target.
      chain _ ((expr_exact max_depth).only r (left target h)) λ (o, q) offset.
      chain _ ((expr_exact max_depth).only q (left offset (left target h))) λ (e, s) source.
      read_as_lem (write y o e) s (rw (eqb-true m 0x21 t, target.same, offset.same, source.same, append_assoc (E.expr o) (E.expr e) s))
      (omega arith, (target.fits, offset.fits, source.fits))
  after_form m bs h read_form t =
      chain _ (byte_exact.only bs h) λ (x, r) target.
      chain _ (byte_exact.only r (left target h)) λ (y, q) source.
      chain _ ((expr_exact max_depth).only q (left source (left target h))) λ (o, s) offset.
      read_as_lem (read x y o) s (rw (eqb-true m 0x22 t, target.same, source.same, offset.same))
      (omega arith, (target.fits, source.fits, offset.fits))
  after_form m bs h while_form t =
      chain _ ((expr_exact max_depth).only bs h) λ (e, r) test.
      chain _ (inner.only r (left test h)) λ (b, q) body.
      read_as_lem (while e b) q (rw (eqb-true m 0x23 t, test.same, body.same, append_assoc (E.expr e) (E.block b) q))
      (body.fits.0, (test.fits, body.fits.1))
  after_form m bs h if_form t =
      chain _ ((expr_exact max_depth).only bs h) λ (e, r) test.
      chain _ (inner.only r (left test h)) λ (b, q) yes.
      chain _ (inner.only q (left yes (left test h))) λ (c, s) no.
      read_as_lem (if e b c) s
      (rw (
        eqb-true m 0x24 t,
        test.same,
        yes.same,
        no.same,
        append_assoc (E.expr e) (E.block b ++ E.block c) s,
        append_assoc (E.block b) (E.block c) s,
      ))
      (omega (arith, yes.fits.0, no.fits.0), (test.fits, yes.fits.1, no.fits.1))
  after_form m bs h call_form t =
      chain _ ((number_exact 2).only bs h) λ (p, r) callee.
      chain _ (byte_exact.only r (left callee h)) λ (n, q) count.
      chain _ ((exprs_exact n).only q (left count (left callee h))) λ (es, s) args.
      read_as_lem (call p es) s
      (rw (eqb-true m 0x25 t, callee.same, count.same, args.same, args.fits.0))
      (omega arith, (callee.fits, rw args.fits.0 count.fits, args.fits.1))
  after_form m bs h atomic_form t =
      chain _ (inner.only bs h) λ (b, r) body.
      read_as_lem (atomic b) r (rw (eqb-true m 0x26 t, body.same)) (body.fits.0, body.fits.1)
  after_form m bs h select_form t =
      chain _ ((number_exact 2).only bs h) λ (a, r) first.
      chain _ ((number_exact 2).only r (left first h)) λ (b, q) second.
      read_as_lem (select a b) q (rw (eqb-true m 0x27 t, first.same, second.same)) (omega arith, (first.fits, second.fits))
  after_form m bs h no_form t = none

  -- the reader of an instruction is exact
  pub instr_exact : Exact (instr (block d)) E.instr (InstrFits d)
  instr_exact = record { undoes = instr_undoes; only = only }
    where
      only : (bs : List ℕ) → Bytes bs → If (Took E.instr (InstrFits d) bs) (instr (block d) bs)
      only [] h = none
      only (m ∷ bs) h = after_form m bs h.1 (get_or forms m no_form) (form_right m)

  -- ---- a row of instructions

  -- a row that begins with the bytes of an instruction begins with that instruction
  row_begins : (f : ℕ) (i : Instr Plain) (bs : List ℕ)
      → row (block d) (suc f) (E.instr i ++ bs)
      ≡ (instr (block d) (E.instr i ++ bs) >>= λ (i, r). row (block d) f r >>= λ (b, q). is (step tt i b, q))
  row_begins f i bs = let first : (m : ℕ) × (ops : List ℕ) × (E.instr i ≡ suc m ∷ ops) = begins i in rw first.2

  -- so is a block
  row_undoes : (f : ℕ) (b : Block Plain) → steps b < f → BlockFits (suc d) b → (rest : List ℕ) → row (block d) f (E.block b ++ rest) ≡ is (b, rest)
  row_undoes zero b h fits rest = absurd (omega arith)
  row_undoes (suc f) end h fits rest = refl
  row_undoes (suc f) (step a i b) h fits rest =
      rw (append_assoc (E.instr i) (E.block b) rest)
      (row_begins f i (E.block b ++ rest)
      ∙ rw (
        instr_undoes i (omega (arith, fits.0), fits.1.0) (E.block b ++ rest),
        row_undoes f b (omega arith) (omega (arith, fits.0), fits.1.1) rest,
      )
      )

  -- and nothing else is read
  row_only : (f : ℕ) (bs : List ℕ) → Bytes bs → If (Took E.block (BlockFits (suc d)) bs) (row (block d) f bs)
  row_only zero bs h = none
  row_only (suc f) [] h = none
  row_only (suc f) (zero ∷ bs) h = read_as_lem end bs refl (omega arith, tt)
  row_only (suc f) (suc m ∷ bs) h =
      chain _ (instr_exact.only (suc m ∷ bs) h) λ (i, r) first.
      chain _ (row_only f r (left first h)) λ (b, q) others.
      read_as_lem (step tt i b) q (first.same ∙ rw (others.same, append_assoc))
      (omega (arith, first.fits.0, others.fits.0), (first.fits.1, others.fits.1))

  -- so are the blocks around them
  around : Exact (block (suc d)) E.block (BlockFits (suc d))
  around = record {
    undoes = λ b h rest. row_undoes (length (E.block b ++ rest)) b (rw length-append (omega (arith, steps_length b))) h rest;
    only = λ bs h. row_only (length bs) bs h;
  }

-- the reader of blocks, d of them one in the other, is exact
pub block_exact : (d : ℕ) → Exact (block d) E.block (BlockFits d)
block_exact zero = record { undoes = λ b h rest. absurd (omega (arith, nesting_pos b, h.0)); only = λ bs h. none }
block_exact (suc d) = around d (block_exact d)

-- the reader of n bodies is exact
pub bodies_exact : (n : ℕ) → Exact (times (block max_nesting) n) (each E.block) (λ bs. (length bs ≡ n) × Each (BlockFits max_nesting) bs)
bodies_exact = times_exact (block max_nesting) E.block (BlockFits max_nesting) (block_exact max_nesting)

-- The reader of expressions is exact.
use Rattle.std.specs.Prelude.{ℕ, zero, suc, ◌^◌, ◌≤◌, ◌<◌, ◌≡◌, refl, List, [], ◌∷◌, ◌++◌, true, false, get_or}
use Rattle.std.proofs.Common.{arith, append_assoc, eqb-true}
use Rattle.std.specs.Int.Signed.{mag}
use Rattle.value.specs.Maybe.{is}
use Rattle.value.specs.Values.{word, unword}
use Rattle.value.specs.declared.Value.TheVariants.{Whole, Location, Truth}
use Rattle.format.specs.Syntax.{Expr, constant, local, one, two}
use Rattle.format.specs.Encode as E
use Rattle.value.specs.Marks.{mark₁, mark₂, Mark, whole_mark, location_mark, no_mark, yes_mark, local_mark, one_mark, two_mark, no_expr, marks}
use Rattle.format.specs.Decode.{marked, expr}
use Rattle.value.proofs.Laws.Marks.{mark₁_marks, mark₂_marks, marks?, mark_right}
use Rattle.value.proofs.Laws.Bytes.{Bytes, word_fits, unword_word, word_unword}
use Rattle.format.proofs.Laws.Reading.{If, none, chain, Took, Exact, left, read_as_lem, byte_exact, number_exact}
use Rattle.format.proofs.Laws.Depths.{depth}
use Rattle.format.proofs.Laws.Fits.{ExprFits}

-- an expression is at least a leaf
pub depth_pos : (e : Expr) → 1 ≤ depth e
depth_pos (constant v) = omega arith
depth_pos (local x) = omega arith
depth_pos (one o a) = omega arith
depth_pos (two o a b) = omega arith

-- ---- the reader undoes the writer

undoes : (d : ℕ) (e : Expr) → ExprFits d e → (rest : List ℕ) → expr d (E.expr e ++ rest) ≡ is (e, rest)
undoes zero e h rest = absurd (omega (arith, depth_pos e))
undoes (suc d) (constant (Whole z)) h rest = rw ((number_exact 4).undoes (word z) (word_fits z h.1) rest, unword_word z h.1)
undoes (suc d) (constant (Location l)) h rest = rw ((number_exact 2).undoes l h.1 rest)
undoes (suc d) (constant (Truth true)) h rest = refl
undoes (suc d) (constant (Truth false)) h rest = refl
undoes (suc d) (local x) h rest = refl
undoes (suc d) (one o a) h rest = rw (mark₁_marks o, undoes d a (omega arith, h.1) rest)
undoes (suc d) (two o a b) h rest =
    rw (
      mark₂_marks o,
      append_assoc (E.expr a) (E.expr b) rest,
      undoes d a (omega arith, h.1.0) (E.expr b ++ rest),
      undoes d b (omega arith, h.1.1) rest,
    )

-- ---- and accepts nothing else

module _ (d : ℕ) (inner : Exact (expr d) E.expr (ExprFits d)) (m : ℕ) (bs : List ℕ) (h : Bytes bs) where
  -- an expression with a mark of this byte
  after_mark : (k : Mark) → marks? m k ≡ true → If (Took E.expr (ExprFits (suc d)) (m ∷ bs)) (marked (expr d) k bs)
  after_mark whole_mark t =
      chain _ ((number_exact 4).only bs h) λ (n, r) got.
      let back : (word (unword n) ≡ n) × (mag (unword n) < 2 ^ 31) = word_unword n got.fits in
      read_as_lem (constant (Whole (unword n))) r (rw (eqb-true m 0x01 t, back.0, got.same)) (omega arith, back.1)
  after_mark location_mark t =
      chain _ ((number_exact 2).only bs h) λ (l, r) got.
      read_as_lem (constant (Location l)) r (rw (eqb-true m 0x02 t, got.same)) (omega arith, got.fits)
  after_mark no_mark t = read_as_lem (constant (Truth false)) bs (rw (eqb-true m 0x03 t)) (omega arith, tt)
  after_mark yes_mark t = read_as_lem (constant (Truth true)) bs (rw (eqb-true m 0x04 t)) (omega arith, tt)
  after_mark local_mark t =
      chain _ (byte_exact.only bs h) λ (x, r) got.
      read_as_lem (local x) r (rw (eqb-true m 0x05 t, got.same)) (omega arith, got.fits)
  after_mark (one_mark o) t =
      chain _ (inner.only bs h) λ (a, r) got.
      read_as_lem (one o a) r (rw (eqb-true m (mark₁ o) t, got.same)) (omega (arith, got.fits.0), got.fits.1)
  after_mark (two_mark o) t =
      chain _ (inner.only bs h) λ (a, r) first.
      chain _ (inner.only r (left first h)) λ (b, q) second.
      read_as_lem (two o a b) q
      (rw (eqb-true m (mark₂ o) t, first.same, second.same, append_assoc (E.expr a) (E.expr b) q))
      (omega (arith, first.fits.0, second.fits.0), (first.fits.1, second.fits.1))
  after_mark no_expr t = none

-- the reader of expressions at most d deep is exact
pub expr_exact : (d : ℕ) → Exact (expr d) E.expr (ExprFits d)
expr_exact d = record { undoes = undoes d; only = only d }
  where
    only : (d : ℕ) (bs : List ℕ) → Bytes bs → If (Took E.expr (ExprFits d) bs) (expr d bs)
    only zero bs h = none
    only (suc d) [] h = none
    only (suc d) (m ∷ bs) h =
        after_mark d (record { undoes = undoes d; only = only d }) m bs h.1 (get_or marks m no_expr) (mark_right m)

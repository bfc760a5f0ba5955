-- What expression stands at a position of a table, by the byte there.
use Rattle.std.specs.Prelude.{ℕ, ◌+◌, ◌-◌, ◌≤◌, ◌<◌, ◌≡◌, refl, List, [], ◌∷◌, ◌++◌, true, false, length, get_or, take, drop}
use Rattle.std.proofs.Common.{arith, sym, ap, subst, ◌∙◌}
use Rattle.value.specs.Values.{One, Two, word, unbytes, unword}
use Rattle.value.specs.Marks.{Mark, whole_mark, location_mark, no_mark, yes_mark, local_mark, one_mark, two_mark, no_expr, marks}
use Rattle.value.specs.declared.Value.TheVariants.{Whole, Location, Truth}
use Rattle.value.proofs.Laws.Lists.{Each}
use Rattle.value.proofs.Laws.Bytes.{unword_word, word_fits}
use Rattle.value.proofs.Laws.Marks.{mark₁_marks, mark₂_marks}
use Rattle.format.specs.Syntax.{Expr, constant, local, one, two}
use Rattle.format.specs.Encode.{each}
use Rattle.format.specs.Encode as E
use Rattle.format.proofs.Laws.Fits.{ExprFits}
use Rattle.format.proofs.Laws.Exprs.{depth_pos}
use Rattle.format.proofs.Laws.Stands.{Stands, first, others, front, back, number_at_lem}
use Rattle.format.specs.Decode.{max_depth}

-- ---- what stands there

-- an expression at most d deep, from i up to j
pub record ExprAt (t : List ℕ) (i d : ℕ) (e : Expr) (j : ℕ) : Type 0 where
  pub stands : Stands t i (E.expr e) j
  pub fits : ExprFits d e

-- n expressions
pub record ExprsAt (t : List ℕ) (i n : ℕ) (es : List Expr) (j : ℕ) : Type 0 where
  pub stands : Stands t i (each E.expr es) j
  pub count : length es ≡ n
  pub fits : Each (ExprFits max_depth) es

-- ---- expressions, by their marks

-- an expression has a byte
pub expr_long : (e : Expr) → 1 ≤ length (E.expr e)
expr_long (constant (Whole z)) = omega arith
expr_long (constant (Location l)) = omega arith
expr_long (constant (Truth true)) = omega arith
expr_long (constant (Truth false)) = omega arith
expr_long (local x) = omega arith
expr_long (one o a) = omega arith
expr_long (two o a b) = omega arith

-- one operand, from the next byte on
pub record OneAt (t : List ℕ) (i d : ℕ) (o : One) (e : Expr) (j : ℕ) : Type 0 where
  pub a : Expr
  pub is : e ≡ one o a
  pub inner : ExprAt t (i + 1) (d - 1) a j

-- two operands, one after the other
pub record TwoAt (t : List ℕ) (i d : ℕ) (o : Two) (e : Expr) (j : ℕ) : Type 0 where
  pub a : Expr
  pub b : Expr
  pub is : e ≡ two o a b
  pub k : ℕ
  pub left : ExprAt t (i + 1) (d - 1) a k
  pub right : ExprAt t k (d - 1) b j

-- what expression stands at i, and up to where, by its mark
abbrev pub ByMark : List ℕ → ℕ → ℕ → Mark → Expr → ℕ → Type 0
ByMark t i d whole_mark e j = (e ≡ constant (Whole (unword (unbytes (take 4 (drop (i + 1) t)))))) × (j ≡ i + 5)
ByMark t i d location_mark e j = (e ≡ constant (Location (unbytes (take 2 (drop (i + 1) t))))) × (j ≡ i + 3)
ByMark t i d no_mark e j = (e ≡ constant (Truth false)) × (j ≡ i + 1)
ByMark t i d yes_mark e j = (e ≡ constant (Truth true)) × (j ≡ i + 1)
ByMark t i d local_mark e j = (e ≡ local (get_or t (i + 1) 0)) × (j ≡ i + 2)
ByMark t i d (one_mark o) e j = OneAt t i d o e j
ByMark t i d (two_mark o) e j = TwoAt t i d o e j
ByMark t i d no_expr e j = ⊥

-- it is that of the mark there
by_mark : {t : List ℕ} {i d : ℕ} (e : Expr) {j : ℕ} → ExprAt t i d e j → ByMark t i d (get_or marks (get_or t i 0) no_expr) e j
by_mark {t} {i} (constant (Whole z)) h =
    let n : unbytes (take 4 (drop (i + 1) t)) ≡ word z = number_at_lem 4 (word z) (others h.stands) (word_fits z h.fits.1) in
    let same : z ≡ unword (unbytes (take 4 (drop (i + 1) t))) = sym (ap unword n ∙ unword_word z h.fits.1) in
    rw (first h.stands) (ap (λ z. constant (Whole z)) same, h.stands.ends)
by_mark {t} {i} (constant (Location l)) h =
    let same : l ≡ unbytes (take 2 (drop (i + 1) t)) = sym (number_at_lem 2 l (others h.stands) h.fits.1) in
    rw (first h.stands) (ap (λ l. constant (Location l)) same, h.stands.ends)
by_mark (constant (Truth false)) h = rw (first h.stands) (refl, h.stands.ends)
by_mark (constant (Truth true)) h = rw (first h.stands) (refl, h.stands.ends)
by_mark (local x) h = rw (first h.stands) (ap local (sym (first (others h.stands))), h.stands.ends)
by_mark (one o a) h =
    rw (first h.stands, mark₁_marks o)
    (record { a = a; is = refl; inner = record { stands = others h.stands; fits = (omega (arith, h.fits.0), h.fits.1) } })
by_mark {t} {i} {d} (two o a b) {j} h =
    let both : Stands t (i + 1) (E.expr a ++ E.expr b) j = others h.stands in
    rw (first h.stands, mark₂_marks o)
    (record {
      a = a;
      b = b;
      is = refl;
      k = i + 1 + length (E.expr a);
      left = record { stands = front (E.expr a) (E.expr b) both; fits = (omega (arith, h.fits.0), h.fits.1.0) };
      right = record { stands = back (E.expr a) (E.expr b) both; fits = (omega (arith, h.fits.0), h.fits.1.1) };
    })

module _ {t : List ℕ} {i d : ℕ} {e : Expr} {j : ℕ} (h : ExprAt t i d e j) where
  -- by the mark of the byte at i
  mark_here : {m : Mark} → get_or marks (get_or t i 0) no_expr ≡ m → ByMark t i d m e j
  mark_here q = subst (λ m. ByMark t i d m e j) q (by_mark e h)

  -- by the byte itself
  byte_here : {b : ℕ} → get_or t i 0 ≡ b → ByMark t i d (get_or marks b no_expr) e j
  byte_here q = mark_here (ap (λ b. get_or marks b no_expr) q)

  -- "01 + 4 bytes: whole number"
  pub whole_here : get_or t i 0 ≡ 0x01 → (e ≡ constant (Whole (unword (unbytes (take 4 (drop (i + 1) t)))))) × (j ≡ i + 5)
  whole_here q = byte_here q

  -- "02 + 2 bytes: location"
  pub location_here : get_or t i 0 ≡ 0x02 → (e ≡ constant (Location (unbytes (take 2 (drop (i + 1) t))))) × (j ≡ i + 3)
  location_here q = byte_here q

  -- "03, 04: false, true"
  pub no_here : get_or t i 0 ≡ 0x03 → (e ≡ constant (Truth false)) × (j ≡ i + 1)
  no_here q = byte_here q

  -- "04: true"
  pub yes_here : get_or t i 0 ≡ 0x04 → (e ≡ constant (Truth true)) × (j ≡ i + 1)
  yes_here q = byte_here q

  -- "05 + 1 byte: local variable"
  pub local_here : get_or t i 0 ≡ 0x05 → (e ≡ local (get_or t (i + 1) 0)) × (j ≡ i + 2)
  local_here q = byte_here q

  -- an operator of one operand
  pub one_here : {o : One} → get_or marks (get_or t i 0) no_expr ≡ one_mark o → OneAt t i d o e j
  one_here q = mark_here q

  -- of two
  pub two_here : {o : Two} → get_or marks (get_or t i 0) no_expr ≡ two_mark o → TwoAt t i d o e j
  two_here q = mark_here q

  -- no expression begins with another byte
  pub none_here : get_or marks (get_or t i 0) no_expr ≡ no_expr → ⊥
  none_here q = mark_here q

  -- it has a byte, and ends in the table
  pub expr_inside : (i < j) × (j ≤ length t)
  expr_inside = (omega (arith, h.stands.ends, expr_long e), h.stands.fits)

  -- and is at least a leaf
  pub expr_deep : 0 < d
  expr_deep = omega (arith, depth_pos e, h.fits.0)

-- ---- expressions one after the other

-- one, and then the others
pub record MoreAt (t : List ℕ) (i n : ℕ) (es : List Expr) (j : ℕ) : Type 0 where
  pub e : Expr
  pub rest : List Expr
  pub is : es ≡ e ∷ rest
  pub k : ℕ
  pub here : ExprAt t i max_depth e k
  pub after : ExprsAt t k (n - 1) rest j

module _ {t : List ℕ} {i n : ℕ} where
  -- no expressions
  pub exprs_none_lem : {es : List Expr} {j : ℕ} → ExprsAt t i n es j → n ≡ 0 → (es ≡ []) × (j ≡ i)
  exprs_none_lem {es = []} h q = (refl, h.stands.ends ∙ omega arith)
  exprs_none_lem {es = e ∷ es} h q = absurd (omega (arith, h.count))

  -- some
  pub exprs_more : {es : List Expr} {j : ℕ} → ExprsAt t i n es j → 0 < n → MoreAt t i n es j
  exprs_more {es = []} h q = absurd (omega (arith, h.count))
  exprs_more {es = e ∷ es} {j} h q = record {
    e = e;
    rest = es;
    is = refl;
    k = _;
    here = record { stands = front (E.expr e) (each E.expr es) h.stands; fits = h.fits.0 };
    after = record { stands = back (E.expr e) (each E.expr es) h.stands; count = omega (arith, h.count); fits = h.fits.1 };
  }

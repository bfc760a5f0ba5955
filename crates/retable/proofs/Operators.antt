-- One law for each way through the parser of expressions with operators.
use Prim.Native.Nat.{ℕ, ◌+◌, ◌-◌}
use native.Mathlib.Omega.{arith}
use mathlib.Core.Path.{◌≡◌, refl, sym, ap, ◌∙◌}
use mathlib.Core.List.{List, [], ◌∷◌}
use Rattle.value.specs.Values.{One, not, neg, Two, add, sub, mul, less, equal, and}
use Rattle.value.specs.Marks.{Mark, whole_mark, location_mark, no_mark, yes_mark, local_mark, one_mark, two_mark, no_expr, mark_of}
use Rattle.basics.specs.Columns.{row_of, operands_of}
use Rattle.format.specs.Syntax.{Expr}
use Rattle.format.specs.Encode.{expr}
use Rattle.ctext.proofs.Laws.ExprText.{key_at, name_length, ExprText, OneIn, TwoIn, moved, expr_deep, one_in, two_in, none_in}
use Rattle.writer.specs.Laws.Put.{Put}
use Rattle.writer.proofs.Puts.{put_then, put_cons, put_same}
use Rattle.retable.specs.Laws.Pieces.{Skips}
use Rattle.retable.specs.Laws.Exprs.{Parses, ParsesLeaf, ParsesExpr}
use Rattle.retable.specs.declared.exprs.Parsed.{Parsed}

-- ---- marks

-- a mark of one operand
one_mark_lem : (k : Mark) → (row_of k).operands ≡ 1 → (o : One) × (k ≡ one_mark o)
one_mark_lem (one_mark o) e = (o, refl)
one_mark_lem (two_mark add) e = absurd (omega (arith, e))
one_mark_lem (two_mark sub) e = absurd (omega (arith, e))
one_mark_lem (two_mark mul) e = absurd (omega (arith, e))
one_mark_lem (two_mark less) e = absurd (omega (arith, e))
one_mark_lem (two_mark equal) e = absurd (omega (arith, e))
one_mark_lem (two_mark and) e = absurd (omega (arith, e))
one_mark_lem whole_mark e = absurd (omega (arith, e))
one_mark_lem location_mark e = absurd (omega (arith, e))
one_mark_lem no_mark e = absurd (omega (arith, e))
one_mark_lem yes_mark e = absurd (omega (arith, e))
one_mark_lem local_mark e = absurd (omega (arith, e))
one_mark_lem no_expr e = absurd (omega (arith, e))

-- another operator's, if it is a mark at all
two_mark_lem : (k : Mark) → ((row_of k).operands ≡ 0 → ⊥) → ((row_of k).operands ≡ 1 → ⊥) → (k ≡ no_expr → ⊥) → (o : Two) × (k ≡ two_mark o)
two_mark_lem (one_mark not) f g n = absurd (g refl)
two_mark_lem (one_mark neg) f g n = absurd (g refl)
two_mark_lem (two_mark o) f g n = (o, refl)
two_mark_lem whole_mark f g n = absurd (f refl)
two_mark_lem location_mark f g n = absurd (f refl)
two_mark_lem no_mark f g n = absurd (f refl)
two_mark_lem yes_mark f g n = absurd (f refl)
two_mark_lem local_mark f g n = absurd (f refl)
two_mark_lem no_expr f g n = absurd (n refl)

-- ---- expressions

-- no depth is left
pub expr_none_lem : {x : List ℕ} {i d : ℕ} {o o' : List ℕ} {p : ℕ} {r : Parsed} → d ≡ 0 → ParsesExpr x i d o p o' r
expr_none_lem z = record { gives = λ n e j h. absurd (omega (arith, expr_deep h)) }

-- a leaf
pub expr_leaf : {x : List ℕ} {i d m k : ℕ} {o o' : List ℕ} {p : ℕ} {r : Parsed} → m ≡ key_at x i → k ≡ operands_of m → k ≡ 0 → ParsesLeaf x i m o p o' r
    → ParsesExpr x i d o p o' r
expr_leaf {d = d} e f z L = record { gives = λ n a j h. L.gives d n a j h (sym e) (sym f ∙ z) }

-- the operand behind a name
operand : {x : List ℕ} {i d m l s : ℕ} {o o' : List ℕ} {q : ℕ} {a : Parsed} → m ≡ key_at x i → l ≡ name_length m → Skips x i l s → ParsesExpr x s d o q o' a
    → (n : ℕ) (b : Expr) (j : ℕ) → ExprText x (i + name_length (key_at x i)) d n b j → Parses (expr b) j o q o' a
operand {x} {i} {d} {m} {l} {s} e c S A n b j h =
    let long : l ≡ name_length (key_at x i) = c ∙ ap name_length e in
    let place : s ≡ i + name_length (key_at x i) = S.to (omega (arith, long, h.stands.ends, h.stands.fits)) ∙ ap (λ l. i + l) long in
    A.gives n b j (moved h (sym place))

module _ {x : List ℕ} {i d m k l s : ℕ} {o o₁ o₂ : List ℕ} {p q : ℕ} {a : Parsed} (e : m ≡ key_at x i) (f : k ≡ operands_of m) (c : l ≡ name_length m)
    (S : Skips x i l s) (P : Put o p (m ∷ []) o₁ q) (A : ParsesExpr x s (d - 1) o₁ q o₂ a) where
  -- one operand
  pub expr_one : {t : ℕ} → k ≡ 1 → Skips x a.next 1 t → ParsesExpr x i d o p o₂ (record { next = t; to = a.to })
  expr_one {t} z T = record { gives = gives }
    where
      mark : (o : One) × (mark_of (key_at x i) ≡ one_mark o)
      mark = one_mark_lem (mark_of (key_at x i)) (sym (ap operands_of e) ∙ sym f ∙ z)

      gives : (n : ℕ) (b : Expr) (j : ℕ) → ExprText x i d n b j → Parses (expr b) j o p o₂ (record { next = t; to = a.to })
      gives n b j h =
          let w : OneIn x i d n b j mark.0 = one_in h mark.1 in
          let inner : Parses (expr w.a) w.k o₁ q o₂ a = operand e c S A _ w.a w.k w.inner in
          let last : t ≡ a.next + 1 = T.to (omega (arith, inner.ends, w.ends, h.stands.fits)) in
          rw w.is (record { puts = put_cons (put_same (ap (λ m. m ∷ []) (e ∙ w.mark)) P) inner.puts; ends = omega (arith, inner.ends, w.ends) })

  -- two
  pub expr_two : {o₃ : List ℕ} {t u : ℕ} {b : Parsed} → (k ≡ 0 → ⊥) → (k ≡ 1 → ⊥) → Skips x a.next 2 t → ParsesExpr x t (d - 1) o₂ a.to o₃ b
      → Skips x b.next 1 u → ParsesExpr x i d o p o₃ (record { next = u; to = b.to })
  expr_two {o₃} {t} {u} {b} n₀ n₁ T B U = record { gives = gives }
    where
      count : k ≡ (row_of (mark_of (key_at x i))).operands
      count = f ∙ ap operands_of e

      gives : (n : ℕ) (v : Expr) (j : ℕ) → ExprText x i d n v j → Parses (expr v) j o p o₃ (record { next = u; to = b.to })
      gives n v j h =
          let mark : (o : Two) × (mark_of (key_at x i) ≡ two_mark o) =
          two_mark_lem (mark_of (key_at x i)) (λ z. n₀ (count ∙ z)) (λ z. n₁ (count ∙ z)) (none_in h)
          in
          let w : TwoIn x i d n v j mark.0 = two_in h mark.1 in
          let left : Parses (expr w.a) w.k o₁ q o₂ a = operand e c S A _ w.a w.k w.left in
          let between : t ≡ w.k + 2 = T.to (omega (arith, left.ends, w.right.stands.ends, w.right.stands.fits)) ∙ ap (λ k. k + 2) left.ends in
          let right : Parses (expr w.b) w.l o₂ a.to o₃ b = B.gives _ w.b w.l (moved w.right (sym between)) in
          let last : u ≡ b.next + 1 = U.to (omega (arith, right.ends, w.ends, h.stands.fits)) in
          rw w.is
          (record {
            puts = put_cons (put_same (ap (λ m. m ∷ []) (e ∙ w.mark)) P) (put_then (expr w.a) (expr w.b) left.puts right.puts);
            ends = omega (arith, right.ends, w.ends);
          })

-- one law for each way
pub ruleset expr_ways = (expr_none_lem, expr_leaf, expr_one, expr_two)

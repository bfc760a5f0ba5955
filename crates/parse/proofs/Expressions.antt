-- One law for each way through the reader of expressions.
use Rattle.std.specs.Prelude.{Option, Some, None}
use Prim.Native.Nat.{ℕ, zero, suc, ◌+◌, ◌-◌, ◌≤◌, ◌<◌}
use native.Mathlib.Omega.{arith}
use mathlib.Core.Path.{◌≡◌, refl, sym, ap, ap₂, ◌∙◌}
use mathlib.Core.List.{List, [], ◌∷◌}
use lib.ListN.{length, get_or, drop, length-drop, drop_of_length-le}
use lib.Seq.{drop-cons}
use lib.Dec.{leb}
use native.Mathlib.Nat.{sub-zero}
use mathlib.Core.Bool.{Bool, true, false}
use borrow.Author.Tests.{le-leb, lt-leb, leb-true, leb-false}
use Rattle.std.specs.Bool.{then_some}
use Rattle.value.proofs.Laws.Tests.{by_test}
use Rattle.value.specs.Maybe.{is, nothing, ◌>>=◌, when, pick}
use Rattle.value.specs.Values.{not, neg, Two, add, sub, mul, less, equal, and}
use Rattle.value.specs.Marks.{Mark, whole_mark, location_mark, no_mark, yes_mark, local_mark, one_mark, two_mark, no_expr, mark_of}
use Rattle.basics.specs.Columns.{row_of}
use Rattle.basics.specs.Columns.{operands_of, payload_of}
use Rattle.format.specs.Syntax.{Expr, local, one, two}
use Rattle.format.specs.Decode.{Read, byte, marked, expr}
use Rattle.parse.specs.Ends.{end_of, ReadsExpr}
use Rattle.format.proofs.Laws.Rests.{expr_leaves}
use Rattle.parse.proofs.Chains.{ends_then, ends_none, ends_made}

-- ---- what the table of marks says

module _ (t : List ℕ) (inner : List ℕ → Read Expr) where
  -- where an expression ends, by its mark's operands and payload
  abbrev end_by : ℕ → ℕ → List ℕ → Option ℕ
  end_by zero n bs = pick (leb n (length bs)) (Some (length t - (length bs - n))) None
  end_by (suc zero) n bs = end_of t (inner bs)
  end_by (suc (suc zero)) n bs = end_of t (inner bs >>= λ (a, r). inner r)
  end_by (suc (suc (suc k))) n bs = None

  -- no mark has another number of operands
  other_ends : (k n : ℕ) (bs : List ℕ) → (k ≡ 0 → ⊥) → (k ≡ 1 → ⊥) → (k ≡ 2 → ⊥) → None ≡ end_by k n bs
  other_ends zero n bs n₀ n₁ n₂ = absurd (n₀ refl)
  other_ends (suc zero) n bs n₀ n₁ n₂ = absurd (n₁ refl)
  other_ends (suc (suc zero)) n bs n₀ n₁ n₂ = absurd (n₂ refl)
  other_ends (suc (suc (suc k))) n bs n₀ n₁ n₂ = refl

  -- a number of k bytes
  number_ends : (k : ℕ) (bs : List ℕ) {A : Type 0} (g : ℕ → A) (b : Bool) (n : ℕ)
      → end_of t (when b (is (n, drop k bs)) >>= λ (n, r). is (g n, r)) ≡ pick b (Some (length t - (length bs - k))) None
  number_ends k bs g true n = rw length-drop
  number_ends k bs g false n = refl

  -- nothing after the mark
  none_ends : (bs : List ℕ) → Some (length t - length bs) ≡ end_by 0 0 bs
  none_ends bs = rw (le-leb 0 (length bs) (omega arith), sub-zero (length bs))

  -- one byte
  byte_ends : (bs : List ℕ) {A : Type 0} (g : ℕ → A) → end_of t (byte bs >>= λ (n, r). is (g n, r)) ≡ end_by 0 1 bs
  byte_ends [] g = refl
  byte_ends (b ∷ bs) g =
      let more : suc (length bs) - 1 ≡ length bs = omega arith in
      rw (le-leb 1 (suc (length bs)) (omega arith), more)

  -- two operands
  two_ends : (bs : List ℕ) (o : Two) → end_of t (marked inner (two_mark o) bs) ≡ end_by 2 0 bs
  two_ends bs o = go (inner bs)
    where
      go : (m : Read Expr) → end_of t (m >>= λ (a, r). inner r >>= λ (b, q). is (two o a b, q)) ≡ end_of t (m >>= λ (a, r). inner r)
      go nothing = refl
      go (is got) = ends_made t (inner got.1) (two o got.0)

  -- every mark ends as its row says
  by_row : (k : Mark) (bs : List ℕ) → end_of t (marked inner k bs) ≡ end_by (row_of k).operands (row_of k).payload bs
  by_row whole_mark bs = number_ends 4 bs _ (leb 4 (length bs)) _
  by_row location_mark bs = number_ends 2 bs _ (leb 2 (length bs)) _
  by_row no_mark bs = none_ends bs
  by_row yes_mark bs = none_ends bs
  by_row local_mark bs = byte_ends bs local
  by_row (one_mark not) bs = ends_made t (inner bs) (one not)
  by_row (one_mark neg) bs = ends_made t (inner bs) (one neg)
  by_row (two_mark add) bs = two_ends bs add
  by_row (two_mark sub) bs = two_ends bs sub
  by_row (two_mark mul) bs = two_ends bs mul
  by_row (two_mark less) bs = two_ends bs less
  by_row (two_mark equal) bs = two_ends bs equal
  by_row (two_mark and) bs = two_ends bs and
  by_row no_expr bs = refl

-- ---- the ways

-- nothing is read past the end
expr_past : (t : List ℕ) (d : ℕ) → None ≡ end_of t (expr d [])
expr_past t zero = refl
expr_past t (suc d) = refl

module _ (t : List ℕ) (i d : ℕ) where
  -- no depth is left
  pub reads_shallow : d ≡ 0 → ReadsExpr t i d None
  reads_shallow e = record { same = rw e }

  -- no bytes are left
  pub reads_past : length t ≤ i → ReadsExpr t i d None
  reads_past l =
      let none : drop i t ≡ [] = drop_of_length-le t {i = i} l in
      record { same = rw none (expr_past t d) }

  module _ (deep : d ≡ 0 → ⊥) (inside : i < length t) where
    -- by the mark at i
    by_mark : (k : ℕ) → k ≡ operands_of (get_or t i 0) → {r : Option ℕ} → r ≡ end_by t (expr (d - 1)) k (payload_of (get_or t i 0)) (drop (i + 1) t)
        → ReadsExpr t i d r
    by_mark k e {r} h =
        let some : d ≡ suc (d - 1) = omega arith in
        let next : i + 1 ≡ suc i = omega arith in
        let cons : drop i t ≡ get_or t i 0 ∷ drop (i + 1) t = drop-cons t i 0 inside ∙ rw next in
        let same : end_of t (expr (suc (d - 1)) (get_or t i 0 ∷ drop (i + 1) t)) ≡ r =
        by_row t (expr (d - 1)) (mark_of (get_or t i 0)) (drop (i + 1) t)
        ∙ ap (λ k. end_by t (expr (d - 1)) k (payload_of (get_or t i 0)) (drop (i + 1) t)) (sym e) ∙ sym h
        in
        record { same = sym (ap₂ (λ d bs. end_of t (expr d bs)) some cons ∙ same) }

    -- a leaf, if its number is not cut off
    pub reads_leaf : {k n : ℕ} → k ≡ operands_of (get_or t i 0) → k ≡ 0 → n ≡ payload_of (get_or t i 0)
        → ReadsExpr t i d (then_some (leb (i + 1 + n) (length t)) (i + 1 + n))
    reads_leaf {k} {n} e z p = by_test (leb (i + 1 + n) (length t))
        (λ y.
        let l : i + 1 + n ≤ length t = leb-true (i + 1 + n) (length t) y in
        rw y
        (by_mark k e
        (rw (z, ← p, length-drop, le-leb n (length t - (i + 1)) (omega arith))
        (ap Some (omega arith)))))
        (λ y.
        let l : length t < i + 1 + n = leb-false (i + 1 + n) (length t) y in
        rw y
        (by_mark k e (rw (z, ← p, length-drop, lt-leb n (length t - (i + 1)) (omega arith)))))

    -- one operand
    pub reads_one : {k : ℕ} {r : Option ℕ} → k ≡ operands_of (get_or t i 0) → k ≡ 1 → ReadsExpr t (i + 1) (d - 1) r → ReadsExpr t i d r
    reads_one {k} e z R = by_mark k e (rw z R.same)

    -- two, and the first is none
    pub reads_cut : {k : ℕ} {f : Option ℕ} → k ≡ operands_of (get_or t i 0) → k ≡ 2 → f ≡ None → ReadsExpr t (i + 1) (d - 1) f → ReadsExpr t i d None
    reads_cut {k} e z q F = by_mark k e (rw z (ends_none t (expr (d - 1) (drop (i + 1) t)) _ (sym q ∙ F.same)))

    -- two
    pub reads_two : {k j : ℕ} {f r : Option ℕ} → k ≡ operands_of (get_or t i 0) → k ≡ 2 → f ≡ Some j → ReadsExpr t (i + 1) (d - 1) f → ReadsExpr t j (d - 1) r
        → ReadsExpr t i d r
    reads_two {k} e z q F R =
        by_mark k e
        (rw z (ends_then t (i + 1) (expr (d - 1) (drop (i + 1) t)) _ (expr_leaves (d - 1) (drop (i + 1) t)) (sym q ∙ F.same) (λ a. R.same)))

    -- no mark
    pub reads_no_mark : {k : ℕ} → k ≡ operands_of (get_or t i 0) → (k ≡ 0 → ⊥) → (k ≡ 1 → ⊥) → (k ≡ 2 → ⊥) → ReadsExpr t i d None
    reads_no_mark {k} e n₀ n₁ n₂ = by_mark k e (other_ends t (expr (d - 1)) k (payload_of (get_or t i 0)) (drop (i + 1) t) n₀ n₁ n₂)

-- one law for each way
pub ruleset expr_ways = (reads_shallow, reads_past, reads_leaf, reads_one, reads_cut, reads_two, reads_no_mark)

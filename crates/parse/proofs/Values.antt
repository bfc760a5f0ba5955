-- One law for each way through the reader of several expressions.
use Rattle.std.specs.Prelude.{Option, Some, None}
use Prim.Native.Nat.{ℕ, suc, ◌+◌, ◌-◌, ◌≤◌, ◌<◌}
use native.Mathlib.Omega.{arith}
use mathlib.Core.Path.{◌≡◌, sym, ap, ◌∙◌}
use mathlib.Core.List.{List, ◌∷◌}
use lib.ListN.{length, drop, length-drop}
use borrow.Author.Tests.{le-leb, lt-leb}
use Rattle.format.specs.Decode.{times, expr, max_depth}
use Rattle.parse.specs.Ends.{end_of, ReadsExpr, ReadsValues}
use Rattle.format.proofs.Laws.Rests.{expr_leaves}
use Rattle.parse.proofs.Chains.{ends_then, ends_none, ends_made, end_inside}

-- n of them, of which the first ends at k: then the others stand from there on
next_value : (t : List ℕ) (i n k : ℕ) {r : Option ℕ} → i ≤ length t → Some k ≡ end_of t (expr max_depth (drop i t)) → ReadsValues t k n r
    → ReadsValues t i (suc n) r
next_value t i n k l e R =
    let here : k ≤ length t = end_inside t (expr max_depth (drop i t)) e in
    record {
      same =
          rw (le-leb i (length t) l)
          (ends_then t i (expr max_depth (drop i t)) _ (expr_leaves max_depth (drop i t)) e
          (λ a. rw (ends_made t (times (expr max_depth) n (drop k t)) (a ∷◌)) (rw (le-leb k (length t) here) at R.same)));
    }

-- or the first is none
no_value : (t : List ℕ) (i n : ℕ) → None ≡ end_of t (expr max_depth (drop i t)) → i ≤ length t → ReadsValues t i (suc n) None
no_value t i n e l = record { same = rw (le-leb i (length t) l) (ends_none t (expr max_depth (drop i t)) _ e) }

-- c of them end at k: whatever is read from there on, the others, is read from i on, n of them
pub record ValuesFrom (t : List ℕ) (i n k c : ℕ) : Type 0 where
  pub back : (r : Option ℕ) → ReadsValues t k (n - c) r → ReadsValues t i n r
  pub inside : k ≤ length t

module _ (t : List ℕ) (i n : ℕ) where
  -- past the end
  pub values_past : length t < i → ReadsValues t i n None
  values_past l = record { same = rw (lt-leb i (length t) l) }

  -- none is read yet
  pub values_start : i ≤ length t → ValuesFrom t i n i 0
  values_start l = let all : n - 0 ≡ n = omega arith in record { back = λ r R. rw all at R; inside = l }

  module _ {k c : ℕ} (F : ValuesFrom t i n k c) where
    -- one more
    pub values_next : {l : ℕ} {f : Option ℕ} → c < n → f ≡ Some l → ReadsExpr t k max_depth f → ValuesFrom t i n l (c + 1)
    values_next {l} some e R =
        let one : suc (n - (c + 1)) ≡ n - c = omega arith in
        let ends : Some l ≡ end_of t (expr max_depth (drop k t)) = sym e ∙ R.same in
        record {
          back = λ r S. F.back r (rw one at (next_value t k (n - (c + 1)) l F.inside ends S));
          inside = end_inside t (expr max_depth (drop k t)) ends;
        }

    -- the next is none
    pub values_cut : {f : Option ℕ} → c < n → f ≡ None → ReadsExpr t k max_depth f → ReadsValues t i n None
    values_cut some e R =
        let one : suc (n - (c + 1)) ≡ n - c = omega arith in
        F.back None (rw one at (no_value t k (n - (c + 1)) (sym e ∙ R.same) F.inside))

    -- no more
    pub values_end : n ≤ c → ReadsValues t i n (Some k)
    values_end z =
        let zero : n - c ≡ 0 = omega arith in
        let same : k ≡ length t - length (drop k t) = rw length-drop (omega (arith, F.inside)) in
        F.back (Some k) (record { same = rw (le-leb k (length t) F.inside, zero) (ap Some same) })

-- one law for each way
pub ruleset values_ways = (values_past, values_start, values_next, values_cut, values_end)

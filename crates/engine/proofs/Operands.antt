-- One law for each way through an operator of the evaluator: an operand that has no value, or of the wrong kind, or both at hand.
use Prim.Native.Nat.{ℕ}
use mathlib.Core.Path.{◌≡◌, refl, sym, ap, ◌∙◌}
use mathlib.Core.List.{[], ◌∷◌}
use mathlib.Core.Bool as B
use mathlib.Core.Bool.{Bool, true, false}
use Rattle.std.specs.Prelude.{Result, Ok, Err}
use lib.Dec.{eqb}
use borrow.Author.Tests.{eqb-true}
use types.Run.{OneOf, miss}
use denote.Enum.Declared.{tag_of}
use Rattle.value.specs.contracts.Value.{the_type}
use Rattle.value.proofs.Laws.Tests.{by_test}
use Rattle.value.specs.Maybe.{pick, both}
use Rattle.value.specs.Try.{Try, has, lacks, ◌⟫◌, provided}
use Rattle.value.specs.Values.{add, sub, mul, less, equal, and, apply₂, given}
use Rattle.value.specs.Marks.{Mark, whole_mark, location_mark, no_mark, yes_mark, local_mark, one_mark, two_mark, no_expr, mark_of}
use Rattle.basics.specs.Columns.{applied₂}
use Rattle.value.specs.Marks.{mark₂, marks, of_kind}
use Rattle.basics.specs.Columns.{row_of, operands_of, takes_of}
use Rattle.basics.specs.Laws.Columns.{Says, row_says}
use Rattle.value.proofs.Laws.Tables.{looked_up}
use Rattle.value.specs.declared.Value.{Value}
use Rattle.value.specs.declared.Value.TheVariants.{Whole, Location, Truth}
use Rattle.value.specs.declared.Reason.{Reason}
use Rattle.value.specs.declared.Reason.TheVariants.{WrongKind}
use Rattle.engine.specs.Evaluated.{decided_at, operated₂, right_judged}

-- no truth value
untrue : (v : Value) → OneOf (0 ∷ 1 ∷ []) (tag_of the_type v) → of_kind 3 v ≡ false
untrue (Whole a) h = refl
untrue (Location a) h = refl
untrue (Truth a) h = absurd (miss (0 ∷ 1 ∷ []) 2 tt h)

-- only and is decided by its left operand alone
undecided : (k : Mark) (u : Value) → ((row_of k).takes ≡ 3 → ⊥) → decided_at k u ≡ false
undecided (two_mark and) u n = absurd (n refl)
undecided (two_mark add) u n = refl
undecided (two_mark sub) u n = refl
undecided (two_mark mul) u n = refl
undecided (two_mark less) u n = refl
undecided (two_mark equal) u n = refl
undecided (one_mark o) u n = refl
undecided whole_mark u n = refl
undecided location_mark u n = refl
undecided no_mark u n = refl
undecided yes_mark u n = refl
undecided local_mark u n = refl
undecided no_expr u n = refl

module _ (m : ℕ) where
  -- what the table says: an operand of the wrong kind gives the reason 2
  unsuited : (u v : Value) → both (of_kind (takes_of m) u) (of_kind (takes_of m) v) ≡ false → lacks WrongKind ≡ applied₂ (mark_of m) u v
  unsuited u v e = go (mark_of m) (row_says m) e
    where
      go : (k : Mark) → Says k (row_of k) → both (of_kind (row_of k).takes u) (of_kind (row_of k).takes v) ≡ false → lacks WrongKind ≡ applied₂ k u v
      go (two_mark o) s e = sym (s.wrong u v e)
      go (one_mark o) s e = refl
      go whole_mark s e = refl
      go location_mark s e = refl
      go no_mark s e = refl
      go yes_mark s e = refl
      go local_mark s e = refl
      go no_expr s e = refl

  -- ---- two answers

  module _ (l r : Result Value Reason) where
    -- the left one is at hand, and the right one has no value
    pub none_right : {u : Value} {k : ℕ} {q : Reason} {x y : Result Value Reason} → k ≡ takes_of m → (k ≡ 3 → ⊥) → l ≡ Ok u
        → x ≡ right_judged k u r → x ≡ Err q → y ≡ Err q → given y ≡ operated₂ m (given l) (given r)
    unfolding operated₂
    none_right {u} {k} {q} {x} e n f g h z = rw f (ap given (z ∙ sym h ∙ g) ∙ rw e (go r (sym g ∙ h)))
      where
        go : (r : Result Value Reason) → right_judged k u r ≡ Err q → given (right_judged (takes_of m) u r)
            ≡ (provided (of_kind (takes_of m) u) WrongKind u ⟫ λ u. pick (decided_at (mark_of m) u) (has (Truth false)) (given r ⟫ λ v. applied₂ (mark_of m) u v))
        go (Ok v) w = cc
        go (Err p) w = by_test (of_kind (takes_of m) u) (λ t. rw (t, undecided (mark_of m) u (λ q. n (e ∙ q)))) (λ t. rw t)

    -- both are at hand: an operand of the wrong kind gives 2, whichever it is
    pub at_hand : {u v : Value} {k : ℕ} {x : Try Value} → k ≡ takes_of m → (k ≡ 3 → ⊥) → l ≡ Ok u → r ≡ Ok v → x ≡ applied₂ (mark_of m) u v
        → x ≡ operated₂ m (given l) (given r)
    unfolding operated₂
    at_hand {u} {v} z n e f g = rw (e, f) (by_test (of_kind (takes_of m) u)
        (λ t. g ∙ rw (t, undecided (mark_of m) u (λ q. n (z ∙ q))))
        (λ t. g ∙ sym (unsuited u v (rw t)) ∙ rw t))

-- a right operand that is judged to have a value has it
pub right_kept : (k : ℕ) (u : Value) (r : Result Value Reason) {v : Value} {x : Result Value Reason} → x ≡ right_judged k u r → x ≡ Ok v → r ≡ Ok v
right_kept k u r {v} g h = go r (sym g ∙ h)
  where
    none : {p : Reason} (b : Bool) → pick b (Err p) (Err WrongKind) ≡ Ok v → Err p ≡ Ok v
    none true e = e
    none false e = cc

    go : (r : Result Value Reason) → right_judged k u r ≡ Ok v → r ≡ Ok v
    go (Ok w) e = e
    go (Err p) e = none (of_kind k u) e

-- ---- and: the left operand is at hand

module _ (r : Result Value Reason) (u : Value) where
  -- it is no truth value
  pub and_other : OneOf (0 ∷ 1 ∷ []) (tag_of the_type u) → lacks WrongKind ≡ operated₂ (mark₂ and) (has u) (given r)
  unfolding operated₂
  and_other h = rw (untrue u h)

  -- it is false
  pub and_false : {a : Bool} → u ≡ Truth a → B.not a ≡ true → has (Truth false) ≡ operated₂ (mark₂ and) (has u) (given r)
  unfolding operated₂
  and_false e q = rw (e, q)

  -- it is true, and the right one has no value
  pub and_none : {a : Bool} {p : Reason} {y : Result Value Reason} → u ≡ Truth a → B.not a ≡ false → r ≡ Err p → y ≡ Err p
      → given y ≡ operated₂ (mark₂ and) (has u) (given r)
  unfolding operated₂
  and_none e q h z = rw (e, q, h, z)

  -- or has one
  pub and_both : {a : Bool} {v : Value} {x : Try Value} → u ≡ Truth a → B.not a ≡ false → r ≡ Ok v → x ≡ apply₂ and (Truth a) v
      → x ≡ operated₂ (mark₂ and) (has u) (given r)
  unfolding operated₂
  and_both e q f g = rw (e, q, f) g

-- ---- the operator of a mark, by the kind of its operands

-- of two operands: for truth values it is and
abbrev by_kind? : ℕ → Mark → Bool
by_kind? m k = pick (both (eqb (row_of k).operands 2) (eqb (row_of k).takes 3)) (eqb m (mark₂ and)) true

-- so it is in the table
by_kind : (m : ℕ) → by_kind? m (mark_of m) ≡ true
by_kind m = looked_up by_kind? marks no_expr (λ n. refl) refl m

-- truth values
pub by_truths : (m : ℕ) (l r : Result Value Reason) {u : Value} {k : ℕ} {x : Try Value} → operands_of m ≡ 2 → k ≡ takes_of m → l ≡ Ok u
    → k ≡ 3 → x ≡ operated₂ (mark₂ and) (has u) (given r) → x ≡ operated₂ m (given l) (given r)
by_truths m l r n t e q g = rw (e, eqb-true m (mark₂ and) (rw (n, sym t ∙ q) at (by_kind m))) g

-- one law for each way
pub ruleset ways = (none_right, at_hand, and_other, and_false, and_none, and_both, by_truths)

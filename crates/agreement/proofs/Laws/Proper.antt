-- Proper values: a location is one of the program's, below h. Rule 5 sees to it that no other comes up.
use Rattle.std.specs.Prelude.{ℕ, zero, suc, ◌<◌, ◌^◌, ◌≡◌, List, [], ◌∷◌, Bool, true, false, length, ℤ, neg_ℤ, ◌+ℤ◌, ◌-ℤ◌, ◌*ℤ◌, ltb}
use Rattle.std.proofs.Math.Decide.{ℕ_discrete}
use Rattle.std.proofs.Common.{sym, ◌∙◌, get_or-set_same, get_or-set_other, ltb-true}
use Rattle.std.specs.Int.Signed.{mag, lt_z}
use Rattle.value.specs.Maybe.{is, nothing}
use Rattle.value.specs.Try.{Try, has, ◌⟫◌}
use Rattle.value.specs.Lists.{all, at}
use Rattle.value.specs.Values.{One, not, neg, Two, add, sub, mul, less, equal, and, whole, wholes, same, truths, apply₁, apply₂}
use Rattle.value.specs.declared.Value.{Value}
use Rattle.value.specs.declared.Value.TheVariants.{Whole, Location, Truth}
use Rattle.value.specs.declared.Reason.TheVariants.{OutOfRange, WrongKind}
use Rattle.value.specs.Marks.{judged, decided}
use Rattle.value.proofs.Laws.Maybes.{is_inj, missing}
use Rattle.value.proofs.Laws.Tries.{has_inj, lacking, chain_has, provided_has, or_lacks_has}
use Rattle.value.proofs.Laws.Tests.{both_passed, by_test}
use Rattle.format.specs.Syntax.{Expr, constant, local, one, two}
use Rattle.format.specs.Rules.{in_expr}
use Rattle.semantics.specs.Memory.{Env, lookup, bound, eval, evals, Memory, cell, stored}
use Rattle.value.specs.Values.{place}
use Rattle.semantics.proofs.Laws.Cells.{cell_stored, cell_elsewhere, cell_beside}
use Rattle.agreement.proofs.Laws.Accesses.{pointed}

-- a value is proper if it is no location of the copy's own
abbrev pub Proper : ℕ → Value → Type 0
Proper h (Whole z) = Unit {0}
Proper h (Location l) = l < h
Proper h (Truth b) = Unit {0}

-- all locals that are set are proper
abbrev pub ProperEnv : ℕ → Env → Type 0
ProperEnv h ρ = (x : ℕ) (v : Value) → lookup ρ x ≡ is v → Proper h v

-- all cells are proper
abbrev pub ProperMemory : ℕ → Memory → Type 0
ProperMemory h η = (l i : ℕ) (v : Value) → cell η l i ≡ has v → Proper h v

module _ (h : ℕ) where
  -- a location that a proper value names
  pub place_proper : (v : Value) (a : ℕ) → Proper h v → place v ≡ has a → a < h
  place_proper (Whole z) a p e = lacking e
  place_proper (Location l) a p e = let q : l ≡ a = has_inj e in rw (← q) p
  place_proper (Truth b) a p e = lacking e

  -- a location in a local is the program's
  pub pointed_proper : (ρ : Env) (y a : ℕ) → ProperEnv h ρ → pointed ρ y ≡ has a → a < h
  pointed_proper ρ y a p e =
      let b = chain_has (eval ρ (local y)) place e in place_proper b.0 a (p y b.0 (or_lacks_has WrongKind (lookup ρ y) b.1)) b.2

  -- a whole number
  whole_proper : (z : ℤ) (v : Value) → whole z ≡ has v → Proper h v
  whole_proper z v e = rw (← (provided_has (ltb (mag z) (2 ^ 31)) OutOfRange (Whole z) e).1) tt

  -- what whole numbers give
  wholes_proper : (f : ℤ → ℤ → Try Value) → ((a b : ℤ) (v : Value) → f a b ≡ has v → Proper h v) → (u w v : Value) → wholes f u w ≡ has v → Proper h v
  wholes_proper f g (Whole a) (Whole b) v e = g a b v e
  wholes_proper f g (Whole a) (Location l) v e = lacking e
  wholes_proper f g (Whole a) (Truth t) v e = lacking e
  wholes_proper f g (Location l) w v e = lacking e
  wholes_proper f g (Truth t) w v e = lacking e

  -- a truth value
  truth_proper : (b : Bool) (v : Value) → has (Truth b) ≡ has v → Proper h v
  truth_proper b v e = rw (← has_inj e) tt

  -- what a comparison gives
  same_proper : (u w v : Value) → same u w ≡ has v → Proper h v
  same_proper (Whole a) (Whole b) v e = truth_proper _ v e
  same_proper (Whole a) (Location l) v e = lacking e
  same_proper (Whole a) (Truth t) v e = lacking e
  same_proper (Location a) (Location b) v e = truth_proper _ v e
  same_proper (Location a) (Whole z) v e = lacking e
  same_proper (Location a) (Truth t) v e = lacking e
  same_proper (Truth a) (Truth b) v e = truth_proper _ v e
  same_proper (Truth a) (Whole z) v e = lacking e
  same_proper (Truth a) (Location l) v e = lacking e

  -- what "and" gives
  truths_proper : (u w v : Value) → truths u w ≡ has v → Proper h v
  truths_proper (Truth a) (Truth b) v e = truth_proper _ v e
  truths_proper (Truth a) (Whole z) v e = lacking e
  truths_proper (Truth a) (Location l) v e = lacking e
  truths_proper (Whole z) w v e = lacking e
  truths_proper (Location l) w v e = lacking e

  -- what an operator gives of proper values
  apply₂_proper : (o : Two) (u w v : Value) → apply₂ o u w ≡ has v → Proper h v
  apply₂_proper add u w v e = wholes_proper (λ a b. whole (a +ℤ b)) (λ a b v e. whole_proper (a +ℤ b) v e) u w v e
  apply₂_proper sub u w v e = wholes_proper (λ a b. whole (a -ℤ b)) (λ a b v e. whole_proper (a -ℤ b) v e) u w v e
  apply₂_proper mul u w v e = wholes_proper (λ a b. whole (a *ℤ b)) (λ a b v e. whole_proper (a *ℤ b) v e) u w v e
  apply₂_proper less u w v e = wholes_proper (λ a b. has (Truth (lt_z a b))) (λ a b v e. truth_proper (lt_z a b) v e) u w v e
  apply₂_proper equal u w v e = same_proper u w v e
  apply₂_proper and u w v e = truths_proper u w v e

  -- and of one
  apply₁_proper : (o : One) (u v : Value) → apply₁ o u ≡ has v → Proper h v
  apply₁_proper not (Truth b) v e = truth_proper _ v e
  apply₁_proper not (Whole z) v e = lacking e
  apply₁_proper not (Location l) v e = lacking e
  apply₁_proper neg (Whole z) v e = whole_proper (neg_ℤ z) v e
  apply₁_proper neg (Location l) v e = lacking e
  apply₁_proper neg (Truth b) v e = lacking e

  -- an expression that rule 5 lets pass has proper values
  pub eval_proper : (X : ℕ) (ρ : Env) (e : Expr) (v : Value) → in_expr X h e ≡ true → ProperEnv h ρ → eval ρ e ≡ has v → Proper h v
  eval_proper X ρ (constant (Whole z)) v n p e = rw (← has_inj e) tt
  eval_proper X ρ (constant (Location l)) v n p e = rw (← has_inj e) (ltb-true l h n)
  eval_proper X ρ (constant (Truth b)) v n p e = rw (← has_inj e) tt
  eval_proper X ρ (local x) v n p e = p x v (or_lacks_has WrongKind (lookup ρ x) e)
  eval_proper X ρ (one o a) v n p e = let b = chain_has (eval ρ a) (apply₁ o) e in apply₁_proper o b.0 v b.2
  eval_proper X ρ (two o a b) v n p e =
      let c = chain_has (eval ρ a ⟫ judged o) _ e in
      by_test (decided o c.0) (λ q. truth_proper false v (rw q at c.2))
      (λ q. let d = chain_has (eval ρ b) _ (rw q at c.2) in apply₂_proper o c.0 d.0 v d.2)

  -- a local set to a proper value
  pub bound_proper : (ρ : Env) (x : ℕ) (v : Value) → x < length ρ → Proper h v → ProperEnv h ρ → ProperEnv h (bound ρ x v)
  bound_proper ρ x v below pv p y w e = elim (ℕ_discrete y x) [
    | yes q ↦ let f : is v ≡ is w = sym (get_or-set_same ρ x (is v) nothing below) ∙ (rw q at e) in rw (← is_inj f) pv
    | no ne ↦ p y w (sym (get_or-set_other ρ x y (is v) nothing ne) ∙ e)
  ]

  -- a proper value stored
  pub stored_proper : (η : Memory) (l i : ℕ) (v : Value) {u : Value} → cell η l i ≡ has u → Proper h v → ProperMemory h η
      → ProperMemory h (stored η l i v)
  stored_proper η l i v old pv p k j w e = elim (ℕ_discrete k l) [
    | no ne ↦ p k j w (sym (cell_elsewhere η l i v k j ne) ∙ e)
    | yes q ↦ elim (ℕ_discrete j i) [
      | no ne ↦ p l j w (sym (cell_beside η l i v j ne) ∙ (rw q at e))
      | yes r ↦ let f : has v ≡ has w = sym (cell_stored η l i v old) ∙ (rw (q, r) at e) in rw (← has_inj f) pv
    ]
  ]

  -- the values of several expressions
  pub evals_proper : (X : ℕ) (ρ : Env) (es : List Expr) (vs : List Value) → all (in_expr X h) es ≡ true → ProperEnv h ρ → evals ρ es ≡ has vs
      → (i : ℕ) (v : Value) → at vs i ≡ is v → Proper h v
  evals_proper X ρ [] vs n p e i v q = let s : [] ≡ vs = has_inj e in missing (rw (← s) at q)
  evals_proper X ρ (e ∷ es) vs n p q i v r =
      let a = chain_has (eval ρ e) _ q in
      let b = chain_has (evals ρ es) _ a.2 in
      let s : a.0 ∷ b.0 ≡ vs = has_inj b.2 in
      let m = both_passed (in_expr X h e) (all (in_expr X h) es) n in
      at_either a.0 b.0 (eval_proper X ρ e a.0 m.0 p a.1) (evals_proper X ρ es b.0 m.1 p b.1) i v (rw (← s) at r)
    where
      at_either : (u : Value) (us : List Value) → Proper h u → ((i : ℕ) (v : Value) → at us i ≡ is v → Proper h v) → (i : ℕ) (v : Value)
          → at (u ∷ us) i ≡ is v → Proper h v
      at_either u us p q zero v e = rw (← is_inj e) p
      at_either u us p q (suc i) v e = q i v e

-- The rounds find the heaviest path of calls that ends at a procedure. So as many rounds as there are procedures are enough where
-- no procedure can reach itself.
use Prim.Native.Nat.{ℕ, zero, suc, ◌+◌, ◌≤◌, ◌<◌}
use native.Mathlib.Omega.{arith}
use Rattle.std.specs.Prelude.{◌≡◌, length}
use Rattle.std.proofs.Math.Path.{refl, sym}
use mathlib.Core.List.{List, [], ◌∷◌}
use Rattle.value.proofs.Laws.Lists.{In, here, there, Each}
use Rattle.format.specs.Syntax.{Proc}
use Rattle.format.proofs.Laws.Calls.{Calls, Reaches, direct, onward, calls_below, Distinct, distinct_below}
use Rattle.translation.specs.Placement.{locals_at, largest, callers, by_rounds, shared}
use Rattle.translation.proofs.Laws.Placing.Largest.{largest_above, largest_is, calls_caller, caller_calls, not_member}

module _ {A : Type 0} (ps : List (Proc A)) where
  -- a path of calls that ends at m, backwards: m is called by the first, which is called by the second, ..
  abbrev pub Path : ℕ → List ℕ → Type 0
  Path m [] = Unit {0}
  Path m (q ∷ qs) = Calls ps q m × Path q qs

  -- the locals of all procedures of a list
  abbrev pub weight : List ℕ → ℕ
  weight [] = 0
  weight (q ∷ qs) = locals_at ps q + weight qs

  -- ---- k rounds find the heaviest path of at most k calls

  -- none is heavier
  pub rounds_above : (k m : ℕ) (qs : List ℕ) → Path m qs → length qs ≤ k → weight qs ≤ by_rounds ps k m
  unfolding by_rounds
  rounds_above k m [] w h = omega arith
  rounds_above zero m (q ∷ qs) w h = absurd (omega arith)
  rounds_above (suc k) m (q ∷ qs) w h =
      let r : weight qs ≤ by_rounds ps k q = rounds_above k q qs w.1 (omega arith) in
      omega (arith, largest_above (λ q. by_rounds ps k q + locals_at ps q) (callers ps m) (calls_caller ps q m w.0))

  -- the heaviest
  pub record Heaviest (k m : ℕ) : Type 0 where
    pub path : List ℕ
    pub goes : Path m path
    pub short : length path ≤ k
    pub sum : weight path ≡ by_rounds ps k m

  -- there is one of that weight
  pub rounds_path : (k m : ℕ) → Heaviest k m
  unfolding by_rounds
  rounds_path zero m = record { path = []; goes = tt; short = omega arith; sum = refl }
  rounds_path (suc k) m =
      largest_is (λ q. by_rounds ps k q + locals_at ps q) (callers ps m)
      (λ z. record { path = []; goes = tt; short = omega arith; sum = sym z })
      (λ q i e.
      let r : Heaviest k q = rounds_path k q in
      record { path = q ∷ r.path; goes = (caller_calls ps q m i, r.goes); short = omega (arith, r.short); sum = omega (arith, r.sum, e) })

  -- ---- paths without cycles are short

  -- one call more at the end
  reach_on : {a b m : ℕ} → Reaches ps a b → Calls ps b m → Reaches ps a m
  reach_on (direct h) l = onward h (direct l)
  reach_on (onward h r) l = onward h (reach_on r l)

  -- each procedure of a path reaches its end
  pub path_reaches : (m : ℕ) (qs : List ℕ) → Path m qs → {q : ℕ} → In q qs → Reaches ps q m
  path_reaches m (q ∷ qs) w here = direct w.0
  path_reaches m (c ∷ qs) w (there i) = reach_on (path_reaches c qs w.1 i) w.0
  path_reaches m [] w {q = q} x'' = elim x'' [ ]

  -- all are procedures
  pub path_below : (m : ℕ) (qs : List ℕ) → Path m qs → Each (λ q. q < length ps) qs
  path_below m [] w = tt
  path_below m (q ∷ qs) w = (calls_below ps q m w.0, path_below q qs w.1)

  module _ (rule : (m : ℕ) → Reaches ps m m → ⊥) where
    -- none stands twice
    pub path_distinct : (m : ℕ) (qs : List ℕ) → Path m qs → Distinct (m ∷ qs)
    path_distinct m [] w = (refl, tt)
    path_distinct m (q ∷ qs) w = (not_member m (q ∷ qs) (λ i. rule m (path_reaches m (q ∷ qs) w i)), path_distinct q qs w.1)

    -- so there are not more than procedures
    pub path_short : (m : ℕ) (qs : List ℕ) → Path m qs → length qs ≤ length ps
    path_short m qs w = distinct_below (length ps) qs (path_distinct m qs w).1 (path_below m qs w)

    -- one round more changes nothing
    pub rounds_enough : (m : ℕ) → by_rounds ps (length ps) m ≡ by_rounds ps (suc (length ps)) m
    rounds_enough m =
        let a : Heaviest (length ps) m = rounds_path (length ps) m in
        let b : Heaviest (suc (length ps)) m = rounds_path (suc (length ps)) m in
        let up : weight a.path ≤ by_rounds ps (suc (length ps)) m
        = rounds_above (suc (length ps)) m a.path a.goes (omega (arith, a.short)) in
        let down : weight b.path ≤ by_rounds ps (length ps) m
        = rounds_above (length ps) m b.path b.goes (path_short m b.path b.goes) in
        omega (arith, a.sum, b.sum)

    -- THE SHARED PLACEMENT: "a procedure's locals begin after the largest end among its callers' locals (at 0 without callers)".
    pub shared_equation : (m : ℕ) → shared ps m ≡ largest (λ q. shared ps q + locals_at ps q) (callers ps m)
    unfolding by_rounds
    shared_equation m = rounds_enough m

    -- a procedure begins after each of its callers ends
    pub shared_after : (q m : ℕ) → Calls ps q m → shared ps q + locals_at ps q ≤ shared ps m
    shared_after q m h =
        omega (arith, shared_equation m, largest_above (λ q. shared ps q + locals_at ps q) (callers ps m) (calls_caller ps q m h))

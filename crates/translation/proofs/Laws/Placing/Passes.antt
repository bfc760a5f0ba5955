-- What code may keep that finds the shared placement by passes over all calls, raising one start at a time: after k passes each start is at
-- least that of k rounds, and never above the shared one. So after as many passes as there are procedures it is the shared one.
use Rattle.std.specs.Prelude.{ℕ, suc, ◌+◌, max, ◌≤◌, ◌≡◌, List, length, eqb}
use native.Mathlib.Omega.{arith}
use Rattle.std.proofs.Common.{eqb-true}
use Rattle.value.specs.Maybe.{pick}
use Rattle.value.proofs.Laws.Tests.{by_test}
use Rattle.format.specs.Syntax.{Proc}
use Rattle.format.proofs.Laws.Calls.{Calls, Reaches}
use Rattle.translation.specs.Placement.{locals_at, callers, by_rounds, shared}
use Rattle.translation.proofs.Laws.Placing.Largest.{largest_is, caller_calls}
use Rattle.translation.proofs.Laws.Placing.Rounds.{shared_after}

-- a start that is raised
abbrev pub raised : (ℕ → ℕ) → ℕ → ℕ → ℕ → ℕ
raised s m v x = pick (eqb x m) (max (s x) v) (s x)

module _ {A : Type 0} (ps : List (Proc A)) where
  -- starts after k passes
  pub record Between (k : ℕ) (s : ℕ → ℕ) : Type 0 where
    pub lower : (m : ℕ) → by_rounds ps k m ≤ s m
    pub upper : (m : ℕ) → s m ≤ shared ps m

  -- all begin at 0
  pub between_start : Between 0 (λ m. 0)
  unfolding by_rounds
  between_start = record { lower = λ m. omega arith; upper = λ m. omega arith }

  -- after a pass, each procedure begins after its callers ended in the pass before
  pub between_pass : {k : ℕ} {s : ℕ → ℕ} → ((q m : ℕ) → Calls ps q m → by_rounds ps k q + locals_at ps q ≤ s m) → ((m : ℕ) → s m ≤ shared ps m)
      → Between (suc k) s
  unfolding by_rounds
  between_pass {k} {s} after upper = record {
    lower = λ m.
        largest_is (λ q. by_rounds ps k q + locals_at ps q) (callers ps m)
        (λ z. omega (arith, z))
        (λ q i e. omega (arith, e, after q m (caller_calls ps q m i)));
    upper = upper;
  }

  -- the last pass
  pub between_end : {s : ℕ → ℕ} → Between (length ps) s → (m : ℕ) → s m ≡ shared ps m
  between_end B m = omega (arith, B.lower m, B.upper m)

  module _ (rule : (m : ℕ) → Reaches ps m m → ⊥) where
    -- a call raises the callee's start
    pub between_raise : {k : ℕ} {s : ℕ → ℕ} (q m : ℕ) → Calls ps q m → Between k s → Between k (raised s m (s q + locals_at ps q))
    between_raise {k} {s} q m h B = record { lower = lower; upper = upper }
      where
        lower : (x : ℕ) → by_rounds ps k x ≤ raised s m (s q + locals_at ps q) x
        lower x = by_test (eqb x m) (λ e. rw e (omega (arith, B.lower x))) (λ e. rw e (B.lower x))

        upper : (x : ℕ) → raised s m (s q + locals_at ps q) x ≤ shared ps x
        upper x =
            by_test (eqb x m)
            (λ e.
            let room : s q + locals_at ps q ≤ shared ps x = rw (eqb-true x m e) (omega (arith, B.upper q, shared_after ps rule q m h)) in
            rw e (omega (arith, B.upper x)))
            (λ e. rw e (B.upper x))

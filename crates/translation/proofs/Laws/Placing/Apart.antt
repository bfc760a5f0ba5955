-- Procedures on one call path do not overlap: the property that each placement needs, and that both placements have.
use Rattle.std.specs.Prelude.{ℕ, ◌+◌, ◌≤◌, ◌<◌, ◌≡◌, refl, List, length}
use Rattle.std.proofs.Common.{arith}
use Rattle.std.proofs.Math.Decide.{ℕ_discrete, dec_lt}
use Rattle.format.specs.Syntax.{Proc, Plain}
use Rattle.format.proofs.Laws.Calls.{Reaches, direct, onward}
use Rattle.translation.proofs.Laws.Procs.{before_next}
use Rattle.translation.specs.Placement.{locals_at, in_order, shared}
use Rattle.translation.proofs.Laws.Placing.Rounds.{shared_after}

module _ {A : Type 0} (ps : List (Proc A)) where
  -- m and k are on one call path: any path of the call graph, whether or not a thread can go it
  pub data Along : ℕ → ℕ → Type 0 where
    self : {m : ℕ} → Along m m
    down : {m k : ℕ} → Reaches ps m k → Along m k
    up : {m k : ℕ} → Reaches ps k m → Along m k

  -- "procedures on one call path don't overlap": home m x is the place of local x of procedure m in the row, which may be anywhere
  pub record Apart (home : ℕ → ℕ → ℕ) : Type 0 where
    pub apart : (m x k y : ℕ) → m < length ps → k < length ps → Along m k → x < locals_at ps m → y < locals_at ps k → home m x ≡ home k y
        → (m ≡ k) × (x ≡ y)

  -- the locals of a procedure stand together, from its start on
  abbrev pub from : (ℕ → ℕ) → ℕ → ℕ → ℕ
  from start m x = start m + x

  -- where a procedure begins after all that reach it, the placement is right
  pub apart_after : (start : ℕ → ℕ) → ((m k : ℕ) → Reaches ps m k → start m + locals_at ps m ≤ start k) → Apart (from start)
  apart_after start after = record { apart = λ m x k y in_n inN' a. go x y a }
    where
      go : {m k : ℕ} (x y : ℕ) → Along m k → x < locals_at ps m → y < locals_at ps k → start m + x ≡ start k + y → (m ≡ k) × (x ≡ y)
      go x y self lo lo' e = (refl, omega arith)
      go x y (down r) lo lo' e = absurd (omega (arith, after _ _ r))
      go x y (up r) lo lo' e = absurd (omega (arith, after _ _ r))

  -- so in the shared placement, by rule 7
  module _ (rule : (m : ℕ) → Reaches ps m m → ⊥) where
    -- a procedure begins after all that reach it
    pub shared_reaches : (m k : ℕ) → Reaches ps m k → shared ps m + locals_at ps m ≤ shared ps k
    shared_reaches m k (direct h) = shared_after ps rule m k h
    shared_reaches m k (onward {c = c} h r) = omega (arith, shared_after ps rule m c h, shared_reaches c k r)

    -- THE SHARED PLACEMENT KEEPS APART WHAT IS ON ONE CALL PATH.
    pub shared_apart : Apart (from (shared ps))
    shared_apart = apart_after (shared ps) shared_reaches

-- THE OLD PLACEMENT KEEPS ALL PROCEDURES APART, and so those on one call path.
pub own_apart : (ps : List (Proc Plain)) → Apart ps (from ps (in_order ps))
own_apart ps = record { apart = λ m x k y in_n inN' a lo lo' e. go m x k y lo lo' e }
  where
    go : (m x k y : ℕ) → x < locals_at ps m → y < locals_at ps k → in_order ps m + x ≡ in_order ps k + y → (m ≡ k) × (x ≡ y)
    go m x k y lo lo' e = elim (ℕ_discrete m k) [
      | yes q ↦ (q, let e' : in_order ps k + x ≡ in_order ps k + y = rw q at e in omega arith)
      | no ne ↦ elim (dec_lt m k) [
        | yes l ↦ let b : in_order ps m + locals_at ps m ≤ in_order ps k = before_next ps m k l in absurd (omega arith)
        | no nl ↦ let b : in_order ps k + locals_at ps k ≤ in_order ps m = before_next ps k m (omega arith) in absurd (omega arith)
      ]
    ]

-- Request 107 of every program that rule 7 lets pass: what the shared placement is.
use Rattle.std.specs.Prelude.{ℕ, ◌+◌, ◌≤◌, ◌≡◌, true, length}
use Rattle.format.specs.Syntax.{Program, Plain}
use Rattle.format.specs.Rules.{no_cycle}
use Rattle.format.proofs.Laws.Calls.{Reaches, no_cycle?}
use Rattle.translation.specs.Placement.{before}
use Rattle.translation.specs.Placement.{locals_at, largest, callers, shared, in_order, row_length}
use Rattle.translation.proofs.Laws.Placing.Rounds.{shared_equation}
use Rattle.translation.proofs.Laws.Placing.Apart.{Apart, from, shared_apart, own_apart}
use Rattle.translation.proofs.Laws.Placing.Shortest.{Within, row_within, shortest, shared_shorter}

-- the shared placement
pub record Best (p : Program Plain) : Type 0 where
  -- "a procedure's locals begin after the largest end among its callers' locals (at 0 without callers)"
  pub equation : (m : ℕ) → shared p.procs m ≡ largest (λ q. shared p.procs q + locals_at p.procs q) (callers p.procs m)
  -- "procedures on one call path don't overlap", in both placements
  pub apart : Apart p.procs (from p.procs (shared p.procs))
  pub old_apart : Apart p.procs (from p.procs (in_order p.procs))
  -- all locals are in the row
  pub within : Within p.procs (from p.procs (shared p.procs)) (row_length p.procs (shared p.procs))
  -- "no fixed placement with that property has a shorter row": places may be scattered
  pub shortest : (home : ℕ → ℕ → ℕ) (R : ℕ) → Apart p.procs home → Within p.procs home R → row_length p.procs (shared p.procs) ≤ R
  -- so it has none longer than the old one
  pub shorter : row_length p.procs (shared p.procs) ≤ before p.procs (length p.procs)

-- OF EVERY PROGRAM THAT RULE 7 LETS PASS.
pub best : (p : Program Plain) → no_cycle p ≡ true → Best p
best p e = record {
  equation = shared_equation p.procs rule;
  apart = shared_apart p.procs rule;
  old_apart = own_apart p.procs;
  within = row_within p.procs (shared p.procs);
  shortest = λ home R a w. shortest p.procs home rule a R w;
  shorter = shared_shorter p.procs rule;
}
  where
    rule : (m : ℕ) → Reaches p.procs m m → ⊥
    rule = (no_cycle? p).so e

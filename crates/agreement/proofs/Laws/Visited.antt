-- Runs, visits of the loop head and ends of the copy: what one run of steps does to each.
use Rattle.std.specs.Prelude.{ℕ, suc, ◌+◌, ◌≡◌, List, false}
use Rattle.std.proofs.Common.{zero-add, add-zero, suc-add, add-suc, ◌∙◌}
use Rattle.format.specs.Syntax.{Proc, Plain}
use Rattle.semantics.specs.Copy.{Config, goes, next, run}
use Rattle.agreement.specs.Agreement.{is_at_head, visits}
use Rattle.agreement.proofs.Laws.Runs.{Runs, stop, more}

module _ (h : ℕ) (procs : List (Proc Plain)) where
  -- a step away from the loop head adds no visit
  visits_on : (n k : ℕ) (c d : Config) → next h procs c ≡ goes d → is_at_head c.stack ≡ false → visits h procs (suc n) k c ≡ visits h procs n (suc k) d
  visits_on n k c d e a = rw (e, a)

  -- a run goes on
  run_goes : (n k : ℕ) (c d : Config) → next h procs c ≡ goes d → run h procs (suc n) k c ≡ run h procs n (suc k) d
  run_goes n k c d e = rw (e, run)

  -- where a run ends, and that the visits and the end are those from there
  pub record Along (Q : Config → Type 0) (n : ℕ) (c : Config) : Type 0 where
    pub there : Config
    pub holds : Q there
    pub visits_there : (r k : ℕ) → visits h procs (n + r) k c ≡ visits h procs r (k + n) there
    pub run_there : (r k : ℕ) → run h procs (n + r) k c ≡ run h procs r (k + n) there

  -- a run of steps leads there
  pub along : {Q : Config → Type 0} {n : ℕ} {c : Config} → Runs h procs Q n c → Along Q n c
  along (stop {c = c} q) =
      record { there = c; holds = q; visits_there = λ r k. rw (zero-add r, add-zero k); run_there = λ r k. rw (zero-add r, add-zero k) }
  along {Q} (more {n = n} {c = c} {d = d} p e a) =
      let g : Along Q n d = along p in
      record {
        there = g.there;
        holds = g.holds;
        visits_there = λ r k. rw (suc-add n r, add-suc k n) (visits_on (n + r) k c d e a ∙ g.visits_there r (suc k) ∙ rw (suc-add k n));
        run_there = λ r k. rw (suc-add n r, add-suc k n) (run_goes (n + r) k c d e ∙ g.run_there r (suc k) ∙ rw (suc-add k n));
      }

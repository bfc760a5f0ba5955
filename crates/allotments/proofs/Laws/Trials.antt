-- An allotment's run, step by step: a step of a finished thread is left out, and it blocks where a step blocks.
use Rattle.std.specs.Prelude.{ℕ, zero, suc, ◌≡◌, refl, List, [], ◌∷◌, ◌++◌, Bool, true, false, replicate}
use Rattle.std.proofs.Common.{sym, ap, ◌∙◌}
use Rattle.value.specs.Try.{Try, has, lacks}
use Rattle.value.specs.Lists.{at}
use Rattle.value.proofs.Laws.Tests.{by_test, never}
use Rattle.format.specs.Syntax.{Program}
use Rattle.semantics.specs.Memory.{Event}
use Rattle.semantics.specs.Step.{Stack}
use Rattle.semantics.specs.Threads.{State, thread_step}
use Rattle.semantics.specs.Threads as P
use Rattle.semantics.proofs.Laws.Ends.{finished_run, used_run, blocked_run, step_run}
use Rattle.allotments.specs.Allotments.{rests, taken, blocks}

-- where steps of threads lead, and whether one of them blocks there
pub record Tried : Type 0 where
  pub state : State
  pub stuck : Bool

-- a step of each of these threads, if it isn't finished, up to one that blocks
abbrev pub tries : Program ℕ → List ℕ → State → Tried
tries p [] s = record { state = s; stuck = false }
tries p (t ∷ ts) s = elim (rests (at s.threads t)) [
  | true ↦ tries p ts s
  | false ↦ elim (thread_step p t s) [
    | lacks r ↦ record { state = s; stuck = true }
    | has r ↦ tries p ts r.state
  ]
]

-- a thread that isn't finished: then not all are
rests_not : (ss : List (Stack ℕ)) (t : ℕ) → rests (at ss t) ≡ false → P.done ss ≡ false
rests_not [] t e = absurd (never (sym e))
rests_not ([] ∷ ss) zero e = absurd (never (sym e))
rests_not ([] ∷ ss) (suc t) e = rests_not ss t e
rests_not ((f ∷ r) ∷ ss) t e = refl

module _ (p : Program ℕ) where
  -- a step that is left out
  pub tries_rests : (t : ℕ) (ts : List ℕ) (s : State) → rests (at s.threads t) ≡ true → tries p (t ∷ ts) s ≡ tries p ts s
  tries_rests t ts s e = rw (e, tries)

  -- one that blocks
  pub tries_stuck : (t : ℕ) (ts : List ℕ) (s : State) {r : _} → rests (at s.threads t) ≡ false → thread_step p t s ≡ lacks r
      → tries p (t ∷ ts) s ≡ record { state = s; stuck = true }
  tries_stuck t ts s e f = rw (e, f, tries)

  -- one that is taken
  pub tries_step : (t : ℕ) (ts : List ℕ) (s : State) (r : P.Step) → rests (at s.threads t) ≡ false → thread_step p t s ≡ has r
      → tries p (t ∷ ts) s ≡ tries p ts r.state
  tries_step t ts s r e f = rw (e, f, tries)

  -- all the steps of a finished thread
  pub tries_over : (n t : ℕ) (ts : List ℕ) (s : State) → rests (at s.threads t) ≡ true → tries p (replicate n t ++ ts) s ≡ tries p ts s
  tries_over zero t ts s e = refl
  tries_over (suc n) t ts s e = tries_rests t (replicate n t ++ ts) s e ∙ tries_over n t ts s e

  -- what a run came to
  abbrev pub tried_by : P.Ran → Tried
  tried_by r = record { state = r.state; stuck = blocks r.how }

  -- AN ALLOTMENT'S RUN IS THE PROGRAM'S RUN UNDER THE SCHEDULE OF THE STEPS THAT WERE NOT LEFT OUT
  pub run_tries : (ts : List ℕ) (s : State) (k : ℕ) (evs : List Event) → tried_by (P.run p (taken p ts s) s k evs) ≡ tries p ts s
  run_tries [] s k evs = by_test (P.done s.threads) (λ e. rw (finished_run p [] s k evs e)) (λ e. rw (used_run p s k evs e))
  run_tries (t ∷ ts) s k evs =
      by_test (rests (at s.threads t))
      (λ e. rw (e, taken, tries) (run_tries ts s k evs))
      (λ e. on (run_tries ts) e (rests_not s.threads t e) (thread_step p t s) refl)
    where
      on : ((s : State) (k : ℕ) (evs : List Event) → tried_by (P.run p (taken p ts s) s k evs) ≡ tries p ts s)
          → rests (at s.threads t) ≡ false → P.done s.threads ≡ false → (m : Try P.Step) → thread_step p t s ≡ m
          → tried_by (P.run p (taken p (t ∷ ts) s) s k evs) ≡ tries p (t ∷ ts) s
      on ih e d (lacks r) f = rw (e, f, taken, tries) (ap tried_by (blocked_run p t [] s k evs d f))
      on ih e d (has r) f =
          rw (e, f, taken, tries)
          (ap tried_by (step_run p t (taken p ts r.state) s k evs r d f) ∙ ih r.state (suc k) (evs ++ r.events))

-- The concurrent run, by cases: how it ends, and how it goes on.
use Rattle.std.specs.Prelude.{ℕ, suc, ◌+◌, ◌≡◌, refl, List, [], ◌∷◌, ◌++◌, true, false, length}
use Rattle.std.proofs.Common.{arith}
use Rattle.value.specs.Try.{Try, has, lacks}
use Rattle.value.specs.declared.Reason.{Reason}
use Rattle.value.proofs.Laws.Tests.{by_test}
use Rattle.format.specs.Syntax.{Program}
use Rattle.semantics.specs.Memory.{Event}
use Rattle.semantics.specs.Threads as P

module _ (q : Program ℕ) where
  -- all threads are finished
  pub finished_run : (ts : List ℕ) (st : P.State) (k : ℕ) (evs : List Event) → P.done st.threads ≡ true
      → P.run q ts st k evs ≡ record { how = P.finished; steps = k; unused = length ts; state = st; events = evs }
  finished_run [] st k evs e = rw (e, P.run)
  finished_run (t ∷ ts) st k evs e = rw (e, P.run)

  -- the schedule is used up
  pub used_run : (st : P.State) (k : ℕ) (evs : List Event) → P.done st.threads ≡ false
      → P.run q [] st k evs ≡ record { how = P.used; steps = k; unused = 0; state = st; events = evs }
  used_run st k evs e = rw (e, P.run)

  -- a step is blocked, for its reason
  pub blocked_run : (t : ℕ) (ts : List ℕ) (st : P.State) (k : ℕ) (evs : List Event) {r : Reason} → P.done st.threads ≡ false
      → P.thread_step q t st ≡ lacks r
      → P.run q (t ∷ ts) st k evs ≡ record { how = P.blocked r; steps = k; unused = suc (length ts); state = st; events = evs }
  blocked_run t ts st k evs e f = rw (e, f, P.run)

  -- how it goes on
  pub step_run : (t : ℕ) (ts : List ℕ) (st : P.State) (k : ℕ) (evs : List Event) (r : P.Step) → P.done st.threads ≡ false
      → P.thread_step q t st ≡ has r → P.run q (t ∷ ts) st k evs ≡ P.run q ts r.state (suc k) (evs ++ r.events)
  step_run t ts st k evs r e f = rw (e, f, P.run)

  -- EACH ENTRY IS A STEP OR UNUSED: "unused entries are counted, a blocking one among them"
  pub entries_counted : (ts : List ℕ) (st : P.State) (k : ℕ) (evs : List Event)
      → (P.run q ts st k evs).steps + (P.run q ts st k evs).unused ≡ k + length ts
  entries_counted [] st k evs = by_test (P.done st.threads) (λ e. rw (finished_run [] st k evs e)) (λ e. rw (used_run st k evs e))
  entries_counted (t ∷ ts) st k evs =
      by_test (P.done st.threads) (λ e. rw (finished_run (t ∷ ts) st k evs e)) (λ e. on (entries_counted ts) e (P.thread_step q t st) refl)
    where
      on : ((st : P.State) (k : ℕ) (evs : List Event) → (P.run q ts st k evs).steps + (P.run q ts st k evs).unused ≡ k + length ts)
          → P.done st.threads ≡ false → (m : Try P.Step) → P.thread_step q t st ≡ m
          → (P.run q (t ∷ ts) st k evs).steps + (P.run q (t ∷ ts) st k evs).unused ≡ k + suc (length ts)
      on ih e (lacks r) f = rw (blocked_run t ts st k evs e f)
      on ih e (has r) f = rw (step_run t ts st k evs r e f) (omega (arith, ih r.state (suc k) (evs ++ r.events)))

-- The program after k steps: what the run of the first k entries leaves.
use Rattle.std.specs.Prelude.{ℕ, zero, suc, ◌+◌, ◌-◌, ◌≤◌, ◌≡◌, refl, List, [], ◌∷◌, ◌++◌, false, take}
use Rattle.std.proofs.Common.{arith, sym, ap, ◌∙◌}
use Rattle.value.specs.Maybe.{Maybe, is, nothing, ◌>>=◌}
use Rattle.value.specs.Try.{Try, has, lacks}
use Rattle.value.specs.Lists.{at}
use Rattle.value.proofs.Laws.Tries.{forget}
use Rattle.value.proofs.Laws.Tests.{by_test}
use Rattle.format.specs.Syntax.{Program, Plain}
use Rattle.format.specs.Labels.{labelled}
use Rattle.semantics.specs.Memory.{Event}
use Rattle.semantics.specs.Threads.{State, start, done, Step, thread_step, Ran, run}
use Rattle.semantics.specs.Calls.{concurrent_run}
use Rattle.semantics.proofs.Laws.Ends.{finished_run, used_run, blocked_run, step_run}

-- a state, and all that was read and written up to it
pub record Point : Type 0 where
  pub state : State
  pub events : List Event

-- thread t takes a step there
abbrev pub onward : Program ℕ → Maybe ℕ → Point → Maybe Point
onward q nothing σ = nothing
onward q (is t) σ = forget (thread_step q t σ.state) >>= λ r. is (record { state = r.state; events = σ.events ++ r.events })

-- the program after k steps under a schedule: after none it is at its start; after one more, the thread that the schedule's k-th entry names (they
-- count from 0) has taken a step
abbrev pub after : Program ℕ → List ℕ → ℕ → Maybe Point
after q ts zero = is (record { state = start q; events = [] })
after q ts (suc k) = after q ts k >>= onward q (at ts k)

-- a run that has taken k steps of a schedule and is where they lead
pub record Reaches (q : Program ℕ) (ts : List ℕ) (k : ℕ) (r : Ran) : Type 0 where
  pub steps : r.steps ≡ k
  pub there : after q ts k ≡ is (record { state = r.state; events = r.events })

-- ---- from any state

module _ (q : Program ℕ) where
  -- k steps from a state, entry by entry
  abbrev walk : List ℕ → ℕ → Point → Maybe Point
  walk ts zero σ = is σ
  walk [] (suc k) σ = nothing
  walk (t ∷ ts) (suc k) σ = onward q (is t) σ >>= walk ts k

  -- the last of them comes after the others
  walk_last : (ts : List ℕ) (k : ℕ) (σ : Point) → walk ts (suc k) σ ≡ (walk ts k σ >>= onward q (at ts k))
  walk_last [] zero σ = refl
  walk_last [] (suc k) σ = refl
  walk_last (t ∷ ts) zero σ = ends (onward q (is t) σ)
    where
      ends : (m : Maybe Point) → (m >>= walk ts 0) ≡ m
      ends (is σ) = refl
      ends nothing = refl
  walk_last (t ∷ ts) (suc k) σ = on (walk_last ts k) (onward q (is t) σ)
    where
      on : ((σ : Point) → walk ts (suc k) σ ≡ (walk ts k σ >>= onward q (at ts k))) → (m : Maybe Point)
          → (m >>= walk ts (suc k)) ≡ (m >>= walk ts k >>= onward q (at ts k))
      on ih (is σ) = ih σ
      on ih nothing = refl

  -- so the program after k steps is k steps from its start
  after_walk : (ts : List ℕ) (k : ℕ) → after q ts k ≡ walk ts k (record { state = start q; events = [] })
  after_walk ts zero = refl
  after_walk ts (suc k) = rw (after_walk ts k) (sym (walk_last ts k (record { state = start q; events = [] })))

  -- where a run ends
  abbrev point : Ran → Point
  point r = record { state = r.state; events = r.events }

  -- a run of no entries takes no step
  no_entries : (st : State) (k : ℕ) (evs : List Event)
      → ((run q [] st k evs).steps ≡ k) × (point (run q [] st k evs) ≡ record { state = st; events = evs })
  no_entries st k evs =
      by_test (done st.threads) (λ e. rw (finished_run q [] st k evs e) (refl, refl)) (λ e. rw (used_run q st k evs e) (refl, refl))

  -- a run counts on from k
  steps_from : (ts : List ℕ) (st : State) (k : ℕ) (evs : List Event) → k ≤ (run q ts st k evs).steps
  steps_from [] st k evs = omega (arith, (no_entries st k evs).0)
  steps_from (t ∷ ts) st k evs =
      by_test (done st.threads) (λ e. rw (finished_run q (t ∷ ts) st k evs e) (omega arith)) (λ e. on (steps_from ts) e (thread_step q t st) refl)
    where
      on : ((st : State) (k : ℕ) (evs : List Event) → k ≤ (run q ts st k evs).steps) → done st.threads ≡ false
          → (m : Try Step) → thread_step q t st ≡ m → k ≤ (run q (t ∷ ts) st k evs).steps
      on ih e (lacks r) f = rw (blocked_run q t ts st k evs e f) (omega arith)
      on ih e (has r) f = rw (step_run q t ts st k evs r e f) (omega (arith, ih r.state (suc k) (evs ++ r.events)))

  -- j steps on from a state, after k
  record Goes (ts : List ℕ) (j k : ℕ) (σ : Point) (r : Ran) : Type 0 where
    steps : r.steps ≡ k + j
    there : walk ts j σ ≡ is (point r)

  -- the run of the first j entries, if a run takes so many steps
  first_entries : (ts : List ℕ) (j : ℕ) (st : State) (k : ℕ) (evs : List Event) → k + j ≤ (run q ts st k evs).steps
      → Goes ts j k (record { state = st; events = evs }) (run q (take j ts) st k evs)
  first_entries ts zero st k evs h =
      let none = no_entries st k evs in
      record { steps = omega (arith, none.0); there = ap is (sym none.1) }
  first_entries [] (suc j) st k evs h = absurd (omega (arith, (no_entries st k evs).0))
  first_entries (t ∷ ts) (suc j) st k evs h =
      by_test (done st.threads)
      (λ e. absurd (omega (arith, ap (λ (r : Ran). r.steps) (finished_run q (t ∷ ts) st k evs e))))
      (λ e. on (first_entries ts j) e (thread_step q t st) refl)
    where
      on : ((st : State) (k : ℕ) (evs : List Event) → k + j ≤ (run q ts st k evs).steps
          → Goes ts j k (record { state = st; events = evs }) (run q (take j ts) st k evs))
          → done st.threads ≡ false → (m : Try Step) → thread_step q t st ≡ m
          → Goes (t ∷ ts) (suc j) k (record { state = st; events = evs }) (run q (t ∷ take j ts) st k evs)
      on ih e (lacks r) f = absurd (omega (arith, ap (λ (r : Ran). r.steps) (blocked_run q t ts st k evs e f)))
      on ih e (has r) f =
          let more = ap (λ (r : Ran). r.steps) (step_run q t ts st k evs r e f) in
          let rest = ih r.state (suc k) (evs ++ r.events) (omega arith) in
          rw (step_run q t (take j ts) st k evs r e f) (record { steps = omega (arith, rest.steps); there = rw f rest.there })

  -- a whole run
  all_entries : (ts : List ℕ) (j : ℕ) (st : State) (k : ℕ) (evs : List Event) → (run q ts st k evs).steps ≡ k + j
      → walk ts j (record { state = st; events = evs }) ≡ is (point (run q ts st k evs))
  all_entries [] j st k evs h =
      let none = no_entries st k evs in
      let zeroth : j ≡ 0 = omega (arith, none.0) in
      rw zeroth (ap is (sym none.1))
  all_entries (t ∷ ts) j st k evs h =
      by_test (done st.threads)
      (λ e.
      let all = finished_run q (t ∷ ts) st k evs e in
      let zeroth : j ≡ 0 = omega (arith, ap (λ (r : Ran). r.steps) all) in
      rw (all, zeroth))
      (λ e. on (all_entries ts) e (thread_step q t st) refl)
    where
      on : ((j : ℕ) (st : State) (k : ℕ) (evs : List Event) → (run q ts st k evs).steps ≡ k + j
          → walk ts j (record { state = st; events = evs }) ≡ is (point (run q ts st k evs)))
          → done st.threads ≡ false → (m : Try Step) → thread_step q t st ≡ m
          → walk (t ∷ ts) j (record { state = st; events = evs }) ≡ is (point (run q (t ∷ ts) st k evs))
      on ih e (lacks r) f =
          let all = blocked_run q t ts st k evs e f in
          let zeroth : j ≡ 0 = omega (arith, ap (λ (r : Ran). r.steps) all) in
          rw (all, zeroth)
      on ih e (has r) f =
          let more = ap (λ (r : Ran). r.steps) (step_run q t ts st k evs r e f) in
          let onwards = steps_from ts r.state (suc k) (evs ++ r.events) in
          let same : j ≡ suc (j - 1) = omega arith in
          rw (step_run q t ts st k evs r e f, same, f) (ih (j - 1) r.state (suc k) (evs ++ r.events) (omega arith))

-- ---- from the start

-- THE RUN OF THE FIRST K ENTRIES TAKES K STEPS, IF THE WHOLE RUN TAKES AT LEAST SO MANY, AND IS THE PROGRAM AFTER K STEPS.
pub after_steps : (p : Program Plain) (ts : List ℕ) (k : ℕ) → k ≤ (concurrent_run p ts).steps
    → Reaches (labelled p) ts k (concurrent_run p (take k ts))
after_steps p ts k h =
    let q : Program ℕ = labelled p in
    let went = first_entries q ts k (start q) 0 [] (omega arith) in
    record { steps = omega (arith, went.steps); there = after_walk q ts k ∙ went.there }

-- AND THE WHOLE RUN IS THE PROGRAM AFTER ALL ITS STEPS.
pub after_all : (p : Program Plain) (ts : List ℕ) → Reaches (labelled p) ts (concurrent_run p ts).steps (concurrent_run p ts)
after_all p ts =
    let q : Program ℕ = labelled p in
    let n : ℕ = (concurrent_run p ts).steps in
    record { steps = refl; there = after_walk q ts n ∙ all_entries q ts n (start q) 0 [] (omega arith) }

-- The definitions of Agreement count what they say: the visits are those of the run, in order, and each step has one price.
use Rattle.std.specs.Prelude.{ℕ, zero, suc, ◌+◌, ◌≤◌, ◌<◌, ◌≡◌, refl, ◌↔◌, List, [], ◌∷◌, ◌++◌, true, false, length}
use Rattle.std.proofs.Common.{arith, zero-add, sym, ap, ◌∙◌}
use Rattle.std.proofs.Math.Path.{subst}
use Rattle.value.specs.Maybe.{is, pick}
use Rattle.value.specs.Try.{Try, has, lacks}
use Rattle.value.specs.Lists.{at}
use Rattle.value.proofs.Laws.Maybes.{is_inj, missing}
use Rattle.value.proofs.Laws.Tests.{by_test}
use Rattle.value.proofs.Laws.Lists.{In, here, there, each_in, in_at}
use Rattle.format.specs.Syntax.{Proc, Program, Plain}
use Rattle.format.specs.Labels.{labelled}
use Rattle.semantics.specs.Memory.{Event}
use Rattle.semantics.specs.Threads as P
use Rattle.semantics.specs.Copy as C
use Rattle.semantics.proofs.Laws.Ends.{finished_run, used_run, blocked_run, step_run}
use Rattle.agreement.specs.Agreement.{is_at_head, Visit, visits, visits_of, copy_run, program_run, prices, prices_of}
use Rattle.agreement.proofs.Laws.Shows.{price_done, price_blocked}

-- ---- visits

-- one of several: the first, or one of the others
one_of : {A G : Type 0} {x y : A} {xs : List A} → In x (y ∷ xs) → (y ≡ x → G) → (In x xs → G) → G
one_of here f g = f refl
one_of (there p) f g = g p

-- one of none
none_of : {A G : Type 0} {x : A} → In x [] → G
none_of {G = G} p = each_in (λ y. G) [] tt p

module _ (h : ℕ) (procs : List (Proc Plain)) where
  -- the run with a budget of j comes as far as v, which is a loop head
  pub record Reached (n k : ℕ) (c : C.Config) (v : Visit) (j : ℕ) : Type 0 where
    pub within : j ≤ n
    pub after : v.steps ≡ k + j
    pub steps : (C.run h procs j k c).steps ≡ v.steps
    pub config : (C.run h procs j k c).config ≡ v.config
    pub head : is_at_head v.config.stack ≡ true

  -- the first configuration is one, if it is a loop head
  begin : (n k : ℕ) (c : C.Config) (v : Visit) → record { steps = k; config = c } ≡ v → is_at_head c.stack ≡ true → (j : ℕ) × Reached n k c v j
  begin n k c v e head = (
    0,
    record {
      within = omega arith;
      after = sym (ap (λ (u : Visit). u.steps) e) ∙ omega arith;
      steps = ap (λ (u : Visit). u.steps) e;
      config = ap (λ (u : Visit). u.config) e;
      head = rw (← ap (λ (u : Visit). u.config) e) head;
    },
  )

  -- one step more before
  later : (n k : ℕ) (c d : C.Config) (v : Visit) → C.next h procs c ≡ C.goes d → (j : ℕ) × Reached n (suc k) d v j → (j : ℕ) × Reached (suc n) k c v j
  later n k c d v e (j, r) = (
    suc j,
    record {
      within = omega (arith, r.within);
      after = omega (arith, r.after);
      steps = rw (e, C.run) r.steps;
      config = rw (e, C.run) r.config;
      head = r.head;
    },
  )

  -- each visit is reached
  reached : (n k : ℕ) (c : C.Config) (v : Visit) → In v (visits h procs n k c) → (j : ℕ) × Reached n k c v j
  reached zero k c v i =
      by_test (is_at_head c.stack)
      (λ e. one_of (rw e at i) (λ s. begin zero k c v s e) none_of)
      (λ e. none_of (rw e at i))
  reached (suc n) k c v i = by (C.next h procs c) refl (reached n (suc k))
    where
      by : (x : C.Next) → C.next h procs c ≡ x → ((d : C.Config) (v : Visit) → In v (visits h procs n (suc k) d) → (j : ℕ) × Reached n (suc k) d v j)
          → (j : ℕ) × Reached (suc n) k c v j
      by (C.ended how) e ih =
          by_test (is_at_head c.stack)
          (λ a. one_of (rw (a, e) at i) (λ s. begin (suc n) k c v s a) none_of)
          (λ a. none_of (rw (a, e) at i))
      by (C.goes d) e ih =
          by_test (is_at_head c.stack)
          (λ a. one_of (rw (a, e) at i) (λ s. begin (suc n) k c v s a) (λ p. later n k c d v e (ih d v p)))
          (λ a. later n k c d v e (ih d v (rw (a, e) at i)))

  -- and whatever is reached is a visit
  visited : (n k : ℕ) (c : C.Config) (v : Visit) (j : ℕ) → Reached n k c v j → In v (visits h procs n k c)
  visited n k c v j r = go n k c j r
    where
      -- the first one
      first : (k : ℕ) (c : C.Config) → v.steps ≡ k → c ≡ v.config → v ≡ record { steps = k; config = c }
      first k c s e = λ i. record { steps = s i; config = sym e i }

      go : (n k : ℕ) (c : C.Config) (j : ℕ) → Reached n k c v j → In v (visits h procs n k c)
      go zero k c zero r =
          let a : is_at_head c.stack ≡ true = rw r.config r.head in
          rw (a, ← first k c (omega (arith, r.after)) r.config) here
      go zero k c (suc j) r = absurd (omega (arith, r.within))
      go (suc n) k c zero r =
          let a : is_at_head c.stack ≡ true = rw r.config r.head in
          rw (a, ← first k c (omega (arith, r.after)) r.config) here
      go (suc n) k c (suc j) r = by (C.next h procs c) refl (go n (suc k))
        where
          by : (x : C.Next) → C.next h procs c ≡ x → ((d : C.Config) (j : ℕ) → Reached n (suc k) d v j → In v (visits h procs n (suc k) d))
              → In v (visits h procs (suc n) k c)
          by (C.ended how) e ih =
              let stays : k ≡ v.steps = rw (e, C.run) at r.steps in
              absurd (omega (arith, r.after))
          by (C.goes d) e ih =
              let i : In v (visits h procs n (suc k) d)
              = ih d j (record {
                within = omega (arith, r.within);
                after = omega (arith, r.after);
                steps = rw (e, C.run) at r.steps;
                config = rw (e, C.run) at r.config;
                head = r.head;
              }) in
              by_test (is_at_head c.stack) (λ a. rw (a, e) (there i)) (λ a. rw (a, e) i)

  -- no visit comes before the others' steps
  not_before : (n k : ℕ) (c : C.Config) (i : ℕ) (v : Visit) → at (visits h procs n k c) i ≡ is v → k ≤ v.steps
  not_before n k c i v e =
      let r : (j : ℕ) × Reached n k c v j = reached n k c v (in_at (visits h procs n k c) i e) in
      omega (arith, r.1.after)

  -- a later visit has more steps
  rising : (n k : ℕ) (c : C.Config) (i : ℕ) (u v : Visit) → at (visits h procs n k c) i ≡ is u → at (visits h procs n k c) (suc i) ≡ is v
      → u.steps < v.steps
  rising zero k c i u v p q = by_test (is_at_head c.stack) (λ a. missing (rw a at q)) (λ a. missing (rw a at q))
  rising (suc n) k c i u v p q = by (C.next h procs c) refl (rising n (suc k))
    where
      by : (x : C.Next) → C.next h procs c ≡ x
          → ((d : C.Config) (i : ℕ) (u v : Visit) → at (visits h procs n (suc k) d) i ≡ is u → at (visits h procs n (suc k) d) (suc i) ≡ is v
          → u.steps < v.steps)
          → u.steps < v.steps
      by (C.ended how) e ih = by_test (is_at_head c.stack) (λ a. missing (rw (a, e) at q)) (λ a. missing (rw (a, e) at q))
      by (C.goes d) e ih =
          let p' : at (pick (is_at_head c.stack) (record { steps = k; config = c } ∷ more (C.goes d)) (more (C.goes d))) i ≡ is u
          = subst (λ x. at (pick (is_at_head c.stack) (record { steps = k; config = c } ∷ more x) (more x)) i ≡ is u) e p in
          let q' : at (pick (is_at_head c.stack) (record { steps = k; config = c } ∷ more (C.goes d)) (more (C.goes d))) (suc i) ≡ is v
          = subst (λ x. at (pick (is_at_head c.stack) (record { steps = k; config = c } ∷ more x) (more x)) (suc i) ≡ is v) e q in
          by_test (is_at_head c.stack)
          (λ a. after i (rw a at p') (rw a at q'))
          (λ a. ih d i u v (rw a at p') (rw a at q'))
        where
          -- the visits after a step
          more : C.Next → List Visit
          more x = elim x [ C.ended how ↦ [] | C.goes d' ↦ visits h procs n (suc k) d' ]

          after : (i : ℕ) → at (record { steps = k; config = c } ∷ visits h procs n (suc k) d) i ≡ is u → at (visits h procs n (suc k) d) i ≡ is v
              → u.steps < v.steps
          after zero p q = let s : k ≡ u.steps = ap (λ (w : Visit). w.steps) (is_inj p) in omega (arith, not_before n (suc k) d 0 v q)
          after (suc i) p q = ih d i u v p q

-- THE VISITS ARE THE LOOP HEADS OF THE COPY'S RUN: where a run with a budget of so many steps, at most n, comes to a loop head.
pub visits_exactly : (q : Program Plain) (n : ℕ) (p : Program Plain) (ts : List ℕ) (v : Visit) → In v (visits_of q n p ts) ↔ ((v.steps ≤ n) ×
    ((copy_run q v.steps p ts).steps ≡ v.steps) × ((copy_run q v.steps p ts).config ≡ v.config) × (is_at_head v.config.stack ≡ true))
visits_exactly q n p ts v = (so, of)
  where
    so : In v (visits_of q n p ts) → (v.steps ≤ n) × ((copy_run q v.steps p ts).steps ≡ v.steps) × ((copy_run q v.steps p ts).config ≡ v.config) ×
        (is_at_head v.config.stack ≡ true)
    so i =
        let r = reached (length p.sizes) q.procs n 0 (C.start q ts) v i in
        let s : v.steps ≡ r.0 = omega (arith, r.1.after) in
        (omega (arith, r.1.within), rw s (r.1.steps ∙ s), rw s r.1.config, r.1.head)

    of : (v.steps ≤ n) × ((copy_run q v.steps p ts).steps ≡ v.steps) × ((copy_run q v.steps p ts).config ≡ v.config) ×
        (is_at_head v.config.stack ≡ true)
        → In v (visits_of q n p ts)
    of g = visited (length p.sizes) q.procs n 0 (C.start q ts) v v.steps
        (record { within = g.0; after = omega arith; steps = g.1; config = g.2; head = g.3 })

-- THEY ARE IN ORDER.
pub visits_rise : (q : Program Plain) (n : ℕ) (p : Program Plain) (ts : List ℕ) (k : ℕ) (u v : Visit) → at (visits_of q n p ts) k ≡ is u
    → at (visits_of q n p ts) (suc k) ≡ is v
    → u.steps < v.steps
visits_rise q n p ts k u v e f = rising (length p.sizes) q.procs n 0 (C.start q ts) k u v e f

-- ---- prices

-- each step taken has a price
count : (q : Program ℕ) (ts : List ℕ) (st : P.State) (k : ℕ) (evs : List Event) → k + length (prices q ts st) ≡ (P.run q ts st k evs).steps
count q [] st k evs =
    by_test (P.done st.threads) (λ e. rw (finished_run q [] st k evs e) (omega arith)) (λ e. rw (used_run q st k evs e) (omega arith))
count q (t ∷ ts) st k evs =
    by_test (P.done st.threads)
    (λ e. rw (finished_run q (t ∷ ts) st k evs e, price_done q (t ∷ ts) st e) (omega arith))
    (λ e. by (P.thread_step q t st) refl e (count q ts))
  where
    by : (r : Try P.Step) → P.thread_step q t st ≡ r → P.done st.threads ≡ false
        → ((st : P.State) (k : ℕ) (evs : List Event) → k + length (prices q ts st) ≡ (P.run q ts st k evs).steps)
        → k + length (prices q (t ∷ ts) st) ≡ (P.run q (t ∷ ts) st k evs).steps
    by (lacks why) f e ih = rw (blocked_run q t ts st k evs e f, price_blocked q t ts st f) (omega arith)
    by (has r) f e ih = rw (step_run q t ts st k evs r e f, f, prices) (omega (arith, ih r.state (suc k) (evs ++ r.events)))

-- THERE IS A PRICE FOR EACH STEP TAKEN, AND NO OTHER.
pub prices_count : (p : Program Plain) (ts : List ℕ) → length (prices_of p ts) ≡ (program_run p ts).steps
prices_count p ts = sym (zero-add _) ∙ count (labelled p) ts (P.start (labelled p)) 0 []

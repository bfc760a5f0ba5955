-- The steps of a thread, way by way.
use Prim.Native.Nat.{ℕ, suc, ◌+◌, ◌-◌, ◌≤◌, ◌<◌}
use native.Mathlib.Omega.{arith}
use mathlib.Core.Path.{◌≡◌, refl, sym, ap, subst, ◌∙◌}
use mathlib.Core.List.{List, [], ◌∷◌, ◌++◌}
use mathlib.Core.Bool.{Bool, true, false}
use lib.ListN.{length, get_or, replicate}
use Rattle.value.specs.Maybe.{is}
use Rattle.value.specs.Lists.{at}
use Rattle.value.proofs.Laws.Lists.{at_get_d}
use Rattle.value.proofs.Laws.Tests.{never}
use Rattle.value.specs.declared.Reason.{Reason}
use Rattle.format.specs.Syntax.{Program, Plain}
use Rattle.format.specs.Labels.{labelled}
use Rattle.semantics.specs.Step.{Stack}
use Rattle.semantics.specs.Threads as P
use Rattle.engine.specs.Laws.Logging.{logged_none}
use Rattle.atomic.specs.Threaded.{most_threads, Threaded}
use Rattle.std.specs.Prelude.{Result, Ok, Err, is_err}
use Rattle.concurrent.specs.Stepping.{Present, Stepping, Went, Stays, Answers, Steps}
use Rattle.allotments.specs.Allotments.{rests}
use Rattle.allotments.proofs.Laws.Trials.{tries, tries_step, tries_stuck, tries_over}
use Rattle.bench.specs.Trying.{Taking, Takes}

-- ---- a finished thread

-- a stack without frames
rests_none : (s : Stack ℕ) → length s ≡ 0 → rests (is s) ≡ true
rests_none [] e = refl
rests_none (f ∷ s) e = absurd (omega arith)

-- one with some
rests_some : (s : Stack ℕ) → (length s ≡ 0 → ⊥) → rests (is s) ≡ false
rests_some [] e = absurd (e refl)
rests_some (f ∷ s) e = refl

module _ {p : Program Plain} {labels depths ls : List ℕ} (ts : List (Stack ℕ)) (thread : ℕ) (h : Threaded p labels depths ls ts)
    (l : thread < length p.mains) where
  -- its stack
  found : at ts thread ≡ is (get_or ts thread [])
  found = at_get_d ts thread [] (omega (arith, h.count))

  -- by its depth, it is finished
  over : get_or depths thread 0 ≡ 0 → rests (at ts thread) ≡ true
  over e = ap rests found ∙ rests_none (get_or ts thread []) (sym (h.each thread (get_or ts thread []) found).depth ∙ e)

  -- or it is not
  under : (get_or depths thread 0 ≡ 0 → ⊥) → rests (at ts thread) ≡ false
  under e = ap rests found ∙ rests_some (get_or ts thread []) (λ z. e ((h.each thread (get_or ts thread []) found).depth ∙ z))

-- ---- the state of the loop

-- what is left of n steps, from the present state, is all of them from the start
pub record LeftFrom (p : Program Plain) (s : P.State) (thread n : ℕ) (labels depths ls cs : List ℕ) (left : ℕ) : Type 0 where
  pub state : P.State
  pub present : Present p [] labels depths ls cs [] 0 state []
  pub same : (ts : List ℕ) → tries (labelled p) (replicate n thread ++ ts) s ≡ tries (labelled p) (replicate left thread ++ ts) state

-- whatever program it is
pub record Left (t map bounds ss : List ℕ) (thread n : ℕ) (labels₀ depths₀ ls₀ cs₀ labels depths ls cs : List ℕ) (left : ℕ) : Type 0 where
  pub start : Taking t map bounds ss thread labels₀ depths₀ ls₀ cs₀
  pub from : (h : Taking t map bounds ss thread labels₀ depths₀ ls₀ cs₀)
      → LeftFrom h.ready.loaded.program h.ready.state thread n labels depths ls cs left

-- the beginning
pub left_all : {t map bounds ss : List ℕ} {thread n : ℕ} {labels depths ls cs : List ℕ} → Taking t map bounds ss thread labels depths ls cs
    → Left t map bounds ss thread n labels depths ls cs labels depths ls cs n
left_all h = record { start = h; from = λ h. record { state = h.ready.state; present = h.ready.present; same = λ ts. refl } }

-- ---- one law for each way through the loop

module _ {t map bounds ss : List ℕ} {thread n : ℕ} {labels₀ depths₀ ls₀ cs₀ labels depths ls cs : List ℕ} {left : ℕ}
    (G : Left t map bounds ss thread n labels₀ depths₀ ls₀ cs₀ labels depths ls cs left) where
  -- it is one of the threads
  pub left_thread : thread < most_threads
  left_thread = omega (arith, G.start.there, G.start.ready.loaded.sound.threads.high)

  -- no step is left
  left_none : left ≡ 0 → Takes t map bounds ss thread n labels₀ depths₀ ls₀ cs₀ labels depths ls cs false
  left_none e = record {
    takes = λ h. record {
      after = (G.from h).state;
      present = (G.from h).present;
      same = λ ts. (G.from h).same ts ∙ ap (λ (m : ℕ). tries (labelled h.ready.loaded.program) (replicate m thread ++ ts) (G.from h).state) e;
    };
  }

  -- the thread is finished: the others are left out
  pub left_over : get_or depths thread 0 ≡ 0 → Takes t map bounds ss thread n labels₀ depths₀ ls₀ cs₀ labels depths ls cs false
  left_over e = record {
    takes = λ h. record {
      after = (G.from h).state;
      present = (G.from h).present;
      same = λ ts.
          (G.from h).same ts
          ∙ tries_over (labelled h.ready.loaded.program) left thread ts (G.from h).state
          (over (G.from h).state.threads thread (G.from h).present.threads h.there e);
    };
  }

  -- a step of it
  abbrev stepping_of : Taking t map bounds ss thread labels₀ depths₀ ls₀ cs₀ → Stepping t map bounds ss thread labels depths ls cs [] 0
  stepping_of h = record {
    loaded = h.ready.loaded;
    lent = [];
    state = (G.from h).state;
    so_far = [];
    present = (G.from h).present;
    there = h.there;
    few = omega (arith, ap length h.ready.loaded.same, h.ready.loaded.sound.size);
  }

  pub left_stepping : Stepping t map bounds ss thread labels depths ls cs [] 0
  left_stepping = stepping_of G.start

  module _ (e : left ≡ 0 → ⊥) (d : get_or depths thread 0 ≡ 0 → ⊥) {x : Result ℕ Reason} {labels' depths' ls' cs' es : List ℕ}
      (S : Steps t map bounds ss thread labels depths ls cs [] 0 labels' depths' ls' cs' es x) where
    -- this one, and the others
    one : left ≡ suc (left - 1)
    one = omega arith

    -- the events of a step are not kept
    without_events : {p : Program Plain} {k : ℕ} {s : P.State} {evs : _} → Present p [] labels' depths' ls' cs' es k s evs
        → Present p [] labels' depths' ls' cs' [] 0 s []
    without_events h = record { threads = h.threads; long = h.long; memory = h.memory; sizes = h.sizes; events = logged_none }

    -- the thread goes on
    going : (h : Taking t map bounds ss thread labels₀ depths₀ ls₀ cs₀) → rests (at (G.from h).state.threads thread) ≡ false
    going h = under (G.from h).state.threads thread (G.from h).present.threads h.there d

    -- it blocks
    left_blocked : {why : Reason} → x ≡ Err why → Takes t map bounds ss thread n labels₀ depths₀ ls₀ cs₀ labels' depths' ls' cs' true
    left_blocked {why} z = record {
      takes = λ h.
          let q : Program ℕ = labelled h.ready.loaded.program in
          let stays : Stays (stepping_of h) labels' depths' ls' cs' es why =
          subst (Answers (stepping_of h) labels' depths' ls' cs' es) z (S.steps (stepping_of h))
          in
          record {
            after = (G.from h).state;
            present = without_events stays.present;
            same = λ ts.
                (G.from h).same ts ∙ ap (λ (m : ℕ). tries q (replicate m thread ++ ts) (G.from h).state) one
                ∙ tries_stuck q thread (replicate (left - 1) thread ++ ts) (G.from h).state (going h) stays.blocks;
          };
    }

    -- it goes on
    left_on : {m : ℕ} → x ≡ Ok m → Left t map bounds ss thread n labels₀ depths₀ ls₀ cs₀ labels' depths' ls' cs' (left - 1)
    left_on {m} z = record {
      start = G.start;
      from = λ h.
          let q : Program ℕ = labelled h.ready.loaded.program in
          let went : Went (stepping_of h) labels' depths' ls' cs' es m =
          subst (Answers (stepping_of h) labels' depths' ls' cs' es) z (S.steps (stepping_of h))
          in
          record {
            state = went.step.state;
            present = without_events went.present;
            same = λ ts.
                (G.from h).same ts ∙ ap (λ (m : ℕ). tries q (replicate m thread ++ ts) (G.from h).state) one
                ∙ tries_step q thread (replicate (left - 1) thread ++ ts) (G.from h).state went.step (going h) went.goes;
          };
    }

-- ---- after i of n steps

module _ {t map bounds ss : List ℕ} {thread n : ℕ} {labels₀ depths₀ ls₀ cs₀ labels depths ls cs : List ℕ} {i : ℕ}
    (G : Left t map bounds ss thread n labels₀ depths₀ ls₀ cs₀ labels depths ls cs (n - i)) where
  -- that were all
  pub taken_all : n ≤ i → Takes t map bounds ss thread n labels₀ depths₀ ls₀ cs₀ labels depths ls cs false
  taken_all l = left_none G (omega arith)

  module _ (l : i < n) (d : get_or depths thread 0 ≡ 0 → ⊥) {x : Result ℕ Reason} {b : Bool} {labels' depths' ls' cs' es : List ℕ}
      (S : Steps t map bounds ss thread labels depths ls cs [] 0 labels' depths' ls' cs' es x) (k : b ≡ is_err x) where
    -- the next one blocks
    pub taken_blocked : b ≡ true → Takes t map bounds ss thread n labels₀ depths₀ ls₀ cs₀ labels' depths' ls' cs' true
    taken_blocked e = by x S (sym k ∙ e)
      where
        by : (x : Result ℕ Reason) → Steps t map bounds ss thread labels depths ls cs [] 0 labels' depths' ls' cs' es x → is_err x ≡ true
            → Takes t map bounds ss thread n labels₀ depths₀ ls₀ cs₀ labels' depths' ls' cs' true
        by (Ok m) S e = absurd (never e)
        by (Err why) S e = left_blocked G (omega arith) d S refl

    -- it does not
    pub taken_more : b ≡ false → Left t map bounds ss thread n labels₀ depths₀ ls₀ cs₀ labels' depths' ls' cs' (n - (i + 1))
    taken_more e = by x S (sym k ∙ e)
      where
        by : (x : Result ℕ Reason) → Steps t map bounds ss thread labels depths ls cs [] 0 labels' depths' ls' cs' es x → is_err x ≡ false
            → Left t map bounds ss thread n labels₀ depths₀ ls₀ cs₀ labels' depths' ls' cs' (n - (i + 1))
        by (Ok m) S e =
            let same : n - i - 1 ≡ n - (i + 1) = omega arith in
            rw (← same) (left_on G (omega arith) d S refl)
        by (Err why) S e = absurd (never (sym e))

-- one law for each way
pub ruleset take_ways = (left_all, left_thread, left_over, left_stepping, taken_all, taken_blocked, taken_more)

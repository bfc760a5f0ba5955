-- The rounds of an allotment, way by way.
use Prim.Native.Nat.{ℕ, suc, ◌+◌, ◌*◌, ◌-◌, ◌≤◌, ◌<◌}
use native.Mathlib.Nat.{suc-mul}
use native.Mathlib.Omega.{arith}
use mathlib.Core.Path.{◌≡◌, refl, sym, ap, subst, ◌∙◌}
use mathlib.Core.List.{List, [], ◌++◌}
use mathlib.Core.Bool.{Bool, true, false}
use lib.ListN.{length, get_or, drop, replicate, get_or-append}
use lib.Seq.{drop-cons, drop-length}
use lib.Dec.{ltb}
use borrow.Author.Tests.{le-ltb, lt-ltb}
use Rattle.value.specs.Maybe.{pick}
use Rattle.format.specs.Syntax.{Program, Plain}
use Rattle.format.specs.Labels.{labelled}
use Rattle.semantics.specs.Threads as P
use Rattle.concurrent.specs.Stepping.{Present}
use Rattle.atomic.specs.Threaded.{most_threads}
use Rattle.allotments.specs.Allotments.{allotted}
use Rattle.allotments.specs.Bench.{places}
use Rattle.allotments.proofs.Laws.Trials.{tries}
use Rattle.bench.specs.Trying.{Taking, Led, Takes, Playing, Plays}

-- ---- the states of the loops

-- what is left of the counts from place j on, thread u being next, is what was left from place i on, thread 0 being next
pub record FollowsFrom (p : Program Plain) (s : P.State) (T : ℕ) (given : List ℕ) (i : ℕ) (labels depths ls cs : List ℕ) (j u : ℕ) : Type 0 where
  pub state : P.State
  pub present : Present p [] labels depths ls cs [] 0 state []
  pub same : tries (labelled p) (allotted T 0 (drop i given)) s ≡ tries (labelled p) (allotted T u (drop j given)) state

-- whatever program it is
pub record Follows (t map bounds ss : List ℕ) (k T : ℕ) (counts labels₀ depths₀ ls₀ cs₀ : List ℕ) (i : ℕ) (labels depths ls cs : List ℕ) (j u : ℕ)
    : Type 0 where
  pub start : Playing t map bounds ss k T counts labels₀ depths₀ ls₀ cs₀
  pub from : (h : Playing t map bounds ss k T counts labels₀ depths₀ ls₀ cs₀)
      → FollowsFrom h.ready.loaded.program h.ready.state T h.given i labels depths ls cs j u

-- after thread T comes thread 0
abbrev turn : ℕ → ℕ → ℕ
turn T u = pick (ltb u T) u 0

-- after some rounds, at place j
pub record Rounds (t map bounds ss : List ℕ) (k T : ℕ) (counts labels₀ depths₀ ls₀ cs₀ labels depths ls cs : List ℕ) (b : Bool) (j r : ℕ) : Type 0 where
  pub follows : Follows t map bounds ss k T counts labels₀ depths₀ ls₀ cs₀ 0 labels depths ls cs j 0
  pub place : j + (k - r) * T ≡ k * T
  pub low : r ≤ k
  pub goes : b ≡ false

-- in round r, which began at place i, thread u being next
pub record Turns (t map bounds ss : List ℕ) (k T : ℕ) (counts labels₀ depths₀ ls₀ cs₀ : List ℕ) (i r : ℕ) (labels depths ls cs : List ℕ) (b : Bool) (j u : ℕ)
    : Type 0 where
  pub follows : Follows t map bounds ss k T counts labels₀ depths₀ ls₀ cs₀ i labels depths ls cs j (turn T u)
  pub place : j + (T - u) + (k - (r + 1)) * T ≡ k * T
  pub low : u ≤ T
  pub goes : b ≡ false

-- ---- the arrays in between are those of a state too

module _ {t map bounds ss : List ℕ} {k T : ℕ} {counts labels₀ depths₀ ls₀ cs₀ : List ℕ} {i : ℕ} {labels depths ls cs : List ℕ} {j u : ℕ}
    (F : Follows t map bounds ss k T counts labels₀ depths₀ ls₀ cs₀ i labels depths ls cs j u) where
  abbrev between : Playing t map bounds ss k T counts labels₀ depths₀ ls₀ cs₀ → Playing t map bounds ss k T counts labels depths ls cs
  between h = record {
    ready = record { loaded = h.ready.loaded; state = (F.from h).state; present = (F.from h).present };
    threads = h.threads;
    given = h.given;
    rest = h.rest;
    split = h.split;
    count = h.count;
    few = h.few;
    rounds = h.rounds;
  }

-- ---- one law for each way through the loops

-- the beginning
pub rounds_start : {t map bounds ss : List ℕ} {k T : ℕ} {counts labels depths ls cs : List ℕ} → Playing t map bounds ss k T counts labels depths ls cs
    → Rounds t map bounds ss k T counts labels depths ls cs labels depths ls cs false 0 0
rounds_start {k = k} h = record {
  follows = record { start = h; from = λ h. record { state = h.ready.state; present = h.ready.present; same = refl } };
  place = let all : k - 0 ≡ k = omega arith in rw all (omega arith);
  low = omega arith;
  goes = refl;
}

module _ {t map bounds ss : List ℕ} {k T : ℕ} {counts labels₀ depths₀ ls₀ cs₀ labels₁ depths₁ ls₁ cs₁ : List ℕ} {b₁ : Bool} {i r : ℕ}
    (R : Rounds t map bounds ss k T counts labels₀ depths₀ ls₀ cs₀ labels₁ depths₁ ls₁ cs₁ b₁ i r) where
  -- all rounds
  pub rounds_all : k ≤ r → Plays t map bounds ss k T counts labels₀ depths₀ ls₀ cs₀ labels₁ depths₁ ls₁ cs₁ b₁
  rounds_all l = rw R.goes (record {
    plays = λ h.
        let F = R.follows.from h in
        let none : k - r ≡ 0 = omega arith in
        let end : i ≡ length h.given = omega (arith, ap (λ (n : ℕ). i + n * T) none, R.place, h.count) in
        record {
          after = F.state;
          present = F.present;
          same =
              F.same
              ∙ ap (λ (ds : List ℕ). tries (labelled h.ready.loaded.program) (allotted T 0 ds) F.state)
              (ap (λ (n : ℕ). drop n h.given) end ∙ drop-length h.given);
        };
  })

  -- a round begins
  pub turns_start : r < k → Turns t map bounds ss k T counts labels₁ depths₁ ls₁ cs₁ i r labels₁ depths₁ ls₁ cs₁ b₁ i 0
  turns_start l =
      let more : k - r ≡ suc (k - (r + 1)) = omega arith in
      let round : (k - r) * T ≡ (k - (r + 1)) * T + T = ap (◌* T) more ∙ suc-mul (k - (r + 1)) T in
      let first : turn T 0 ≡ 0 = at_zero (ltb 0 T) in
      record {
        follows = record {
          start = between R.follows R.follows.start;
          from = λ h. record {
            state = h.ready.state;
            present = h.ready.present;
            same = ap (λ (u : ℕ). tries (labelled h.ready.loaded.program) (allotted T u (drop i h.given)) h.ready.state) (sym first);
          };
        };
        place = omega (arith, R.place);
        low = omega arith;
        goes = R.goes;
      }
    where
      at_zero : (b : Bool) → ◌≡◌ {A = ℕ} (pick b 0 0) 0
      at_zero true = refl
      at_zero false = refl

  module _ {labels depths ls cs : List ℕ} {b : Bool} {j u : ℕ}
      (U : Turns t map bounds ss k T counts labels₁ depths₁ ls₁ cs₁ i r labels depths ls cs b j u) where
    -- a round is over
    pub rounds_more : r < k → T ≤ u → Rounds t map bounds ss k T counts labels₀ depths₀ ls₀ cs₀ labels depths ls cs b j (r + 1)
    rounds_more l m =
        let last : turn T u ≡ 0 = rw (le-ltb u T m) in
        record {
          follows = record {
            start = R.follows.start;
            from = λ h.
                let F = U.follows.from (between R.follows h) in
                record {
                  state = F.state;
                  present = F.present;
                  same =
                      (R.follows.from h).same ∙ F.same
                      ∙ ap (λ (v : ℕ). tries (labelled h.ready.loaded.program) (allotted T v (drop j h.given)) F.state) last;
                };
          };
          place = omega (arith, U.place, U.low);
          low = omega arith;
          goes = U.goes;
        }

    module _ (l : r < k) (m : u < T) where
      -- there is a count for it
      pub turns_there : j < places
      turns_there = omega (arith, U.place, R.follows.start.few)

      -- its number is a byte
      pub turns_thread : u < most_threads
      turns_thread = omega (arith, R.follows.start.threads, R.follows.start.ready.loaded.sound.threads.high)

      -- the thread's turn, in a state of the run
      abbrev taking_of : Playing t map bounds ss k T counts labels₁ depths₁ ls₁ cs₁ → Taking t map bounds ss u labels depths ls cs
      taking_of h = record { ready = (between U.follows h).ready; there = subst (λ (n : ℕ). u < n) h.threads m }

      pub turns_taking : Taking t map bounds ss u labels depths ls cs
      turns_taking = taking_of U.follows.start

      -- the steps of this count come first
      steps_first : (h : Playing t map bounds ss k T counts labels₁ depths₁ ls₁ cs₁)
          → allotted T (turn T u) (drop j h.given) ≡ replicate (get_or counts j 0) u ++ allotted T (turn T (u + 1)) (drop (j + 1) h.given)
      steps_first h =
          let there : j < length h.given = omega (arith, U.place, h.count) in
          let count : get_or counts j 0 ≡ get_or h.given j 0 =
          ap (λ (ds : List ℕ). get_or ds j 0) h.split ∙ get_or-append h.given h.rest 0 j there
          in
          let this : turn T u ≡ u = rw (lt-ltb u T m) in
          let one : j + 1 ≡ suc j = omega arith in
          let other : u + 1 ≡ suc u = omega arith in
          rw (this, count, one, other) (ap (allotted T u) (drop-cons h.given j 0 there))

      module _ {labels' depths' ls' cs' : List ℕ} {x : Bool}
          (K : Takes t map bounds ss u (get_or counts j 0) labels depths ls cs labels' depths' ls' cs' x) where
        -- a step blocked
        pub turns_blocked : x ≡ true → Plays t map bounds ss k T counts labels₀ depths₀ ls₀ cs₀ labels' depths' ls' cs' true
        turns_blocked e = record {
          plays = λ h.
              let g = between R.follows h in
              let q : Program ℕ = labelled h.ready.loaded.program in
              let F = U.follows.from g in
              let L : Led h.ready.loaded.program F.state (replicate (get_or counts j 0) u) labels' depths' ls' cs' true =
              subst (Led h.ready.loaded.program F.state (replicate (get_or counts j 0) u) labels' depths' ls' cs') e (K.takes (taking_of g))
              in
              record {
                after = L.after;
                present = L.present;
                same =
                    (R.follows.from h).same ∙ F.same ∙ ap (λ (us : List ℕ). tries q us F.state) (steps_first g)
                    ∙ L.same (allotted T (turn T (u + 1)) (drop (j + 1) h.given));
              };
        }

        -- none did
        pub turns_more : x ≡ false → Turns t map bounds ss k T counts labels₁ depths₁ ls₁ cs₁ i r labels' depths' ls' cs' b (j + 1) (u + 1)
        turns_more e = record {
          follows = record {
            start = U.follows.start;
            from = λ h.
                let q : Program ℕ = labelled h.ready.loaded.program in
                let F = U.follows.from h in
                let L : Led h.ready.loaded.program F.state (replicate (get_or counts j 0) u) labels' depths' ls' cs' false =
                subst (Led h.ready.loaded.program F.state (replicate (get_or counts j 0) u) labels' depths' ls' cs') e (K.takes (taking_of h))
                in
                record {
                  state = L.after;
                  present = L.present;
                  same =
                      F.same ∙ ap (λ (us : List ℕ). tries q us F.state) (steps_first h)
                      ∙ L.same (allotted T (turn T (u + 1)) (drop (j + 1) h.given));
                };
          };
          place = omega (arith, U.place);
          low = omega arith;
          goes = U.goes;
        }

-- ---- the place of a count, by its round and its thread

-- the beginning
pub rounds_first : {t map bounds ss : List ℕ} {k T : ℕ} {counts labels depths ls cs : List ℕ} → Playing t map bounds ss k T counts labels depths ls cs
    → Rounds t map bounds ss k T counts labels depths ls cs labels depths ls cs false (T * 0) 0
rounds_first {T = T} h = let none : T * 0 ≡ 0 = omega arith in rw none (rounds_start h)

module _ {t map bounds ss : List ℕ} {k T : ℕ} {counts labels₀ depths₀ ls₀ cs₀ labels₁ depths₁ ls₁ cs₁ : List ℕ} {b₁ : Bool} {r : ℕ}
    (R : Rounds t map bounds ss k T counts labels₀ depths₀ ls₀ cs₀ labels₁ depths₁ ls₁ cs₁ b₁ (T * r) r) (l : r < k) where
  -- a round begins
  pub turns_first : Turns t map bounds ss k T counts labels₁ depths₁ ls₁ cs₁ (T * r) r labels₁ depths₁ ls₁ cs₁ b₁ (T * r + 0) 0
  turns_first = let same : T * r + 0 ≡ T * r = omega arith in rw same (turns_start R l)

  module _ {labels depths ls cs : List ℕ} {b : Bool} {u : ℕ}
      (U : Turns t map bounds ss k T counts labels₁ depths₁ ls₁ cs₁ (T * r) r labels depths ls cs b (T * r + u) u) where
    -- a round is over
    pub rounds_next : T ≤ u → Rounds t map bounds ss k T counts labels₀ depths₀ ls₀ cs₀ labels depths ls cs b (T * (r + 1)) (r + 1)
    rounds_next m = let same : T * (r + 1) ≡ T * r + u = omega (arith, U.low) in rw same (rounds_more R U l m)

    -- the next thread's turn
    pub turns_next : (m : u < T) {labels' depths' ls' cs' : List ℕ} {x : Bool}
        → Takes t map bounds ss u (get_or counts (T * r + u) 0) labels depths ls cs labels' depths' ls' cs' x → x ≡ false
        → Turns t map bounds ss k T counts labels₁ depths₁ ls₁ cs₁ (T * r) r labels' depths' ls' cs' b (T * r + (u + 1)) (u + 1)
    turns_next m K e = let same : T * r + (u + 1) ≡ T * r + u + 1 = omega arith in rw same (turns_more R U l m K e)

-- one law for each way
pub ruleset play_ways = (rounds_first, rounds_all, turns_first, rounds_next, turns_there, turns_thread, turns_taking, turns_blocked, turns_next)

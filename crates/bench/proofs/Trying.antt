-- One allotment is tried, way by way.
use Prim.Native.Nat.{ℕ, suc, ◌+◌, ◌*◌, ◌^◌, ◌≤◌, ◌<◌}
use native.Mathlib.Nat.{pow-le-pow_left, pow-le-pow_right}
use native.Mathlib.Omega.{arith}
use mathlib.Core.Path.{◌≡◌, sym, ap, subst, ◌∙◌}
use mathlib.Core.List.{List, [], ◌++◌}
use mathlib.Core.Bool.{Bool}
use lib.ListN.{length, drop, replicate, length-append, length-drop}
use lib.Seq.{drop_at}
use lib.Dec.{ltb}
use borrow.Author.Tests.{ltb-true, ltb-false}
use Rattle.value.specs.Lists.{sum}
use Rattle.value.proofs.Laws.Tests.{by_test}
use Rattle.format.specs.Syntax.{Program, Plain}
use Rattle.format.specs.Labels.{labelled}
use Rattle.semantics.specs.Memory.{Memory}
use Rattle.semantics.specs.Threads as Q
use Rattle.semantics.proofs.Laws.Cells.{shape}
use Rattle.engine.specs.Work.{program_words, flat, Holds}
use Rattle.engine.specs.Laws.Holding.{length_flat}
use Rattle.concurrent.specs.Concurrent.{MainsAt, Accepted}
use Rattle.concurrent.specs.Anew.{Renews}
use Rattle.concurrent.proofs.ConcurrentCall.{accepted_cells, accepted_mains}
use Rattle.concurrent.proofs.Renewing.{prepared, renewed}
use Rattle.allotments.specs.Allotments.{counts, allotted}
use Rattle.allotments.specs.Bench.{places, counts_at, run_at}
use Rattle.allotments.proofs.Laws.Trials.{Tried, tries, tried_by, run_tries}
use Rattle.allotments.proofs.Laws.Digits.{length_counts}
use Rattle.bench.specs.Counting.{Threads, Benched, Filling, Fills}
use Rattle.bench.specs.Trying.{Playing, Ends, Plays, Kept, Trying, RanAt, Tries}
use Rattle.bench.proofs.Counting.{steps_based, counts_fit}

-- 20 counts would be too many
few_counts : (T k s : ℕ) → Benched T k s → k * T ≤ places
few_counts T k s h = by_test (ltb places (k * T))
    (λ e.
    let many : 20 ≤ k * T = ltb-true places (k * T) e in
    let low : 2 ^ 20 ≤ 2 ^ (k * T) = pow-le-pow_right (omega arith) many in
    let high : 2 ^ (k * T) ≤ suc s ^ (k * T) = pow-le-pow_left (omega (arith, h.some)) (k * T) in
    absurd (omega (arith, h.few)))
    (λ e. ltb-false places (k * T) e)

-- the threads of an accepted table
pub accepted_threads : {t : List ℕ} {P M T c : ℕ} → Accepted t P M T c → Threads T
accepted_threads a = record { some = omega (arith, a.threads, a.sound.threads.low); few = omega (arith, a.threads, a.sound.threads.high) }

module _ {t : List ℕ} {i₀ T c k s i : ℕ} {map bounds ss counts₀ labels depths ls cs : List ℕ}
    (h : Trying t i₀ T c k s i map bounds ss counts₀ labels depths ls cs) where
  -- the base is a word
  pub trying_base : s + 1 < 2 ^ 64
  trying_base = omega (arith, h.bench.steps)

  -- so is the number of counts
  pub trying_places : k * T < 2 ^ 64
  trying_places = counts_fit (accepted_threads h.accepted) h.bench.rounds

  -- room for the counts
  pub trying_filling : Filling (s + 1) (k * T) counts₀
  trying_filling = record {
    based = steps_based (λ e. omega (arith, h.bench.some)) h.bench.steps;
    few = few_counts T k s h.bench;
    long = h.kept.counts_long;
  }

  -- the mains
  pub trying_mains : MainsAt t i₀ T
  trying_mains = rw h.mains (accepted_mains h.accepted)

  -- the cells
  pub trying_cells : c ≤ program_words
  trying_cells = accepted_cells h.accepted

module _ {t : List ℕ} {i₀ T c k s i : ℕ} {map bounds ss counts₀ labels₀ depths₀ ls₀ cs₀ counts₁ labels₁ depths₁ ls₁ cs₁ : List ℕ}
    (F : Fills i (s + 1) (k * T) counts₀ counts₁) (R : Renews t i₀ T c bounds labels₁ depths₁ ls₁ cs₁) where
  -- the run begins
  abbrev playing_of : Trying t i₀ T c k s i map bounds ss counts₀ labels₀ depths₀ ls₀ cs₀
      → Playing t map bounds ss k T counts₁ labels₁ depths₁ ls₁ cs₁
  playing_of h = record {
    ready = record {
      loaded = prepared h.accepted h.prepares;
      state = Q.start (labelled h.accepted.program);
      present =
          renewed h.accepted h.prepares
          (subst (λ (n : ℕ). Renews t n T c bounds labels₁ depths₁ ls₁ cs₁) h.mains R);
    };
    threads = h.accepted.threads;
    given = counts (s + 1) (k * T) i;
    rest = drop (k * T) counts₀;
    split = F.filled;
    count = length_counts (s + 1) (k * T) i;
    few = few_counts T k s h.bench;
    rounds = h.bench.rounds;
  }

  pub trying_playing : Trying t i₀ T c k s i map bounds ss counts₀ labels₀ depths₀ ls₀ cs₀ → Playing t map bounds ss k T counts₁ labels₁ depths₁ ls₁ cs₁
  trying_playing h = playing_of h

  -- the other counts stay 0
  blank_of : (h : Trying t i₀ T c k s i map bounds ss counts₀ labels₀ depths₀ ls₀ cs₀) → drop (k * T) counts₁ ≡ drop (k * T) (replicate places 0)
  blank_of h =
      ap (drop (k * T)) F.filled
      ∙ drop_at (counts (s + 1) (k * T) i) (drop (k * T) counts₀) (k * T) (length_counts (s + 1) (k * T) i) ∙ h.kept.blank

  module _ {labels₂ depths₂ ls₂ cs₂ : List ℕ} {x : Bool}
      (W : Plays t map bounds ss k T counts₁ labels₁ depths₁ ls₁ cs₁ labels₂ depths₂ ls₂ cs₂ x) where
    -- what the run came to
    ran : (h : Trying t i₀ T c k s i map bounds ss counts₀ labels₀ depths₀ ls₀ cs₀) → RanAt h.accepted.program k s i counts₁ cs₂ x
    ran h =
        let p : Program Plain = h.accepted.program in
        let q : Program ℕ = labelled p in
        let E : Ends p (Q.start q) (allotted T 0 (counts (s + 1) (k * T) i)) labels₂ depths₂ ls₂ cs₂ x = W.plays (playing_of h) in
        let one : s + 1 ≡ suc s = omega arith in
        let given : counts (s + 1) (k * T) i ≡ counts_at p k s i =
        ap (λ (b : ℕ). counts b (k * T) i) one ∙ ap (λ (n : ℕ). counts (suc s) (k * n) i) h.accepted.threads
        in
        let steps : allotted T 0 (counts (s + 1) (k * T) i) ≡ allotted (length p.mains) 0 (counts_at p k s i) =
        ap (λ (n : ℕ). allotted n 0 (counts (s + 1) (k * T) i)) h.accepted.threads ∙ ap (allotted (length p.mains) 0) given
        in
        let whole : tried_by q (run_at p k s i) ≡ record { state = E.after; stuck = x } =
        run_tries q (allotted (length p.mains) 0 (counts_at p k s i)) (Q.start q) 0 []
        ∙ ap (λ (us : List ℕ). tries q us (Q.start q)) (sym steps) ∙ E.same
        in
        let state : (run_at p k s i).state ≡ E.after = ap (λ (r : Tried). r.state) whole in
        let long : length (counts_at p k s i) ≡ k * T = ap length (sym given) ∙ length_counts (s + 1) (k * T) i in
        record {
          blocks = ap (λ (r : Tried). r.stuck) whole;
          given =
              F.filled ∙ ap (◌++ drop (k * T) counts₀) given ∙ ap (counts_at p k s i ++◌) h.kept.blank
              ∙ ap (λ (n : ℕ). counts_at p k s i ++ drop n (replicate places 0)) (sym long);
          memory = subst (λ (η : Q.State). Holds η.memory cs₂) (sym state) E.present.memory;
          sizes = ap (λ (η : Q.State). shape η.memory) state ∙ E.present.sizes;
        }

    -- the arrays then
    kept_of : (h : Trying t i₀ T c k s i map bounds ss counts₀ labels₀ depths₀ ls₀ cs₀) → Kept T c k counts₁ labels₂ depths₂ ls₂ cs₂
    kept_of h =
        let E = W.plays (playing_of h) in
        let η : Memory = E.after.memory in
        let all : c ≡ length (flat η) = h.accepted.cells ∙ ap sum (sym E.present.sizes) ∙ sym (length_flat η) in
        record {
          blank = blank_of h;
          counts_long =
              ap length F.filled ∙ length-append (counts (s + 1) (k * T) i) (drop (k * T) counts₀)
              ∙ omega (arith, length_counts (s + 1) (k * T) i, length-drop (k * T) counts₀, h.kept.counts_long, few_counts T k s h.bench);
          labels_long = E.present.threads.labels_long;
          depths_long = E.present.threads.depths_long;
          words_long = E.present.long;
          cells_room = omega (arith, E.present.memory.few);
        }

    -- it was tried
    pub tries_all : Tries t i₀ T c k s i map bounds ss counts₀ labels₀ depths₀ ls₀ cs₀ counts₁ labels₂ depths₂ ls₂ cs₂ x
    tries_all = record { tried = ran; kept = kept_of }

-- one law for each way
pub ruleset try_ways = (trying_base, trying_places, trying_filling, trying_mains, trying_cells, trying_playing, tries_all)

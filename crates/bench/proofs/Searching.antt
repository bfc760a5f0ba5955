-- The search, way by way.
use Prim.Native.Nat.{ℕ, suc, ◌+◌, ◌*◌, ◌-◌, ◌^◌, ◌≤◌, ◌<◌}
use native.Mathlib.Nat.{one-le-pow}
use native.Mathlib.Omega.{arith}
use mathlib.Core.Path.{◌≡◌, refl, sym, ap, subst, ◌∙◌}
use mathlib.Core.List.{List}
use mathlib.Core.Bool.{Bool, true, false}
use lib.ListN.{length, replicate, length-replicate}
use lib.Dec.{eqb}
use borrow.Author.Tests.{eqb-true, eqb-false}
use Rattle.value.specs.Maybe.{nothing}
use Rattle.value.specs.Lists.{sum, over}
use Rattle.value.specs.Values.{cell_size}
use Rattle.value.proofs.Laws.Tests.{by_test}
use Rattle.basics.specs.Sizes.{map_words, bound_words}
use Rattle.format.specs.Syntax.{Program, Plain}
use Rattle.format.specs.Encode.{trailer_size}
use Rattle.semantics.specs.Memory.{Memory}
use Rattle.semantics.specs.Buffers.{cells}
use Rattle.engine.specs.Work.{thread_words, start_words, program_words, flat, Writes}
use Rattle.engine.specs.Laws.Holding.{length_flat}
use Rattle.atomic.specs.Threaded.{most_threads, all_frames}
use Rattle.concurrent.specs.Anew.{Preparing, Prepares}
use Rattle.concurrent.proofs.ConcurrentCall.{accepted_cells}
use Rattle.allotments.specs.declared.BenchAnswer.{BenchAnswer}
use Rattle.allotments.specs.Bench.{places, allotments, without, first_from, run_at, blocks_at, searched}
use Rattle.allotments.proofs.Laws.Searches.{Least, first_least, first_none}
use Rattle.bench.specs.Trying.{Kept, Trying, RanAt, Tries}
use Rattle.bench.specs.Searching.{found_with, Searching, Searches}

-- ---- the state of the loop

-- no allotment before number i blocks
pub record Seeking (t : List ℕ) (P M T c k s n : ℕ) (out₀ : List ℕ) (m : ℕ) (map bounds ss out counts labels depths ls cs : List ℕ) (i : ℕ) : Type 0 where
  pub start : Searching t P M T c k s n out₀
  pub prepares : Prepares t P M T map bounds ss
  pub mains : m ≡ length t - trailer_size - 2 * T
  pub before : (h : Searching t P M T c k s n out₀) (j : ℕ) → j < i → blocks_at h.accepted.program k s j ≡ false
  pub low : i ≤ n
  -- the one before was run last
  pub last : (h : Searching t P M T c k s n out₀) → 0 < i → RanAt h.accepted.program k s (i - 1) counts cs false
  pub arrays : Kept T c k counts labels depths ls cs
  pub kept : out ≡ out₀

-- ---- before the loop

module _ {t : List ℕ} {P M T c k s n : ℕ} {out : List ℕ} (h : Searching t P M T c k s n out) where
  -- the trailer and the mains are there
  pub seeking_room : trailer_size + 2 * T ≤ length t
  seeking_room = omega (arith, h.accepted.room)

  -- the program is to be prepared
  pub seeking_preparing : Preparing t P M T (replicate map_words 0) (replicate bound_words 0) (replicate start_words 0)
  seeking_preparing = record {
    cells = c;
    accepted = h.accepted;
    map_long = length-replicate {A = ℕ} map_words 0;
    bounds_long = length-replicate {A = ℕ} bound_words 0;
    starts_long = length-replicate {A = ℕ} start_words 0;
  }

  -- the loop begins
  pub seeking_start : {m : ℕ} {map bounds ss : List ℕ} → Prepares t P M T map bounds ss → m ≡ length t - trailer_size - 2 * T
      → Seeking t P M T c k s n out m map bounds ss out (replicate places 0) (replicate all_frames 0) (replicate most_threads 0)
      (replicate thread_words 0) (replicate program_words 0) 0
  seeking_start w e =
      record {
        start = h;
        prepares = w;
        mains = e;
        before = λ h j l. absurd (omega arith);
        low = omega arith;
        last = λ h l. absurd (omega arith);
        arrays = record {
          blank = refl;
          counts_long = length-replicate {A = ℕ} places 0;
          labels_long = length-replicate {A = ℕ} all_frames 0;
          depths_long = length-replicate {A = ℕ} most_threads 0;
          words_long = length-replicate {A = ℕ} thread_words 0;
          cells_room = omega (arith, accepted_cells h.accepted, length-replicate {A = ℕ} program_words 0);
        };
        kept = refl;
      }

-- ---- in the loop

module _ {t : List ℕ} {P M T c k s n : ℕ} {out₀ : List ℕ} {m : ℕ} {map bounds ss out counts labels depths ls cs : List ℕ} {i : ℕ}
    (G : Seeking t P M T c k s n out₀ m map bounds ss out counts labels depths ls cs i) where
  -- this one is to be tried
  abbrev trying_of : i < n → Searching t P M T c k s n out₀ → Trying t m T c k s i map bounds ss counts labels depths ls cs
  trying_of l h = record {
    procedures = P;
    locations = M;
    accepted = h.accepted;
    prepares = G.prepares;
    mains = G.mains;
    bench = h.bench;
    before = G.before h;
    more = subst (λ (z : ℕ). i < z) h.total l;
    kept = G.arrays;
  }

  pub seeking_trying : i < n → Trying t m T c k s i map bounds ss counts labels depths ls cs
  seeking_trying l = trying_of l G.start

  -- its cells fit the words
  pub seeking_cells : c ≤ program_words
  seeking_cells = accepted_cells G.start.accepted

  -- the number of allotments
  total_of : (h : Searching t P M T c k s n out₀) → allotments (length h.accepted.program.mains) k s ≡ n
  total_of h = ap (λ (z : ℕ). allotments z k s) (sym h.accepted.threads) ∙ sym h.total

  -- the cells that are written out, of the run that left them
  wrote : (h : Searching t P M T c k s n out₀) {j : ℕ} {b : Bool} {counts' cs' out' : List ℕ} → RanAt h.accepted.program k s j counts' cs' b
      → Writes cs' c out out' → out' ≡ over (cells (run_at h.accepted.program k s j).state.memory) out₀
  wrote h {j} r w =
      let p : Program Plain = h.accepted.program in
      let η : Memory = (run_at p k s j).state.memory in
      let all : c ≡ length (flat η) = h.accepted.cells ∙ ap sum (sym r.sizes) ∙ sym (length_flat η) in
      let room : cell_size * c ≤ length out = subst (λ (o : List ℕ). cell_size * c ≤ length o) (sym G.kept) h.room in
      w.written η r.memory all room ∙ ap (over (cells η)) G.kept

  -- none blocks
  pub seeking_none : {out' : List ℕ} {r : BenchAnswer} → n ≤ i → Writes cs c out out' → r ≡ without 0 → Searches t P M T c k s n out₀ out' r
  seeking_none {out'} l w f = record {
    same = λ h.
        let p : Program Plain = h.accepted.program in
        let N : ℕ = allotments (length p.mains) k s in
        let all : N ≡ n = total_of h in
        let some : 1 ≤ suc s ^ (k * length p.mains) = one-le-pow (k * length p.mains) (suc s) (omega arith) in
        let last : i - 1 ≡ N - 1 = omega (arith, G.low) in
        let none : first_from (blocks_at p k s) 0 N ≡ nothing =
        first_none (blocks_at p k s) 0 N (λ j u v. G.before h j (omega arith))
        in
        rw (f, wrote h (G.last h (omega arith)) w)
        (ap (λ (l : ℕ). record { answer = without 0; cells = over (cells (run_at p k s l).state.memory) out₀ }) last
        ∙ sym (ap (searched p k s out₀) none));
  }

  module _ (l : i < n) {b : Bool} {counts' labels' depths' ls' cs' : List ℕ}
      (K : Tries t m T c k s i map bounds ss counts labels depths ls cs counts' labels' depths' ls' cs' b) where
    -- what trying it came to
    ran : (h : Searching t P M T c k s n out₀) {d : Bool} → b ≡ d → RanAt h.accepted.program k s i counts' cs' d
    ran h e = subst (RanAt h.accepted.program k s i counts' cs') e (K.tried (trying_of l h))

    -- it blocks
    pub seeking_found : {out' : List ℕ} {r : BenchAnswer} → b ≡ true → Writes cs' c out out' → r ≡ found_with i counts'
        → Searches t P M T c k s n out₀ out' r
    seeking_found {out'} e w f = record {
      same = λ h.
          let p : Program Plain = h.accepted.program in
          let a = ran h e in
          let least : Least (blocks_at p k s) 0 (allotments (length p.mains) k s) i =
          record {
            low = omega arith;
            high = omega (arith, total_of h);
            passes = a.blocks;
            before = λ j l z. G.before h j z;
          }
          in
          rw (f, a.given, wrote h a w)
          (sym (ap (searched p k s out₀) (first_least (blocks_at p k s) 0 (allotments (length p.mains) k s) i least)));
    }

    -- nor does this one
    before_next : (h : Searching t P M T c k s n out₀) → b ≡ false → (j : ℕ) → j < i + 1 → blocks_at h.accepted.program k s j ≡ false
    before_next h e j z =
        by_test (eqb j i)
        (λ q. let same : j ≡ i = eqb-true j i q in ap (blocks_at h.accepted.program k s) same ∙ (ran h e).blocks)
        (λ q. let other = eqb-false j i q in G.before h j (omega arith))

    -- it goes on
    pub seeking_on : b ≡ false → Seeking t P M T c k s n out₀ m map bounds ss out counts' labels' depths' ls' cs' (i + 1)
    seeking_on e =
        let this : i + 1 - 1 ≡ i = omega arith in
        record {
          start = G.start;
          prepares = G.prepares;
          mains = G.mains;
          before = λ h. before_next h e;
          low = omega arith;
          last = λ h z. rw this (ran h e);
          arrays = K.kept (trying_of l G.start);
          kept = G.kept;
        }

-- one law for each way
pub ruleset seek_ways = (seeking_room, seeking_preparing, seeking_start, seeking_trying, seeking_cells, seeking_found, seeking_none, seeking_on)

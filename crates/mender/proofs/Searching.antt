-- One law for each way through the search.
use Prim.Native.Nat.{ℕ, suc, ◌+◌, ◌*◌, ◌-◌, ◌/◌, ◌%◌, ◌≤◌, ◌<◌}
use native.Mathlib.Omega.{arith}
use native.Mathlib.Numerals.{add-one}
use mathlib.Core.Path.{◌≡◌, refl, sym, ap, ap₂, subst, ◌∙◌}
use mathlib.Core.List.{List, [], ◌∷◌, ◌++◌, append_assoc, append-nil}
use mathlib.Core.Bool.{Bool, true, false}
use lib.ListN.{length, drop, length-take}
use lib.Dec.{leb, eqb}
use borrow.Author.Tests.{le-leb, lt-leb, eq-eqb, ne_eqb}
use Rattle.value.specs.Maybe.{Maybe, is, nothing, ◌>>=◌, when, pick, both}
use Rattle.value.specs.Lists.{upto}
use Rattle.value.proofs.Laws.Tests.{by_test}
use Rattle.format.specs.Syntax.{Block, Plain, Kind, concurrent, sequential}
use Rattle.format.specs.Encode.{Trailer, trailer, trailer_size, record_size}
use Rattle.format.specs.Decode.{Read, but, max_nesting}
use Rattle.format.specs.Decode as D
use Rattle.format.specs.Rules as R
use Rattle.format.specs.Rules.{Verdict, refused, accepted, verdict, limits, allowed}
use Rattle.format.specs.Calls.{read_as, read_call}
use Rattle.format.specs.declared.ReadAnswer.{ReadAnswer}
use Rattle.format.proofs.Laws.Refusals.{refused_within}
use Rattle.format.proofs.Laws.Procs.{body_in}
use Rattle.basics.specs.declared.numbers.Limits as L
use Rattle.parse.specs.Ends.{end_of, check, limits_of, BodyReads}
use Rattle.std.specs.Prelude.{Option, Result, Ok, Err}
use Rattle.std.specs.Prelude as Opt
use Rattle.std.specs.Result.{is_ok}
use Rattle.basics.specs.Refusals.{refusal_number}
use Rattle.basics.specs.declared.refusals.Refusal.{Refusal}
use Rattle.basics.specs.declared.refusals.Refusal.TheVariants as Why
use Rattle.reader.specs.Answers.{answer_of}
use Rattle.reader.specs.declared.verdict.Counts as C
use Rattle.parse.proofs.Chains.{end_inside}
use Rattle.mending.specs.Mending.{range, gather, trailer_for, passes, accepts, kept}
use Rattle.mending.proofs.Laws.Narrow.{further, body_end, tried, tried_at, narrowed}
use Rattle.mending.proofs.Laws.Mended.{with_front, with_length}
use Rattle.mender.specs.declared.trailer.Counts.{Counts}
use Rattle.mender.specs.declared.search.Found.{Found}
use Rattle.mender.specs.declared.search.Found.TheVariants.{None, One, Several}
use Rattle.mender.specs.Trailing.{Sized, trailer_as, Trails}
use Rattle.mender.specs.Searching.{counts_of, tally, Accepted, Adds, Tallies, TriesCounts, TriesThreads, TriesProcedures, Finds}

-- ---- accepted or not

-- by the number that the reader answers
by_number : (k : Kind) (t : List ℕ) {a : ReadAnswer} → a ≡ read_call k t → eqb a.number 0 ≡ accepts k t
by_number k t {a} same = by (verdict k t) refl
  where
    by : (v : Verdict) → verdict k t ≡ v → eqb a.number 0 ≡ accepts k t
    by (refused n) e =
        let number : a.number ≡ n = ap (λ (x : ReadAnswer). x.number) same ∙ ap (λ (v : Verdict). (read_as k v).number) e in
        ne_eqb a.number 0 (λ z. omega (arith, (refused_within k t n e).low)) ∙ sym (ap passes e)
    by (accepted p) e =
        eq-eqb a.number 0 (ap (λ (x : ReadAnswer). x.number) same ∙ ap (λ (v : Verdict). (read_as k v).number) e) ∙ sym (ap passes e)

-- a refusal has a number
numbered : (why : Refusal) → eqb (refusal_number why) 0 ≡ false
numbered Why.Trailer = refl
numbered Why.Counts = refl
numbered Why.Records = refl
numbered Why.Bodies = refl
numbered Why.Names = refl
numbered Why.Labels = refl
numbered Why.Cycle = refl
numbered Why.Unset = refl
numbered Why.TooLong = refl
numbered Why.NoRoom = refl
numbered Why.Schedule = refl
numbered Why.NoCells = refl
numbered Why.Allotments = refl
numbered Why.NoChoice = refl
numbered Why.Choices = refl
numbered Why.NotOurs = refl

-- by what the check gives
pub accepted_checked : {k : Kind} {t : List ℕ} (r : Result C.Counts Refusal) {b : Bool} → answer_of r ≡ read_call k t → b ≡ is_ok r → Accepted k t b
accepted_checked {k} {t} r same e = record { same = e ∙ by r ∙ by_number k t same }
  where
    by : (r : Result C.Counts Refusal) → is_ok r ≡ eqb (answer_of r).number 0
    by (Ok c) = refl
    by (Err why) = sym (numbered why)

-- ---- one choice more

-- the first
pub adds_first : {f : Found} {c : Counts} → f ≡ None → Adds f c (One c)
adds_first {f} {c} z = record { same = λ xs r e k. go xs r (sym e ∙ z) k }
  where
    go : (xs : List Trailer) (r : Trailer) → tally xs ≡ None → c ≡ counts_of r → One c ≡ tally (xs ++ (r ∷ []))
    go [] r e k = ap One k
    go (x ∷ []) r e k = cc
    go (x ∷ y ∷ xs) r e k = cc

-- a later one
more : (xs : List Trailer) (r : Trailer) → (tally xs ≡ None → ⊥) → Several ≡ tally (xs ++ (r ∷ []))
more [] r n = absurd (n refl)
more (x ∷ []) r n = refl
more (x ∷ y ∷ xs) r n = refl

-- the second
pub adds_second : {f : Found} {c d : Counts} → f ≡ One d → Adds f c Several
adds_second z = record { same = λ xs r e k. more xs r (λ n. let q : One _ ≡ None = sym z ∙ e ∙ n in let x : ◌≡◌ {A = ℕ} 0 1 = cc in omega arith) }

-- others
pub adds_other : {f : Found} {c : Counts} → f ≡ Several → Adds f c Several
adds_other z = record { same = λ xs r e k. more xs r (λ n. let q : Several ≡ None = sym z ∙ e ∙ n in let x : ◌≡◌ {A = ℕ} 0 1 = cc in omega arith) }

-- ---- tallies

-- nothing
pub tallies_none : {t : List ℕ} {f : Found} → Tallies t f [] t f
tallies_none = record { front = refl; length = refl; same = λ xs e. e ∙ ap tally (sym (append-nil xs)) }

-- some, and then others
tallies_then : {t t' t'' : List ℕ} {f g h : Found} (ys zs : List Trailer) → Tallies t f ys t' g → Tallies t' g zs t'' h → Tallies t f (ys ++ zs) t'' h
tallies_then ys zs A B = record {
  front = B.front ∙ A.front;
  length = B.length ∙ A.length;
  same = λ xs e. B.same (xs ++ ys) (A.same xs e) ∙ ap tally (append_assoc xs ys zs);
}

-- the same trailers
tallies_same : {t t' : List ℕ} {f g : Found} {ys zs : List Trailer} → ys ≡ zs → Tallies t f ys t' g → Tallies t f zs t' g
tallies_same {t} {t'} {f} {g} e A = subst (λ ys. Tallies t f ys t' g) e A

module _ {k : Kind} {t t' : List ℕ} {c : Counts} (s : Sized t) (T : Trails k t c t') {b : Bool} (e : Accepted k t' b) where
  -- by whether the choice is acceptable
  known : kept k t (trailer_as k t c) ≡ pick b (trailer_as k t c ∷ []) []
  known = ap (λ (x : Bool). pick x (trailer_as k t c ∷ []) []) (ap (accepts k) (sym T.same) ∙ sym e.same)

  -- the bytes before stay
  fronts : but trailer_size t' ≡ but trailer_size t
  fronts = ap (but trailer_size) T.same ∙ with_front t (trailer_as k t c)

  -- and the length
  lengths : length t' ≡ length t
  lengths = ap length T.same ∙ with_length t (trailer_as k t c) s.long

  -- it is
  pub kept_one : {f g : Found} → b ≡ true → Adds f c g → TriesCounts k t c f t' g
  kept_one z A = record {
    tallies = tallies_same (sym (known ∙ ap (λ (x : Bool). pick x (trailer_as k t c ∷ []) []) z))
        (record { front = fronts; length = lengths; same = λ xs e. A.same xs (trailer_as k t c) e refl });
  }

  -- it is not
  pub kept_none : {f : Found} → b ≡ false → TriesCounts k t c f t' f
  kept_none z = record {
    tallies = tallies_same (sym (known ∙ ap (λ (x : Bool). pick x (trailer_as k t c ∷ []) []) z))
        (record { front = fronts; length = lengths; same = λ xs e. e ∙ ap tally (sym (append-nil xs)) });
  }

-- ---- the choices with P procedures, n locations and threads, and T threads

-- the bound of locations, as the code has it
places : (k : Kind) {m : L.Limits} → limits_of m ≡ limits k → (limits k).places ≡ m.locations
places k e = ap (λ (x : R.Limits). x.places) (sym e)

-- the choice, by its tests
abbrev fits : Kind → List ℕ → ℕ → ℕ → ℕ → Bool → Bool → List Trailer
fits k t P n T a b = pick (both a b) (kept k t (trailer_for k (length t) P (n - T) T)) []

module _ {k : Kind} {t : List ℕ} {P n T : ℕ} {f : Found} where
  -- too many threads
  pub threads_over : n < T → TriesThreads k t P n T f t f
  threads_over l = record { tallies = tallies_same (ap (λ (a : Bool). fits k t P n T a (leb (n - T) (limits k).places)) (sym (lt-leb T n l))) tallies_none }

  module _ {m : L.Limits} (e : limits_of m ≡ limits k) (l : T ≤ n) where
    -- too many locations
    pub locations_over : m.locations < n - T → TriesThreads k t P n T f t f
    locations_over h = record {
      tallies = tallies_same (ap₂ (fits k t P n T) (sym (le-leb T n l)) (sym (lt-leb (n - T) (limits k).places (omega (arith, places k e))))) tallies_none;
    }

    -- neither
    pub counts_tried : {t' : List ℕ} {g : Found} → n - T ≤ m.locations
        → TriesCounts k t (record { procedures = P; locations = n - T; threads = T }) f t' g → TriesThreads k t P n T f t' g
    counts_tried h A = record {
      tallies = tallies_same (ap₂ (fits k t P n T) (sym (le-leb T n l)) (sym (le-leb (n - T) (limits k).places (omega (arith, places k e))))) A.tallies;
    }

-- one law for each way
pub ruleset counts_ways = (
  adds_first,
  adds_second,
  adds_other,
  kept_one,
  kept_none,
  threads_over,
  locations_over,
  counts_tried,
)

-- ---- what is still to be tried

-- of `all`, from the table t on, only `rest` remains
pub record Tallying (t : List ℕ) (f : Found) (all : List Trailer) (t' : List ℕ) (g : Found) (rest : List Trailer) : Type 0 where
  pub then : {t'' : List ℕ} {h : Found} → Tallies t' g rest t'' h → Tallies t f all t'' h
  pub front : but trailer_size t' ≡ but trailer_size t
  pub length : length t' ≡ length t

-- some more are tried
tallying_next : {t t' t'' : List ℕ} {f g h : Found} {all : List Trailer} (ys zs : List Trailer) → Tallying t f all t' g (ys ++ zs) → Tallies t' g ys t'' h
    → Tallying t f all t'' h zs
tallying_next ys zs A B = record { then = λ C. A.then (tallies_then ys zs B C); front = B.front ∙ A.front; length = B.length ∙ A.length }

-- the same rest
tallying_same : {t t' : List ℕ} {f g : Found} {all ys zs : List Trailer} → ys ≡ zs → Tallying t f all t' g ys → Tallying t f all t' g zs
tallying_same {t} {t'} {f} {g} {all} e A = subst (λ ys. Tallying t f all t' g ys) e A

-- a table that stays sized
sized_as : {t t' : List ℕ} → Sized t → length t' ≡ length t → Sized t'
sized_as s e = record { long = omega (arith, s.long); few = omega (arith, s.few) }

-- the choices are those of the bytes before the trailer, and of the length
module _ (k : Kind) (t t' : List ℕ) (front : but trailer_size t' ≡ but trailer_size t) (long : length t' ≡ length t) where
  -- with T threads
  tried_same : (P n T : ℕ) → tried k t' P n T ≡ tried k t P n T
  tried_same P n T =
      ap₂ (λ (u : List ℕ) (l : ℕ).
      let r : Trailer = trailer_for k l P (n - T) T in
      pick (both (leb T n) (leb (n - T) (limits k).places)) (pick (accepts k (u ++ trailer r)) (r ∷ []) []) []) front long

  -- with P procedures
  tried_at_same : (P i : ℕ) → tried_at k t' P i ≡ tried_at k t P i
  tried_at_same P i =
      ap₂ (λ (u : List ℕ) (l : ℕ).
      let behind : ℕ = i + record_size * P in
      pick (both (leb behind (length u)) (eqb ((length u - behind) % 2) 0))
      (gather (range (limits k).fewest (limits k).threads) λ T.
      let r : Trailer = trailer_for k l P ((length u - behind) / 2 - T) T in
      pick (both (leb T ((length u - behind) / 2)) (leb ((length u - behind) / 2 - T) (limits k).places)) (pick (accepts k (u ++ trailer r)) (r ∷ []) []) [])
      []) front long

-- ---- the choices with P procedures

-- the length of what is before the trailer
ahead_long : (t : List ℕ) → length (but trailer_size t) ≡ length t - trailer_size
ahead_long t = length-take (length t - trailer_size) t ∙ omega arith

-- the choices with P procedures, by their tests
abbrev fits_at : Kind → List ℕ → ℕ → ℕ → Bool → Bool → List Trailer
fits_at k t P n a b = pick (both a b) (gather (range (limits k).fewest (limits k).threads) (tried k t P n)) []

-- n locations and threads; from T threads on they are still to be tried
pub record Trying (k : Kind) (t₀ : List ℕ) (f₀ : Found) (P i : ℕ) (t : List ℕ) (f : Found) (n T : ℕ) : Type 0 where
  pub goes : Tallying t₀ f₀ (tried_at k t₀ P i) t f (gather (upto T (suc (limits k).threads - T)) (tried k t₀ P n))
  pub sized : Sized t

-- few threads
few_threads : (k : Kind) → (limits k).threads < 65535
few_threads concurrent = omega arith
few_threads sequential = omega arith

-- the bounds of threads, as the code has them
threads_as : (k : Kind) {m : L.Limits} → limits_of m ≡ limits k → ((limits k).threads ≡ m.threads) × ((limits k).fewest ≡ m.fewest)
threads_as k e = (ap (λ (x : R.Limits). x.threads) (sym e), ap (λ (x : R.Limits). x.fewest) (sym e))

module _ {k : Kind} {t : List ℕ} {P i : ℕ} {f : Found} where
  -- the records would reach behind the trailer
  pub records_over : length t - trailer_size < i + record_size * P → TriesProcedures k t P i f t f
  records_over l =
      let n : ℕ = length (but trailer_size t) in
      let behind : ℕ = i + record_size * P in
      record {
        tallies = tallies_same (ap (λ (a : Bool). fits_at k t P ((n - behind) / 2) a (eqb ((n - behind) % 2) 0))
            (sym (lt-leb behind n (omega (arith, ahead_long t))))) tallies_none;
      }

  module _ (l : i + record_size * P ≤ length t - trailer_size) where
    -- an odd number of bytes follows them
    pub rest_odd : ((length t - trailer_size - (i + record_size * P)) % 2 ≡ 0 → ⊥) → TriesProcedures k t P i f t f
    rest_odd odd =
        let n : ℕ = length (but trailer_size t) in
        let behind : ℕ = i + record_size * P in
        record {
          tallies = tallies_same (ap₂ (fits_at k t P ((n - behind) / 2)) (sym (le-leb behind n (omega (arith, ahead_long t))))
              (sym (ne_eqb ((n - behind) % 2) 0 (λ z. odd (ap (λ (x : ℕ). (x - behind) % 2) (sym (ahead_long t)) ∙ z))))) tallies_none;
        }

    -- all are to be tried
    pub trying_start : Sized t → {m : L.Limits} → limits_of m ≡ limits k → (length t - trailer_size - (i + record_size * P)) % 2 ≡ 0
        → Trying k t f P i t f ((length t - trailer_size - (i + record_size * P)) / 2) m.fewest
    trying_start s {m} e even =
        let n : ℕ = length (but trailer_size t) in
        let behind : ℕ = i + record_size * P in
        let whole : tried_at k t P i ≡ gather (range (limits k).fewest (limits k).threads) (tried k t P ((n - behind) / 2)) =
        ap₂ (fits_at k t P ((n - behind) / 2)) (le-leb behind n (omega (arith, ahead_long t)))
        (eq-eqb ((n - behind) % 2) 0 (ap (λ (x : ℕ). (x - behind) % 2) (ahead_long t) ∙ even))
        in
        let numbers : (n - behind) / 2 ≡ (length t - trailer_size - behind) / 2 = ap (λ (x : ℕ). (x - behind) / 2) (ahead_long t) in
        record {
          goes = record {
            then = λ {t''} {h} A. tallies_same (sym (whole
                ∙ ap₂ (λ (x y : ℕ). gather (upto x (suc (limits k).threads - x)) (tried k t P y)) (threads_as k e).1 numbers)) A;
            front = refl;
            length = refl;
          };
          sized = s;
        }

module _ {k : Kind} {t₀ t : List ℕ} {f₀ f : Found} {P i n T : ℕ} (Y : Trying k t₀ f₀ P i t f n T) {m : L.Limits} (e : limits_of m ≡ limits k) where
  -- one more
  pub trying_next : {t' : List ℕ} {g : Found} → T ≤ m.threads → TriesThreads k t P n T f t' g → Trying k t₀ f₀ P i t' g n (T + 1)
  trying_next {t'} {g} l A =
      let more : suc (limits k).threads - T ≡ suc (suc (limits k).threads - (T + 1)) = omega (arith, threads_as k e) in
      let cut : gather (upto T (suc (limits k).threads - T)) (tried k t₀ P n)
      ≡ tried k t₀ P n T ++ gather (upto (T + 1) (suc (limits k).threads - (T + 1))) (tried k t₀ P n) =
      ap (λ (x : ℕ). gather (upto T x) (tried k t₀ P n)) more
      ∙ ap (λ (x : ℕ). tried k t₀ P n T ++ gather (upto x (suc (limits k).threads - (T + 1))) (tried k t₀ P n)) (sym (add-one T))
      in
      record {
        goes = tallying_next (tried k t₀ P n T) _ (tallying_same cut Y.goes)
            (tallies_same (tried_same k t₀ t Y.goes.front Y.goes.length P n T) A.tallies);
        sized = sized_as Y.sized A.tallies.length;
      }

  -- none is left
  pub trying_end : m.threads < T → TriesProcedures k t₀ P i f₀ t f
  trying_end l =
      let none : suc (limits k).threads - T ≡ 0 = omega (arith, threads_as k e) in
      record { tallies = Y.goes.then (tallies_same (ap (λ (x : ℕ). gather (upto T x) (tried k t₀ P n)) (sym none)) tallies_none) }

-- the last one
pub trying_last : {k : Kind} {t₀ t t' : List ℕ} {f₀ f g : Found} {P i n T : ℕ} → Trying k t₀ f₀ P i t f n T → {m : L.Limits} → limits_of m ≡ limits k
    → T ≤ m.threads → m.threads ≤ T → TriesThreads k t P n T f t' g → TriesProcedures k t₀ P i f₀ t' g
trying_last Y e l h A = trying_end (trying_next Y e l A) e (omega arith)

module _ {k : Kind} {t₀ t : List ℕ} {f₀ f : Found} {P i n T : ℕ} (Y : Trying k t₀ f₀ P i t f n T) where
  -- the table, for the next
  pub trying_sized : Sized t
  trying_sized = Y.sized

  -- it keeps its length
  pub trying_length : length t ≡ length t₀
  trying_length = Y.goes.length

-- one law for each way
pub ruleset procedures_ways = (
  records_over,
  rest_odd,
  trying_start,
  trying_next,
  trying_end,
  trying_last,
  trying_sized,
  trying_length,
)

-- ---- all choices

-- the next body, by where its reader ends
module _ (u : List ℕ) (ok : Block Plain → Bool) where
  -- what it comes to
  abbrev ending : Read (Block Plain) → Maybe ℕ
  ending m = m >>= λ (b, r). when (ok b) (is (length u - length r))

  -- there is none
  ends_none : (m : Read (Block Plain)) → end_of u (m >>= check ok) ≡ Opt.None → ending m ≡ nothing
  ends_none nothing e = refl
  ends_none (is got) e = by_test (ok got.0)
      (λ z. let q : Opt.Some (length u - length got.1) ≡ Opt.None = rw z at e in let x : ◌≡◌ {A = ℕ} 0 1 = cc in absurd (omega arith))
      (λ z. rw z)

  -- it ends at j
  ends_at : (m : Read (Block Plain)) {j : ℕ} → end_of u (m >>= check ok) ≡ Opt.Some j → ending m ≡ is j
  ends_at nothing {j} e = let x : ◌≡◌ {A = ℕ} 0 1 = cc in absurd (omega arith)
  ends_at (is got) {j} e = by_test (ok got.0)
      (λ z. let q : Opt.Some (length u - length got.1) ≡ Opt.Some j = rw z at e in let s : length u - length got.1 ≡ j = cc in rw z (ap is s))
      (λ z. let q : Opt.None ≡ Opt.Some j = rw z at e in let x : ◌≡◌ {A = ℕ} 0 1 = cc in absurd (omega arith))

-- from procedure P on they are still to be tried, its body beginning at i
pub record Finding (k : Kind) (t₀ t : List ℕ) (f : Found) (P i : ℕ) : Type 0 where
  pub goes : Tallying t₀ None (narrowed k t₀ (limits k).procs 0 0) t f (narrowed k t₀ ((limits k).procs - P) P i)
  pub sized : Sized t

-- all are
pub finding_start : {k : Kind} {t : List ℕ} → Sized t → Finding k t t None 0 0
finding_start {k} {t} s =
    let all : (limits k).procs ≡ (limits k).procs - 0 = omega arith in
    record {
      goes = tallying_same (ap (λ (n : ℕ). narrowed k t n 0 0) all) (record { then = λ A. A; front = refl; length = refl });
      sized = s;
    }

-- the bound of procedures, as the code has it
procs_as : (k : Kind) {m : L.Limits} → limits_of m ≡ limits k → (limits k).procs ≡ m.procedures
procs_as k e = ap (λ (x : R.Limits). x.procs) (sym e)

module _ {k : Kind} {t₀ t : List ℕ} {f : Found} {P i : ℕ} (G : Finding k t₀ t f P i) where
  -- the table, for the next
  pub finding_sized : Sized t
  finding_sized = G.sized

  -- and for the next body
  pub finding_long : trailer_size ≤ length t
  finding_long = G.sized.long

  -- it keeps its length
  pub finding_length : length t ≡ length t₀
  finding_length = G.goes.length

  module _ {m : L.Limits} (e : limits_of m ≡ limits k) where
    -- none is left
    pub finding_end : m.procedures ≤ P → Finds k t₀ t f
    finding_end l =
        let none : (limits k).procs - P ≡ 0 = omega (arith, procs_as k e) in
        record { tallies = G.goes.then (tallies_same (ap (λ (n : ℕ). narrowed k t₀ n P i) (sym none)) tallies_none) }

    module _ (l : P < m.procedures) {r : Option ℕ} (B : BodyReads k (but trailer_size t) i P r) where
      -- the next body
      abbrev next : Read (Block Plain)
      next = D.block max_nesting (drop i (but trailer_size t))

      -- by where it ends
      rest : {x : Maybe ℕ} → ending (but trailer_size t) (allowed (body_in k P)) next ≡ x
          → narrowed k t₀ ((limits k).procs - P) P i
          ≡ further (λ j. tried_at k t₀ (suc P) j ++ narrowed k t₀ ((limits k).procs - suc P) (suc P) j) x
      rest {x} z =
          let one : (limits k).procs - P ≡ suc ((limits k).procs - suc P) = omega (arith, procs_as k e) in
          let same : body_end k t₀ P i ≡ x =
          ap (λ (u : List ℕ). ending u (allowed (body_in k P)) (D.block max_nesting (drop i u))) (sym G.goes.front) ∙ z
          in
          ap (λ (n : ℕ). narrowed k t₀ n P i) one
          ∙ ap (further (λ j. tried_at k t₀ (suc P) j ++ narrowed k t₀ ((limits k).procs - suc P) (suc P) j)) same

      -- there is none
      pub finding_none : r ≡ Opt.None → Finds k t₀ t f
      finding_none z =
          let none = ends_none (but trailer_size t) (allowed (body_in k P)) next (sym B.reads.same ∙ z) in
          record { tallies = G.goes.then (tallies_same (sym (rest none)) tallies_none) }

      -- it ends at j
      module _ {j : ℕ} (z : r ≡ Opt.Some j) where
        -- in the table
        pub finding_inside : j ≤ length t
        finding_inside =
            omega (
              arith,
              end_inside (but trailer_size t) (next >>= check (allowed (body_in k P))) (sym z ∙ B.reads.same),
              ahead_long t,
            )

        -- and its choices are tried
        pub finding_next : {t' : List ℕ} {g : Found} → TriesProcedures k t (P + 1) j f t' g → Finding k t₀ t' g (P + 1) j
        finding_next {t'} {g} A =
            let more = ends_at (but trailer_size t) (allowed (body_in k P)) next (sym B.reads.same ∙ z) in
            let cut : narrowed k t₀ ((limits k).procs - P) P i
            ≡ tried_at k t₀ (P + 1) j ++ narrowed k t₀ ((limits k).procs - (P + 1)) (P + 1) j =
            rest more ∙ ap (λ (Q : ℕ). tried_at k t₀ Q j ++ narrowed k t₀ ((limits k).procs - Q) Q j) (sym (add-one P))
            in
            record {
              goes = tallying_next (tried_at k t₀ (P + 1) j) _ (tallying_same cut G.goes)
                  (tallies_same (tried_at_same k t₀ t G.goes.front G.goes.length (P + 1) j) A.tallies);
              sized = sized_as G.sized A.tallies.length;
            }

-- one law for each way
pub ruleset find_ways = (
  finding_start,
  finding_sized,
  finding_long,
  finding_length,
  finding_end,
  finding_none,
  finding_inside,
  finding_next,
)

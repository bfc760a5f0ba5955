-- The first cell of each location, from the sizes in a table.
use Rattle.std.specs.Prelude.{ℕ, zero, suc, ◌+◌, ◌*◌, ◌^◌, ◌≤◌, ◌<◌, ◌≡◌, refl, List, [], ◌∷◌, length, get_or, take, set, eqb}
use Rattle.std.proofs.Common.{arith, sym, ap, ap₂, ◌∙◌, length-set, get_or-set_same, get_or-set_other, take_all, eqb-true}
use Rattle.std.proofs.lemmas.Bool.{eqb-false}
use Rattle.value.specs.Lists.{sum}
use Rattle.value.specs.Values.{bytes}
use Rattle.basics.specs.Places.{number_at}
use Rattle.value.proofs.Laws.Tests.{by_test}
use Rattle.value.proofs.Laws.Lists.{Each}
use Rattle.basics.specs.Laws.Places.{number_at_lem}
use Rattle.format.specs.Encode.{each}
use Rattle.format.proofs.Laws.Stands as S
use Rattle.format.proofs.Laws.Stands.{Stands}
use Rattle.engine.specs.Work.{most_locations, start_words, sizes_at, Starts}

-- ---- sizes in a table

-- as many as are asked for
pub length_sizes : (t : List ℕ) (i n : ℕ) → length (sizes_at t i n) ≡ n
length_sizes t i zero = refl
length_sizes t i (suc n) = ap suc (length_sizes t (i + 2) n)

-- the one at place k
size_at_lem : (t : List ℕ) (i n k : ℕ) → k < n → get_or (sizes_at t i n) k 0 ≡ number_at 2 t (i + 2 * k)
size_at_lem t i zero k h = absurd (omega arith)
size_at_lem t i (suc n) zero h = let here : i + 0 ≡ i = omega arith in rw here
size_at_lem t i (suc n) (suc k) h =
    let there : i + 2 + 2 * k ≡ i + 2 * suc k = omega arith in
    size_at_lem t (i + 2) n k (omega arith) ∙ ap (number_at 2 t) there

-- sizes that stand in a table are read back
pub sizes_stand : (t : List ℕ) (i : ℕ) (ns : List ℕ) {j : ℕ} → Stands t i (each (bytes 2) ns) j → Each (λ n. n < 2 ^ 16) ns
    → sizes_at t i (length ns) ≡ ns
sizes_stand t i [] s h = refl
sizes_stand t i (n ∷ ns) s h =
    ap₂ ◌∷◌ (number_at_lem 2 t i ∙ S.number_at_lem 2 n (S.front (bytes 2 n) (each (bytes 2) ns) s) h.0)
    (sizes_stand t (i + 2) ns (S.back (bytes 2 n) (each (bytes 2) ns) s) h.1)

-- ---- set one by one

-- the next location begins where this one ends
pub next_start : (ns : List ℕ) (l : ℕ) → sum (take (l + 1) ns) ≡ sum (take l ns) + get_or ns l 0
next_start ns l = let one : l + 1 ≡ suc l = omega arith in rw one (go ns l)
  where
    go : (ns : List ℕ) (l : ℕ) → sum (take (suc l) ns) ≡ sum (take l ns) + get_or ns l 0
    go [] zero = refl
    go [] (suc l) = refl
    go (n ∷ ns) zero = omega arith
    go (n ∷ ns) (suc l) = omega (arith, go ns l)

-- those of the first i locations are set, and so many cells come before the next
pub record Starting (ns bs : List ℕ) (i n : ℕ) : Type 0 where
  pub long : length bs ≡ start_words
  pub right : (k : ℕ) → k < i → get_or bs k 0 ≡ sum (take k ns)
  pub next : n ≡ sum (take i ns)
  pub small : n ≤ 2 ^ 16 * i

-- none
pub starting_none : {ns bs : List ℕ} → length bs ≡ start_words → Starting ns bs 0 0
starting_none e = record { long = e; right = λ k l. absurd (omega arith); next = refl; small = omega arith }

-- the next is set
set_next : {ns bs : List ℕ} {i n : ℕ} → Starting ns bs i n → i < start_words → (k : ℕ) → k < i + 1 → get_or (set bs i n) k 0 ≡ sum (take k ns)
set_next {ns} {bs} {i} {n} s l k m = by_test (eqb k i)
    (λ e. let here : k ≡ i = eqb-true k i e in rw (here, get_or-set_same bs i n 0 (omega (arith, s.long))) s.next)
    (λ e. let other = eqb-false k i e in get_or-set_other bs i k n 0 other ∙ s.right k (omega arith))

-- one more
pub starting_more : (t : List ℕ) (at m : ℕ) {bs : List ℕ} {i n w : ℕ} → Starting (sizes_at t at m) bs i n → i < m → m ≤ most_locations
    → w ≡ number_at 2 t (at + 2 * i) → w < 2 ^ 16 → Starting (sizes_at t at m) (set bs i n) (i + 1) (n + w)
starting_more t at m {bs} {i} {n} {w} s l h q f =
    let ns : List ℕ = sizes_at t at m in
    let size : w ≡ get_or ns i 0 = q ∙ sym (size_at_lem t at m i l) in
    record {
      long = length-set bs i n ∙ s.long;
      right = set_next s (omega arith);
      next = rw (next_start ns i, ← size, s.next);
      small = omega (arith, s.small);
    }

-- past the last location
pub starting_past : (t : List ℕ) (at m : ℕ) {bs : List ℕ} {i n : ℕ} → Starting (sizes_at t at m) bs i n → m ≤ i → i < start_words
    → Starting (sizes_at t at m) (set bs i n) (i + 1) n
starting_past t at m {bs} {i} {n} s h l =
    let ns : List ℕ = sizes_at t at m in
    let all : length ns ≡ m = length_sizes t at m in
    record {
      long = length-set bs i n ∙ s.long;
      right = set_next s l;
      next = s.next ∙ ap sum (take_all i ns (omega arith) ∙ sym (take_all (i + 1) ns (omega arith)));
      small = omega (arith, s.small);
    }

-- all
pub starting_all : (t : List ℕ) (at m : ℕ) {bs : List ℕ} {i n r : ℕ} → Starting (sizes_at t at m) bs i n → m ≤ most_locations → start_words ≤ i → r ≡ n
    → Starts (sizes_at t at m) bs r
starting_all t at m {i = i} s h l e =
    let ns : List ℕ = sizes_at t at m in
    let all : length ns ≡ m = length_sizes t at m in
    record {
      long = s.long;
      bases = record { few = omega arith; starts = λ k j. s.right k (omega arith) };
      all = e ∙ s.next ∙ ap sum (take_all i ns (omega arith));
    }

-- one law for each way through the loops
pub ruleset starting_ways = (starting_none, starting_more, starting_past, starting_all)

-- One law for each way through rule 3.
use Prim.Native.Nat.{ℕ, zero, suc, ◌+◌, ◌*◌, ◌-◌, ◌≤◌, ◌<◌}
use native.Mathlib.Omega.{arith}
use native.Mathlib.Nat.{add-zero}
use mathlib.Core.Path.{◌≡◌, refl, sym, ap, ap₂, ◌∙◌}
use mathlib.Core.List.{List}
use mathlib.Core.Bool.{Bool, true, false}
use lib.ListN.{get_or, take, drop}
use lib.Seq.{drop-drop, get_or-drop}
use lib.Dec.{eqb, leb}
use Rattle.std.specs.Prelude.{◌&&◌}
use Rattle.std.specs.List.{list_all, range_with_len}
use borrow.Author.Tests.{le-leb, lt-leb}
use Rattle.value.specs.Maybe.{both}
use Rattle.value.specs.Lists.{all, sum}
use Rattle.value.specs.Values.{unbytes}
use Rattle.basics.specs.Places.{number_at}
use Rattle.basics.specs.Laws.Places as Numbers
use Rattle.format.specs.Syntax.{Kind, concurrent, sequential}
use Rattle.format.specs.Encode.{Trailer, record_size}
use Rattle.format.specs.Rules.{limits, within, begun, max_size}
use Rattle.shape.specs.Shapes.{heads_at, numbers_at, few_locals, LocalsTest, SizesTest, CellsAre, BegunTest}
use Rattle.shape.specs.Shapes.{MainsTest, StartsTest, RecordsTest}
use Rattle.format.proofs.Laws.Places.{rows, head_at}
use Rattle.parse.specs.Ends.{kind_of, limits_of}
use Rattle.parse.specs.declared.Kind as K
use Rattle.parse.specs.declared.Kind.TheVariants.{Concurrent, Sequential}
use Rattle.basics.specs.declared.numbers.Limits as L

-- ---- a test of things one after the other, k bytes each

-- the library's "and" is the definitions'
and_both : (a b : Bool) → (a && b) ≡ both a b
and_both true b = refl
and_both false b = refl

module _ {A : Type 0} (value : List ℕ → A) (k : ℕ) (ok : A → Bool) (t : List ℕ) (i : ℕ) (test : ℕ → Bool)
    (same : (j : ℕ) → test j ≡ ok (value (drop (i + k * j) t))) where
  -- the tests from thing a on
  all_from : (a n : ℕ) → list_all test (range_with_len a n) ≡ all ok (rows value k n (drop (i + k * a) t))
  all_from a zero = refl
  all_from a (suc n) =
      let next : i + k * (a + 1) ≡ i + k * a + k = omega arith in
      let behind : drop (i + k * (a + 1)) t ≡ drop k (drop (i + k * a) t) = rw next (sym (drop-drop k (i + k * a) t)) in
      and_both (test a) (list_all test (range_with_len (a + 1) n))
      ∙ ap₂ both (same a) (all_from (a + 1) n ∙ ap (λ bs. all ok (rows value k n bs)) behind)

  -- all of them
  pub all_pass : (n : ℕ) → list_all test (range_with_len 0 n) ≡ all ok (rows value k n (drop i t))
  all_pass n = let first : i + k * 0 ≡ i = omega arith in all_from 0 n ∙ rw first

-- ---- what stands there

module _ (t : List ℕ) (p : ℕ) where
  -- the parameters of a record
  params_at : (head_at (drop p t)).params ≡ get_or t p 0
  params_at = get_or-drop p t 0 0 ∙ rw (add-zero p)

  -- its locals
  locals_at_lem : (head_at (drop p t)).locals ≡ get_or t (p + 1) 0
  locals_at_lem = ap (λ l. get_or l 0 0) (drop-drop 1 p t) ∙ get_or-drop (p + 1) t 0 0 ∙ rw (add-zero (p + 1))

-- ---- the locals

-- "parameters over locals; locals over 16", of record j
abbrev pub few_at : List ℕ → ℕ → ℕ → ℕ → Bool
few_at t i most j = both (leb (get_or t (i + record_size * j) 0) (get_or t (i + record_size * j + 1) 0)) (leb (get_or t (i + record_size * j + 1) 0) most)

pub locals_tested : (t : List ℕ) (i n most : ℕ) {b : Bool} → b ≡ list_all (few_at t i most) (range_with_len 0 n) → LocalsTest t i n most b
locals_tested t i n most e = record {
  same = e
      ∙ all_pass head_at record_size (few_locals most) t i (few_at t i most)
      (λ j. rw (params_at t (i + record_size * j), locals_at_lem t (i + record_size * j))) n;
}

-- ---- the sizes

-- a number of two bytes
abbrev number : List ℕ → ℕ
number bs = unbytes (take 2 bs)

-- what stands at a place
number_there : (t : List ℕ) (p : ℕ) → number_at 2 t p ≡ number (drop p t)
number_there t p = Numbers.number_at_lem 2 t p

pub sizes_tested : (t : List ℕ) (i n : ℕ) {b : Bool} → b ≡ list_all (λ j. within 1 max_size (number_at 2 t (i + 2 * j))) (range_with_len 0 n)
    → SizesTest t i n b
sizes_tested t i n e = record {
  same = e
      ∙ all_pass number 2 (within 1 max_size) t i (λ j. within 1 max_size (number_at 2 t (i + 2 * j)))
      (λ j. ap (within 1 max_size) (number_there t (i + 2 * j))) n;
}

-- ---- all sizes together

-- c so far, of j of them
pub record CellsFrom (t : List ℕ) (i n c j : ℕ) : Type 0 where
  pub same : sum (numbers_at t i n) ≡ c + sum (numbers_at t (i + 2 * j) (n - j))
  pub few : c ≤ 65535 * j
  pub inside : j ≤ n

module _ (t : List ℕ) (i n : ℕ) where
  -- all are left
  pub cells_start : CellsFrom t i n 0 0
  cells_start =
      let first : i + 2 * 0 ≡ i = omega arith in
      let all : n - 0 ≡ n = omega arith in
      record { same = rw (first, all) (omega arith); few = omega arith; inside = omega arith }

  module _ {c j : ℕ} (F : CellsFrom t i n c j) where
    -- one more
    pub cells_next : {s : ℕ} → s ≡ number_at 2 t (i + 2 * j) → s < 65536 → j < n → CellsFrom t i n (c + s) (j + 1)
    cells_next {s} e small some =
        let one : n - j ≡ suc (n - (j + 1)) = omega arith in
        let size : number (drop (i + 2 * j) t) ≡ s = sym (e ∙ number_there t (i + 2 * j)) in
        let far : i + 2 * (j + 1) ≡ i + 2 * j + 2 = omega arith in
        let more : sum (numbers_at t (i + 2 * j) (n - j)) ≡ s + sum (numbers_at t (i + 2 * (j + 1)) (n - (j + 1))) =
        ap (λ m. sum (numbers_at t (i + 2 * j) m)) one ∙ rw (size, drop-drop 2 (i + 2 * j) t, far)
        in
        record { same = omega (arith, F.same); few = omega (arith, F.few); inside = omega arith }

    -- none is left
    pub cells_end : n ≤ j → CellsAre t i n c
    cells_end z =
        let none : n - j ≡ 0 = omega arith in
        let left : sum (numbers_at t (i + 2 * j) (n - j)) ≡ 0 = rw none in
        record { same = omega (arith, F.same) }

-- one law for each way
pub ruleset cells_ways = (cells_start, cells_next, cells_end)

-- ---- the mains

-- a procedure that is there, by its place
begun_at : (n : ℕ) (bs : List ℕ) (m : ℕ) → m < n → begun (rows head_at record_size n bs) m ≡ eqb (get_or bs (record_size * m) 0) 0
begun_at zero bs m l = absurd (omega arith)
begun_at (suc n) bs zero l = refl
begun_at (suc n) bs (suc m) l =
    let far : record_size * suc m ≡ record_size + record_size * m = omega arith in
    rw far (begun_at n (drop record_size bs) m (omega arith) ∙ ap (λ b. eqb b 0) (get_or-drop record_size bs (record_size * m) 0))

-- and one that is not
not_begun : (n : ℕ) (bs : List ℕ) (m : ℕ) → n ≤ m → begun (rows head_at record_size n bs) m ≡ false
not_begun zero bs m l = refl
not_begun (suc n) bs zero l = absurd (omega arith)
not_begun (suc n) bs (suc m) l = not_begun n (drop record_size bs) m (omega arith)

module _ (t : List ℕ) (at P m : ℕ) where
  -- below P
  pub begun_there : m < P → BegunTest t at P m (eqb (get_or t (at + record_size * m) 0) 0)
  begun_there l = record { same = sym (begun_at P (drop at t) m l ∙ ap (λ b. eqb b 0) (get_or-drop at t (record_size * m) 0)) }

  -- "not below P"
  pub begun_past : P ≤ m → BegunTest t at P m false
  begun_past l = record { same = sym (not_begun P (drop at t) m l) }

-- one law for each way
pub ruleset begun_ways = (begun_there, begun_past)

pub mains_tested : (t : List ℕ) (i n at P : ℕ) {b : Bool} → b ≡ list_all (λ j. begun (heads_at t at P) (number_at 2 t (i + 2 * j))) (range_with_len 0 n)
    → MainsTest t i n at P b
mains_tested t i n at P e = record {
  same = e
      ∙ all_pass number 2 (begun (heads_at t at P)) t i (λ j. begun (heads_at t at P) (number_at 2 t (i + 2 * j)))
      (λ j. ap (begun (heads_at t at P)) (number_there t (i + 2 * j))) n;
}

-- ---- all that are begun

-- the language, by the code's name for it
pub is_concurrent_lem : {k : K.Kind} → k ≡ Concurrent → kind_of k ≡ concurrent
is_concurrent_lem e = rw e

-- or the other
pub is_sequential : {k : K.Kind} → k ≡ Sequential → kind_of k ≡ sequential
is_sequential e = rw e

module _ (k : Kind) (t : List ℕ) (i n at P : ℕ) where
  -- the mains alone
  pub starts_mains : {b : Bool} → k ≡ concurrent → MainsTest t i n at P b → StartsTest k t i n at P b
  starts_mains e M = record { same = rw e M.same }

  module _ {a : Bool} (e : k ≡ sequential) (B : BegunTest t at P 0 a) where
    -- procedure 0 has parameters
    pub starts_wrong : a ≡ false → StartsTest k t i n at P false
    starts_wrong f = record { same = rw (e, ← B.same, f) }

    -- it has none
    pub starts_first : {b : Bool} → a ≡ true → MainsTest t i n at P b → StartsTest k t i n at P b
    starts_first f M = record { same = rw (e, ← B.same, f) M.same }

-- one law for each way
pub ruleset starts_ways = (is_concurrent_lem, is_sequential, starts_mains, starts_wrong, starts_first)

-- ---- all together

module _ (k : Kind) (t : List ℕ) (at : ℕ) (r : Trailer) {m : L.Limits} (e : limits_of m ≡ limits k) {a : Bool}
    (A : LocalsTest t at r.procs m.locals a) where
  -- where the sizes and the mains stand
  sizes_at_lem : drop (r.procs * record_size) (drop at t) ≡ drop (at + record_size * r.procs) t
  sizes_at_lem = let far : at + r.procs * record_size ≡ at + record_size * r.procs = omega arith in drop-drop (r.procs * record_size) at t ∙ rw far

  -- the mains
  mains_at : drop (r.procs * record_size + r.places * 2) (drop at t) ≡ drop (at + record_size * r.procs + 2 * r.places) t
  mains_at =
      let far : at + (r.procs * record_size + r.places * 2) ≡ at + record_size * r.procs + 2 * r.places = omega arith in
      drop-drop (r.procs * record_size + r.places * 2) at t ∙ rw far

  -- the locals are wrong
  pub records_locals : a ≡ false → RecordsTest k t at r false
  records_locals f = record { same = rw (← e, ← A.same, f) }

  module _ (locals : a ≡ true) {b : Bool} (S : SizesTest t (at + record_size * r.procs) r.places b) where
    -- a size is
    pub records_sizes : b ≡ false → RecordsTest k t at r false
    records_sizes f = record { same = rw (← e, ← A.same, locals, sizes_at_lem, ← S.same, f) }

    module _ (sizes : b ≡ true) {c : ℕ} (C : CellsAre t (at + record_size * r.procs) r.places c) where
      -- "all sizes together"
      pub records_cells : m.cells < c → RecordsTest k t at r false
      records_cells f = record { same = rw (← e, ← A.same, locals, sizes_at_lem, ← S.same, sizes, ← C.same, lt-leb c m.cells f) }

      -- the mains decide
      pub records_starts : {d : Bool} → c ≤ m.cells → StartsTest k t (at + record_size * r.procs + 2 * r.places) r.threads at r.procs d
          → RecordsTest k t at r d
      records_starts f D = record {
        same = rw (← e, ← A.same, locals, sizes_at_lem, ← S.same, sizes, ← C.same, le-leb c m.cells f, mains_at) D.same;
      }

-- one law for each way
pub ruleset records_ways = (records_locals, records_sizes, records_cells, records_starts)

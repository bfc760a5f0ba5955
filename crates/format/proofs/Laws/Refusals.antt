-- A number of refusal is answered exactly if it is the smallest that applies: document 01, "Numbers of refusal".
use Rattle.std.specs.Prelude.{ℕ, zero, suc, ◌+◌, ◌-◌, ◌≤◌, ◌<◌, ◌≡◌, refl, ◌↔◌, ◌≢◌, List, Bool, true, false, length, eqb}
use Rattle.std.proofs.Common.{arith, sym, ◌∙◌, subst, eqb-true}
use Rattle.std.proofs.lemmas.Bool.{eqb-false}
use Rattle.value.specs.Maybe.{Maybe, is, nothing, ◌>>=◌}
use Rattle.value.proofs.Laws.Maybes.{is_inj}
use Rattle.value.proofs.Laws.Tests.{Decides, itself, by_test}
use Rattle.format.specs.Syntax.{Program, Plain, Kind}
use Rattle.format.specs.Encode.{Trailer, Middle, distance, front, trailer_of, trailer_size}
use Rattle.format.specs.Decode.{finish, but, last}
use Rattle.format.specs.Decode as D
use Rattle.format.specs.Rules.{right_counts, right_records, program, all_named, few_labels, no_cycle, set_first}
use Rattle.format.specs.Rules.{Verdict, accepted, refused, demand, require, verdict}
use Rattle.value.proofs.Laws.Bytes.{Bytes}
use Rattle.format.proofs.Laws.Sound.{Within}
use Rattle.format.proofs.Laws.Formed.{RightTrailer, Formed, judged, Upto, upto0, upto1, upto2, upto3, upto4, upto5, upto6, upto7, upto8}
use Rattle.format.proofs.Laws.Places.{middle_at, middle_there}
use Rattle.format.proofs.Laws.Judged.{trailer?, labels?}
use Rattle.format.proofs.Laws.Names.{all_names?}
use Rattle.format.proofs.Laws.Calls.{no_cycle?}
use Rattle.format.proofs.Laws.SetFirst.{set_first?}
use Rattle.format.proofs.Laws.Passes.{left1, left2, left3, passes1, passes2, passes3, formed_judged}
use Rattle.format.proofs.Laws.Passes.{trailer_read, middle_read, program_read, formed_trailer, formed_counts, formed_records}
use Rattle.format.proofs.Laws.Holds.{Holds, passes, stops, holds}

-- ---- rules up to n, and rules below

module _ (k : Kind) (t : List ℕ) where
  -- one rule less
  fewer : {n : ℕ} → Upto k t n → Upto k t (n - 1)
  fewer upto0 = upto0
  fewer (upto1 closed) = upto0
  fewer (upto2 closed counts) = upto1 closed
  fewer (upto3 closed counts records) = upto2 closed counts
  fewer (upto4 {p = p} formed) = upto3 (formed_trailer k t p formed) (formed_counts k t p formed) (formed_records k t p formed)
  fewer (upto5 formed named) = upto4 formed
  fewer (upto6 formed named labels) = upto5 formed named
  fewer (upto7 formed named labels calls) = upto6 formed named labels
  fewer (upto8 formed named labels calls set) = upto7 formed named labels calls

  -- what holds up to n holds up to less
  pub below : (m n : ℕ) → m ≤ n → Upto k t n → Upto k t m
  below m n h u = down (n - m) (let same : n ≡ m + (n - m) = omega arith in rw same at u)
    where
      down : (d : ℕ) → Upto k t (m + d) → Upto k t m
      down zero v = let same : m + 0 ≡ m = omega arith in rw same at v
      down (suc d) v = let same : m + suc d - 1 ≡ m + d = omega arith in down d (rw same at (fewer v))

-- ---- the numbers that may still be answered

-- v accepts, or answers a number above n and up to 8
data Later (n : ℕ) : Verdict → Type 0 where
  none : {p : Program Plain} → Later n (accepted p)
  later : {m : ℕ} → n < m → m ≤ 8 → Later n (refused m)

module _ {n : ℕ} where
  -- through a step that may be missing
  demanded : {A : Type 0} (m : ℕ) (a : Maybe A) (next : A → Verdict) → n < m → m ≤ 8 → ((x : A) → Later n (next x)) → Later n (demand m a next)
  demanded m nothing next low high f = later low high
  demanded m (is x) next low high f = f x

  -- through a test
  required : {b : Bool} {P : Type 0} (m : ℕ) (v : Verdict) → Decides b P → n < m → m ≤ 8 → (P → Later n v) → Later n (require m b v)
  required {b = true} m v d low high f = f (d.so refl)
  required {b = false} m v d low high f = later low high

  module _ (k : Kind) (p : Program Plain) where
    -- from 8 on
    later8 : n < 8 → Later n (require 8 (set_first p) (accepted p))
    later8 h = required 8 _ (itself (set_first p)) h (omega arith) λ set. none

    -- from 7 on
    later7 : n < 7 → Later n (require 7 (no_cycle p) (require 8 (set_first p) (accepted p)))
    later7 h = required 7 _ (itself (no_cycle p)) h (omega arith) λ calls. later8 (omega arith)

    -- from 6 on
    later6 : n < 6 → Later n (require 6 (few_labels k p) (require 7 (no_cycle p) (require 8 (set_first p) (accepted p))))
    later6 h = required 6 _ (itself (few_labels k p)) h (omega arith) λ labels. later7 (omega arith)

    -- from 5 on
    later5 : n < 5 → Later n (judged k p)
    later5 h = required 5 _ (itself (all_named p)) h (omega arith) λ named. later6 (omega arith)

  module _ (k : Kind) (t : List ℕ) (r : Trailer) where
    -- from 4 on
    later4 : (m : Middle) → n < 4 → Later n (left3 k t r m)
    later4 m h = demanded 4 (program k (but r.back (but trailer_size t)) m) _ h (omega arith) λ p. later5 k p (omega arith)

    -- from 3 on: the middle is there
    later3 : r.back ≡ distance r.procs r.places r.threads → r.back ≤ length t - trailer_size → n < 3 → Later n (left2 k t r)
    later3 back room h =
        let m : Middle = middle_at r.procs r.places r.threads (last r.back (but trailer_size t)) in
        let read : finish (D.middle r.procs r.places r.threads (last r.back (but trailer_size t))) ≡ is m
        = rw back (middle_there t r.procs r.places r.threads (omega arith)) in
        rw read (required 3 _ (itself (right_records k m)) h (omega arith) λ right. later4 m (omega arith))

    -- from 2 on
    later2 : r.back ≡ distance r.procs r.places r.threads → r.back ≤ length t - trailer_size → n < 2 → Later n (left1 k t r)
    later2 back room h = required 2 _ (itself (right_counts k t r)) h (omega arith) λ counts. later3 back room (omega arith)

  -- from 1 on
  later1 : (k : Kind) (t : List ℕ) → n < 1 → Later n (verdict k t)
  later1 k t h =
      demanded 1 (finish (D.trailer (last trailer_size t))) _ h (omega arith) λ r.
      required 1 _ (trailer? k t r) h (omega arith) λ (kind, (mark, (back, (whole, room)))).
      later2 k t r back room (omega arith)

-- rules up to n leave only later numbers
up_to_later : (k : Kind) (t : List ℕ) {n : ℕ} → Upto k t n → Later n (verdict k t)
up_to_later k t upto0 = later1 k t (omega arith)
up_to_later k t (upto1 {r = r} closed) = rw (passes1 k t closed) (later2 k t r closed.back closed.room (omega arith))
up_to_later k t (upto2 {r = r} closed counts) = rw (passes2 k t closed counts) (later3 k t r closed.back closed.room (omega arith))
up_to_later k t (upto3 {r = r} {m = m} closed counts records) = rw (passes3 k t closed counts records) (later4 k t r m (omega arith))
up_to_later k t (upto4 {p = p} formed) = rw (formed_judged k t formed) (later5 k p (omega arith))
up_to_later k t (upto5 {p = p} formed named) = rw (formed_judged k t formed, (all_names? p).of named) (later6 k p (omega arith))
up_to_later k t (upto6 {p = p} formed named labels) =
    rw (formed_judged k t formed, (all_names? p).of named, (labels? k p).of labels) (later7 k p (omega arith))
up_to_later k t (upto7 {p = p} formed named labels calls) =
    rw (formed_judged k t formed, (all_names? p).of named, (labels? k p).of labels, (no_cycle? p).of calls) (later8 k p (omega arith))
up_to_later k t (upto8 {p = p} formed named labels calls set) =
    rw (formed_judged k t formed, (all_names? p).of named, (labels? k p).of labels, (no_cycle? p).of calls, (set_first? p).of set) none

-- ---- which number is answered

-- n is the smallest number that applies: the rules below it hold, and with it they do not
pub record Smallest (k : Kind) (t : List ℕ) (n : ℕ) : Type 0 where
  pub within : Within 1 8 n
  pub before : Upto k t (n - 1)
  pub broken : Upto k t n → ⊥

module _ (k : Kind) (t : List ℕ) where
  -- what is answered where the rules up to n hold
  answered : {n m : ℕ} → Upto k t n → verdict k t ≡ refused m → Within (suc n) 8 m
  answered {n} {m} u e = inside (subst (Later n) e (up_to_later k t u))
    where
      inside : Later n (refused m) → Within (suc n) 8 m
      inside (later low high) = record { low = low; high = high }

  -- A REFUSAL'S NUMBER IS WITHIN 1 TO 8, AND SO NEVER 0.
  pub refused_within : (n : ℕ) → verdict k t ≡ refused n → Within 1 8 n
  refused_within n e = answered upto0 e

  -- of what is answered, the rules below hold
  refused_before : Bytes t → (n : ℕ) → verdict k t ≡ refused n → Upto k t (n - 1)
  refused_before h n e = inside (subst (Holds k t) e (holds k t h))
    where
      inside : {m : ℕ} → Holds k t (refused m) → Upto k t (m - 1)
      inside (stops {n = m} u) = let same : suc m - 1 ≡ m = omega arith in rw same u

  -- THE NUMBER N IS ANSWERED EXACTLY IF IT IS THE SMALLEST THAT APPLIES.
  pub refused_exactly : Bytes t → (n : ℕ) → (verdict k t ≡ refused n) ↔ Smallest k t n
  refused_exactly h n = (so, λ s. of s (verdict k t) refl (holds k t h))
    where
      so : verdict k t ≡ refused n → Smallest k t n
      so e = record {
        within = refused_within n e;
        before = refused_before h n e;
        broken = λ u. let w : Within (suc n) 8 n = answered u e in omega (arith, w.low);
      }

      of : Smallest k t n → (v : Verdict) → verdict k t ≡ v → Holds k t v → verdict k t ≡ refused n
      of s (accepted p) e (passes formed named labels calls set) =
          absurd (s.broken (below k t n 8 s.within.high (upto8 formed named labels calls set)))
      of s (refused (suc m)) e (stops u) =
          let w : Within (suc (n - 1)) 8 (suc m) = answered s.before e in
          by_test (eqb n (suc m))
          (λ q. rw (eqb-true n (suc m) q) e)
          (λ q. absurd (let other : n ≢ suc m = eqb-false n (suc m) q in s.broken (below k t n m (omega (arith, w.low)) u)))
      of s (refused zero) e x5 = elim x5 [ ]

-- ---- rules 1 to 4: the program of a table

-- the program that a table is read as, before the rules judge it
abbrev read_as : Kind → List ℕ → Maybe (Program Plain)
read_as k t =
    finish (D.trailer (last trailer_size t)) >>= λ r.
    finish (D.middle r.procs r.places r.threads (last r.back (but trailer_size t))) >>= λ m.
    program k (but r.back (but trailer_size t)) m

-- a formed table is read as its program
formed_read : (k : Kind) (t : List ℕ) (p : Program Plain) → Formed k t p → read_as k t ≡ is p
formed_read k t p f =
    let closed : RightTrailer k t (front p) (trailer_of k p) = formed_trailer k t p f in
    rw (trailer_read k t closed, middle_read k t closed (formed_records k t p f)) (program_read k t p f)

-- IT IS FORMED OF ONE PROGRAM ONLY.
pub formed_unique : (k : Kind) (t : List ℕ) (p q : Program Plain) → Formed k t p → Formed k t q → p ≡ q
formed_unique k t p q f g = is_inj (sym (formed_read k t p f) ∙ formed_read k t q g)

-- the program of a table of which rules 1 to 4 hold
program_of : (k : Kind) (t : List ℕ) → Upto k t 4 → (p : Program Plain) × Formed k t p
program_of k t (upto4 {p = p} formed) = (p, formed)

-- IF NO NUMBER UP TO 4 IS ANSWERED, THE TABLE IS FORMED OF A PROGRAM.
pub formed_if : (k : Kind) (t : List ℕ) → Bytes t → ((n : ℕ) → verdict k t ≡ refused n → 4 < n) → (p : Program Plain) × Formed k t p
formed_if k t h late = by (verdict k t) refl (holds k t h)
  where
    by : (v : Verdict) → verdict k t ≡ v → Holds k t v → (p : Program Plain) × Formed k t p
    by (accepted p) e (passes formed named labels calls set) = (p, formed)
    by (refused (suc n)) e (stops u) = program_of k t (below k t 4 n (omega (arith, late (suc n) e)) u)
    by (refused zero) e x5 = elim x5 [ ]

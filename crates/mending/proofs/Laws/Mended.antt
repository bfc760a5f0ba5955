-- What the mender's answers are worth: request #108's three laws.
use Rattle.std.specs.Prelude.{ℕ, ◌+◌, ◌*◌, ◌-◌, ◌≤◌, ◌<◌, ◌≡◌, refl, List, [], ◌∷◌, true, false, length, ltb}
use Rattle.std.proofs.Common.{arith, sym, ap, ◌∙◌, length-append, length-take, ltb-true, ltb-false, le-ltb}
use Rattle.value.specs.Lists.{over}
use Rattle.value.proofs.Laws.Tests.{by_test, never}
use Rattle.value.proofs.Laws.Bytes.{Bytes}
use Rattle.value.proofs.Laws.Lists.{In, here}
use Rattle.format.specs.Syntax.{Program, Plain, Kind, sequential}
use Rattle.format.specs.Encode.{each, Trailer, trailer, trailer_of, trailer_size, table}
use Rattle.format.specs.Encode as E
use Rattle.format.specs.Decode.{but}
use Rattle.format.specs.Rules.{limits, accepted, verdict}
use Rattle.format.proofs.Laws.Sound.{Sound}
use Rattle.format.proofs.Laws.Sections.{but_append}
use Rattle.format.proofs.Laws.Accepted.{accepted_exactly}
use Rattle.mending.specs.Mending.{trailer_for, with_trailer, accepts, acceptable, Change, changes_from, change_bytes, change_size}
use Rattle.mending.specs.Mending.{Outcome, untouched, become, mend_by, mend_call}
use Rattle.mending.proofs.Laws.Changes.{at_most_16}
use Rattle.mending.proofs.Laws.Gather.{in_none, in_single}
use Rattle.mending.proofs.Laws.Found.{listed, chosen_in, sequential_one}

-- ---- the answers, one by one

module _ (k : Kind) (t l : List ℕ) where
  -- the changes that a trailer makes
  abbrev pub changes_of : Trailer → List Change
  changes_of r = changes_from 0 t (with_trailer t r)

  -- the table is neither too short nor too long, and not accepted as it is
  pub record Damaged : Type 0 where
    pub long : trailer_size ≤ length t
    pub few : length t ≤ (limits k).bytes
    pub bad : accepts k t ≡ false

  -- each answer, and where it is given
  pub data Answered : Outcome → Type 0 where
    short : length t < trailer_size → Answered (untouched 1 t l)
    over_limit : trailer_size ≤ length t → (limits k).bytes < length t → Answered (untouched 2 t l)
    nothing_to_mend : trailer_size ≤ length t → length t ≤ (limits k).bytes → accepts k t ≡ true → Answered (untouched 0 t l)
    none : Damaged → acceptable k t ≡ [] → Answered (untouched 14 t l)
    several : {r s : Trailer} {rs : List Trailer} → Damaged → acceptable k t ≡ r ∷ s ∷ rs → Answered (untouched 15 t l)
    no_room : (r : Trailer) → Damaged → acceptable k t ≡ r ∷ [] → length l < change_size * length (changes_of r) → Answered (untouched 10 t l)
    mended : (r : Trailer) → Damaged → acceptable k t ≡ r ∷ [] → change_size * length (changes_of r) ≤ length l
        → Answered (record {
          answer = record { refusal = 0; mended = true; changes = length (changes_of r) };
          table = with_trailer t r;
          list = over (each change_bytes (changes_of r)) l;
        })

  -- by the list of acceptable trailers
  by_list : Damaged → (rs : List Trailer) → acceptable k t ≡ rs → Answered (mend_by t l rs)
  by_list d [] e = none d e
  by_list d (r ∷ []) e =
      by_test (ltb (length l) (change_size * length (changes_of r)))
      (λ x. rw (x, become) (no_room r d e (ltb-true (length l) (change_size * length (changes_of r)) x)))
      (λ x. rw (x, become) (mended r d e (ltb-false (length l) (change_size * length (changes_of r)) x)))
  by_list d (r ∷ s ∷ rs) e = several d e

  -- THE CALL GIVES ONE OF THEM.
  pub answered : Answered (mend_call k t l)
  answered =
      by_test (ltb (length t) trailer_size)
      (λ x. rw (x, mend_call) (short (ltb-true (length t) trailer_size x)))
      (λ x.
      let a : trailer_size ≤ length t = ltb-false (length t) trailer_size x in
      rw (x, mend_call)
      (by_test (ltb (limits k).bytes (length t))
      (λ y. rw y (over_limit a (ltb-true (limits k).bytes (length t) y)))
      (λ y.
      let b : length t ≤ (limits k).bytes = ltb-false (limits k).bytes (length t) y in
      rw y
      (by_test (accepts k t)
      (λ z. rw z (nothing_to_mend a b z))
      (λ z. rw z (by_list (record { long = a; few = b; bad = z }) (acceptable k t) refl))))))

-- ---- what each answer leaves

-- a table with another trailer
pub with_front : (t : List ℕ) (r : Trailer) → but trailer_size (with_trailer t r) ≡ but trailer_size t
with_front t r = but_append (but trailer_size t) (trailer r) trailer_size refl

-- is as long
pub with_length : (t : List ℕ) (r : Trailer) → trailer_size ≤ length t → length (with_trailer t r) ≡ length t
with_length t r l = omega (arith, length-append (but trailer_size t) (trailer r), length-take (length t - trailer_size) t)

-- of every answer
pub record Worth (k : Kind) (t l : List ℕ) (o : Outcome) : Type 0 where
  -- "Bytes before the last sixteen are never changed"
  pub front : but trailer_size o.table ≡ but trailer_size t
  pub length : length o.table ≡ length t
  -- "A refusal writes nothing"
  pub refused : (o.answer.refusal ≡ 0 → ⊥) → (o.table ≡ t) × (o.list ≡ l)
  -- after mending the table is accepted
  pub accepted : o.answer.mended ≡ true → accepts k o.table ≡ true
  -- and mending again answers "nothing to mend"
  pub again : o.answer.mended ≡ true → (m : List ℕ) → mend_call k o.table m ≡ untouched 0 o.table m

module _ {k : Kind} {t l : List ℕ} where
  -- an answer that leaves all as it was
  nothing_done : (n : ℕ) → Worth k t l (untouched n t l)
  nothing_done n = record {
    front = refl;
    length = refl;
    refused = λ bad. (refl, refl);
    accepted = λ e. absurd (never e);
    again = λ e. absurd (never e);
  }

  -- one of them
  by_answer : {o : Outcome} → Answered k t l o → Worth k t l o
  by_answer (short a) = nothing_done 1
  by_answer (over_limit a b) = nothing_done 2
  by_answer (nothing_to_mend a b c) = nothing_done 0
  by_answer (none d e) = nothing_done 14
  by_answer (several d e) = nothing_done 15
  by_answer (no_room r d e x) = nothing_done 10
  by_answer (mended r d e x) =
      let good : accepts k (with_trailer t r) ≡ true = (listed k t r (rw e here)).accepted in
      let long : length (with_trailer t r) ≡ length t = with_length t r d.long in
      record {
        front = with_front t r;
        length = long;
        refused = λ bad. absurd (bad refl);
        accepted = λ z. good;
        again = λ z m.
            rw (
              le-ltb (length (with_trailer t r)) trailer_size (omega (arith, d.long)),
              le-ltb (limits k).bytes (length (with_trailer t r)) (omega (arith, d.few)),
              good,
              mend_call,
            );
      }

-- WHAT THE CALL'S ANSWER IS WORTH.
pub worth : (k : Kind) (t l : List ℕ) → Worth k t l (mend_call k t l)
worth k t l = by_answer (answered k t l)

-- ---- 15

-- not of a sequential table
not_several : {t l : List ℕ} {o : Outcome} → Bytes t → Answered sequential t l o → o.answer.refusal ≡ 15 → ⊥
not_several h (short a) e = omega arith
not_several h (over_limit a b) e = omega arith
not_several h (nothing_to_mend a b c) e = omega arith
not_several h (none d x) e = omega arith
not_several h (no_room r d x y) e = omega arith
not_several h (mended r d x y) e = omega arith
not_several {t} h (several {r = r} d x) e =
    let one : acceptable sequential t ≡ r ∷ [] = sequential_one t h d.long r (rw x here) in
    let lengths = ap length (sym one ∙ x) in
    omega arith

-- A SEQUENTIAL TABLE NEVER GIVES 15.
pub sequential_never : (t l : List ℕ) → Bytes t → (mend_call sequential t l).answer.refusal ≡ 15 → ⊥
sequential_never t l h = not_several h (answered sequential t l)

-- ---- a table whose trailer was scrambled

-- t was accepted; s is t with other bytes in the trailer's place, and is not
pub record Scrambled (k : Kind) (t s : List ℕ) (p : Program Plain) : Type 0 where
  pub bytes : Bytes t × Bytes s
  pub was : verdict k t ≡ accepted p
  pub front : but trailer_size s ≡ but trailer_size t
  pub length : length s ≡ length t
  pub bad : accepts k s ≡ false

-- what becomes of it, with the list l
pub data Back (t s l : List ℕ) (o : Outcome) : Type 0 where
  as_it_was : o.answer.mended ≡ true → o.table ≡ t → Back t s l o
  more_than_one : o ≡ untouched 15 s l → Back t s l o

module _ {k : Kind} {t s : List ℕ} {p : Program Plain} (x : Scrambled k t s p) where
  -- it is p's table
  known : (t ≡ table k p) × Sound k p
  known = (accepted_exactly k t x.bytes.0 p).0 x.was

  -- with p's front
  cut : but trailer_size s ≡ E.front p
  cut = x.front ∙ ap (but trailer_size) known.0 ∙ but_append (E.front p) (trailer (trailer_of k p)) trailer_size refl

  -- and of p's length
  whole : length s ≡ length (E.front p) + trailer_size
  whole = x.length ∙ ap length known.0 ∙ length-append (E.front p) (trailer (trailer_of k p))

  -- p's trailer
  abbrev lost : Trailer
  lost = trailer_for k (length s) (length p.procs) (length p.sizes) (length p.mains)

  -- it makes the table what it was
  restored : with_trailer s lost ≡ t
  restored = rw (cut, whole) (sym known.0)

  -- it is among the acceptable ones
  among : In lost (acceptable k s)
  among =
      chosen_in k s x.bytes.1 (omega (arith, whole))
      (record { program = p; sound = known.1; front = cut; procs = refl; places = refl; threads = refl })

  -- one of the answers
  back : {l : List ℕ} {o : Outcome} → change_size * trailer_size ≤ length l → Answered k s l o → Back t s l o
  back room (short a) = absurd (omega (arith, whole))
  back room (over_limit a b) = absurd (omega (arith, x.length, ap length known.0, known.1.size))
  back room (nothing_to_mend a b c) = absurd (never (sym x.bad ∙ c))
  back room (none d e) = absurd (in_none e among)
  back room (several d e) = more_than_one refl
  back room (no_room r d e y) = absurd (omega (arith, at_most_16 s r d.long))
  back room (mended r d e y) =
      let same : lost ≡ r = in_single (rw e at among) in
      as_it_was refl (rw (← same) restored)

-- A TABLE THAT WAS ACCEPTED COMES BACK AS IT WAS, OR GIVES 15: NEVER ANOTHER.
pub scrambled : {k : Kind} {t s : List ℕ} {p : Program Plain} → Scrambled k t s p → (l : List ℕ) → change_size * trailer_size ≤ length l
    → Back t s l (mend_call k s l)
scrambled {k} {t} {s} x l room = back x room (answered k s l)

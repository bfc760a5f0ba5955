-- Answers of the mender, worked by hand from request #108. The acceptable trailers are found as Laws/Narrow says: trying all counts would take
-- thousands of verdicts.
use Rattle.std.specs.Prelude.{ℕ, ◌≡◌, refl, true, false, List, [], ◌∷◌, ◌++◌, length, replicate, ltb}
use Rattle.std.proofs.Common.{ap, ltb-false}
use Rattle.value.specs.Lists.{all}
use Rattle.value.proofs.Laws.Lists.{all?}
use Rattle.value.proofs.Laws.Tests.{lt?}
use Rattle.format.specs.Syntax.{Kind, concurrent, sequential}
use Rattle.format.specs.Encode.{trailer_size}
use Rattle.format.specs.Rules.{limits}
use Rattle.mending.specs.Mending.{Outcome, accepts, untouched, mend_by, mend_call}
use Rattle.mending.proofs.Laws.Narrow.{narrowed, acceptable_narrowed}

-- the answer for a table that is neither too short nor too long, and not accepted as it is
searched : (k : Kind) (t l : List ℕ) → ltb (length t) trailer_size ≡ false → ltb (limits k).bytes (length t) ≡ false → accepts k t ≡ false
    → all (λ b. ltb b 256) t ≡ true → mend_call k t l ≡ mend_by t l (narrowed k t (limits k).procs 0 0)
searched k t l a b c h =
    rw (a, b, c, mend_call)
    (ap (mend_by t l) (acceptable_narrowed k t ((all? (λ b. lt? b 256) t).so h) (ltb-false (length t) trailer_size a)))

-- ---- tables

-- A of document 01: bodies and records, then the trailer
abbrev A : List ℕ
A = replicate 9 0 ++ (0x43 ∷ 0x50 ∷ 1 ∷ 0 ∷ 0 ∷ 0 ∷ 1 ∷ 0 ∷ 8 ∷ 0 ∷ 0 ∷ 0 ∷ 25 ∷ 0 ∷ 0 ∷ 0 ∷ [])

-- A with its byte 9 set to 00 and its byte 21 to 99
abbrev A-two : List ℕ
A-two = replicate 10 0 ++ (0x50 ∷ 1 ∷ 0 ∷ 0 ∷ 0 ∷ 1 ∷ 0 ∷ 8 ∷ 0 ∷ 0 ∷ 0 ∷ 0x99 ∷ 0 ∷ 0 ∷ 0 ∷ [])

-- A as a sequential table
abbrev S : List ℕ
S = replicate 7 0 ++ (0x53 ∷ 0x50 ∷ 1 ∷ 0 ∷ 0 ∷ 0 ∷ 0 ∷ 0 ∷ 6 ∷ 0 ∷ 0 ∷ 0 ∷ 23 ∷ 0 ∷ 0 ∷ 0 ∷ [])

-- two empty procedures, and two numbers that may be sizes or mains
abbrev D : ℕ → ℕ → List ℕ
D a b = replicate 10 0 ++ (1 ∷ 0 ∷ 0 ∷ 0 ∷ a ∷ 0 ∷ b ∷ 0 ∷ [])

-- the same, with x0 := location 0 in procedure 0
abbrev G : List ℕ
G = 0x20 ∷ 0 ∷ 2 ∷ 0 ∷ 0 ∷ 0 ∷ 0 ∷ 0 ∷ 1 ∷ 0 ∷ 0 ∷ 0 ∷ 0 ∷ 0 ∷ 0 ∷ 6 ∷ 0 ∷ 0 ∷ 0 ∷ 1 ∷ 0 ∷ 1 ∷ 0 ∷ []

-- the trailer of P = 2, M = 1, T = 1 for n bytes
abbrev two_one_one : ℕ → List ℕ
two_one_one n = 0x43 ∷ 0x50 ∷ 2 ∷ 0 ∷ 1 ∷ 0 ∷ 1 ∷ 0 ∷ 16 ∷ 0 ∷ 0 ∷ 0 ∷ n ∷ 0 ∷ 0 ∷ 0 ∷ []

-- the last sixteen bytes replaced
abbrev lost : List ℕ
lost = replicate 16 0xEE

-- n bytes of a lent buffer
abbrev lent : ℕ → List ℕ
lent n = replicate n 9

-- a list of one change: "place 4 bytes, old, new"
abbrev change : ℕ → ℕ → ℕ → List ℕ
change i a b = i ∷ 0 ∷ 0 ∷ 0 ∷ a ∷ b ∷ []

-- the answer with so many changes
abbrev mended : ℕ → List ℕ → List ℕ → Outcome
mended n t l = record { answer = record { refusal = 0; mended = true; changes = n }; table = t; list = l }

-- ---- answers

-- A: 16 CHANGES, PLACES 9 TO 24; a byte more of the list stays
pub A-mended : mend_call concurrent (replicate 9 0 ++ lost) (lent 97) ≡ mended 16 A
    (change 9 0xEE 0x43 ++ (change 10 0xEE 0x50 ++ (change 11 0xEE 1 ++ (change 12 0xEE 0 ++
    (change 13 0xEE 0 ++ (change 14 0xEE 0 ++ (change 15 0xEE 1 ++ (change 16 0xEE 0 ++
    (change 17 0xEE 8 ++ (change 18 0xEE 0 ++ (change 19 0xEE 0 ++ (change 20 0xEE 0 ++
    (change 21 0xEE 25 ++ (change 22 0xEE 0 ++ (change 23 0xEE 0 ++ (change 24 0xEE 0 ++ lent 1))))))))))))))))
A-mended = searched concurrent (replicate 9 0 ++ lost) (lent 97) refl refl refl refl

-- TWO CHANGES; an unchanged byte is not listed
pub A-two-mended : mend_call concurrent A-two (lent 12) ≡ mended 2 A (change 9 0 0x43 ++ change 21 0x99 25)
A-two-mended = searched concurrent A-two (lent 12) refl refl refl refl

-- A SEQUENTIAL TABLE
pub S-mended : (mend_call sequential (replicate 7 0 ++ lost) (lent 96)).table ≡ S
S-mended = ap (λ (o : Outcome). o.table) (searched sequential (replicate 7 0 ++ lost) (lent 96) refl refl refl refl)

-- "nothing to mend" IS FOR THE KIND WANTED: A as a sequential table has no acceptable trailer
pub A-whole : (mend_call concurrent A [] ≡ untouched 0 A []) × (mend_call sequential A (lent 96) ≡ untouched 14 A (lent 96))
A-whole = (refl, searched sequential A (lent 96) refl refl refl refl)

-- MORE THAN ONE: M, T = 0, 2 or 1, 1, whether the main is 1 or 0
pub D-several :
    (mend_call concurrent (D 1 1 ++ lost) (lent 96) ≡ untouched 15 (D 1 1 ++ lost) (lent 96))
    × (mend_call concurrent (D 1 0 ++ lost) [] ≡ untouched 15 (D 1 0 ++ lost) [])
D-several = (
  searched concurrent (D 1 1 ++ lost) (lent 96) refl refl refl refl,
  searched concurrent (D 1 0 ++ lost) [] refl refl refl refl,
)

-- but a whole one has nothing to mend, though it has other choices
pub D-whole : mend_call concurrent (D 1 1 ++ two_one_one 34) [] ≡ untouched 0 (D 1 1 ++ two_one_one 34) []
D-whole = refl

-- ONE: a size of 2 can be no main of two procedures; a location that is named must be there
pub one_alone :
    ((mend_call concurrent (D 2 0 ++ lost) (lent 96)).table ≡ D 2 0 ++ two_one_one 34)
    × ((mend_call concurrent (G ++ lost) (lent 96)).table ≡ G ++ two_one_one 39)
one_alone = (
  ap (λ (o : Outcome). o.table) (searched concurrent (D 2 0 ++ lost) (lent 96) refl refl refl refl),
  ap (λ (o : Outcome). o.table) (searched concurrent (G ++ lost) (lent 96) refl refl refl refl),
)

-- 10: "too short a list buffer is 10, nothing written"
pub short_list : mend_call concurrent (replicate 9 0 ++ lost) (lent 95) ≡ untouched 10 (replicate 9 0 ++ lost) (lent 95)
short_list = searched concurrent (replicate 9 0 ++ lost) (lent 95) refl refl refl refl

-- 1 AND 2: "under 16 bytes 1, over length 2"; 16 bytes alone have no procedure
pub lengths :
    (mend_call concurrent (replicate 15 0) [] ≡ untouched 1 (replicate 15 0) [])
    × (mend_call concurrent (replicate 16 0) [] ≡ untouched 14 (replicate 16 0) [])
    × (mend_call concurrent (replicate 16385 0) [] ≡ untouched 2 (replicate 16385 0) [])
lengths = (refl, searched concurrent (replicate 16 0) [] refl refl refl refl, refl)

-- Numbers and values at places: what stands past the end, and a value's kind byte and number.
use Rattle.std.specs.Prelude.{ℕ, zero, suc, ◌+◌, ◌*◌, ◌^◌, ◌≤◌, ◌<◌, ◌≡◌, refl, List, [], ◌∷◌, ◌++◌, true, false, length, get_or, set, take, drop, ltb}
use Rattle.std.proofs.Common.{arith, add-one, ap, ◌∙◌, drop_of_length-le, drop-cons, ltb-true, ltb-false, lt-ltb}
use Rattle.std.proofs.Math.ListN.{get_or-eq_default}
use Rattle.std.proofs.lemmas.List.Edits.{sets}
use Rattle.std.specs.Int.Signed.{mag}
use Rattle.value.specs.Maybe.{is}
use Rattle.value.specs.Values.{bytes, unbytes, cell_bytes}
use Rattle.value.proofs.Laws.Tests.{by_test}
use Rattle.value.proofs.Laws.Bytes.{word_fits, unword_word}
use Rattle.value.specs.declared.Value.{Value}
use Rattle.value.specs.declared.Value.TheVariants.{Whole, Location, Truth}
use Rattle.basics.specs.Places.{number_at, cell_kind, cell_number, value_of}

-- ---- things put at a place

-- some, and then others
pub sets_append : (l : List ℕ) (i : ℕ) (a b : List ℕ) → sets l i (a ++ b) ≡ sets (sets l i a) (i + length a) b
sets_append l i [] b = ap (λ (n : ℕ). sets l n b) (omega arith)
sets_append l i (x ∷ a) b = sets_append (set l i x) (suc i) a b ∙ ap (λ (n : ℕ). sets (sets l i (x ∷ a)) n b) (omega arith)

-- ---- numbers at a place

-- past the end stands 0
pub number_past : (k : ℕ) (t : List ℕ) (i : ℕ) → length t ≤ i → number_at k t i ≡ 0
number_past zero t i h = refl
number_past (suc k) t i h = rw (get_or-eq_default t 0 h, number_past k t (i + 1) (omega arith))

-- a byte past the end does not count
pub number_shorter : (k : ℕ) (t : List ℕ) (i : ℕ) → length t ≤ i + k → number_at (suc k) t i ≡ number_at k t i
number_shorter zero t i h = let out : length t ≤ i = omega arith in rw (get_or-eq_default t 0 out)
number_shorter (suc k) t i h = ap (λ (n : ℕ). get_or t i 0 + 256 * n) (number_shorter k t (i + 1) (omega arith))

-- the number of the bytes there
pub number_at_lem : (k : ℕ) (t : List ℕ) (i : ℕ) → number_at k t i ≡ unbytes (take k (drop i t))
number_at_lem zero t i = refl
number_at_lem (suc k) t i =
    by_test (ltb i (length t))
    (λ e. rw (drop-cons t i 0 (ltb-true i (length t) e), number_at_lem k t (i + 1), add-one i))
    (λ e.
    let out : length t ≤ i = ltb-false i (length t) e in
    rw (number_past (suc k) t i out, drop_of_length-le t out))

-- ---- a value's five bytes

-- what the code's types hold
abbrev pub Held : Value → Type 0
Held (Whole z) = mag z < 2 ^ 31
Held (Location l) = l < 2 ^ 16
Held (Truth b) = Unit {0}

-- a value's bytes are its kind and its number
pub cell_parts : (v : Value) → cell_bytes v ≡ cell_kind v ∷ bytes 4 (cell_number v)
cell_parts (Whole z) = refl
cell_parts (Location l) = refl
cell_parts (Truth false) = refl
cell_parts (Truth true) = refl

-- the number fits four bytes
pub number_fits : (v : Value) → Held v → cell_number v < 256 ^ 4
number_fits (Whole z) h = word_fits z h
number_fits (Location l) h = omega arith
number_fits (Truth b) h = omega arith

-- a value is that of its kind and its number
pub value_of_cell : (v : Value) → Held v → value_of (cell_kind v) (cell_number v) ≡ is v
value_of_cell (Whole z) h = rw (unword_word z h)
value_of_cell (Location l) h = rw (lt-ltb l (2 ^ 16) h)
value_of_cell (Truth false) h = refl
value_of_cell (Truth true) h = refl

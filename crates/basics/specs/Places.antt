-- Numbers and values at places of a table or a buffer, as the code reads and writes them. Document 01: "value (5: 1 and number; 2, location, two
-- zeros; 3 or 4 and four zeros)".
use Rattle.std.specs.Prelude.{ℕ, zero, suc, ◌+◌, ◌*◌, ◌^◌, List, Bool, true, false, ltb, leb, eqb, length, get_or}
use Rattle.std.proofs.lemmas.List.Edits.{sets}
use Rattle.value.specs.Maybe.{Maybe, is, nothing, when, pick}
use Rattle.value.specs.Values.{word, unword, cell_bytes, cell_size}
use Rattle.value.specs.declared.Value.{Value}
use Rattle.value.specs.declared.Value.TheVariants.{Whole, Location, Truth}

-- the number of k bytes at place i; bytes past the end count as 0
abbrev pub number_at : ℕ → List ℕ → ℕ → ℕ
number_at zero t i = 0
number_at (suc k) t i = get_or t i 0 + 256 * number_at k t (i + 1)

-- do n bytes from place i on stand in a buffer
abbrev pub room : List ℕ → ℕ → ℕ → Bool
room o i n = leb (i + n) (length o)

-- a buffer with a value's five bytes at place i; as it was, where they do not all fit
abbrev pub with_value : List ℕ → ℕ → Value → List ℕ
with_value o i v = pick (room o i cell_size) (sets o i (cell_bytes v)) o

-- ---- a value's five bytes as a kind byte and a number

-- the kind byte of a value
abbrev pub cell_kind : Value → ℕ
cell_kind (Whole z) = 1
cell_kind (Location l) = 2
cell_kind (Truth false) = 3
cell_kind (Truth true) = 4

-- and the number that follows it
abbrev pub cell_number : Value → ℕ
cell_number (Whole z) = word z
cell_number (Location l) = l
cell_number (Truth b) = 0

-- the value of a kind byte and a number
abbrev pub value_of : ℕ → ℕ → Maybe Value
value_of k n =
    pick (eqb k 1) (is (Whole (unword n)))
    (pick (eqb k 2) (when (ltb n (2 ^ 16)) (is (Location n)))
    (when (eqb n 0)
    (pick (eqb k 3) (is (Truth false))
    (pick (eqb k 4) (is (Truth true))
    nothing))))

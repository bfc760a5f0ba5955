-- Values written into a buffer.
use mathlib.Core.Path.{◌≡◌, refl}
use mathlib.Core.Bool.{true, false}
use mathlib.Core.List.{List, [], ◌∷◌}
use Prim.Native.Nat.{ℕ, suc, ◌+◌, ◌≤◌, ◌<◌}
use native.Mathlib.Numerals.{add-one}
use native.Mathlib.Omega.{arith}
use lib.ListN.{length, set}
use lib.Seq.{sets}
use borrow.Author.Tests.{le-leb, lt-leb}
use Rattle.value.specs.Values.{bytes, cell_size}
use Rattle.basics.specs.Places.{cell_kind, cell_number, room, with_value}
use Rattle.basics.specs.Laws.Places.{cell_parts}
use Rattle.value.specs.declared.Value.{Value}

-- four bytes, one after the other
pub four_stored : (o : List ℕ) (i a b c d : ℕ) → set (set (set (set o i a) (i + 1) b) (i + 2) c) (i + 3) d ≡ sets o i (a ∷ b ∷ c ∷ d ∷ [])
four_stored o i a b c d =
    let two : i + 2 ≡ suc (suc i) = omega arith in
    let three : i + 3 ≡ suc (suc (suc i)) = omega arith in
    rw (add-one i, two, three)

module _ (o : List ℕ) (i : ℕ) (v : Value) where
  -- what is answered where five bytes do not fit, and the buffer
  pub no_room : length o < i + cell_size → (false ≡ room o i cell_size) × (o ≡ with_value o i v)
  no_room h = rw (lt-leb (i + cell_size) (length o) h) (refl, refl)

  -- and where they do, after the kind byte and the number
  pub stored : {k n : ℕ} {x : List ℕ} → i + cell_size ≤ length o → k ≡ cell_kind v → n ≡ cell_number v → x ≡ sets (set o i k) (i + 1) (bytes 4 n)
      → (true ≡ room o i cell_size) × (x ≡ with_value o i v)
  stored h ek en e = rw (le-leb (i + cell_size) (length o) h, cell_parts v, e, ek, en, add-one i) (refl, refl)

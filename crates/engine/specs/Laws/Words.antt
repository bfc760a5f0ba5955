-- The word of a value holds it.
use Rattle.std.specs.Prelude.{ℕ, ◌+◌, ◌*◌, ◌/◌, ◌%◌, ◌^◌, ◌<◌, ◌≡◌, true, false}
use Rattle.std.proofs.Common.{arith}
use Rattle.value.specs.Maybe.{is}
use Rattle.basics.specs.Places.{value_of, cell_kind, cell_number}
use Rattle.value.specs.declared.Value.{Value}
use Rattle.value.specs.declared.Value.TheVariants.{Whole, Location, Truth}
use Rattle.basics.specs.Laws.Places.{Held, number_fits, value_of_cell}
use Rattle.engine.specs.Words.{held}

-- a kind byte and a number of four bytes are read back from their word
pub held_word : (k n : ℕ) → k < 256 → n < 2 ^ 32 → held (2 ^ 32 * k + n) ≡ value_of k n
unfolding held
held_word k n h l =
    let kind : (2 ^ 32 * k + n) / 2 ^ 32 % 256 ≡ k = omega arith in
    let number : (2 ^ 32 * k + n) % 2 ^ 32 ≡ n = omega arith in
    rw (kind, number)

-- kinds are 1 to 4
kind_small : (v : Value) → cell_kind v < 256
kind_small (Whole z) = omega arith
kind_small (Location l) = omega arith
kind_small (Truth true) = omega arith
kind_small (Truth false) = omega arith

-- the word of a value holds the value
pub word_held : (v : Value) {k n : ℕ} → Held v → k ≡ cell_kind v → n ≡ cell_number v → held (2 ^ 32 * k + n) ≡ is v
word_held v h k n = rw (k, n, held_word (cell_kind v) (cell_number v) (kind_small v) (number_fits v h)) (value_of_cell v h)

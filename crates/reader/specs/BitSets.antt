-- Sets of locals as the bits of a number, as rule 8 makes them: a procedure of either kind has fewer than 64.
use Rattle.std.specs.Prelude.{ℕ, ◌-◌, ◌^◌, ltb}
use Rattle.std.specs.Int.Bits.{bit_or}
use Rattle.value.specs.Maybe.{pick}

-- the set with x, where x is below 64
unfoldable pub insert : ℕ → ℕ → ℕ
insert n x = pick (ltb x 64) (bit_or n (2 ^ x)) n

-- the numbers below n, where n is below 64
unfoldable pub below : ℕ → ℕ
below n = pick (ltb n 64) (2 ^ n - 1) 0

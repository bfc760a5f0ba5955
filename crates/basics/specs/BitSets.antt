-- Sets of locals as the bits of a number.
use Rattle.std.specs.Prelude.{ℕ, zero, suc, ◌/◌, ◌%◌, Bool, eqb}

-- is x in the set: bit x
abbrev pub bit : ℕ → ℕ → Bool
bit n zero = eqb (n % 2) 1
bit n (suc x) = bit (n / 2) x

-- the set
unfoldable pub bits : ℕ → ℕ → Bool
bits n = λ x. bit n x

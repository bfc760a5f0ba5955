-- The pieces of a text: quoted ones, and numbers in decimal.
use Rattle.std.specs.Prelude.{ℕ, zero, suc, ◌+◌, ◌/◌, ◌%◌, List, [], ◌∷◌, ◌++◌, true, false, ℤ, pos, negsuc, ltb}
use Prim.Native.Char.{code}
use Prim.Native.String.{String}
use Prim.Native.String.{[] as empty, ◌∷◌ as ◌before◌}

-- the bytes of a quoted text
unfoldable pub say : String → List ℕ
say empty = []
say (c before s) = code c ∷ say s

-- pieces one after the other
abbrev pub joined : List (List ℕ) → List ℕ
joined [] = []
joined (a ∷ []) = a
joined (a ∷ b ∷ bs) = a ++ joined (b ∷ bs)

-- the digits of n, at most so many of them
unfoldable pub digits : ℕ → ℕ → List ℕ
digits zero n = []
digits (suc k) n = elim (ltb n 10) [ true ↦ (48 + n) ∷ [] | false ↦ digits k (n / 10) ++ ((48 + n % 10) ∷ []) ]

-- "decimal, no leading zero, no plus sign": 10 digits are enough for 32 bits
abbrev pub decimal : ℕ → List ℕ
decimal n = digits 10 n

-- "only a negative number has a `-` before its digits"
abbrev pub whole : ℤ → List ℕ
whole (pos n) = decimal n
whole (negsuc n) = 45 ∷ decimal (suc n)

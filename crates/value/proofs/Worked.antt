-- Worked by hand from document 01, "Values and expressions": each line is computed. The cases at the ends of the range are in crate
-- `agreement`, Worked; Laws.Arithmetic has the range itself.
use Rattle.std.specs.Prelude.{ℕ, ◌≡◌, refl, [], ◌∷◌, map, true, false, pos, neg_ℤ}
use Rattle.value.specs.Try.{has, lacks, reason_number}
use Rattle.value.specs.Lists.{sum}
use Rattle.value.specs.Values.{not, neg, add, sub, mul, less, equal, and, apply₁, apply₂, bytes, cell_bytes}
use Rattle.value.specs.Marks.{mark₁, mark₂, judged, decided}
use Rattle.value.specs.declared.Reason.TheVariants.{OutOfRange, WrongKind, IndexOutside, FinishedThread}
use Rattle.value.specs.declared.Value.{Value}
use Rattle.value.specs.declared.Value.TheVariants.{Whole, Location, Truth}

-- n, and -n
abbrev plus : ℕ → Value
plus n = Whole (pos n)

-- as a value
abbrev minus : ℕ → Value
minus n = Whole (neg_ℤ (pos n))

-- WHAT THE OPERATORS GIVE
pub operators :
    (apply₂ add (plus 7) (minus 2) ≡ has (plus 5))
    × (apply₂ sub (plus 2) (plus 7) ≡ has (minus 5))
    × (apply₂ mul (minus 3) (plus 4) ≡ has (minus 12))
    × (apply₂ less (minus 3) (plus 2) ≡ has (Truth true))
    × (apply₂ less (plus 2) (plus 2) ≡ has (Truth false))
    × (apply₂ less (plus 2) (minus 3) ≡ has (Truth false))
    × (apply₂ equal (Location 3) (Location 3) ≡ has (Truth true))
    × (apply₂ equal (Truth false) (Truth true) ≡ has (Truth false))
    × (apply₂ and (Truth true) (Truth true) ≡ has (Truth true))
    × (apply₂ and (Truth true) (Truth false) ≡ has (Truth false))
    × (apply₂ and (Truth false) (Truth true) ≡ has (Truth false))
    × (apply₁ not (Truth true) ≡ has (Truth false))
    × (apply₁ not (Truth false) ≡ has (Truth true))
    × (apply₁ neg (plus 5) ≡ has (minus 5))
operators = (refl, refl, refl, refl, refl, refl, refl, refl, refl, refl, refl, refl, refl, refl)

-- WHY THEY GIVE NONE: the kinds are judged before the range
pub reasons :
    (apply₂ add (plus 2147483647) (plus 1) ≡ lacks OutOfRange)
    × (apply₂ sub (minus 2147483648) (plus 1) ≡ lacks OutOfRange)
    × (apply₂ mul (plus 65536) (plus 32768) ≡ lacks OutOfRange)
    × (apply₁ neg (minus 2147483648) ≡ lacks OutOfRange)
    × (apply₂ add (plus 2147483647) (Truth true) ≡ lacks WrongKind)
    × (apply₂ less (Location 0) (plus 1) ≡ lacks WrongKind)
    × (apply₂ equal (Location 1) (plus 1) ≡ lacks WrongKind)
    × (apply₂ and (Truth false) (plus 0) ≡ lacks WrongKind)
    × (apply₁ not (plus 0) ≡ lacks WrongKind)
    × (judged equal (Location 1) ≡ has (Location 1))
    × (judged and (plus 0) ≡ lacks WrongKind)
    × (judged less (Truth true) ≡ lacks WrongKind)
reasons = (refl, refl, refl, refl, refl, refl, refl, refl, refl, refl, refl, refl)

-- WHERE THE LEFT OPERAND DECIDES: "a false left side gives false and the right side isn't evaluated"; no other operator and no other value
pub decisions :
    (decided and (Truth false) ≡ true)
    × (decided and (Truth true) ≡ false)
    × (decided and (plus 0) ≡ false)
    × (decided and (Location 0) ≡ false)
    × (decided equal (Truth false) ≡ false)
    × (decided mul (plus 0) ≡ false)
decisions = (refl, refl, refl, refl, refl, refl)

-- THEIR NUMBERS: "1 outside the number range, 2 wrong kind. Machines add 3 index outside, 4 finished thread chosen"
pub reason_numbers : map reason_number (OutOfRange ∷ WrongKind ∷ IndexOutside ∷ FinishedThread ∷ []) ≡ 1 ∷ 2 ∷ 3 ∷ 4 ∷ []
reason_numbers = refl

-- THE MARKS OF THE OPERATORS: "10, 11, 12: add, subtract, multiply", "13 less", "14 equal", "15 and", "16, 17 not, negate"
pub operator_marks :
    (map mark₂ (add ∷ sub ∷ mul ∷ less ∷ equal ∷ and ∷ []) ≡ 0x10 ∷ 0x11 ∷ 0x12 ∷ 0x13 ∷ 0x14 ∷ 0x15 ∷ [])
    × (map mark₁ (not ∷ neg ∷ []) ≡ 0x16 ∷ 0x17 ∷ [])
operator_marks = (refl, refl)

-- "numbers of several bytes are low byte first"; "two's complement"; "1 and number; 2, location, two zeros; 3 or 4 and four zeros"
pub in_bytes :
    (bytes 4 0x01020304 ≡ 4 ∷ 3 ∷ 2 ∷ 1 ∷ [])
    × (cell_bytes (plus 258) ≡ 1 ∷ 2 ∷ 1 ∷ 0 ∷ 0 ∷ [])
    × (cell_bytes (minus 2) ≡ 1 ∷ 254 ∷ 255 ∷ 255 ∷ 255 ∷ [])
    × (cell_bytes (Location 258) ≡ 2 ∷ 2 ∷ 1 ∷ 0 ∷ 0 ∷ [])
    × (cell_bytes (Truth false) ≡ 3 ∷ 0 ∷ 0 ∷ 0 ∷ 0 ∷ [])
    × (cell_bytes (Truth true) ≡ 4 ∷ 0 ∷ 0 ∷ 0 ∷ 0 ∷ [])
in_bytes = (refl, refl, refl, refl, refl, refl)

-- all together
pub summed : sum (1 ∷ 2 ∷ 4 ∷ []) ≡ 7
summed = refl

-- The operands of the operators on whole numbers, and what becomes of a result, as the code takes them.
use Rattle.std.specs.Prelude.{◌≡◌, ℤ, Option, Result, Ok, Err, FitsSigned}
use Rattle.std.specs.Int.{w32}
use Rattle.std.specs.Option.{SomeIff}
use Rattle.value.specs.Values.{given, whole}
use Rattle.value.specs.declared.Value.{Value}
use Rattle.value.specs.declared.Value.TheVariants.{Whole, Location, Truth}
use Rattle.value.specs.declared.Reason.{Reason}
use Rattle.value.specs.declared.Reason.TheVariants.{WrongKind}

-- two whole numbers, of two values
abbrev pub numbers_of : Value → Value → Result (ℤ × ℤ) Reason
numbers_of (Whole a) (Whole b) = Ok (a, b)
numbers_of (Whole a) (Location l) = Err WrongKind
numbers_of (Whole a) (Truth b) = Err WrongKind
numbers_of (Location l) w = Err WrongKind
numbers_of (Truth b) w = Err WrongKind

-- a result that is there exactly if it is in the range of 32 bits: that value, or the reason 1
pub record Narrows (x : Option ℤ) (r : Result Value Reason) : Type 0 where
  pub gives : (z : ℤ) → SomeIff x (FitsSigned w32 z) z → given r ≡ whole z

-- The operators without reasons, as document 01 alone has them: line by line what stood in Values before request #101. No other definition uses
-- these; Forget says that they are Values without the reason.
use Rattle.std.specs.Prelude.{ℕ, ◌^◌, Bool, ℤ, neg_ℤ, ◌+ℤ◌, ◌-ℤ◌, ◌*ℤ◌, ltb, eqb}
use Rattle.std.proofs.Math.Bool as B
use Rattle.std.specs.Int.Signed.{mag, lt_z}
use Rattle.value.specs.Maybe.{Maybe, is, nothing, ◌>>=◌, when, both}
use Rattle.value.specs.Values.{Two, add, sub, mul, less, equal, and, One, not, neg, same_z, same_b}
use Rattle.value.specs.declared.Value.{Value}
use Rattle.value.specs.declared.Value.TheVariants.{Whole, Location, Truth}

-- `mag z` is n for n and for -(n + 1), so this is -2,147,483,648 to 2,147,483,647
abbrev pub whole : ℤ → Maybe Value
whole z = when (ltb (mag z) (2 ^ 31)) (is (Whole z))

-- "of the wrong kind, has none itself": a whole number, or nothing
abbrev pub number : Value → Maybe ℤ
number (Whole z) = is z
number (Location l) = nothing
number (Truth b) = nothing

-- a location
abbrev pub place : Value → Maybe ℕ
place (Location l) = is l
place (Whole z) = nothing
place (Truth b) = nothing

-- a truth value
abbrev pub truth : Value → Maybe Bool
truth (Truth b) = is b
truth (Whole z) = nothing
truth (Location l) = nothing

-- "less (whole numbers)", and add, subtract, multiply: both sides are whole numbers
abbrev pub wholes : (ℤ → ℤ → Maybe Value) → Value → Value → Maybe Value
wholes f u v = number u >>= λ a. number v >>= λ b. f a b

-- "equal (two of one kind)"
abbrev pub same : Value → Value → Maybe Value
same (Whole a) v = number v >>= λ b. is (Truth (same_z a b))
same (Location a) v = place v >>= λ b. is (Truth (eqb a b))
same (Truth a) v = truth v >>= λ b. is (Truth (same_b a b))

-- "and (both sides are evaluated)"
abbrev pub truths : Value → Value → Maybe Value
truths u v = truth u >>= λ a. truth v >>= λ b. is (Truth (both a b))

-- what an operator gives of two values; "a result outside the range is no value"
abbrev pub apply₂ : Two → Value → Value → Maybe Value
apply₂ add = wholes (λ a b. whole (a +ℤ b))
apply₂ sub = wholes (λ a b. whole (a -ℤ b))
apply₂ mul = wholes (λ a b. whole (a *ℤ b))
apply₂ less = wholes (λ a b. is (Truth (lt_z a b)))
apply₂ equal = same
apply₂ and = truths

-- and of one
abbrev pub apply₁ : One → Value → Maybe Value
apply₁ not v = truth v >>= λ b. is (Truth (B.not b))
apply₁ neg v = number v >>= λ z. whole (neg_ℤ z)

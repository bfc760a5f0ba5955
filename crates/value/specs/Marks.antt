-- The marks of expressions: document 01, "Values and expressions", the table of marks.
use Rattle.std.specs.Prelude.{ℕ, List, [], ◌∷◌, Bool, false, get_or, eqb}
use Rattle.std.proofs.Math.Bool as B
use Rattle.value.specs.Maybe.{either}
use Rattle.value.specs.Try.{Try, provided}
use Rattle.value.specs.Values.{One, not, neg, Two, add, sub, mul, less, equal, and}
use Rattle.value.specs.declared.Value.{Value}
use Rattle.value.specs.declared.Value.TheVariants.{Whole, Location, Truth}
use Rattle.value.specs.declared.Reason.TheVariants.{WrongKind}

-- "10, 11, 12: add, subtract, multiply; 13 less; 14 equal; 15 and"
abbrev pub mark₂ : Two → ℕ
mark₂ add = 0x10
mark₂ sub = 0x11
mark₂ mul = 0x12
mark₂ less = 0x13
mark₂ equal = 0x14
mark₂ and = 0x15

-- "16, 17: not, negate"
abbrev pub mark₁ : One → ℕ
mark₁ not = 0x16
mark₁ neg = 0x17

-- what a mark byte begins
pub data Mark : Type 0 where
  whole_mark location_mark no_mark yes_mark local_mark : Mark
  one_mark : One → Mark
  two_mark : Two → Mark
  no_expr : Mark

-- by the byte, 00 to 17
abbrev pub marks : List Mark
marks =
    no_expr ∷ whole_mark ∷ location_mark ∷ no_mark ∷ yes_mark ∷ local_mark ∷ no_expr ∷ no_expr ∷
    no_expr ∷ no_expr ∷ no_expr ∷ no_expr ∷ no_expr ∷ no_expr ∷ no_expr ∷ no_expr ∷
    two_mark add ∷ two_mark sub ∷ two_mark mul ∷ two_mark less ∷ two_mark equal ∷ two_mark and ∷ one_mark not ∷ one_mark neg ∷ []

-- what byte m begins
abbrev pub mark_of : ℕ → Mark
mark_of m = get_or marks m no_expr

-- the kinds of values: 1 whole number, 2 location, 3 truth value; 0 stands for any kind
abbrev pub kind_of : Value → ℕ
kind_of (Whole z) = 1
kind_of (Location l) = 2
kind_of (Truth b) = 3

-- a value of kind k, where 0 is any
abbrev pub of_kind : ℕ → Value → Bool
of_kind k v = either (eqb k 0) (eqb (kind_of v) k)

-- the kind that an operator takes on its left; `equal` takes any
abbrev pub left_kind : Two → ℕ
left_kind add = 1
left_kind sub = 1
left_kind mul = 1
left_kind less = 1
left_kind equal = 0
left_kind and = 3

-- request #101: "The left operand, its kind included, is judged before the right"
abbrev pub judged : Two → Value → Try Value
judged o u = provided (of_kind (left_kind o) u) WrongKind u

-- request #103: "a false left side gives false and the right side isn't evaluated". Does the left operand alone decide?
abbrev pub decided : Two → Value → Bool
decided and (Truth b) = B.not b
decided and (Whole z) = false
decided and (Location l) = false
decided add u = false
decided sub u = false
decided mul u = false
decided less u = false
decided equal u = false

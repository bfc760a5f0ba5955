-- Environments, memory and events.
use Rattle.std.specs.Prelude.{ℕ, List, [], ◌∷◌, false, get_or, set, replicate, ℤ, pos, negsuc}
use Rattle.value.specs.Maybe.{Maybe, is, nothing, ◌>>=◌, pick}
use Rattle.value.specs.Try.{Try, has, lacks, ◌⟫◌, or_lacks}
use Rattle.value.specs.Lists.{at}
use Rattle.value.specs.Values.{apply₁, apply₂}
use Rattle.value.specs.Marks.{judged, decided}
use Rattle.value.specs.declared.Value.{Value}
use Rattle.value.specs.declared.Value.TheVariants.{Whole, Truth}
use Rattle.value.specs.declared.Reason.TheVariants.{WrongKind, IndexOutside}
use Rattle.format.specs.Syntax.{Expr, constant, local, one, two}

-- the locals of a frame, by number; one that is not set is nothing
abbrev pub Env : Type 0
Env = List (Maybe Value)

-- the value of a local, if it is set
abbrev pub lookup : Env → ℕ → Maybe Value
lookup ρ x = get_or ρ x nothing

-- a local is set
abbrev pub bound : Env → ℕ → Value → Env
bound ρ x v = set ρ x (is v)

-- document 01: "An operator with an operand that has no value, or of the wrong kind, has none itself"; request #101: "The left operand, its kind
-- included, is judged before the right, and the range of the result last"; request #103: "a false left side gives false and the right side isn't
-- evaluated", of `and`. Number 8 keeps out a local that is not set: 2 here
abbrev pub eval : Env → Expr → Try Value
eval ρ (constant v) = has v
eval ρ (local x) = or_lacks WrongKind (lookup ρ x)
eval ρ (one o a) = eval ρ a ⟫ apply₁ o
eval ρ (two o a b) = eval ρ a ⟫ judged o ⟫ λ u. pick (decided o u) (has (Truth false)) (eval ρ b ⟫ λ v. apply₂ o u v)

-- several expressions, all of which must have a value: the first that has none decides
abbrev pub evals : Env → List Expr → Try (List Value)
evals ρ [] = has []
evals ρ (e ∷ es) = eval ρ e ⟫ λ v. evals ρ es ⟫ λ vs. has (v ∷ vs)

-- memory, by location and index
abbrev pub Memory : Type 0
Memory = List (List Value)

-- the cell of an index of a location; "3 index outside"
abbrev pub cell : Memory → ℕ → ℕ → Try Value
cell η l i = or_lacks IndexOutside (at η l >>= λ row. at row i)

-- a whole number as an index: a negative one is outside
abbrev pub index : ℤ → Try ℕ
index (pos n) = has n
index (negsuc n) = lacks IndexOutside

-- a value is stored in a cell
abbrev pub stored : Memory → ℕ → ℕ → Value → Memory
stored η l i v = set η l (set (get_or η l []) i v)

-- all cells start as number 0
abbrev pub fresh : List ℕ → Memory
fresh [] = []
fresh (n ∷ ns) = replicate n (Whole (pos 0)) ∷ fresh ns

-- an event reads or writes
pub data Way : Type 0 where
  reading writing : Way

-- document 01: "An event is .. thread, 0 read or 1 write, location, index, value"; request #105: "the last two being the label of the step"
pub record Event : Type 0 where
  pub thread : ℕ
  pub way : Way
  pub place : ℕ
  pub index : ℕ
  pub value : Value
  pub label : ℕ

-- What is there, or the reason why it is not: request #101, "An expression without a value shall say why".
use Rattle.std.specs.Prelude.{ℕ, Bool, true, false}
use Rattle.value.specs.Maybe.{Maybe, is, nothing}
use Rattle.value.specs.declared.Reason.{Reason}
use Rattle.value.specs.declared.Reason.TheVariants.{OutOfRange, WrongKind, IndexOutside, FinishedThread}

-- "1 outside the number range, 2 wrong kind. Machines add 3 index outside, 4 finished thread chosen"
abbrev pub reason_number : Reason → ℕ
reason_number OutOfRange = 1
reason_number WrongKind = 2
reason_number IndexOutside = 3
reason_number FinishedThread = 4

-- a thing, or why there is none
pub data Try (A : Type 0) : Type 0 where
  has : A → Try A
  lacks : Reason → Try A

-- go on with what is there; the first reason stays
infixl 30 ◌⟫◌
abbrev pub ◌⟫◌ : {A B : Type 0} → Try A → (A → Try B) → Try B
has a ⟫ f = f a
lacks r ⟫ f = lacks r

-- a thing, if a test passes
abbrev pub provided : {A : Type 0} → Bool → Reason → A → Try A
provided true r a = has a
provided false r a = lacks r

-- what may be missing, and why it then is
abbrev pub or_lacks : {A : Type 0} → Reason → Maybe A → Try A
or_lacks r (is a) = has a
or_lacks r nothing = lacks r

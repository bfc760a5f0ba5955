-- Forgetting the reason gives back the operators that document 01 has.
use Rattle.std.specs.Prelude.{◌≡◌, refl, Bool, true, false, ℤ, neg_ℤ, ◌+ℤ◌, ◌-ℤ◌, ◌*ℤ◌, ltb}
use Rattle.std.proofs.Common.{sym, ap, ◌∙◌}
use Rattle.std.specs.Int.Signed.{mag, lt_z}
use Rattle.value.specs.Maybe.{Maybe, is, nothing, when}
use Rattle.value.specs.Try.{Try, has, lacks, provided, or_lacks}
use Rattle.value.specs.Values.{Two, add, sub, mul, less, equal, and, One, not, neg, whole, number, place, truth, wholes, apply₁, apply₂}
use Rattle.value.specs.Marks.{judged}
use Rattle.value.proofs.Laws.Bare as Bare
use Rattle.value.proofs.Laws.Tries.{forget, forget_chain}
use Rattle.value.proofs.Laws.Reasons.{judged_lacks, fails_exactly, left_kind_lem}
use Rattle.value.specs.declared.Value.{Value}
use Rattle.value.specs.declared.Value.TheVariants.{Whole, Location, Truth}
use Rattle.value.specs.declared.Reason.{Reason}
use Rattle.value.specs.declared.Reason.TheVariants.{OutOfRange}

-- a test, without its reason
pub forget_provided : {A : Type 0} (b : Bool) (r : Reason) (a : A) → forget (provided b r a) ≡ when b (is a)
forget_provided true r a = refl
forget_provided false r a = refl

-- what may be missing
pub forget_or_lacks : {A : Type 0} (r : Reason) (m : Maybe A) → forget (or_lacks r m) ≡ m
forget_or_lacks r (is a) = refl
forget_or_lacks r nothing = refl

-- a result
forget_whole : (z : ℤ) → forget (whole z) ≡ Bare.whole z
forget_whole z = forget_provided (ltb (mag z) 2147483648) OutOfRange (Whole z)

-- a whole number
pub forget_number : (v : Value) → forget (number v) ≡ Bare.number v
forget_number (Whole z) = refl
forget_number (Location l) = refl
forget_number (Truth b) = refl

-- a location
pub forget_place : (v : Value) → forget (place v) ≡ Bare.place v
forget_place (Location l) = refl
forget_place (Whole z) = refl
forget_place (Truth b) = refl

-- a truth value
pub forget_truth : (v : Value) → forget (truth v) ≡ Bare.truth v
forget_truth (Truth b) = refl
forget_truth (Whole z) = refl
forget_truth (Location l) = refl

-- of two whole numbers
forget_wholes : (f : ℤ → ℤ → Try Value) (g : ℤ → ℤ → Maybe Value) → ((a b : ℤ) → forget (f a b) ≡ g a b) → (u v : Value)
    → forget (wholes f u v) ≡ Bare.wholes g u v
forget_wholes f g h u v =
    forget_chain (number u) _ (Bare.number u) _ (forget_number u) (λ a.
    forget_chain (number v) _ (Bare.number v) _ (forget_number v) (λ b. h a b))

-- AN OPERATOR OF TWO, WITHOUT ITS REASON
pub forget_two : (o : Two) (u v : Value) → forget (apply₂ o u v) ≡ Bare.apply₂ o u v
forget_two add u v = forget_wholes (λ a b. whole (a +ℤ b)) (λ a b. Bare.whole (a +ℤ b)) (λ a b. forget_whole (a +ℤ b)) u v
forget_two sub u v = forget_wholes (λ a b. whole (a -ℤ b)) (λ a b. Bare.whole (a -ℤ b)) (λ a b. forget_whole (a -ℤ b)) u v
forget_two mul u v = forget_wholes (λ a b. whole (a *ℤ b)) (λ a b. Bare.whole (a *ℤ b)) (λ a b. forget_whole (a *ℤ b)) u v
forget_two less u v = forget_wholes (λ a b. has (Truth (lt_z a b))) (λ a b. is (Truth (lt_z a b))) (λ a b. refl) u v
forget_two equal (Whole a) v = forget_chain (number v) _ (Bare.number v) _ (forget_number v) (λ b. refl)
forget_two equal (Location a) v = forget_chain (place v) _ (Bare.place v) _ (forget_place v) (λ b. refl)
forget_two equal (Truth a) v = forget_chain (truth v) _ (Bare.truth v) _ (forget_truth v) (λ b. refl)
forget_two and u v =
    forget_chain (truth u) _ (Bare.truth u) _ (forget_truth u) (λ a. forget_chain (truth v) _ (Bare.truth v) _ (forget_truth v) (λ b. refl))

-- AND OF ONE
pub forget_one : (o : One) (v : Value) → forget (apply₁ o v) ≡ Bare.apply₁ o v
forget_one not v = forget_chain (truth v) _ (Bare.truth v) _ (forget_truth v) (λ b. refl)
forget_one neg v = forget_chain (number v) _ (Bare.number v) _ (forget_number v) (λ z. forget_whole (neg_ℤ z))

-- a left operand that is refused leaves no value, whatever is on the right
pub refused_left : (o : Two) (u : Value) {r : Reason} → judged o u ≡ lacks r → (v : Value) → Bare.apply₂ o u v ≡ nothing
refused_left o u e v =
    sym (forget_two o u v) ∙ ap forget ((fails_exactly o u v _).1 (left_kind_lem ((judged_lacks o u _).0 e).0))

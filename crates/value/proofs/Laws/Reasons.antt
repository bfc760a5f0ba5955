-- Why an operator gives no value, exactly: 2 for an operand of a kind that it does not take, 1 for a result outside the range. The left operand's
-- kind is judged first, then the right's, then the range.
use Rattle.std.specs.Prelude.{ℕ, ◌<◌, ◌≡◌, refl, ◌↔◌, Bool, true, false, ℤ, neg_ℤ, ◌+ℤ◌, ◌-ℤ◌, ◌*ℤ◌, ltb}
use Rattle.std.proofs.Common.{arith, sym, ◌∙◌}
use Rattle.std.specs.Int.Signed.{mag, lt_z}
use Rattle.value.specs.Maybe.{both}
use Rattle.value.specs.Try.{reason_number, Try, has, lacks, ◌⟫◌}
use Rattle.value.specs.Values.{One, not, neg, Two, add, sub, mul, less, equal, and, whole, number, place, truth, same}
use Rattle.value.specs.Values.{apply₁, apply₂}
use Rattle.value.specs.Marks.{kind_of, of_kind, left_kind, judged, decided}
use Rattle.value.proofs.Laws.Tries.{has_inj, lacks_inj, lacking, chain_stops, provided_has, provided_stops}
use Rattle.value.proofs.Laws.Tests.{Decides, always, never, eq?, by_test}
use Rattle.value.proofs.Laws.Arithmetic.{InRange, whole_exactly}
use Rattle.value.specs.declared.Value.{Value}
use Rattle.value.specs.declared.Value.TheVariants.{Whole, Location, Truth}
use Rattle.value.specs.declared.Reason.{Reason}
use Rattle.value.specs.declared.Reason.TheVariants.{OutOfRange, WrongKind, IndexOutside, FinishedThread}

-- ---- their numbers

-- each reason has a number of its own
pub reason_number_lem : (q r : Reason) → reason_number q ≡ reason_number r → q ≡ r
reason_number_lem OutOfRange OutOfRange e = refl
reason_number_lem OutOfRange WrongKind e = absurd (omega arith)
reason_number_lem OutOfRange IndexOutside e = absurd (omega arith)
reason_number_lem OutOfRange FinishedThread e = absurd (omega arith)
reason_number_lem WrongKind OutOfRange e = absurd (omega arith)
reason_number_lem WrongKind WrongKind e = refl
reason_number_lem WrongKind IndexOutside e = absurd (omega arith)
reason_number_lem WrongKind FinishedThread e = absurd (omega arith)
reason_number_lem IndexOutside OutOfRange e = absurd (omega arith)
reason_number_lem IndexOutside WrongKind e = absurd (omega arith)
reason_number_lem IndexOutside IndexOutside e = refl
reason_number_lem IndexOutside FinishedThread e = absurd (omega arith)
reason_number_lem FinishedThread OutOfRange e = absurd (omega arith)
reason_number_lem FinishedThread WrongKind e = absurd (omega arith)
reason_number_lem FinishedThread IndexOutside e = absurd (omega arith)
reason_number_lem FinishedThread FinishedThread e = refl

-- and it is not 0, which says that nothing blocked
pub reason_positive : (r : Reason) → 0 < reason_number r
reason_positive OutOfRange = omega arith
reason_positive WrongKind = omega arith
reason_positive IndexOutside = omega arith
reason_positive FinishedThread = omega arith

-- ---- the kinds

-- what an operator takes on its left: "less (whole numbers)", and add, subtract, multiply; "equal (two of one kind)"; "and" truth values
abbrev pub Left : Two → Value → Type 0
Left add u = kind_of u ≡ 1
Left sub u = kind_of u ≡ 1
Left mul u = kind_of u ≡ 1
Left less u = kind_of u ≡ 1
Left equal u = Unit {0}
Left and u = kind_of u ≡ 3

-- and on its right, beside u
abbrev pub Right : Two → Value → Value → Type 0
Right add u w = kind_of w ≡ 1
Right sub u w = kind_of w ≡ 1
Right mul u w = kind_of w ≡ 1
Right less u w = kind_of w ≡ 1
Right equal u w = kind_of w ≡ kind_of u
Right and u w = kind_of w ≡ 3

-- what an operator of one takes
abbrev pub Takes : One → Value → Type 0
Takes not u = kind_of u ≡ 3
Takes neg u = kind_of u ≡ 1

-- ---- the range

-- "a result outside the range is no value": the sum, the difference, the product
pub data Outside : Two → Value → Value → Type 0 where
  sum : {a b : ℤ} → (InRange (a +ℤ b) → ⊥) → Outside add (Whole a) (Whole b)
  difference : {a b : ℤ} → (InRange (a -ℤ b) → ⊥) → Outside sub (Whole a) (Whole b)
  product : {a b : ℤ} → (InRange (a *ℤ b) → ⊥) → Outside mul (Whole a) (Whole b)

-- ---- why there is no value

-- of two values
pub data Fails (o : Two) (u w : Value) : Reason → Type 0 where
  left_kind_lem : (Left o u → ⊥) → Fails o u w WrongKind
  right_kind : Left o u → (Right o u w → ⊥) → Fails o u w WrongKind
  range : Left o u → Right o u w → Outside o u w → Fails o u w OutOfRange

-- of one
pub data Fails₁ : One → Value → Reason → Type 0 where
  kind : {o : One} {u : Value} → (Takes o u → ⊥) → Fails₁ o u WrongKind
  range : {z : ℤ} → (InRange (neg_ℤ z) → ⊥) → Fails₁ neg (Whole z) OutOfRange

-- a whole number is no value exactly outside the range
whole_lacks : (z : ℤ) {r : Reason} → whole z ≡ lacks r → (OutOfRange ≡ r) × (InRange z → ⊥)
whole_lacks z e = ((provided_stops (ltb (mag z) 2147483648) OutOfRange (Whole z) e).1, λ h. lacking (sym e ∙ (whole_exactly z (Whole z)).1 (h, refl)))

-- and the other way
whole_outside : (z : ℤ) → (InRange z → ⊥) → whole z ≡ lacks OutOfRange
whole_outside z h = on (whole z) refl
  where
    on : (x : Try Value) → whole z ≡ x → x ≡ lacks OutOfRange
    on (has v) e = absurd (h ((whole_exactly z v).0 e).0)
    on (lacks r) e = rw (whole_lacks z e).0 refl

-- what is of another kind has the reason 2
module _ {A : Type 0} where
  -- a kind, and what takes it out of a value
  pub record Kind (k : ℕ) (out : Value → Try A) : Type 0 where
    pub so : (u : Value) {r : Reason} → out u ≡ lacks r → (WrongKind ≡ r) × (kind_of u ≡ k → ⊥)
    pub of : (u : Value) → (kind_of u ≡ k → ⊥) → out u ≡ lacks WrongKind
    pub got : (u : Value) {a : A} → out u ≡ has a → kind_of u ≡ k
    pub gives : (u : Value) → kind_of u ≡ k → (a : A) × (out u ≡ has a)

  -- two of a kind, and what is made of them
  pub two_of : {k : ℕ} {out : Value → Try A} → Kind k out → (f : A → A → Try Value) (u w : Value) {G : Type 0} {r : Reason}
      → (out u ⟫ λ a. out w ⟫ λ b. f a b) ≡ lacks r → (WrongKind ≡ r → (kind_of u ≡ k → ⊥) → G)
      → (WrongKind ≡ r → kind_of u ≡ k → (kind_of w ≡ k → ⊥) → G)
      → ((a b : A) → out u ≡ has a → out w ≡ has b → f a b ≡ lacks r → G) → G
  two_of {out = out} K f u w e left right rest =
      chain_stops (out u) _ e (λ n. left (K.so u n).0 (K.so u n).1) (λ a p e.
      chain_stops (out w) _ e (λ n. right (K.so w n).0 (K.got u p) (K.so w n).1) (λ b q e. rest a b p q e))

-- whole numbers
pub numbers : Kind 1 number
numbers = record { so = so; of = of; got = got; gives = gives }
  where
    so : (u : Value) {r : Reason} → number u ≡ lacks r → (WrongKind ≡ r) × (kind_of u ≡ 1 → ⊥)
    so (Whole z) e = lacking (sym e)
    so (Location l) e = (lacks_inj e, λ k. omega arith)
    so (Truth b) e = (lacks_inj e, λ k. omega arith)

    of : (u : Value) → (kind_of u ≡ 1 → ⊥) → number u ≡ lacks WrongKind
    of (Whole z) h = absurd (h refl)
    of (Location l) h = refl
    of (Truth b) h = refl

    got : (u : Value) {a : ℤ} → number u ≡ has a → kind_of u ≡ 1
    got (Whole z) e = refl
    got (Location l) e = lacking e
    got (Truth b) e = lacking e

    gives : (u : Value) → kind_of u ≡ 1 → (a : ℤ) × (number u ≡ has a)
    gives (Whole z) k = (z, refl)
    gives (Location l) k = absurd (omega arith)
    gives (Truth b) k = absurd (omega arith)

-- truth values
pub truthful : Kind 3 truth
truthful = record { so = so; of = of; got = got; gives = gives }
  where
    so : (u : Value) {r : Reason} → truth u ≡ lacks r → (WrongKind ≡ r) × (kind_of u ≡ 3 → ⊥)
    so (Truth b) e = lacking (sym e)
    so (Location l) e = (lacks_inj e, λ k. omega arith)
    so (Whole z) e = (lacks_inj e, λ k. omega arith)

    of : (u : Value) → (kind_of u ≡ 3 → ⊥) → truth u ≡ lacks WrongKind
    of (Truth b) h = absurd (h refl)
    of (Location l) h = refl
    of (Whole z) h = refl

    got : (u : Value) {a : Bool} → truth u ≡ has a → kind_of u ≡ 3
    got (Truth b) e = refl
    got (Location l) e = lacking e
    got (Whole z) e = lacking e

    gives : (u : Value) → kind_of u ≡ 3 → (a : Bool) × (truth u ≡ has a)
    gives (Truth b) k = (b, refl)
    gives (Location l) k = absurd (omega arith)
    gives (Whole z) k = absurd (omega arith)

-- locations
pub places : Kind 2 place
places = record { so = so; of = of; got = got; gives = gives }
  where
    so : (u : Value) {r : Reason} → place u ≡ lacks r → (WrongKind ≡ r) × (kind_of u ≡ 2 → ⊥)
    so (Location l) e = lacking (sym e)
    so (Whole z) e = (lacks_inj e, λ k. omega arith)
    so (Truth b) e = (lacks_inj e, λ k. omega arith)

    of : (u : Value) → (kind_of u ≡ 2 → ⊥) → place u ≡ lacks WrongKind
    of (Location l) h = absurd (h refl)
    of (Whole z) h = refl
    of (Truth b) h = refl

    got : (u : Value) {a : ℕ} → place u ≡ has a → kind_of u ≡ 2
    got (Location l) e = refl
    got (Whole z) e = lacking e
    got (Truth b) e = lacking e

    gives : (u : Value) → kind_of u ≡ 2 → (a : ℕ) × (place u ≡ has a)
    gives (Location l) k = (l, refl)
    gives (Whole z) k = absurd (omega arith)
    gives (Truth b) k = absurd (omega arith)

-- a whole number is itself
pub number_is : (u : Value) {z : ℤ} → number u ≡ has z → u ≡ Whole z
number_is (Whole z) e = cc
number_is (Location l) e = lacking e
number_is (Truth b) e = lacking e

-- ---- two operands

module _ (u w : Value) where
  -- an operator that lacks does so in one of these ways
  so₂ : (o : Two) {r : Reason} → apply₂ o u w ≡ lacks r → Fails o u w r
  so₂ add e = two_of numbers (λ a b. whole (a +ℤ b)) u w e (λ q k. rw (← q) (left_kind_lem k)) (λ q j k. rw (← q) (right_kind j k))
      (λ a b p q e. rw (number_is u p, number_is w q, ← (whole_lacks (a +ℤ b) e).0) (range refl refl (sum (whole_lacks (a +ℤ b) e).1)))
  so₂ sub e = two_of numbers (λ a b. whole (a -ℤ b)) u w e (λ q k. rw (← q) (left_kind_lem k)) (λ q j k. rw (← q) (right_kind j k))
      (λ a b p q e. rw (number_is u p, number_is w q, ← (whole_lacks (a -ℤ b) e).0) (range refl refl (difference (whole_lacks (a -ℤ b) e).1)))
  so₂ mul e = two_of numbers (λ a b. whole (a *ℤ b)) u w e (λ q k. rw (← q) (left_kind_lem k)) (λ q j k. rw (← q) (right_kind j k))
      (λ a b p q e. rw (number_is u p, number_is w q, ← (whole_lacks (a *ℤ b) e).0) (range refl refl (product (whole_lacks (a *ℤ b) e).1)))
  so₂ less e = two_of numbers (λ a b. has (Truth (lt_z a b))) u w e (λ q k. rw (← q) (left_kind_lem k)) (λ q j k. rw (← q) (right_kind j k))
      (λ a b p q e. lacking (sym e))
  so₂ equal e = on u e
    where
      on : (u : Value) {r : Reason} → same u w ≡ lacks r → Fails equal u w r
      on (Whole a) e = chain_stops (number w) _ e (λ n. rw (← (numbers.so w n).0) (right_kind tt (numbers.so w n).1)) (λ b q e. lacking (sym e))
      on (Location a) e = chain_stops (place w) _ e (λ n. rw (← (places.so w n).0) (right_kind tt (places.so w n).1)) (λ b q e. lacking (sym e))
      on (Truth a) e = chain_stops (truth w) _ e (λ n. rw (← (truthful.so w n).0) (right_kind tt (truthful.so w n).1)) (λ b q e. lacking (sym e))
  so₂ and e = two_of truthful (λ a b. has (Truth (both a b))) u w e (λ q k. rw (← q) (left_kind_lem k)) (λ q j k. rw (← q) (right_kind j k))
      (λ a b p q e. lacking (sym e))

  -- of a left operand that it does not take
  not_left : (o : Two) → (Left o u → ⊥) → apply₂ o u w ≡ lacks WrongKind
  not_left add k = rw (numbers.of u k)
  not_left sub k = rw (numbers.of u k)
  not_left mul k = rw (numbers.of u k)
  not_left less k = rw (numbers.of u k)
  not_left equal k = absurd (k tt)
  not_left and k = rw (truthful.of u k)

  -- of a right operand that it does not take
  not_right : (o : Two) → Left o u → (Right o u w → ⊥) → apply₂ o u w ≡ lacks WrongKind
  not_right add j k = rw ((numbers.gives u j).1, numbers.of w k)
  not_right sub j k = rw ((numbers.gives u j).1, numbers.of w k)
  not_right mul j k = rw ((numbers.gives u j).1, numbers.of w k)
  not_right less j k = rw ((numbers.gives u j).1, numbers.of w k)
  not_right equal j k = on u k
    where
      on : (u : Value) → (kind_of w ≡ kind_of u → ⊥) → same u w ≡ lacks WrongKind
      on (Whole a) k = rw (numbers.of w k)
      on (Location a) k = rw (places.of w k)
      on (Truth a) k = rw (truthful.of w k)
  not_right and j k = rw ((truthful.gives u j).1, truthful.of w k)

-- each of these ways is one
of₂ : {o : Two} {u w : Value} {r : Reason} → Fails o u w r → apply₂ o u w ≡ lacks r
of₂ {o} {u} {w} (left_kind_lem k) = not_left u w o k
of₂ {o} {u} {w} (right_kind j k) = not_right u w o j k
of₂ (range j k x) = on x
  where
    on : {o : Two} {u w : Value} → Outside o u w → apply₂ o u w ≡ lacks OutOfRange
    on (sum {a} {b} h) = whole_outside (a +ℤ b) h
    on (difference {a} {b} h) = whole_outside (a -ℤ b) h
    on (product {a} {b} h) = whole_outside (a *ℤ b) h

-- OF TWO VALUES AN OPERATOR LACKS FOR EXACTLY THIS REASON.
pub fails_exactly : (o : Two) (u w : Value) (r : Reason) → (apply₂ o u w ≡ lacks r) ↔ Fails o u w r
fails_exactly o u w r = (so₂ u w o, of₂)

-- ---- one operand

-- an operator of one that lacks
so₁ : (o : One) (u : Value) {r : Reason} → apply₁ o u ≡ lacks r → Fails₁ o u r
so₁ not u e = chain_stops (truth u) _ e (λ n. rw (← (truthful.so u n).0) (kind (truthful.so u n).1)) (λ b q e. lacking (sym e))
so₁ neg u e = chain_stops (number u) _ e (λ n. rw (← (numbers.so u n).0) (kind (numbers.so u n).1))
    (λ z q e. rw (number_is u q, ← (whole_lacks (neg_ℤ z) e).0) (range (whole_lacks (neg_ℤ z) e).1))

-- and the other way
of₁ : {o : One} {u : Value} {r : Reason} → Fails₁ o u r → apply₁ o u ≡ lacks r
of₁ {o} {u} (kind k) = on o k
  where
    on : (o : One) → (Takes o u → ⊥) → apply₁ o u ≡ lacks WrongKind
    on not k = rw (truthful.of u k)
    on neg k = rw (numbers.of u k)
of₁ (range {z} h) = whole_outside (neg_ℤ z) h

-- OF ONE VALUE AN OPERATOR LACKS FOR EXACTLY THIS REASON.
pub fails₁_exactly : (o : One) (u : Value) (r : Reason) → (apply₁ o u ≡ lacks r) ↔ Fails₁ o u r
fails₁_exactly o u r = (so₁ o u, of₁)

-- ---- the left operand, judged before the right

-- the table's kind is the operator's
left? : (o : Two) (u : Value) → Decides (of_kind (left_kind o) u) (Left o u)
left? add u = eq? (kind_of u) 1
left? sub u = eq? (kind_of u) 1
left? mul u = eq? (kind_of u) 1
left? less u = eq? (kind_of u) 1
left? equal u = always
left? and u = eq? (kind_of u) 3

-- A LEFT OPERAND PASSES EXACTLY IF THE OPERATOR TAKES IT.
pub judged_passes : (o : Two) (u v : Value) → (judged o u ≡ has v) ↔ (Left o u × (u ≡ v))
judged_passes o u v = (so, of)
  where
    so : judged o u ≡ has v → Left o u × (u ≡ v)
    so e = let p = provided_has (of_kind (left_kind o) u) WrongKind u e in ((left? o u).so p.0, p.1)

    of : Left o u × (u ≡ v) → judged o u ≡ has v
    of h = rw ((left? o u).of h.0, h.1)

-- AND LACKS BY 2 EXACTLY IF IT DOES NOT.
pub judged_lacks : (o : Two) (u : Value) (r : Reason) → (judged o u ≡ lacks r) ↔ ((Left o u → ⊥) × (WrongKind ≡ r))
judged_lacks o u r = (so, of)
  where
    so : judged o u ≡ lacks r → (Left o u → ⊥) × (WrongKind ≡ r)
    so e =
        let p = provided_stops (of_kind (left_kind o) u) WrongKind u e in
        (λ h. never (sym p.0 ∙ (left? o u).of h), p.1)

    of : (Left o u → ⊥) × (WrongKind ≡ r) → judged o u ≡ lacks r
    of h = by_test (of_kind (left_kind o) u) (λ e. absurd (h.0 ((left? o u).so e))) (λ e. rw (e, h.1))

-- an operator that gives a value takes its left operand
pub value_left : (o : Two) (u w : Value) {v : Value} → apply₂ o u w ≡ has v → Left o u
value_left o u w e = by_test (of_kind (left_kind o) u) (left? o u).so
    (λ f. lacking (sym (not_left u w o (λ h. never (sym f ∙ (left? o u).of h))) ∙ e))

-- ---- the left operand that decides

-- request #103: "a false left side", of `and`
pub data Settles : Two → Value → Type 0 where
  false_left : Settles and (Truth false)

-- A LEFT OPERAND DECIDES EXACTLY IF IT IS A FALSE ONE OF `and`.
pub decided? : (o : Two) (u : Value) → Decides (decided o u) (Settles o u)
decided? o u = record { so = so o u; of = of }
  where
    so : (o : Two) (u : Value) → decided o u ≡ true → Settles o u
    so and (Truth false) e = false_left
    so and (Truth true) e = absurd (never e)
    so and (Whole z) e = absurd (never e)
    so and (Location l) e = absurd (never e)
    so add u e = absurd (never e)
    so sub u e = absurd (never e)
    so mul u e = absurd (never e)
    so less u e = absurd (never e)
    so equal u e = absurd (never e)

    of : {o : Two} {u : Value} → Settles o u → decided o u ≡ true
    of false_left = refl

-- it is one that the operator takes
pub settles_left : {o : Two} {u : Value} → Settles o u → Left o u
settles_left false_left = refl

-- beside it the operator gives false, if it gives a value
pub settles_gives : {o : Two} {u : Value} → Settles o u → (w : Value) {v : Value} → apply₂ o u w ≡ has v → Truth false ≡ v
settles_gives false_left (Truth b) e = has_inj e
settles_gives false_left (Whole z) e = lacking e
settles_gives false_left (Location l) e = lacking e

-- one whose result is outside the range does not decide
pub outside_goes : {o : Two} {u w : Value} → Outside o u w → decided o u ≡ false
outside_goes (sum h) = refl
outside_goes (difference h) = refl
outside_goes (product h) = refl

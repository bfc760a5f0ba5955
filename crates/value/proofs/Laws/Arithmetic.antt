-- What the operators give: "a result outside the range is no value: nothing wraps and nothing is clamped".
use Rattle.std.specs.Prelude.{ℕ, ◌<◌, ◌≡◌, refl, ◌↔◌, Bool, true, false, ℤ, pos, negsuc, neg_ℤ, ◌+ℤ◌, ltb, eqb, Result, Ok, Err}
use Rattle.std.proofs.Common.{arith, sym, ap, ltb-true, lt-ltb, leb-true, le-leb}
use Rattle.std.proofs.Math.IntN.{+ℤ-neg_ℤ_cancel, +ℤ_invr}
use Rattle.std.specs.Int.Signed.{mag, le_z}
use Rattle.value.specs.Try.{has}
use Rattle.value.specs.Values.{given, neg, add, sub, equal, whole, same_z, same_b, apply₁, apply₂}
use Rattle.value.specs.Marks.{kind_of}
use Rattle.value.proofs.Laws.Tries.{lacking, provided_has}
use Rattle.value.proofs.Laws.Tests.{Decides, decides_as, never, eq?, both_passed, pass_both}
use Rattle.value.specs.declared.Value.{Value}
use Rattle.value.specs.declared.Value.TheVariants.{Whole, Location, Truth}
use Rattle.value.specs.declared.Reason.{Reason}
use Rattle.value.specs.declared.Reason.TheVariants.{OutOfRange}

-- an answer of the code is a value exactly if it says so
pub given_exactly : (a : Result Value Reason) (v : Value) → (given a ≡ has v) ↔ (a ≡ Ok v)
given_exactly (Ok u) v = (λ e. cc, λ e. cc)
given_exactly (Err r) v = (λ e. lacking e, λ e. cc)

-- ---- the range

-- "from -2,147,483,648 to 2,147,483,647"
pub record InRange (z : ℤ) : Type 0 where
  pub low : le_z (negsuc 2147483647) z ≡ true
  pub high : le_z z (pos 2147483647) ≡ true

-- `mag` says the same by one bound
in_range : (z : ℤ) → mag z < 2147483648 → InRange z
in_range (pos n) h = record { low = refl; high = le-leb n 2147483647 (omega arith) }
in_range (negsuc n) h = record { low = le-leb n 2147483647 (omega arith); high = refl }

-- and the other way
range_mag : (z : ℤ) → InRange z → mag z < 2147483648
range_mag (pos n) h = omega (arith, leb-true n 2147483647 h.high)
range_mag (negsuc n) h = omega (arith, leb-true n 2147483647 h.low)

-- A RESULT IS A VALUE EXACTLY IN THE RANGE, AND THEN IT IS ITSELF.
pub whole_exactly : (z : ℤ) (v : Value) → (whole z ≡ has v) ↔ (InRange z × (v ≡ Whole z))
whole_exactly z v = (so, of)
  where
    so : whole z ≡ has v → InRange z × (v ≡ Whole z)
    so e =
        let got = provided_has (ltb (mag z) 2147483648) OutOfRange (Whole z) e in
        (in_range z (ltb-true (mag z) 2147483648 got.0), sym got.1)

    of : InRange z × (v ≡ Whole z) → whole z ≡ has v
    of h = rw (lt-ltb (mag z) 2147483648 (range_mag z h.0), h.1)

-- ---- equal

-- two numbers each at most the other are one
same_number_lem : (a b : ℤ) → Decides (same_z a b) (Whole a ≡ Whole b)
same_number_lem (pos m) (pos n) = record {
  so = λ e. let p = both_passed _ _ e in let q : m ≡ n = omega (arith, leb-true m n p.0, leb-true n m p.1) in rw q;
  of = λ e. let q : m ≡ n = cc in pass_both (le-leb m n (omega arith)) (le-leb n m (omega arith));
}
same_number_lem (pos m) (negsuc n) = record { so = λ e. absurd (never e); of = λ e. absurd (let z : ◌≡◌ {A = ℕ} 0 1 = cc in omega arith) }
same_number_lem (negsuc m) (pos n) = record { so = λ e. absurd (never e); of = λ e. absurd (let z : ◌≡◌ {A = ℕ} 0 1 = cc in omega arith) }
same_number_lem (negsuc m) (negsuc n) = record {
  so = λ e. let p = both_passed _ _ e in let q : m ≡ n = omega (arith, leb-true n m p.0, leb-true m n p.1) in rw q;
  of = λ e. let q : m ≡ n = cc in pass_both (le-leb n m (omega arith)) (le-leb m n (omega arith));
}

-- truth values
same_truth : (a b : Bool) → Decides (same_b a b) (Truth a ≡ Truth b)
same_truth true true = record { so = λ e. refl; of = λ e. refl }
same_truth true false = record { so = λ e. absurd (never e); of = λ e. cc }
same_truth false true = record { so = λ e. absurd (never e); of = λ e. cc }
same_truth false false = record { so = λ e. refl; of = λ e. refl }

-- a test of two values that says whether they are one
pub record Tells (v w : Value) : Type 0 where
  pub answer : Bool
  pub gives : apply₂ equal v w ≡ has (Truth answer)
  pub right : Decides answer (v ≡ w)

-- "equal (two of one kind)": IT IS TRUE EXACTLY IF THEY ARE ONE VALUE; `same_kind` (Marks) says that it has no value of two kinds
pub equal_tells : (v w : Value) → kind_of v ≡ kind_of w → Tells v w
equal_tells (Whole a) (Whole b) k = record { answer = same_z a b; gives = refl; right = same_number_lem a b }
equal_tells (Location a) (Location b) k =
    record { answer = eqb a b; gives = refl; right = decides_as (λ e. ap Location e) (λ e. cc) (eq? a b) }
equal_tells (Truth a) (Truth b) k = record { answer = same_b a b; gives = refl; right = same_truth a b }
equal_tells (Whole a) (Location b) k = absurd (omega arith)
equal_tells (Whole a) (Truth b) k = absurd (omega arith)
equal_tells (Location a) (Whole b) k = absurd (omega arith)
equal_tells (Location a) (Truth b) k = absurd (omega arith)
equal_tells (Truth a) (Whole b) k = absurd (omega arith)
equal_tells (Truth a) (Location b) k = absurd (omega arith)

-- ---- subtract and negate

-- what is a value is in the range
valued : (z : ℤ) {y : ℤ} → whole z ≡ has (Whole y) → y ≡ z
valued z {y} e = let same : Whole y ≡ Whole z = ((whole_exactly z (Whole y)).0 e).1 in cc

-- SUBTRACT UNDOES ADD
pub subtract_undoes : (a b c : ℤ) → InRange a → apply₂ add (Whole a) (Whole b) ≡ has (Whole c) → apply₂ sub (Whole c) (Whole b) ≡ has (Whole a)
subtract_undoes a b c h e = rw (valued (a +ℤ b) e, +ℤ-neg_ℤ_cancel a b) ((whole_exactly a (Whole a)).1 (h, refl))

-- A NUMBER AND ITS NEGATE ARE 0 TOGETHER
pub negate_undoes : (a b : ℤ) → apply₁ neg (Whole a) ≡ has (Whole b) → apply₂ add (Whole a) (Whole b) ≡ has (Whole (pos 0))
negate_undoes a b e = rw (valued (neg_ℤ a) e, +ℤ_invr a)

-- "equal (two of one kind)": of two kinds it has no value
pub equal_one_kind : (u v : Value) {w : Value} → apply₂ equal u v ≡ has w → kind_of u ≡ kind_of v
equal_one_kind (Whole a) (Whole b) e = refl
equal_one_kind (Whole a) (Location l) e = lacking e
equal_one_kind (Whole a) (Truth b) e = lacking e
equal_one_kind (Location a) (Location b) e = refl
equal_one_kind (Location a) (Whole z) e = lacking e
equal_one_kind (Location a) (Truth b) e = lacking e
equal_one_kind (Truth a) (Truth b) e = refl
equal_one_kind (Truth a) (Whole z) e = lacking e
equal_one_kind (Truth a) (Location l) e = lacking e

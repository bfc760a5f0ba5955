-- One law for each way through an operator.
use mathlib.Core.Path.{◌≡◌, refl, sym, ap, subst, ◌∙◌}
use mathlib.Core.Bool as B
use mathlib.Core.Bool.{Bool, true, false, ◌&&◌}
use mathlib.Core.List.{List, [], ◌∷◌}
use Prim.Native.Nat.{ℕ, suc, ◌-◌, ◌^◌}
use native.Mathlib.Omega.{arith}
use lib.IntN.{ℤ, pos, negsuc}
use lib.Signed.{mag, lt_z}
use lib.Dec.{T, leb, eqb}
use borrow.Author.Tests.{ne_eqb, eq-eqb, eqb-true, eqb-false, ltb-true, ltb-false, le-ltb, lt-ltb, le-leb, lt-leb, leb-true}
use mir.Syntax.{w32, w64}
use mir.Val.{SFits, of_z, to_z, has_key}
use types.Run.{OneOf, miss}
use denote.Enum.Declared.{tag_of}
use Rattle.value.specs.contracts.Value.{the_type}
use Rattle.value.specs.Maybe.{both}
use Rattle.value.specs.Try.{Try, has, lacks}
use Rattle.value.specs.Values.{whole, wholes, truths, same, same_z, same_b, apply₁, not, neg}
use Rattle.value.proofs.Laws.Tests.{by_test, never}
use Rattle.basics.proofs.Wide.{read, Large, large_gives}
use Rattle.value.specs.declared.Value.{Value}
use Rattle.value.specs.declared.Value.TheVariants.{Whole, Location, Truth}
use Rattle.value.specs.declared.Reason.TheVariants.{OutOfRange, WrongKind}

-- ---- the range

-- too low
pub too_low : (z : ℤ) → lt_z z (negsuc 2147483647) ≡ true → lacks OutOfRange ≡ whole z
too_low (pos n) e = absurd (never e)
too_low (negsuc n) e = rw (le-ltb n (2 ^ 31) (omega (arith, ltb-true 2147483647 n e)))

-- too high
pub too_high : (z : ℤ) → lt_z (pos 2147483647) z ≡ true → lacks OutOfRange ≡ whole z
too_high (pos n) e = rw (le-ltb n (2 ^ 31) (omega (arith, ltb-true 2147483647 n e)))
too_high (negsuc n) e = absurd (never e)

-- neither: the number has 32 bits
pub within_fits : (z : ℤ) → lt_z z (negsuc 2147483647) ≡ false → lt_z (pos 2147483647) z ≡ false → SFits w32 z
within_fits (pos n) e f = record { sfits = omega (arith, ltb-false 2147483647 n f) }
within_fits (negsuc n) e f = record { sfits = omega (arith, ltb-false 2147483647 n e) }

-- and is a value
pub within : {z : ℤ} → SFits w32 z → has (Whole z) ≡ whole z
within {z} h = rw (lt-ltb (mag z) (2 ^ 31) h.sfits)

-- ---- operands of the wrong kind

-- no whole number on the left
pub not_whole_left : (g : ℤ → ℤ → Try Value) (v w : Value) → OneOf (1 ∷ 2 ∷ []) (tag_of the_type v) → lacks WrongKind ≡ wholes g v w
not_whole_left g (Whole a) w h = absurd (miss (1 ∷ 2 ∷ []) 0 tt h)
not_whole_left g (Location a) w h = refl
not_whole_left g (Truth a) w h = refl

-- none on the right
pub not_whole_right : (g : ℤ → ℤ → Try Value) (v w : Value) → OneOf (1 ∷ 2 ∷ []) (tag_of the_type w) → lacks WrongKind ≡ wholes g v w
not_whole_right g (Whole a) (Whole b) h = absurd (miss (1 ∷ 2 ∷ []) 0 tt h)
not_whole_right g (Whole a) (Location b) h = refl
not_whole_right g (Whole a) (Truth b) h = refl
not_whole_right g (Location a) w h = refl
not_whole_right g (Truth a) w h = refl

-- no truth value on the left
pub not_truth_left : (v w : Value) → OneOf (0 ∷ 1 ∷ []) (tag_of the_type v) → lacks WrongKind ≡ truths v w
not_truth_left (Whole a) w h = refl
not_truth_left (Location a) w h = refl
not_truth_left (Truth a) w h = absurd (miss (0 ∷ 1 ∷ []) 2 tt h)

-- none on the right
pub not_truth_right : (v w : Value) → OneOf (0 ∷ 1 ∷ []) (tag_of the_type w) → lacks WrongKind ≡ truths v w
not_truth_right (Whole a) w h = refl
not_truth_right (Location a) w h = refl
not_truth_right (Truth a) (Whole b) h = refl
not_truth_right (Truth a) (Location b) h = refl
not_truth_right (Truth a) (Truth b) h = absurd (miss (0 ∷ 1 ∷ []) 2 tt h)

-- the operand of negate is no whole number
pub no_negate : (v : Value) → OneOf (1 ∷ 2 ∷ []) (tag_of the_type v) → lacks WrongKind ≡ apply₁ neg v
no_negate (Whole a) h = absurd (miss (1 ∷ 2 ∷ []) 0 tt h)
no_negate (Location a) h = refl
no_negate (Truth a) h = refl

-- that of not is no truth value
pub no_not : (v : Value) → OneOf (0 ∷ 1 ∷ []) (tag_of the_type v) → lacks WrongKind ≡ apply₁ not v
no_not (Whole a) h = refl
no_not (Location a) h = refl
no_not (Truth a) h = absurd (miss (0 ∷ 1 ∷ []) 2 tt h)

-- two of different kinds
other_kind : (v w : Value) → (tag_of the_type v ≡ tag_of the_type w → ⊥) → lacks WrongKind ≡ same v w
other_kind (Whole a) (Whole b) h = absurd (h refl)
other_kind (Whole a) (Location b) h = refl
other_kind (Whole a) (Truth b) h = refl
other_kind (Location a) (Whole b) h = refl
other_kind (Location a) (Location b) h = absurd (h refl)
other_kind (Location a) (Truth b) h = refl
other_kind (Truth a) (Whole b) h = refl
other_kind (Truth a) (Location b) h = refl
other_kind (Truth a) (Truth b) h = absurd (h refl)

-- v is of kind k, and w of one of the kinds ks, which k is not
pub apart : (k : ℕ) (ks : List ℕ) → T (B.not (has_key ks k)) → (v w : Value) → tag_of the_type v ≡ k → OneOf ks (tag_of the_type w)
    → lacks WrongKind ≡ same v w
apart k ks t v w e h = other_kind v w (λ q. miss ks k t (subst (OneOf ks) (sym q ∙ e) h))

-- ---- operands of the right kind

-- an operator on two whole numbers, as the code reads them
pub both_whole : (g : ℤ → ℤ → Try Value) {v w : Value} {a b a' b' : ℤ} {x : Try Value}
    → a' ≡ a → b' ≡ b → v ≡ Whole a → w ≡ Whole b → x ≡ g a' b' → x ≡ wholes g v w
both_whole g p q ev ew e = rw (ev, ew) (rw (p, q) at e)

-- one that is computed at 64 bits, and narrowed
pub both_large : (f : ℤ → ℤ → ℤ) → Large f → {v w : Value} {a b : ℤ} {x : Try Value} → SFits w32 a → SFits w32 b → v ≡ Whole a → w ≡ Whole b
    → x ≡ whole (to_z w64 (of_z w64 (f (read a) (read b)))) → x ≡ wholes (λ a b. whole (f a b)) v w
both_large f large ha hb ev ew e = rw (ev, ew) (e ∙ ap whole (large_gives f large ha hb))

-- the code compares two whole numbers by their bits
pub same_bits : (a b : ℤ) → SFits w32 a → SFits w32 b → eqb (of_z w32 a) (of_z w32 b) ≡ same_z a b
same_bits a b ha hb = go a b ha hb
  where
    orders : (a b : ℕ) → eqb a b ≡ both (leb a b) (leb b a)
    orders a b = by_test (eqb a b)
        (λ e. rw (e, le-leb a b (omega (arith, eqb-true a b e)), le-leb b a (omega (arith, eqb-true a b e))))
        (λ e. by_test (leb a b)
        (λ l. rw (e, l, lt-leb b a (omega (arith, eqb-false a b e, leb-true a b l))))
        (λ l. rw (e, l)))

    go : (a b : ℤ) → SFits w32 a → SFits w32 b → eqb (of_z w32 a) (of_z w32 b) ≡ same_z a b
    go (pos a) (pos b) ha hb = orders a b
    go (pos a) (negsuc b) ha hb = ne_eqb a (2 ^ 32 - suc b) (λ e. omega (arith, ha.sfits, hb.sfits))
    go (negsuc a) (pos b) ha hb = ne_eqb (2 ^ 32 - suc a) b (λ e. omega (arith, ha.sfits, hb.sfits))
    go (negsuc a) (negsuc b) ha hb = by_test (eqb b a)
        (λ e. eq-eqb (2 ^ 32 - suc a) (2 ^ 32 - suc b) (omega (arith, eqb-true b a e)) ∙ sym e ∙ orders b a)
        (λ e. ne_eqb (2 ^ 32 - suc a) (2 ^ 32 - suc b) (λ q. eqb-false b a e (omega (arith, ha.sfits, hb.sfits))) ∙ sym e ∙ orders b a)

-- two truth values, as the code joins them
pub both_flags : (a b : Bool) → a && b ≡ both a b
both_flags true b = refl
both_flags false b = refl

-- the same truth value, as the code tests it
pub same_flags : (a b : Bool) → B.beq a b ≡ same_b a b
same_flags true true = refl
same_flags true false = refl
same_flags false true = refl
same_flags false false = refl

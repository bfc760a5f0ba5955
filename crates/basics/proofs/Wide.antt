-- Whole numbers of 32 bits: sums, differences and products of two fit 64, and what the code reads of them there.
use mathlib.Core.Path.{◌≡◌, sym, ap, subst, subst₂, ◌∙◌}
use mathlib.Core.Bool.{Bool, true, false, cond}
use Prim.Native.Nat.{ℕ, zero, suc, ◌+◌, ◌-◌, ◌*◌, ◌≤◌}
use native.Mathlib.Nat.{mul-le-mul}
use native.Mathlib.Omega.{arith}
use lib.IntN.{ℤ, pos, negsuc, ◌+ℤ◌, ◌-ℤ◌, ◌*ℤ◌, neg_ℤ, sub_ℕ, +ℤ_idl}
use lib.Signed.{mag}
use lib.Dec.{ltb}
use mir.Syntax.{w32, w64}
use mir.Val.{SFits, of_z, to_z}
use mir.Facts.{to_z-of_z}

-- ---- how large a result is

-- a difference
mag_subℕ : (a b : ℕ) → mag (sub_ℕ a b) ≤ a + b
mag_subℕ a b = go (ltb a b)
  where
    go : (t : Bool) → mag (cond t (negsuc (b - suc a)) (pos (a - b))) ≤ a + b
    go true = omega arith
    go false = omega arith

-- a negation
mag_neg : (a : ℤ) → mag (neg_ℤ a) ≤ suc (mag a)
mag_neg (pos zero) = omega arith
mag_neg (pos (suc n)) = omega arith
mag_neg (negsuc n) = omega arith

-- a sum
mag_add : (a b : ℤ) → mag (a +ℤ b) ≤ suc (mag a + mag b)
mag_add (pos a) (pos b) = omega arith
mag_add (pos a) (negsuc b) = omega (arith, mag_subℕ a (suc b))
mag_add (negsuc a) (pos b) = omega (arith, mag_subℕ b (suc a))
mag_add (negsuc a) (negsuc b) = omega arith

-- a product
mag_mul : (a b : ℤ) → mag (a *ℤ b) ≤ suc (suc (mag a) * suc (mag b))
mag_mul (pos a) (pos b) = omega (arith, mul-le-mul {n₁ = a} {m₁ = b} {n₂ = suc a} {m₂ = suc b} (omega arith) (omega arith))
mag_mul (pos a) (negsuc b) =
    omega (arith, mag_neg (pos (a * suc b)), mul-le-mul {n₁ = a} {m₁ = suc b} {n₂ = suc a} {m₂ = suc b} (omega arith) (omega arith))
mag_mul (negsuc a) (pos b) =
    omega (arith, mag_neg (pos (suc a * b)), mul-le-mul {n₁ = suc a} {m₁ = b} {n₂ = suc a} {m₂ = suc b} (omega arith) (omega arith))
mag_mul (negsuc a) (negsuc b) = omega arith

-- ---- a number of 32 bits, read at 64

-- what the code reads of z
abbrev pub read : ℤ → ℤ
read z = to_z w64 (of_z w64 (to_z w32 (of_z w32 z)))

-- it fits
pub wide : {z : ℤ} → SFits w32 z → SFits w64 z
wide {z} h = record { sfits = omega (arith, h.sfits) }

-- its bits too
pub widened : {z : ℤ} → SFits w32 z → SFits w64 (to_z w32 (of_z w32 z))
widened {z} h = subst (SFits w64) (sym (to_z-of_z h)) (wide h)

-- and it is z
pub reads : {z : ℤ} → SFits w32 z → read z ≡ z
reads {z} h = ap (λ (x : ℤ). to_z w64 (of_z w64 x)) (to_z-of_z h) ∙ to_z-of_z (wide h)

-- ---- an operation whose results fit 64 bits

-- the operation f does not wrap
abbrev pub Large : (ℤ → ℤ → ℤ) → Type 0
Large f = (a b : ℤ) → SFits w32 a → SFits w32 b → SFits w64 (f a b)

-- so it does not on what the code reads
pub large_asks : (f : ℤ → ℤ → ℤ) → Large f → {a b : ℤ} → SFits w32 a → SFits w32 b → SFits w64 (f (read a) (read b))
large_asks f large {a} {b} ha hb = subst₂ (λ (x y : ℤ). SFits w64 (f x y)) (sym (reads ha)) (sym (reads hb)) (large a b ha hb)

-- and gives the right number
pub large_gives : (f : ℤ → ℤ → ℤ) → Large f → {a b : ℤ} → SFits w32 a → SFits w32 b → to_z w64 (of_z w64 (f (read a) (read b))) ≡ f a b
large_gives f large ha hb = to_z-of_z (large_asks f large ha hb) ∙ rw (reads ha, reads hb)

-- sums
pub large_add : Large ◌+ℤ◌
large_add a b ha hb = record { sfits = omega (arith, mag_add a b, ha.sfits, hb.sfits) }

-- differences
pub large_sub : Large ◌-ℤ◌
large_sub a b ha hb = record { sfits = omega (arith, mag_add a (neg_ℤ b), mag_neg b, ha.sfits, hb.sfits) }

-- products
pub large_mul : Large ◌*ℤ◌
large_mul a b ha hb = record { sfits = omega (arith, mag_mul a b, mul-le-mul ha.sfits hb.sfits) }

-- 0 - a does not wrap
pub minus_asks : {a : ℤ} → SFits w32 a → SFits w64 (pos 0 -ℤ read a)
minus_asks {a} h = rw (reads h) (large_sub (pos 0) a (record { sfits = omega arith }) h)

-- and gives the number negated
pub minus_gives : {a : ℤ} → SFits w32 a → to_z w64 (of_z w64 (pos 0 -ℤ read a)) ≡ neg_ℤ a
minus_gives {a} h = to_z-of_z (minus_asks h) ∙ rw (reads h) (+ℤ_idl (neg_ℤ a))

-- Sets of locals as the bits of a number: what is in a set, in two sets together, in a set of one, and how many are in it.
use Rattle.std.specs.Prelude.{ℕ, zero, suc, ◌*◌, ◌/◌, ◌%◌, ◌^◌, min, max, ◌≡◌, refl, false, eqb}
use Rattle.std.proofs.Common.{arith, sym, ap, ◌∙◌, eqb-true}
use Rattle.std.proofs.Math.Nat.{pow-succ', div-div-eq-div-mul}
use Rattle.std.specs.Int.Bits.{bit_and, bit_or, and_step, or_step}
use Rattle.std.proofs.lemmas.Nat.{or_comm}
use Rattle.std.proofs.Math.Dec.{eqb-zero-suc, eqb-suc-zero, eqb-suc-suc}
use Rattle.std.proofs.lemmas.Bool.{eqb-false}
use Rattle.value.specs.Maybe.{both, either}
use Rattle.value.proofs.Laws.Tests.{by_test}
use Rattle.basics.specs.BitSets.{bit, bits}

-- a bit is 0 or 1
pub half : (n : ℕ) {G : Type 0} → (n % 2 ≡ 0 → G) → (n % 2 ≡ 1 → G) → G
half n f g =
    by_test (eqb (n % 2) 0) (λ e. f (eqb-true (n % 2) 0 e)) λ e.
    let other : n % 2 ≡ 0 → ⊥ = eqb-false (n % 2) 0 e in
    g (omega (arith, other))

-- the lowest bit of an intersection, and the others
pub low_and : (a b : ℕ) → (bit_and a b % 2 ≡ min (a % 2) (b % 2)) × (bit_and a b / 2 ≡ bit_and (a / 2) (b / 2))
low_and a b = (omega (arith, and_step a b), omega (arith, and_step a b))

-- of the union
pub low_or : (a b : ℕ) → (bit_or a b % 2 ≡ max (a % 2) (b % 2)) × (bit_or a b / 2 ≡ bit_or (a / 2) (b / 2))
low_or a b = (omega (arith, or_step a b), omega (arith, or_step a b))

-- what is in both
pub bit_and_lem : (a b x : ℕ) → bit (bit_and a b) x ≡ both (bit a x) (bit b x)
bit_and_lem a b zero =
    half a
    (λ p. half b (λ q. rw ((low_and a b).0, p, q)) (λ q. rw ((low_and a b).0, p, q)))
    (λ p. half b (λ q. rw ((low_and a b).0, p, q)) (λ q. rw ((low_and a b).0, p, q)))
bit_and_lem a b (suc x) = rw (low_and a b).1 (bit_and_lem (a / 2) (b / 2) x)

-- what is in one of them
pub bit_or_lem : (a b x : ℕ) → bit (bit_or a b) x ≡ either (bit b x) (bit a x)
bit_or_lem a b zero =
    half a
    (λ p. half b (λ q. rw ((low_or a b).0, p, q)) (λ q. rw ((low_or a b).0, p, q)))
    (λ p. half b (λ q. rw ((low_or a b).0, p, q)) (λ q. rw ((low_or a b).0, p, q)))
bit_or_lem a b (suc x) = rw (low_or a b).1 (bit_or_lem (a / 2) (b / 2) x)

-- nothing is in 0
pub bit_zero : (x : ℕ) → bit 0 x ≡ false
bit_zero zero = refl
bit_zero (suc x) = bit_zero x

-- a power of two is a set of one
pub bit_pow : (x y : ℕ) → bit (2 ^ x) y ≡ eqb x y
bit_pow zero zero = refl
bit_pow zero (suc y) = bit_zero y ∙ sym (eqb-zero-suc y)
bit_pow (suc x) zero =
    let more : 2 ^ suc x ≡ 2 * 2 ^ x = pow-succ' 2 x in
    let even : 2 ^ suc x % 2 ≡ 0 = omega arith in
    rw even (sym (eqb-suc-zero x))
bit_pow (suc x) (suc y) =
    let more : 2 ^ suc x ≡ 2 * 2 ^ x = pow-succ' 2 x in
    let less : 2 ^ suc x / 2 ≡ 2 ^ x = omega arith in
    rw (less, bit_pow x y) (sym (eqb-suc-suc x y))

-- a shifted number's lowest bit
pub bit_shift : (n x : ℕ) → bit n x ≡ eqb (n / 2 ^ x % 2) 1
bit_shift n zero = let all : n / 1 ≡ n = omega arith in rw all
bit_shift n (suc x) = rw (bit_shift (n / 2) x, div-div-eq-div-mul n 2 (2 ^ x), pow-succ' 2 x)

-- ---- as sets

-- nothing is in the empty one
pub bits_none : (x : ℕ) → bits 0 x ≡ false
unfolding bits
bits_none x = bit_zero x

-- two together
pub bits_or : (a b x : ℕ) → bits (bit_or a b) x ≡ either (bits a x) (bits b x)
unfolding bits
bits_or a b x = ap (λ (n : ℕ). bit n x) (or_comm a b) ∙ bit_or_lem b a x

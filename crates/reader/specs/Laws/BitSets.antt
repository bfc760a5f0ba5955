-- Sets of locals as the bits of a number, as rule 8 makes and asks them.
use Rattle.std.specs.Prelude.{ℕ, zero, suc, ◌*◌, ◌-◌, ◌/◌, ◌%◌, ◌^◌, ◌≤◌, ◌<◌, ◌≡◌, false, eqb, ltb}
use Rattle.std.proofs.Common.{arith, pow_pos, pow_mono, sym, ◌∙◌, lt-ltb, le-ltb}
use Rattle.std.proofs.Math.Nat.{pow-succ', div-eq_of_lt}
use Rattle.std.proofs.Math.Pow.{pow-lt}
use Rattle.std.specs.Int.Bits.{bit_and, bit_or}
use Rattle.std.proofs.Math.Dec.{leb-suc-suc}
use Rattle.value.specs.Maybe.{both, either, pick}
use Rattle.format.specs.Rules.{with}
use Rattle.basics.specs.BitSets.{bit, bits}
use Rattle.basics.specs.Laws.BitSets.{bit_and_lem, bit_or_lem, bit_zero, bit_pow, bit_shift}
use Rattle.reader.specs.BitSets.{insert, below}

-- the numbers below n
bit_below : (n x : ℕ) → bit (2 ^ n - 1) x ≡ ltb x n
bit_below zero x = bit_zero x ∙ sym (le-ltb x 0 (omega arith))
bit_below (suc n) zero =
    let more : 2 ^ suc n ≡ 2 * 2 ^ n = pow-succ' 2 n in
    let some : 0 < 2 ^ n = pow_pos n in
    let odd : (2 ^ suc n - 1) % 2 ≡ 1 = omega arith in
    rw odd (sym (lt-ltb 0 (suc n) (omega arith)))
bit_below (suc n) (suc x) =
    let more : 2 ^ suc n ≡ 2 * 2 ^ n = pow-succ' 2 n in
    let some : 0 < 2 ^ n = pow_pos n in
    let less : (2 ^ suc n - 1) / 2 ≡ 2 ^ n - 1 = omega arith in
    rw (less, bit_below n x) (sym (leb-suc-suc (suc x) n))

-- ---- as the code finds them

-- a bit that can be shifted to
pub has_bit : (n x : ℕ) → x < 64 → eqb (n / 2 ^ x % 2) 1 ≡ bits n x
unfolding bits
has_bit n x l = sym (bit_shift n x)

-- one that can't
pub no_bit : (n x : ℕ) → n < 18446744073709551616 → 64 ≤ x → false ≡ bits n x
unfolding bits
no_bit n x f l =
    let most : 2 ^ 64 ≤ 2 ^ x = pow_mono l in
    let none : n / 2 ^ x ≡ 0 = div-eq_of_lt (omega arith) in
    sym (rw (bit_shift n x, none))

-- a set with x
pub set_bit : (n x : ℕ) → x < 64 → bit_or n (1 * 2 ^ x % 18446744073709551616) ≡ insert n x
unfolding insert
set_bit n x l =
    let small : 2 ^ x < 2 ^ 64 = pow-lt {i = x} {j = 64} l in
    let one : 1 * 2 ^ x % 18446744073709551616 ≡ 2 ^ x = omega arith in
    rw (one, lt-ltb x 64 l)

-- without
pub far_bit : (n x : ℕ) → 64 ≤ x → n ≡ insert n x
unfolding insert
far_bit n x l = rw (le-ltb x 64 l)

-- the numbers below n
pub low_bits : (n : ℕ) → n < 64 → 1 * 2 ^ n % 18446744073709551616 - 1 ≡ below n
unfolding below
low_bits n l =
    let small : 2 ^ n < 2 ^ 64 = pow-lt {i = n} {j = 64} l in
    let one : 1 * 2 ^ n % 18446744073709551616 ≡ 2 ^ n = omega arith in
    rw (one, lt-ltb n 64 l)

-- there are no others
pub no_bits : (n : ℕ) → 64 ≤ n → 0 ≡ below n
unfolding below
no_bits n l = rw (le-ltb n 64 l)

-- a shifted 1 is not 0
pub some_bit : (n : ℕ) → n < 64 → 1 ≤ 1 * 2 ^ n % 18446744073709551616
some_bit n l =
    let small : 2 ^ n < 2 ^ 64 = pow-lt {i = n} {j = 64} l in
    omega (arith, pow_pos n)

-- ---- as sets

-- a set with x
pub bits_insert : (n x : ℕ) → x < 64 → bits (insert n x) ≡ with (bits n) x
unfolding bits insert
bits_insert n x l =
    let at : (y : ℕ) → bit (pick (ltb x 64) (bit_or n (2 ^ x)) n) y ≡ either (eqb x y) (bit n y) =
    λ y. rw (lt-ltb x 64 l, bit_or_lem n (2 ^ x) y, bit_pow x y)
    in
    λ i y. at y i

-- what is in both
pub bits_both : (a b : ℕ) → bits (bit_and a b) ≡ (λ x. both (bits a x) (bits b x))
unfolding bits
bits_both a b = λ i x. bit_and_lem a b x i

-- the numbers below n
pub bits_below : (n : ℕ) → n < 64 → bits (below n) ≡ (λ x. ltb x n)
unfolding bits below
bits_below n l =
    let at : (x : ℕ) → bit (pick (ltb n 64) (2 ^ n - 1) 0) x ≡ ltb x n = λ x. rw (lt-ltb n 64 l) (bit_below n x) in
    λ i x. at x i

-- Two's complement in 32 bits, as the code computes it at 64.
use mathlib.Core.Path.{◌≡◌, refl, sym, ap, ◌∙◌}
use mathlib.Core.Bool.{true, false}
use Prim.Native.Nat.{ℕ, suc, ◌^◌, ◌≤◌, ◌<◌}
use native.Mathlib.Nat.{not-suc-le-zero}
use native.Mathlib.Omega.{arith}
use lib.IntN.{ℤ, pos, negsuc, ◌+ℤ◌, ◌-ℤ◌}
use lib.Signed.{lt_z}
use lib.Dec.{ltb}
use borrow.Author.Tests.{ltb-true, le-ltb, lt-ltb}
use mir.Syntax.{w32, w64}
use mir.Val.{SFits, Fits, to_z}
use mir.ValLaws.{to_z_pos, to_z-Fits}
use Rattle.value.specs.Values.{word, unword}
use Rattle.value.proofs.Laws.Tests.{by_test, never}
use Rattle.value.proofs.Laws.Bytes.{word_fits}

-- the number of a word, as the machine reads it
pub unword_bits : (n : ℕ) → to_z w32 n ≡ unword n
unword_bits n = by_test (ltb n (2 ^ 31)) (λ e. rw e) (λ e. rw e)

-- a word has 32 bits
pub word_bits : (z : ℤ) → SFits w32 z → Fits w32 (word z)
word_bits z h = record { fits = word_fits z h.sfits }

-- so it fits 64
pub word_wide : (z : ℤ) → SFits w32 z → SFits w64 (pos (word z))
word_wide z h = record { sfits = omega (arith, word_fits z h.sfits) }

-- the word of a number below 0
pub below_zero : (z : ℤ) → SFits w32 z → lt_z z (pos 0) ≡ true → z +ℤ pos 4294967296 ≡ pos (word z)
below_zero (pos n) h e = absurd (not-suc-le-zero (ltb-true n 0 e))
below_zero (negsuc n) h e = rw (le-ltb 4294967296 (suc n) (omega (arith, h.sfits)))

-- and of another
pub from_zero : (z : ℤ) → lt_z z (pos 0) ≡ false → z ≡ pos (word z)
from_zero (pos n) e = refl
from_zero (negsuc n) e = absurd (never (sym e))

-- the number of a high word, 2 ^ 32 less
pub high_word : (n : ℕ) → n < 4294967296 → 2147483648 ≤ n → to_z w64 n -ℤ pos 4294967296 ≡ unword n
high_word n h k =
    ap (λ (z : ℤ). z -ℤ pos 4294967296) (to_z_pos w64 n (omega arith)) ∙ rw (lt-ltb n 4294967296 h, le-ltb n (2 ^ 31) k)

-- the number of a word has 32 bits
pub unword_fits : (n : ℕ) → Fits w32 n → SFits w32 (unword n)
unword_fits n h = rw (← unword_bits n) (to_z-Fits w32 n h)

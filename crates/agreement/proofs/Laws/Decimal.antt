-- The digits that the run program prints read back as the number.
use Rattle.std.specs.Prelude.{ℕ, zero, suc, ◌+◌, ◌*◌, ◌-◌, ◌/◌, ◌%◌, ◌^◌, ◌<◌, ◌≡◌, refl, List, [], ◌∷◌, ◌++◌, ltb}
use Rattle.std.proofs.Common.{arith, ◌∙◌}
use Rattle.value.proofs.Laws.Tests.{by_test}
use Rattle.agreement.specs.Line.{digits, decimal}

-- digits after a number, read in base 10
unfoldable pub read_on : ℕ → List ℕ → ℕ
read_on n [] = n
read_on n (d ∷ ds) = read_on (n * 10 + (d - 48)) ds

-- part after part
read_append : (n : ℕ) (ds es : List ℕ) → read_on n (ds ++ es) ≡ read_on (read_on n ds) es
unfolding read_on
read_append n [] es = refl
read_append n (d ∷ ds) es = read_append (n * 10 + (d - 48)) ds es

-- enough digits read back
pub digits_read : (m n : ℕ) → n < 10 ^ m → read_on 0 (digits m n) ≡ n
unfolding read_on digits
digits_read zero n h = omega arith
digits_read (suc k) n h =
    by_test (ltb n 10)
    (λ e. rw (e, digits) (omega arith))
    (λ e.
    let before : read_on 0 (digits k (n / 10)) ≡ n / 10 = digits_read k (n / 10) (omega arith) in
    rw (e, digits) (read_append 0 (digits k (n / 10)) ((48 + n % 10) ∷ []) ∙ rw before (omega arith)))

-- A NUMBER OF 64 BITS IS PRINTED AS IT IS.
pub decimal_read : (n : ℕ) → n < 2 ^ 64 → read_on 0 (decimal n) ≡ n
decimal_read n h = digits_read 20 n (omega arith)

-- One law for each way to read bytes and numbers.
use Prim.Native.Nat.{ℕ, zero, suc, ◌+◌, ◌*◌, ◌-◌, ◌/◌, ◌^◌, ◌≤◌, ◌<◌}
use native.Mathlib.Omega.{arith}
use mathlib.Core.Path.{◌≡◌, refl, sym, subst, ◌∙◌}
use mathlib.Core.List.{List, [], ◌∷◌}
use lib.ListN.{length, get_or, get_or-eq_default}
use lib.Dec.{ltb}
use borrow.Author.Tests.{ltb-true}
use Rattle.value.proofs.Laws.Tests.{by_test}
use Rattle.value.proofs.Laws.Lists.{Each, each_append}
use Rattle.format.proofs.Laws.Stands.{Stands, first, others, inside}
use Rattle.ctext.specs.Pieces.{digits, decimal}
use Rattle.ctext.proofs.Laws.Numbers.{Digit, value, value_digits, Stops}
use Rattle.retable.specs.Laws.Pieces.{ReadsNumber}
use Rattle.retable.specs.declared.pieces.Numbered.{Numbered}

-- ---- a byte

-- behind the end of the text
pub peek_past : (x : List ℕ) (i n : ℕ) → length x ≤ i → 0 ≡ get_or x (i + n) 0
peek_past x i n l = sym (get_or-eq_default x 0 {n = i + n} (omega arith))

-- too far
pub peek_short : (x : List ℕ) (i n : ℕ) → length x - i ≤ n → 0 ≡ get_or x (i + n) 0
peek_short x i n l = sym (get_or-eq_default x 0 {n = i + n} (omega arith))

-- ---- a number

-- digits are
digits_are : (k n : ℕ) → Each Digit (digits k n)
unfolding digits
digits_are zero n = tt
digits_are (suc k) n =
    by_test (ltb n 10)
    (λ e. rw (e, digits) (record { least = omega arith; most = omega (arith, ltb-true n 10 e) }, tt))
    (λ e. rw (e, digits) (each_append Digit (digits k (n / 10)) _ (digits_are k (n / 10)) (record { least = omega arith; most = omega arith }, tt)))

-- whatever digits stand from i on are read, behind those that came to a
pub record ReadsDigits (x : List ℕ) (i a : ℕ) (r : Numbered) : Type 0 where
  pub is : (ds : List ℕ) (j : ℕ) → Stands x i ds j → Each Digit ds → Stops x j → value a ds < 10 ^ 10 → r.number ≡ value a ds
  pub ends : (ds : List ℕ) (j : ℕ) → Stands x i ds j → Each Digit ds → Stops x j → value a ds < 10 ^ 10 → r.next ≡ j

-- what is read from i on, behind a, is read from k on
pub record DigitsFrom (x : List ℕ) (k i a : ℕ) : Type 0 where
  pub back : (r : Numbered) → ReadsDigits x i a r → ReadsDigits x k 0 r

-- digits add up
grows : (a : ℕ) (ds : List ℕ) → a ≤ value a ds
grows a [] = omega arith
grows a (c ∷ ds) = let h : a * 10 + (c - 48) ≤ value (a * 10 + (c - 48)) ds = grows (a * 10 + (c - 48)) ds in omega arith

module _ {x : List ℕ} {i a : ℕ} where
  -- no digit of the number stands here
  none : ((c : ℕ) (ds : List ℕ) (j : ℕ) → Stands x i (c ∷ ds) j → Digit c → value (a * 10 + (c - 48)) ds < 10 ^ 10 → ⊥)
      → ReadsDigits x i a (record { number = a; next = i })
  none f = record { is = is; ends = ends }
    where
      is : (ds : List ℕ) (j : ℕ) → Stands x i ds j → Each Digit ds → Stops x j → value a ds < 10 ^ 10 → a ≡ value a ds
      is [] j s d p l = refl
      is (c ∷ ds) j s d p l = absurd (f c ds j s d.0 l)

      ends : (ds : List ℕ) (j : ℕ) → Stands x i ds j → Each Digit ds → Stops x j → value a ds < 10 ^ 10 → i ≡ j
      ends [] j s d p l = omega (arith, s.ends)
      ends (c ∷ ds) j s d p l = absurd (f c ds j s d.0 l)

  -- a digit stands here
  one : {r : Numbered} → 48 ≤ get_or x i 0 → get_or x i 0 ≤ 57 → ReadsDigits x (i + 1) (a * 10 + (get_or x i 0 - 48)) r → ReadsDigits x i a r
  one {r} low high R = record { is = is; ends = ends }
    where
      digit : Digit (get_or x i 0)
      digit = record { least = low; most = omega arith }

      is : (ds : List ℕ) (j : ℕ) → Stands x i ds j → Each Digit ds → Stops x j → value a ds < 10 ^ 10 → r.number ≡ value a ds
      is [] j s d p l = let here : i ≡ j = omega (arith, s.ends) in absurd (p.none (subst (λ k. Digit (get_or x k 0)) here digit))
      is (c ∷ ds) j s d p l = let e : get_or x i 0 ≡ c = first s in rw e at (R.is ds j (others s) d.1 p (rw e l))

      ends : (ds : List ℕ) (j : ℕ) → Stands x i ds j → Each Digit ds → Stops x j → value a ds < 10 ^ 10 → r.next ≡ j
      ends [] j s d p l = let here : i ≡ j = omega (arith, s.ends) in absurd (p.none (subst (λ k. Digit (get_or x k 0)) here digit))
      ends (c ∷ ds) j s d p l = let e : get_or x i 0 ≡ c = first s in R.ends ds j (others s) d.1 p (rw e l)

-- the digits of a number are read as that number
digits_number : {x : List ℕ} {i : ℕ} {r : Numbered} → ReadsDigits x i 0 r → ReadsNumber x i r
digits_number {x} {i} {r} R = record { is = is; ends = ends }
  where
    is : (n j : ℕ) → Stands x i (decimal n) j → Stops x j → n < 10 ^ 10 → r.number ≡ n
    is n j s p l =
        let v : value 0 (decimal n) ≡ n = value_digits 10 n l in
        R.is (decimal n) j s (digits_are 10 n) p (rw v l) ∙ v

    ends : (n j : ℕ) → Stands x i (decimal n) j → Stops x j → n < 10 ^ 10 → r.next ≡ j
    ends n j s p l =
        let v : value 0 (decimal n) ≡ n = value_digits 10 n l in
        R.ends (decimal n) j s (digits_are 10 n) p (rw v l)

module _ {x : List ℕ} {k : ℕ} where
  -- at the start
  pub digits_start : DigitsFrom x k k 0
  digits_start = record { back = λ r R. R }

  module _ {i a : ℕ} (F : DigitsFrom x k i a) where
    -- a digit more
    pub digits_next : 48 ≤ get_or x i 0 → get_or x i 0 ≤ 57 → DigitsFrom x k (i + 1) (a * 10 + (get_or x i 0 - 48))
    digits_next low high = record { back = λ r R. F.back r (one low high R) }

    -- a byte below the digits
    pub digits_low : get_or x i 0 < 48 → ReadsNumber x k (record { number = a; next = i })
    digits_low l = digits_number (F.back _ (none (λ c ds j s d h. omega (arith, first s, d.least))))

    -- one behind them
    pub digits_high : 57 < get_or x i 0 → ReadsNumber x k (record { number = a; next = i })
    digits_high l = digits_number (F.back _ (none (λ c ds j s d h. omega (arith, first s, d.most))))

    -- no number of ours is longer
    pub digits_long : 999999999 < a → ReadsNumber x k (record { number = a; next = i })
    digits_long l = digits_number (F.back _ (none (λ c ds j s d h. omega (arith, grows (a * 10 + (c - 48)) ds))))

    -- the text ends
    pub digits_past : length x ≤ i → ReadsNumber x k (record { number = a; next = i })
    digits_past l = digits_number (F.back _ (none (λ c ds j s d h. omega (arith, inside s))))

-- one law for each way
pub ruleset place_ways = (peek_past, peek_short, digits_start, digits_next, digits_low, digits_high, digits_long, digits_past)

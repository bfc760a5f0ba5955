-- Numbers in decimal: the digits that stand somewhere, up to a byte that is none, are those of one number.
use Rattle.std.specs.Prelude.{ℕ, zero, suc, ◌+◌, ◌*◌, ◌-◌, ◌/◌, ◌%◌, ◌^◌, ◌≤◌, ◌<◌, ◌≡◌, refl, List, [], ◌∷◌, ◌++◌, length, get_or, ℤ, pos, negsuc, ltb}
use Rattle.std.proofs.Common.{arith, sym, ap, subst, ◌∙◌, length-append, ltb-true}
use Rattle.std.specs.Int.Signed.{mag}
use Rattle.value.proofs.Laws.Tests.{by_test}
use Rattle.value.proofs.Laws.Lists.{Each, each_append}
use Rattle.format.proofs.Laws.Stands.{Stands, first, others}
use Rattle.ctext.specs.Pieces.{digits, decimal, whole}

-- ---- digits

-- a digit's byte
pub record Digit (c : ℕ) : Type 0 where
  pub least : 48 ≤ c
  pub most : c < 58

-- all digits are
digits_are : (k n : ℕ) → Each Digit (digits k n)
unfolding digits
digits_are zero n = tt
digits_are (suc k) n =
    by_test (ltb n 10)
    (λ e. rw (e, digits) (record { least = omega arith; most = omega (arith, ltb-true n 10 e) }, tt))
    (λ e. rw (e, digits) (each_append Digit (digits k (n / 10)) _ (digits_are k (n / 10)) (record { least = omega arith; most = omega arith }, tt)))

-- the number that digits come to, behind those that came to a
abbrev pub value : ℕ → List ℕ → ℕ
value a [] = a
value a (c ∷ cs) = value (a * 10 + (c - 48)) cs

-- one part after the other
pub value_append : (a : ℕ) (xs ys : List ℕ) → value a (xs ++ ys) ≡ value (value a xs) ys
value_append a [] ys = refl
value_append a (x ∷ xs) ys = value_append (a * 10 + (x - 48)) xs ys

-- the digits of a number come to it
pub value_digits : (k n : ℕ) → n < 10 ^ k → value 0 (digits k n) ≡ n
unfolding digits
value_digits zero n h = omega arith
value_digits (suc k) n h =
    by_test (ltb n 10)
    (λ e. rw (e, digits) (omega arith))
    (λ e. rw (e, digits)
    (value_append 0 (digits k (n / 10)) _ ∙ ap (λ a. a * 10 + (48 + n % 10 - 48)) (value_digits k (n / 10) (omega arith)) ∙ omega arith))

-- there is one
digits_long : (k n : ℕ) → 1 ≤ length (digits (suc k) n)
unfolding digits
digits_long k n = by_test (ltb n 10) (λ e. rw (e, digits) (omega arith)) (λ e. rw (e, digits) (simp length-append (omega arith)))

-- ---- where they stand

-- no digit stands at j
pub record Stops (x : List ℕ) (j : ℕ) : Type 0 where
  pub none : Digit (get_or x j 0) → ⊥

-- another byte does
pub stops_at : {x : List ℕ} {j : ℕ} (c : ℕ) → get_or x j 0 ≡ c → c < 48 → Stops x j
stops_at c e l = record { none = λ d. omega (arith, e, d.least) }

-- so does one behind them
pub stops_past : {x : List ℕ} {j : ℕ} (c : ℕ) → get_or x j 0 ≡ c → 58 ≤ c → Stops x j
stops_past c e l = record { none = λ d. omega (arith, e, d.most) }

-- the first of some digits
lead : {x : List ℕ} {i : ℕ} (ds : List ℕ) {j : ℕ} → Stands x i ds j → Each Digit ds → 1 ≤ length ds → Digit (get_or x i 0)
lead [] s d l = absurd (omega arith)
lead (c ∷ ds) s d l = subst Digit (sym (first s)) d.0

-- the same digits, up to the same place
run_same : {x : List ℕ} {i : ℕ} (ds es : List ℕ) {j k : ℕ} → Stands x i ds j → Stands x i es k → Each Digit ds → Each Digit es → Stops x j → Stops x k
    → (ds ≡ es) × (j ≡ k)
run_same [] [] s u d e p q = (refl, omega (arith, s.ends, u.ends))
run_same {x} {i} [] (b ∷ es) {j} s u d e p q =
    let here : i ≡ j = omega (arith, s.ends) in
    absurd (p.none (subst (λ n. Digit (get_or x n 0)) here (subst Digit (sym (first u)) e.0)))
run_same {x} {i} (c ∷ ds) [] {j} {k} s u d e p q =
    let here : i ≡ k = omega (arith, u.ends) in
    absurd (q.none (subst (λ n. Digit (get_or x n 0)) here (subst Digit (sym (first s)) d.0)))
run_same {i = i} (c ∷ ds) (b ∷ es) s u d e p q =
    let same : (ds ≡ es) × (_ ≡ _) = run_same {i = i + 1} ds es (others s) (others u) d.1 e.1 p q in
    let byte : c ≡ b = sym (first s) ∙ first u in
    (rw (byte, same.0), same.1)

module _ {x : List ℕ} {i : ℕ} where
  -- a number begins with a digit
  pub number_first : (n : ℕ) {j : ℕ} → Stands x i (decimal n) j → Digit (get_or x i 0)
  number_first n s = lead (decimal n) s (digits_are 10 n) (digits_long 9 n)

  -- one number stands there
  pub number_same : (n m : ℕ) {j k : ℕ} → Stands x i (decimal n) j → Stands x i (decimal m) k → Stops x j → Stops x k → n < 10 ^ 10 → m < 10 ^ 10
      → (n ≡ m) × (j ≡ k)
  number_same n m s u p q f g =
      let same = run_same (decimal n) (decimal m) s u (digits_are 10 n) (digits_are 10 m) p q in
      (sym (value_digits 10 n f) ∙ ap (value 0) same.0 ∙ value_digits 10 m g, same.1)

-- one whole number
pub whole_same : {x : List ℕ} {i : ℕ} (y z : ℤ) {j k : ℕ} → Stands x i (whole y) j → Stands x i (whole z) k → Stops x j → Stops x k → mag y < 2 ^ 31 → mag z < 2 ^ 31
    → (y ≡ z) × (j ≡ k)
whole_same (pos n) (pos m) s u p q f g = let same = number_same n m s u p q (omega arith) (omega arith) in (ap pos same.0, same.1)
whole_same (pos n) (negsuc m) s u p q f g = absurd (omega (arith, first u, (number_first n s).least))
whole_same (negsuc n) (pos m) s u p q f g = absurd (omega (arith, first s, (number_first m u).least))
whole_same (negsuc n) (negsuc m) s u p q f g =
    let same = number_same (suc n) (suc m) (others s) (others u) p q (omega arith) (omega arith) in
    let less : n ≡ m = omega (arith, same.0) in
    (ap negsuc less, same.1)

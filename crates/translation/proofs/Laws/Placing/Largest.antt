-- The largest of some numbers; who calls whom.
use Rattle.std.specs.Prelude.{ℕ, zero, suc, ◌+◌, ◌≤◌, ◌<◌, ◌≡◌, refl, ◌≢◌, List, [], ◌∷◌, Bool, true, false, length, leb, eqb}
use Rattle.std.proofs.Common.{arith, leb-true, leb-false, eqb-true, eq-eqb}
use Rattle.std.proofs.lemmas.Bool.{eqb-false}
use Rattle.value.specs.Lists.{upto}
use Rattle.value.proofs.Laws.Tests.{by_test}
use Rattle.value.proofs.Laws.Lists.{In, here, there, member, some_pass, some_passed}
use Rattle.format.specs.Syntax.{Proc}
use Rattle.format.specs.Rules.{callees_of}
use Rattle.format.proofs.Laws.Calls.{Calls, calls_below}
use Rattle.translation.specs.Placement.{largest, those, callers}

-- ---- the largest

-- none is larger
pub largest_above : (f : ℕ → ℕ) (xs : List ℕ) {x : ℕ} → In x xs → f x ≤ largest f xs
unfolding largest
largest_above f (x ∷ xs) here = omega arith
largest_above f (y ∷ xs) (there i) = omega (arith, largest_above f xs i)
largest_above f [] x3 = elim x3 [ ]

-- and it is 0, or that of one of them
pub largest_is : {G : Type 0} (f : ℕ → ℕ) (xs : List ℕ) → (largest f xs ≡ 0 → G) → ((x : ℕ) → In x xs → largest f xs ≡ f x → G) → G
unfolding largest
largest_is f [] none one = none refl
largest_is f (x ∷ xs) none one =
    by_test (leb (f x) (largest f xs))
    (λ e.
    let low : f x ≤ largest f xs = leb-true _ _ e in
    largest_is f xs (λ z. none (omega (arith, z))) (λ y i s. one y (there i) (omega (arith, s))))
    (λ e. one x here (omega (arith, leb-false (f x) (largest f xs) e)))

-- ---- those that pass

-- they are among all
pub in_those : (f : ℕ → Bool) (xs : List ℕ) {x : ℕ} → In x xs → f x ≡ true → In x (those f xs)
in_those f (x ∷ xs) here e = rw e here
in_those f (y ∷ xs) {x} (there i) e = by_test (f y) (λ p. rw p (there (in_those f xs i e))) (λ p. rw p (in_those f xs i e))
in_those f [] {x = x} x4 e = elim x4 [ ]

-- the first of a list, or another
pub in_cons : {G : Type 0} {x y : ℕ} {xs : List ℕ} → In x (y ∷ xs) → (x ≡ y → G) → (In x xs → G) → G
in_cons here f g = f refl
in_cons (there i) f g = g i

-- and pass
pub those_pass : (f : ℕ → Bool) (xs : List ℕ) {x : ℕ} → In x (those f xs) → f x ≡ true
those_pass f (y ∷ xs) {x} i =
    by_test (f y)
    (λ p. in_cons (rw p at i) (λ e. rw e p) (λ j. those_pass f xs j))
    (λ p. those_pass f xs (rw p at i))
those_pass f [] {x = x} i = elim i [ ]

-- the numbers from i on
pub in_upto : (i n m : ℕ) → i ≤ m → m < i + n → In m (upto i n)
in_upto i zero m low high = absurd (omega arith)
in_upto i (suc n) m low high =
    by_test (eqb i m)
    (λ e. rw (eqb-true i m e) here)
    (λ e. let other : i ≢ m = eqb-false i m e in there (in_upto (suc i) n m (omega arith) (omega arith)))

-- and no others
pub upto_in : (i n : ℕ) {m : ℕ} → In m (upto i n) → m < i + n
upto_in i (suc n) here = omega arith
upto_in i (suc n) {m} (there h) = omega (arith, upto_in (suc i) n h)
upto_in i zero {m = m} x' = elim x' [ ]

-- ---- members

-- what is a member by test is one
pub member_in : (x : ℕ) (xs : List ℕ) → member x xs ≡ true → In x xs
member_in x xs e = let s = some_passed (λ y. eqb y x) xs e in rw (eqb-true s.0 x s.2) at s.1

-- and the other way
pub in_member : (x : ℕ) (xs : List ℕ) → In x xs → member x xs ≡ true
in_member x xs i = some_pass (λ y. eqb y x) xs i (eq-eqb x x refl)

-- what is none is none by test
pub not_member : (x : ℕ) (xs : List ℕ) → (In x xs → ⊥) → member x xs ≡ false
not_member x xs h = by_test (member x xs) (λ e. absurd (h (member_in x xs e))) (λ e. e)

-- ---- callers

module _ {A : Type 0} (ps : List (Proc A)) where
  -- who calls m is one of its callers
  pub calls_caller : (q m : ℕ) → Calls ps q m → In q (callers ps m)
  unfolding callers
  calls_caller q m h =
      in_those (λ k. member m (callees_of ps k)) (upto 0 (length ps)) (in_upto 0 (length ps) q (omega arith) (omega (arith, calls_below ps q m h)))
      (in_member m (callees_of ps q) h)

  -- and no other is
  pub caller_calls : (q m : ℕ) → In q (callers ps m) → Calls ps q m
  unfolding callers
  caller_calls q m i = member_in m (callees_of ps q) (those_pass (λ k. member m (callees_of ps k)) (upto 0 (length ps)) i)

-- A rule of a constant table's entries, proved by one computed test.
use Rattle.std.specs.Prelude.{ℕ, zero, suc, ◌≡◌, List, [], ◌∷◌, Bool, true, get_or}
use Rattle.value.specs.Maybe.{both}
use Rattle.value.proofs.Laws.Tests.{both_passed}

-- each entry passes the test at its place
abbrev pub entries : {A : Type 0} → (ℕ → A → Bool) → List A → Bool
entries test [] = true
entries test (x ∷ xs) = both (test 0 x) (entries (λ n. test (suc n)) xs)

-- so does what is looked up, if what stands for a missing entry does everywhere
pub looked_up : {A : Type 0} (test : ℕ → A → Bool) (xs : List A) (d : A) → ((n : ℕ) → test n d ≡ true) → entries test xs ≡ true → (n : ℕ)
    → test n (get_or xs n d) ≡ true
looked_up test [] d h t n = h n
looked_up test (x ∷ xs) d h t zero = (both_passed (test 0 x) _ t).0
looked_up test (x ∷ xs) d h t (suc n) = looked_up (λ n. test (suc n)) xs d (λ n. h (suc n)) (both_passed (test 0 x) _ t).1 n

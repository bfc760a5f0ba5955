-- An allotment's counts and its number: each allotment has one number.
use Rattle.std.specs.Prelude.{ℕ, zero, suc, ◌/◌, ◌%◌, ◌≡◌, refl, [], ◌∷◌, length}
use Rattle.std.proofs.Common.{arith, ◌∙◌, length-append}
use Rattle.allotments.specs.Allotments.{counts}

-- as many counts as asked for
pub length_counts : (b n i : ℕ) → length (counts b n i) ≡ n
length_counts b zero i = refl
length_counts b (suc n) i = length-append (counts b n (i / b)) (i % b ∷ []) ∙ omega (arith, length_counts b n (i / b))

-- Where chains of readers end, by positions.
use Rattle.std.specs.Prelude.{Option, Some, None}
use Prim.Native.Nat.{ℕ, ◌+◌, ◌-◌, ◌≤◌}
use native.Mathlib.Omega.{arith}
use mathlib.Core.Path.{◌≡◌, refl, sym, ap, ◌∙◌}
use mathlib.Core.List.{List}
use mathlib.Core.Bool.{Bool, true, false}
use lib.ListN.{length, drop}
use lib.Seq.{drop-drop}
use Rattle.value.specs.Maybe.{Maybe, is, nothing, ◌>>=◌}
use Rattle.format.specs.Decode.{Read}
use Rattle.value.proofs.Laws.Maybes.{is_inj}
use Rattle.value.proofs.Laws.Tests.{by_test}
use Rattle.parse.specs.Ends.{end_of, check}
use Rattle.format.proofs.Laws.Reading.{so}
use Rattle.format.proofs.Laws.Rests.{Leaves, rest_length}

-- something that ends somewhere is something
never : {G : Type 0} {k : ℕ} → Some k ≡ None → G
never e = let z : ◌≡◌ {A = ℕ} 0 1 = cc in absurd (omega arith)

-- positions that end something are one
at_inj : {j k : ℕ} → Some j ≡ Some k → j ≡ k
at_inj e = cc

-- what was read from i on, and ended at k: the bytes from k on are left
pub went_on : {A : Type 0} (t : List ℕ) (i : ℕ) (m : Read A) → Leaves (drop i t) m → {k : ℕ} → Some k ≡ end_of t m → (a : A) × (m ≡ is (a, drop k t))
went_on t i nothing l e = never e
went_on t i (is got) (so rest) {k} e =
    let whole : got.1 ≡ drop (length t - length got.1) t = rest_length t got.1 (i + rest.taken) (rest.is ∙ drop-drop rest.taken i t) in
    let same : length t - length got.1 ≡ k = sym (at_inj e) in
    (got.0, ap (λ r. is (got.0, r)) (rw same at whole))

-- a reader, and then another from where it ended
pub ends_then : {A B : Type 0} (t : List ℕ) (i : ℕ) (m : Read A) (f : (A × List ℕ) → Read B) → Leaves (drop i t) m → {k : ℕ} {r : Option ℕ}
    → Some k ≡ end_of t m
    → ((a : A) → r ≡ end_of t (f (a, drop k t))) → r ≡ end_of t (m >>= f)
ends_then t i m f l e next = let got = went_on t i m l e in rw got.1 (next got.0)

-- a reader that fails fails the chain
pub ends_none : {A B : Type 0} (t : List ℕ) (m : Read A) (f : (A × List ℕ) → Read B) → None ≡ end_of t m → None ≡ end_of t (m >>= f)
ends_none t nothing f e = refl
ends_none t (is got) f e = never (sym e)

-- what is made of a thing ends where the thing ends
pub ends_made : {A B : Type 0} (t : List ℕ) (m : Read A) (g : A → B) → end_of t (m >>= λ (a, q). is (g a, q)) ≡ end_of t m
ends_made t nothing g = refl
ends_made t (is got) g = refl

-- also of two things
pub ends_made₂ : {A B C : Type 0} (t : List ℕ) (m : Read A) (f : List ℕ → Read B) (g : A → B → C)
    → end_of t (m >>= λ (a, r). f r >>= λ (b, q). is (g a b, q)) ≡ end_of t (m >>= λ (a, r). f r)
ends_made₂ t nothing f g = refl
ends_made₂ t (is got) f g = ends_made t (f got.1) (g got.0)

-- readers that end alike, behind another
pub ends_alike : {A B C : Type 0} (t : List ℕ) (m : Read A) (f : List ℕ → Read B) (g : List ℕ → Read C)
    → ((bs : List ℕ) → end_of t (f bs) ≡ end_of t (g bs))
    → end_of t (m >>= λ (a, r). f r) ≡ end_of t (m >>= λ (a, r). g r)
ends_alike t nothing f g same = refl
ends_alike t (is got) f g same = same got.1

-- chains may be put together in either order
pub bind_assoc : {A B C : Type 0} (m : Maybe A) (f : A → Maybe B) (g : B → Maybe C) → ((m >>= f) >>= g) ≡ (m >>= λ a. f a >>= g)
bind_assoc (is a) f g = refl
bind_assoc nothing f g = refl

-- an end is not past the end
pub end_inside : {A : Type 0} (t : List ℕ) (m : Read A) {k : ℕ} → Some k ≡ end_of t m → k ≤ length t
end_inside t nothing e = never e
end_inside t (is got) e = let same = at_inj e in omega arith

-- ---- what was read must pass a test

module _ {A : Type 0} (ok : A → Bool) where
  -- what passed the test
  pub passed_at : (t : List ℕ) (i : ℕ) (m : Read A) → Leaves (drop i t) m → {k : ℕ} → Some k ≡ end_of t (m >>= check ok)
      → (a : A) × (m ≡ is (a, drop k t)) × (ok a ≡ true)
  passed_at t i nothing l e = never e
  passed_at t i (is got) l e = by_test (ok got.0)
      (λ pass.
      let same = went_on t i (is got) l (rw pass at e) in
      (same.0, same.1, ap (λ g. ok g.0) (sym (is_inj same.1)) ∙ pass))
      (λ fail. never (rw fail at e))

  -- nothing was read, or it did not pass
  pub passed_none : {G : Type 0} (t : List ℕ) (m : Read A) → None ≡ end_of t (m >>= check ok) → (m ≡ nothing → G)
      → ((a : A) (q : List ℕ) → m ≡ is (a, q) → ok a ≡ false → G) → G
  passed_none t nothing e missed fails = missed refl
  passed_none t (is got) e missed fails = by_test (ok got.0) (λ pass. never (sym (rw pass at e))) (λ fail. fails got.0 got.1 refl fail)

  -- what is made of a thing passes if the thing does
  pub passed_made : {B : Type 0} (t : List ℕ) (m : Read A) (g : A → B) (test : B → Bool) → ((a : A) → test (g a) ≡ ok a)
      → end_of t ((m >>= λ (a, q). is (g a, q)) >>= check test) ≡ end_of t (m >>= check ok)
  passed_made t nothing g test same = refl
  passed_made t (is got) g test same = by_test (ok got.0)
      (λ pass. let same : test (g got.0) ≡ true = same got.0 ∙ pass in rw (pass, same))
      (λ fail. let same : test (g got.0) ≡ false = same got.0 ∙ fail in rw (fail, same))

-- what always passes
pub always_passes : {A B : Type 0} (t : List ℕ) (m : Read A) (g : A → B) (ok : B → Bool) → ((a : A) → ok (g a) ≡ true)
    → end_of t ((m >>= λ (a, q). is (g a, q)) >>= check ok) ≡ end_of t m
always_passes t nothing g ok pass = refl
always_passes t (is got) g ok pass = rw (pass got.0)

-- what never does
pub never_passes : {A B : Type 0} (t : List ℕ) (m : Read A) (g : A → B) (ok : B → Bool) → ((a : A) → ok (g a) ≡ false)
    → end_of t ((m >>= λ (a, q). is (g a, q)) >>= check ok) ≡ None
never_passes t nothing g ok fail = refl
never_passes t (is got) g ok fail = rw (fail got.0)

-- what fails behind whatever was read first
pub fails_behind : {A B : Type 0} (t : List ℕ) (m : Read A) (f : (A × List ℕ) → Read B) (ok : B → Bool)
    → ((a : A) (r : List ℕ) → end_of t (f (a, r) >>= check ok) ≡ None) → end_of t ((m >>= f) >>= check ok) ≡ None
fails_behind t nothing f ok fails = refl
fails_behind t (is got) f ok fails = fails got.0 got.1

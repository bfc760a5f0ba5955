-- The search: the first number that passes, or that there is none.
use Rattle.std.specs.Prelude.{ℕ, zero, suc, ◌+◌, ◌≤◌, ◌<◌, ◌≡◌, refl, Bool, true, false, eqb}
use Rattle.std.proofs.Common.{arith, sym, ap, ◌∙◌, eqb-true}
use Rattle.std.proofs.lemmas.Bool.{eqb-false}
use Rattle.value.specs.Maybe.{is, nothing}
use Rattle.value.proofs.Laws.Maybes.{is_inj, missing}
use Rattle.value.proofs.Laws.Tests.{by_test}
use Rattle.allotments.specs.Bench.{first_from}

module _ (test : ℕ → Bool) where
  -- this one
  first_here : (i n : ℕ) → test i ≡ true → first_from test i (suc n) ≡ is i
  first_here i n e = rw (e, first_from)

  -- a later one
  first_later : (i n : ℕ) → test i ≡ false → first_from test i (suc n) ≡ first_from test (suc i) n
  first_later i n e = rw (e, first_from)

  -- number i is the least from a on, of n, that passes
  pub record Least (a n i : ℕ) : Type 0 where
    pub low : a ≤ i
    pub high : i < a + n
    pub passes : test i ≡ true
    pub before : (j : ℕ) → a ≤ j → j < i → test j ≡ false

  -- none of n from a on passes
  abbrev pub None : ℕ → ℕ → Type 0
  None a n = (j : ℕ) → a ≤ j → j < a + n → test j ≡ false

  -- it is found
  pub first_least : (a n i : ℕ) → Least a n i → first_from test a n ≡ is i
  first_least a zero i h = absurd (omega (arith, h.low, h.high))
  first_least a (suc n) i h =
      by_test (eqb a i)
      (λ e. let same : a ≡ i = eqb-true a i e in first_here a n (ap test same ∙ h.passes) ∙ ap is same)
      (λ e.
      let other = eqb-false a i e in
      first_later a n (h.before a (omega arith) (omega (arith, h.low)))
      ∙ first_least (suc a) n i (record {
        low = omega (arith, h.low);
        high = omega (arith, h.high);
        passes = h.passes;
        before = λ j l m. h.before j (omega arith) m;
      }))

  -- there is none
  pub first_none : (a n : ℕ) → None a n → first_from test a n ≡ nothing
  first_none a zero h = refl
  first_none a (suc n) h =
      first_later a n (h a (omega arith) (omega arith)) ∙ first_none (suc a) n (λ j l m. h j (omega arith) (omega arith))

  -- WHAT IS FOUND IS THE LEAST THAT PASSES
  pub found_least : (a n i : ℕ) → first_from test a n ≡ is i → Least a n i
  found_least a zero i e = missing e
  found_least a (suc n) i e =
      by_test (test a)
      (λ f.
      let same : a ≡ i = is_inj (sym (first_here a n f) ∙ e) in
      record { low = omega arith; high = omega arith; passes = ap test (sym same) ∙ f; before = λ j l m. absurd (omega arith) })
      (λ f.
      let h = found_least (suc a) n i (sym (first_later a n f) ∙ e) in
      record {
        low = omega (arith, h.low);
        high = omega (arith, h.high);
        passes = h.passes;
        before = λ j l m. by_test (eqb j a)
            (λ g. let same : j ≡ a = eqb-true j a g in ap test same ∙ f)
            (λ g. let other = eqb-false j a g in h.before j (omega arith) m);
      })

  -- "NONE" EXACTLY IF NONE PASSES
  pub found_none : (a n : ℕ) → first_from test a n ≡ nothing → None a n
  found_none a zero e = λ j l m. absurd (omega arith)
  found_none a (suc n) e =
      by_test (test a)
      (λ f. missing (sym e ∙ first_here a n f))
      (λ f j l m. by_test (eqb j a)
      (λ g. let same : j ≡ a = eqb-true j a g in ap test same ∙ f)
      (λ g. let other = eqb-false j a g in found_none (suc a) n (sym (first_later a n f) ∙ e) j (omega arith) (omega arith)))

-- What the bench answers: the first allotment that blocks, or that there is none.
use Rattle.std.specs.Prelude.{ℕ, ◌<◌, ◌≡◌, refl, List, true, false, length}
use Rattle.std.proofs.Common.{arith, ap}
use Rattle.value.specs.Maybe.{Maybe, is, nothing}
use Rattle.format.specs.Syntax.{Program, Plain}
use Rattle.allotments.specs.Bench.{allotments, first_from, blocks_at, searched, search}
use Rattle.allotments.proofs.Laws.Searches.{Least, found_least, found_none}

module _ (p : Program Plain) (k s : ℕ) (cs : List ℕ) where
  -- how many allotments there are
  abbrev total : ℕ
  total = allotments (length p.mains) k s

  -- the two answers
  pub data Answered : Type 0 where
    -- the least number whose allotment blocks
    blocked : (i : ℕ) → i < total → blocks_at p k s i ≡ true → ((j : ℕ) → j < i → blocks_at p k s j ≡ false)
        → (search p k s cs).answer.found ≡ true → (search p k s cs).answer.allotment ≡ i → Answered
    -- no allotment blocks
    none : ((j : ℕ) → j < total → blocks_at p k s j ≡ false) → (search p k s cs).answer.found ≡ false → Answered

  -- FOUND: THE LEAST NUMBER WHOSE ALLOTMENT BLOCKS. NONE: EXACTLY IF NO ALLOTMENT DOES
  pub answered : Answered
  answered = by (first_from (blocks_at p k s) 0 total) refl
    where
      by : (m : Maybe ℕ) → first_from (blocks_at p k s) 0 total ≡ m → Answered
      by (is i) e =
          let h : Least (blocks_at p k s) 0 total i = found_least (blocks_at p k s) 0 total i e in
          blocked i (omega (arith, h.high)) h.passes (λ j l. h.before j (omega arith) l)
          (ap (λ (m : Maybe ℕ). (searched p k s cs m).answer.found) e) (ap (λ (m : Maybe ℕ). (searched p k s cs m).answer.allotment) e)
      by nothing e =
          none (λ j l. found_none (blocks_at p k s) 0 total e j (omega arith) (omega arith))
          (ap (λ (m : Maybe ℕ). (searched p k s cs m).answer.found) e)

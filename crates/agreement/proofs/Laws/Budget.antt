-- Request #110: "A step then costs the copy at most 33,842, so demand 3's budget of 140,000,000 is still enough, and this is proved anew". That it
-- is enough is demand 3 itself, which holds of every accepted program by the bounds that are in force; here are the sums.
use Rattle.std.specs.Prelude.{ℕ, ◌+◌, ◌*◌, ◌≤◌, ◌≡◌, refl, List, [], ◌∷◌, length}
use Rattle.std.proofs.Common.{arith}
use Rattle.value.proofs.Laws.Lists.{Each, each_so}
use Rattle.value.proofs.Laws.Bytes.{Bytes}
use Rattle.format.specs.Syntax.{Program, Plain, concurrent}
use Rattle.format.specs.Encode.{table}
use Rattle.format.specs.Labels.{counts, labelled}
use Rattle.format.specs.Rules.{verdict, accepted, limits}
use Rattle.format.proofs.Laws.Sound.{Sound}
use Rattle.format.proofs.Laws.Accepted.{accepted_exactly}
use Rattle.semantics.specs.Threads as P
use Rattle.semantics.specs.Calls.{max_entries}
use Rattle.semantics.proofs.Laws.Ends.{entries_counted}
use Rattle.agreement.specs.Agreement.{budget, prices_of, spent, head_steps, Agree}
use Rattle.agreement.proofs.Laws.Counted.{prices_count}
use Rattle.agreement.proofs.Laws.Whole.{most_steps}

-- L + 2T + 10 + 2n, of the most labels, threads and bytes
pub most_steps_lem : most_steps ≡ 33842
most_steps_lem = refl

-- so much is spent on steps that cost so much at most
spent_most : (each : ℕ) (xs : List ℕ) → Each (λ x. each + x ≤ most_steps) xs → spent each xs ≤ most_steps * length xs
spent_most each [] h = omega arith
spent_most each (x ∷ xs) h = omega (arith, h.0, spent_most each xs h.1)

module _ {t : List ℕ} {q p : Program Plain} {ts : List ℕ} {b : ℕ}
    (bytes : Bytes t) (e : verdict concurrent t ≡ accepted p) (agree : Agree q t p ts b) where
  -- A STEP COSTS THE COPY AT MOST 33,842.
  pub step_cost : Each (λ x. counts p.procs + 2 * length p.mains + 10 + x ≤ 33842) (prices_of p ts)
  step_cost =
      let read : (t ≡ table concurrent p) × Sound concurrent p = (accepted_exactly concurrent t bytes p).0 e in
      let size : length t ≤ (limits concurrent).bytes = rw read.0 read.1.size in
      each_so (λ x cheap. omega (arith, read.1.labels, read.1.threads.high)) (prices_of p ts) agree.cheap

  -- SO MUCH A RUN THAT IS NOT BLOCKED, ITS LAST TEST AND RETURN INCLUDED: 98 + 4,096 * 33,842 + 2.
  pub run_cost : length ts ≤ max_entries → head_steps p ts + 2 ≤ 138616932
  run_cost brief =
      let read : (t ≡ table concurrent p) × Sound concurrent p = (accepted_exactly concurrent t bytes p).0 e in
      omega (
        arith,
        read.1.threads.high,
        prices_count p ts,
        entries_counted (labelled p) ts (P.start (labelled p)) 0 [],
        spent_most (counts p.procs + 2 * length p.mains + 10) (prices_of p ts) step_cost,
      )

-- WHICH IS WITHIN THE BUDGET.
pub within_budget : 138616932 ≤ budget
within_budget = omega arith

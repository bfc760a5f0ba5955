-- The call: how it goes, and what is answered.
use Rattle.std.specs.Prelude.{ℕ, ◌≡◌, List, Result, Ok, Err}
use Rattle.basics.specs.declared.refusals.Refusal.{Refusal}
use Rattle.basics.specs.Refusals.{refusal_number}
use Rattle.allotments.specs.declared.BenchAnswer.{BenchAnswer}
use Rattle.allotments.specs.Bench.{without, Outcome, bench_call}

-- "A refusal returns its number and zeros"
abbrev pub answer_of : Result BenchAnswer Refusal → BenchAnswer
answer_of (Ok a) = a
answer_of (Err why) = without (refusal_number why)

-- the answer and the lent buffer after the call
pub record Benches (t : List ℕ) (k s : ℕ) (cs cs' : List ℕ) (r : Result BenchAnswer Refusal) : Type 0 where
  pub same : ◌≡◌ {A = Outcome} (record { answer = answer_of r; cells = cs' }) (bench_call t k s cs)

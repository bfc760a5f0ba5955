-- The numbers of an answer in a lent array, for callers that have no structs of ours.
use Rattle.std.specs.Prelude.{ℕ, suc, Bool, true, false, List, [], ◌∷◌, set}
use Rattle.format.specs.declared.ReadAnswer.{ReadAnswer}
use Rattle.translation.specs.declared.WriteAnswer.{WriteAnswer}
use Rattle.translation.specs.Calls.{Written}
use Rattle.semantics.specs.declared.RunAnswer.{RunAnswer}
use Rattle.semantics.specs.Calls.{Outcome}
use Rattle.allotments.specs.declared.BenchAnswer.{BenchAnswer}
use Rattle.agreement.specs.declared.PricesAnswer.{PricesAnswer}
use Rattle.allotments.specs.Bench as Bench
use Rattle.mending.specs.declared.MendAnswer.{MendAnswer}
use Rattle.mending.specs.Mending as Mending

-- numbers from place i on, each where there is such a place; all others stay
abbrev pub stored : ℕ → List ℕ → List ℕ → List ℕ
stored i [] out = out
stored i (n ∷ ns) out = stored (suc i) ns (set out i n)

-- "An accepted read answers 0 with P, M, T, the number of labels (sequential: 0) and of cells"
abbrev pub read_numbers : ReadAnswer → List ℕ
read_numbers r = r.number ∷ r.procedures ∷ r.locations ∷ r.threads ∷ r.labels ∷ r.cells ∷ []

-- its number and its length
abbrev pub write_numbers : WriteAnswer → List ℕ
write_numbers r = r.number ∷ r.length ∷ []

-- "A run answers 0 with its end, its steps, its unused entries and its events", and last its reason
abbrev pub run_numbers : RunAnswer → List ℕ
run_numbers r = r.number ∷ r.end ∷ r.steps ∷ r.unused ∷ r.events ∷ r.reason ∷ []

-- found or mended is 1, not is 0
abbrev pub flag : Bool → ℕ
flag true = 1
flag false = 0

-- the number, whether an allotment was found, its number and its counts
abbrev pub bench_numbers : BenchAnswer → List ℕ
bench_numbers r = r.number ∷ flag r.found ∷ r.allotment ∷ r.counts

-- the number, the least and the most
abbrev pub prices_numbers : PricesAnswer → List ℕ
prices_numbers r = r.refusal ∷ r.least ∷ r.most ∷ []

-- the number of refusal, whether it was mended, and the number of changes
abbrev pub mend_numbers : MendAnswer → List ℕ
mend_numbers r = r.refusal ∷ flag r.mended ∷ r.changes ∷ []

-- what a translation leaves in both lent arrays
pub record Translated : Type 0 where
  pub out : List ℕ
  pub answer : List ℕ

abbrev pub translated : Written → List ℕ → Translated
translated w answer = record { out = w.out; answer = stored 0 (write_numbers w.answer) answer }

-- what a run leaves in the three lent arrays
pub record Ran : Type 0 where
  pub cells : List ℕ
  pub events : List ℕ
  pub answer : List ℕ

abbrev pub ran : Outcome → List ℕ → Ran
ran o answer = record { cells = o.cells; events = o.events; answer = stored 0 (run_numbers o.answer) answer }

-- what the bench leaves in both lent arrays
pub record Benched : Type 0 where
  pub cells : List ℕ
  pub answer : List ℕ

abbrev pub benched : Bench.Outcome → List ℕ → Benched
benched o answer = record { cells = o.cells; answer = stored 0 (bench_numbers o.answer) answer }

-- what the mender leaves in the three lent arrays
pub record Mended : Type 0 where
  pub table : List ℕ
  pub list : List ℕ
  pub answer : List ℕ

abbrev pub mended : Mending.Outcome → List ℕ → Mended
mended o answer = record { table = o.table; list = o.list; answer = stored 0 (mend_numbers o.answer) answer }

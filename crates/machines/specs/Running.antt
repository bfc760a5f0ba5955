-- How a call goes: a table that may be run, or the reason why it is refused.
use Rattle.std.specs.Prelude.{ℕ, ◌*◌, ◌≤◌, ◌≡◌, List, length, Result, Ok, Err}
use Rattle.value.specs.Values.{cell_size}
use Rattle.basics.specs.declared.refusals.Refusal.{Refusal}
use Rattle.basics.specs.Refusals.{refusal_number}
use Rattle.format.specs.Syntax.{Program, Plain, concurrent}
use Rattle.format.specs.Rules.{verdict}
use Rattle.reader.specs.declared.verdict.Counts.{Counts}
use Rattle.semantics.specs.declared.RunAnswer.{RunAnswer}
use Rattle.semantics.specs.Calls.{Outcome, refusal, untouched, run_as, sequential_call}
use Rattle.concurrent.specs.Concurrent.{Accepted, Entries}

-- a concurrent table that may be run under the schedule ts, with the lent buffer cs for cells: what each machine's run leaves, the call leaves
pub record MayRun (t ts cs : List ℕ) (c : Counts) : Type 0 where
  pub accepted : Accepted t c.procedures c.locations c.threads c.cells
  pub entries : Entries c.threads ts
  pub room : cell_size * c.cells ≤ length cs
  pub ran : (go : Program Plain → Outcome) (es : List ℕ) (o : Outcome)
      → ((a : Accepted t c.procedures c.locations c.threads c.cells) → Entries c.threads ts → cell_size * c.cells ≤ length cs → o ≡ go a.program)
      → o ≡ run_as concurrent (verdict concurrent t) go ts cs es

-- or not
pub record Runnable (t ts cs : List ℕ) (r : Result Counts Refusal) : Type 0 where
  pub may : (c : Counts) → r ≡ Ok c → MayRun t ts cs c
  pub refused : (why : Refusal) → r ≡ Err why → (go : Program Plain → Outcome) (es : List ℕ)
      → untouched (refusal_number why) cs es ≡ run_as concurrent (verdict concurrent t) go ts cs es

-- "A refusal returns its number and zeros"
abbrev pub answer_of : Result RunAnswer Refusal → RunAnswer
answer_of (Ok a) = a
answer_of (Err why) = refusal (refusal_number why)

-- a sequential run, and what it leaves
pub record Ran (budget h : ℕ) (t ts cs es cs' es' : List ℕ) (r : Result RunAnswer Refusal) : Type 0 where
  pub same : ◌≡◌ {A = Outcome} (record { answer = answer_of r; cells = cs'; events = es' }) (sequential_call budget h t ts cs es)

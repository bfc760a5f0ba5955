-- The paper's answer, from the counts of an accepted table or the reason why it is refused.
use Rattle.std.specs.Prelude.{ℕ, ◌≡◌, List, Result, Ok, Err}
use Rattle.format.specs.Syntax.{Kind}
use Rattle.format.specs.Calls.{read_call}
use Rattle.basics.specs.Refusals.{refusal_number}
use Rattle.basics.specs.declared.refusals.Refusal.{Refusal}
use Rattle.format.specs.declared.ReadAnswer.{ReadAnswer}
use Rattle.reader.specs.declared.verdict.Counts.{Counts}

-- "A refusal returns its number and zeros"
abbrev pub refusal : ℕ → ReadAnswer
refusal n = record { number = n; procedures = 0; locations = 0; threads = 0; labels = 0; cells = 0 }

-- "An accepted read answers 0 with P, M, T, the number of labels (sequential: 0) and of cells"
abbrev pub answer_of : Result Counts Refusal → ReadAnswer
answer_of (Ok c) = record {
  number = 0;
  procedures = c.procedures;
  locations = c.locations;
  threads = c.threads;
  labels = c.labels;
  cells = c.cells;
}
answer_of (Err why) = refusal (refusal_number why)

-- what the call answers
pub record Answers (k : Kind) (t : List ℕ) (r : Result Counts Refusal) : Type 0 where
  pub same : answer_of r ≡ read_call k t

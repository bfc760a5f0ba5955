-- The search: what the code is asked and answers.
use Rattle.std.specs.Prelude.{ℕ, ◌*◌, ◌≤◌, ◌≡◌, List, true, length}
use Rattle.value.specs.Values.{cell_size}
use Rattle.concurrent.specs.Concurrent.{Accepted}
use Rattle.allotments.specs.declared.BenchAnswer.{BenchAnswer}
use Rattle.allotments.specs.Bench.{allotments, Outcome, search}
use Rattle.bench.specs.Counting.{Benched}

-- an allotment that was found
abbrev pub found_with : ℕ → List ℕ → BenchAnswer
found_with i counts = record { number = 0; found = true; allotment = i; counts = counts }

-- an accepted table, n allotments, and room for the cells
pub record Searching (t : List ℕ) (P M T c k s n : ℕ) (out : List ℕ) : Type 0 where
  pub accepted : Accepted t P M T c
  pub bench : Benched T k s
  pub total : n ≡ allotments T k s
  pub room : cell_size * c ≤ length out

-- the answer and the lent buffer after the search
pub record Searches (t : List ℕ) (P M T c k s n : ℕ) (out out' : List ℕ) (r : BenchAnswer) : Type 0 where
  pub same : (h : Searching t P M T c k s n out) → ◌≡◌ {A = Outcome} (record { answer = r; cells = out' }) (search h.accepted.program k s out)

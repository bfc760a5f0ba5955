-- What the translator's call goes by: a table that its reader accepted, and what the copy's writer leaves.
use Rattle.std.specs.Prelude.{ℕ, ◌+◌, ◌≤◌, ◌≡◌, List, length, Result, Ok}
use Rattle.format.specs.Syntax.{Program, Plain, concurrent, sequential}
use Rattle.format.specs.Encode.{table, trailer_size, distance}
use Rattle.format.specs.Rules.{accepted, verdict, limits, max_labels}
use Rattle.format.specs.Calls.{read_as}
use Rattle.labels.specs.Walks.{BodiesIn}
use Rattle.reader.specs.declared.verdict.Counts.{Counts}
use Rattle.reader.specs.Answers as reader
use Rattle.format.proofs.Laws.Sound.{Sound}
use Rattle.translation.specs.Translate.{translate_in}
use Rattle.translation.specs.Calls.{Written, writes_table}
use Rattle.emit.specs.Laws.Shapes.{Shaped}
use Rattle.basics.specs.declared.refusals.Refusal.{Refusal}
use Rattle.answers.specs.Answers.{answer_of}
use Rattle.translation.specs.declared.Mode.{Mode}
use Rattle.emit.specs.declared.layout.Shape.{Shape}

-- t is an accepted table, and a its counts
pub record Accepts (t : List ℕ) (a : Counts) : Type 0 where
  pub program : Program Plain
  pub verdict : verdict concurrent t ≡ accepted program
  pub same : t ≡ table concurrent program
  pub sound : Sound concurrent program
  pub answer : reader.answer_of (Ok a) ≡ read_as concurrent (accepted program)
  -- its numbers are small, and the records are inside
  pub procedures : a.procedures ≤ (limits concurrent).procs
  pub locations : a.locations ≤ (limits concurrent).places
  pub threads : a.threads ≤ (limits concurrent).threads
  pub labels : a.labels ≤ max_labels
  pub long : length t ≤ (limits concurrent).bytes
  pub room : trailer_size + distance a.procedures a.locations a.threads ≤ length t

-- t is an accepted table of this shape
pub record AcceptedAs (t : List ℕ) (h : Shape) : Type 0 where
  pub program : Program Plain
  pub verdict : verdict concurrent t ≡ accepted program
  pub shaped : Shaped t h program
  pub few : h.labels ≤ max_labels
  pub bodies : BodiesIn t 0 h.procedures

-- and its places are those of the mode
pub record AcceptedIn (t : List ℕ) (mode : Mode) (h : Shape) : Type 0 where
  pub shape : AcceptedAs t h
  pub same : h.mode ≡ mode

-- the copy's table is written, or refused by 9 or 10
pub record WritesCopy (t : List ℕ) (h : Shape) (o o' : List ℕ) (r : Result ℕ Refusal) : Type 0 where
  pub gives : (q : Program Plain) → Shaped t h q
      → ◌≡◌ {A = Written} (record { answer = answer_of r; out = o' }) (writes_table (table sequential (translate_in h.mode q)) o)

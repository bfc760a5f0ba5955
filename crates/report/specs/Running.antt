-- The plain machine at work: its threads' first frames, and what a run comes to.
use Rattle.std.specs.Prelude.{ℕ, ◌+◌, ◌*◌, ◌-◌, ◌≤◌, ◌<◌, ◌≡◌, List, map, length, get_or}
use Rattle.value.specs.Values.{cell_size}
use Rattle.basics.specs.Places.{number_at}
use Rattle.basics.specs.Sizes.{thread_frames, most_threads, all_frames}
use Rattle.format.specs.Syntax.{Program, Plain}
use Rattle.format.specs.Encode.{record_size}
use Rattle.format.specs.Labels.{labelled}
use Rattle.semantics.specs.declared.RunAnswer.{RunAnswer}
use Rattle.semantics.specs.Memory.{fresh, Event}
use Rattle.semantics.specs.Threads.{End}
use Rattle.semantics.specs.Threads as P
use Rattle.engine.specs.Ends.{end_of}
use Rattle.semantics.specs.Calls.{Outcome, concurrent_run, unlabelled, plain_outcome}
use Rattle.semantics.proofs.Laws.Cells.{shape}
use Rattle.engine.specs.Work.{thread_words, Holds}
use Rattle.engine.specs.Events.{Logged}
use Rattle.atomic.specs.Threaded.{Threaded}
use Rattle.concurrent.specs.Concurrent.{MainsAt, Entries, Accepted}
use Rattle.concurrent.specs.declared.machine.Ran.{Ran}
use Rattle.report.specs.Rows.{most_rows, all_rows, AllRows}
use Rattle.report.specs.Stepping.{Loaded}

-- ---- the threads

-- the mains of n threads stand in the table from i on, and each has a record, from `records` on
pub record Beginning (t : List ℕ) (i records n : ℕ) : Type 0 where
  pub mains : MainsAt t i n
  pub inside : (k : ℕ) → k < n → records + record_size * number_at 2 t (i + 2 * k) + record_size ≤ length t

-- each of n threads has one frame, with one row: where the body of its main begins
pub record Begins (t : List ℕ) (i records n : ℕ) (depths heights rows : List ℕ) : Type 0 where
  pub depths_long : length depths ≡ most_threads
  pub heights_long : length heights ≡ all_frames
  pub rows_long : length rows ≡ all_rows
  pub depth : (k : ℕ) → k < n → get_or depths k 0 ≡ 1
  pub height : (k : ℕ) → k < n → get_or heights (thread_frames * k) 0 ≡ 1
  pub row : (k : ℕ) → k < n → get_or rows (most_rows * (thread_frames * k)) 0 ≡ number_at 4 t (records + record_size * number_at 2 t (i + 2 * k) + 2)

-- ---- the run

-- a table of n threads and a schedule of them; the stacks, the rows and the words of the locals and of the cells before the first step
pub record Starting (t : List ℕ) (records n : ℕ) (ts ss depths heights rows ls cs : List ℕ) : Type 0 where
  pub loaded : Loaded t records ss
  pub count : n ≡ length loaded.program.mains
  pub entries : Entries n ts
  pub labels : List ℕ
  pub threads : Threaded loaded.program labels depths ls (P.start (labelled loaded.program)).threads
  pub rowed : AllRows t rows heights (P.start (labelled loaded.program)).threads
  pub long : length ls ≡ thread_words
  pub cells : Holds (fresh loaded.program.sizes) cs

-- how the run of the definition ended, as the code says it, its events without labels; "unused entries are counted, a blocking one among them"
pub record RanAs (p : Program Plain) (ts lent cs es : List ℕ) (r : Ran) : Type 0 where
  pub how : End
  pub state : P.State
  pub so_far : List Event
  pub same : concurrent_run p ts ≡ record { how = how; steps = r.taken; unused = length ts - r.taken; state = state; events = so_far }
  pub end : end_of r.end ≡ how
  pub memory : Holds state.memory cs
  pub sizes : shape state.memory ≡ p.sizes
  pub taken : r.taken ≤ length ts
  pub events : Logged lent (map unlabelled so_far) es r.events

-- whatever program it is
pub record Runs (t : List ℕ) (records n : ℕ) (ts ss depths heights rows ls cs lent cs' es : List ℕ) (r : Ran) : Type 0 where
  pub ran : (q : Starting t records n ts ss depths heights rows ls cs) → RanAs q.loaded.program ts lent cs' es r

-- ---- the call

-- the answer and the lent buffers after the run of a table that is accepted
pub record Outcomes (t : List ℕ) (P M T n : ℕ) (ts cs es : List ℕ) (r : RunAnswer) (cs' es' : List ℕ) : Type 0 where
  pub same : (a : Accepted t P M T n) → Entries T ts → cell_size * n ≤ length cs
      → ◌≡◌ {A = Outcome} (record { answer = r; cells = cs'; events = es' }) (plain_outcome ts cs es a.program)

-- The concurrent machine at work: its schedule, its threads' first frames, and what a run comes to.
use Rattle.std.specs.Prelude.{ℕ, ◌+◌, ◌*◌, ◌-◌, ◌≤◌, ◌<◌, ◌≡◌, List, Bool, true, false, length, get_or, ltb, leb}
use Rattle.value.specs.Maybe.{both}
use Rattle.value.specs.Lists.{all, sum}
use Rattle.value.specs.Values.{cell_size}
use Rattle.basics.specs.Places.{number_at}
use Rattle.format.specs.Syntax.{Program, Plain, concurrent}
use Rattle.format.specs.Encode.{table, record_size, trailer_size}
use Rattle.format.specs.Labels.{labelled}
use Rattle.format.specs.Rules.{limits, verdict, accepted}
use Rattle.format.proofs.Laws.Sound.{Sound}
use Rattle.semantics.specs.declared.RunAnswer.{RunAnswer}
use Rattle.concurrent.specs.declared.machine.Ran.{Ran}
use Rattle.semantics.specs.Memory.{fresh, Event}
use Rattle.semantics.specs.Threads.{End}
use Rattle.semantics.specs.Threads as P
use Rattle.engine.specs.declared.ends.End as E
use Rattle.engine.specs.Ends.{end_of}
use Rattle.semantics.specs.Calls.{max_entries, Outcome, concurrent_run, concurrent_outcome}
use Rattle.engine.specs.Work.{thread_words, Holds}
use Rattle.engine.specs.Events.{Logged}
use Rattle.atomic.specs.Threaded.{thread_frames, most_threads, Threaded, all_frames}
use Rattle.concurrent.specs.Stepping.{Loaded}
use Rattle.semantics.proofs.Laws.Cells.{shape}

-- ---- the schedule

-- may a schedule be run, where there are n threads; 11: "schedule over 4,096 entries, or (concurrent) an entry not below T"
abbrev pub scheduled_below : ℕ → List ℕ → Bool
scheduled_below n ts = both (leb (length ts) max_entries) (all (λ t. ltb t n) ts)

-- the same, entry by entry
pub record Entries (n : ℕ) (ts : List ℕ) : Type 0 where
  pub few : length ts ≤ max_entries
  pub below : (k : ℕ) → k < length ts → get_or ts k 0 < n

-- so the code says
pub record SaysScheduled (n : ℕ) (ts : List ℕ) (r : Bool) : Type 0 where
  pub every : r ≡ true → Entries n ts
  pub some : r ≡ false → length ts ≤ max_entries → (k : ℕ) × (k < length ts) × (n ≤ get_or ts k 0)

-- ---- the threads

-- no thread, of n, has a frame; or some thread has one
pub record AllDone (depths : List ℕ) (n : ℕ) (r : Bool) : Type 0 where
  pub every : r ≡ true → (i : ℕ) → i < n → get_or depths i 0 ≡ 0
  pub some : r ≡ false → (i : ℕ) × (i < n) × (get_or depths i 0 ≡ 0 → ⊥)

-- the mains of n threads stand in the table from i on, and each is a procedure's number
pub record MainsAt (t : List ℕ) (i n : ℕ) : Type 0 where
  pub inside : i + 2 * n ≤ length t
  pub few : n ≤ most_threads
  pub below : (k : ℕ) → k < n → number_at 2 t (i + 2 * k) < (limits concurrent).procs

-- each of n threads has one frame, at the label with which its main begins
pub record Begins (t : List ℕ) (i n : ℕ) (bounds labels depths : List ℕ) : Type 0 where
  pub labels_long : length labels ≡ all_frames
  pub depths_long : length depths ≡ most_threads
  pub label : (k : ℕ) → k < n → get_or labels (thread_frames * k) 0 ≡ get_or bounds (2 * number_at 2 t (i + 2 * k)) 0
  pub depth : (k : ℕ) → k < n → get_or depths k 0 ≡ 1

-- ---- the run

-- what a run came to
abbrev pub ran_with : E.End → ℕ → ℕ → Ran
ran_with how taken events = record { end = how; taken = taken; events = events }

-- a table of n threads and a schedule of them; the stacks and the words of the locals and of the cells before the first step
pub record Starting (t : List ℕ) (n : ℕ) (ts map bounds ss labels depths ls cs : List ℕ) : Type 0 where
  pub loaded : Loaded t map bounds ss
  pub count : n ≡ length loaded.program.mains
  pub entries : Entries n ts
  pub threads : Threaded loaded.program labels depths ls (P.start (labelled loaded.program)).threads
  pub long : length ls ≡ thread_words
  pub cells : Holds (fresh loaded.program.sizes) cs

-- how the run of the definition ended, as the code says it; "unused entries are counted, a blocking one among them"
pub record RanAs (p : Program Plain) (ts lent cs es : List ℕ) (r : Ran) : Type 0 where
  pub how : End
  pub state : P.State
  pub so_far : List Event
  pub same : concurrent_run p ts ≡ record { how = how; steps = r.taken; unused = length ts - r.taken; state = state; events = so_far }
  pub end : end_of r.end ≡ how
  pub memory : Holds state.memory cs
  pub sizes : shape state.memory ≡ p.sizes
  pub taken : r.taken ≤ length ts
  pub events : Logged lent so_far es r.events

-- whatever program it is
pub record Runs (t : List ℕ) (n : ℕ) (ts map bounds ss labels depths ls cs lent cs' es : List ℕ) (r : Ran) : Type 0 where
  pub ran : (q : Starting t n ts map bounds ss labels depths ls cs) → RanAs q.loaded.program ts lent cs' es r

-- ---- the call

-- a table that is accepted, with its numbers of procedures, locations, threads and cells
pub record Accepted (t : List ℕ) (P M T n : ℕ) : Type 0 where
  pub program : Program Plain
  pub read : verdict concurrent t ≡ accepted program
  pub same : t ≡ table concurrent program
  pub sound : Sound concurrent program
  pub procs : P ≡ length program.procs
  pub places : M ≡ length program.sizes
  pub threads : T ≡ length program.mains
  pub cells : n ≡ sum program.sizes
  pub room : trailer_size + record_size * P + 2 * M + 2 * T ≤ length t

-- the answer and the lent buffers after the run of it
pub record Outcomes (t : List ℕ) (P M T n : ℕ) (ts cs es : List ℕ) (r : RunAnswer) (cs' es' : List ℕ) : Type 0 where
  pub same : (a : Accepted t P M T n) → Entries T ts → cell_size * n ≤ length cs
      → ◌≡◌ {A = Outcome} (record { answer = r; cells = cs'; events = es' }) (concurrent_outcome ts cs es a.program)

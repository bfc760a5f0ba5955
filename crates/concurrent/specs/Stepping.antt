-- What the code for a step of a thread is asked and answers: the thread's stack, memory and events at work.
use Rattle.std.specs.Prelude.{ℕ, ◌+◌, ◌*◌, ◌-◌, ◌^◌, ◌≤◌, ◌<◌, ◌≡◌, List, ◌++◌, Bool, true, false, length, get_or, set, Result, Ok, Err}
use Rattle.value.specs.Try.{has, lacks}
use Rattle.value.specs.declared.Reason.{Reason}
use Rattle.format.specs.Syntax.{Program, Plain, concurrent}
use Rattle.format.specs.Encode.{table}
use Rattle.format.specs.Labels.{labelled}
use Rattle.labels.specs.LabelMap.{Mapped}
use Rattle.format.proofs.Laws.Sound.{Sound}
use Rattle.format.specs.Rules.{limits, max_labels}
use Rattle.concurrent.specs.declared.threads.Turn.{Turn}
use Rattle.concurrent.specs.declared.threads.Turn.TheVariants as T
use Rattle.semantics.specs.Memory.{Event}
use Rattle.semantics.specs.Threads as P
use Rattle.engine.specs.Work.{thread_words, Holds, Bases}
use Rattle.engine.specs.Events.{Logged}
use Rattle.atomic.specs.Threaded.{most_frames, most_threads, Threaded, all_frames}
use Rattle.semantics.proofs.Laws.Cells.{shape}

-- ---- what a run keeps

-- the table of a program that keeps the rules, its label map and its first cells
pub record Loaded (t map bounds ss : List ℕ) : Type 0 where
  pub program : Program Plain
  pub same : t ≡ table concurrent program
  pub sound : Sound concurrent program
  pub mapped : Mapped program map bounds
  pub starts : Bases program.sizes ss

-- the labels and depths of the stacks, the words of the locals and of the cells, and the lent buffer of events are the state s after
-- the events evs; `lent` is the buffer as it was lent
pub record Present (p : Program Plain) (lent labels depths ls cs o : List ℕ) (n : ℕ) (s : P.State) (evs : List Event) : Type 0 where
  pub threads : Threaded p labels depths ls s.threads
  pub long : length ls ≡ thread_words
  pub memory : Holds s.memory cs
  pub sizes : shape s.memory ≡ p.sizes
  pub events : Logged lent evs o n

-- ---- a step

-- a run, and one of its threads
pub record Stepping (t map bounds ss : List ℕ) (thread : ℕ) (labels depths ls cs o : List ℕ) (n : ℕ) : Type 0 where
  pub loaded : Loaded t map bounds ss
  pub lent : List ℕ
  pub state : P.State
  pub so_far : List Event
  pub present : Present loaded.program lent labels depths ls cs o n state so_far
  pub there : thread < length loaded.program.mains
  -- the count fits its word
  pub few : n + length t < 2 ^ 64

module _ {t map bounds ss : List ℕ} {thread : ℕ} {labels depths ls cs o : List ℕ} {n : ℕ}
    (h : Stepping t map bounds ss thread labels depths ls cs o n)
    (labels' depths' ls' cs' o' : List ℕ) where
  -- the thread took its step
  pub record Went (k : ℕ) : Type 0 where
    pub step : P.Step
    pub goes : P.thread_step (labelled h.loaded.program) thread h.state ≡ has step
    pub present : Present h.loaded.program h.lent labels' depths' ls' cs' o' k step.state (h.so_far ++ step.events)
    pub few : k ≤ n + length t

  -- it blocked: "the state stays as before the step, and no event of that step is written or counted"
  pub record Stays (why : Reason) : Type 0 where
    pub blocks : P.thread_step (labelled h.loaded.program) thread h.state ≡ lacks why
    pub present : Present h.loaded.program h.lent labels' depths' ls' cs' o' n h.state h.so_far

  -- what is so of each answer
  abbrev pub Answers : Result ℕ Reason → Type 0
  Answers (Ok k) = Went k
  Answers (Err why) = Stays why

-- whatever run it is
pub record Steps (t map bounds ss : List ℕ) (thread : ℕ) (labels depths ls cs o : List ℕ) (n : ℕ)
    (labels' depths' ls' cs' o' : List ℕ) (r : Result ℕ Reason) : Type 0 where
  pub steps : (h : Stepping t map bounds ss thread labels depths ls cs o n) → Answers h labels' depths' ls' cs' o' r

-- ---- after a turn of its uppermost frame

-- the label that a test leads to, whose numbers in the map begin at i
abbrev pub test_label : List ℕ → ℕ → Bool → ℕ
test_label map i true = get_or map (i + 2) 0
test_label map i false = get_or map (i + 3) 0

module _ (map bounds : List ℕ) (top : ℕ) (labels : List ℕ) where
  -- where the numbers of the frame's label begin in the map
  abbrev row : ℕ
  row = 4 * get_or labels top 0

  -- the labels then: the frame is at the one that the turn leads to; a procedure that is called begins in the frame above
  abbrev pub labels_after : Turn → List ℕ
  labels_after (T.Next k) = set labels top (get_or map (row + 2) 0)
  labels_after (T.Test q) = set labels top (test_label map row q)
  labels_after (T.Call m) = set (set labels top (get_or map (row + 2) 0)) (top + 1) (get_or bounds (2 * m) 0)
  labels_after T.Return = labels

-- the depths then: a call has one frame more, a return one less
abbrev pub depths_after : ℕ → List ℕ → Turn → List ℕ
depths_after thread depths (T.Next k) = depths
depths_after thread depths (T.Test q) = depths
depths_after thread depths (T.Call m) = set depths thread (get_or depths thread 0 + 1)
depths_after thread depths T.Return = set depths thread (get_or depths thread 0 - 1)

-- how many events there are then, where there were n
abbrev pub events_after : ℕ → Turn → ℕ
events_after n (T.Next k) = k
events_after n (T.Test q) = n
events_after n (T.Call m) = n
events_after n T.Return = n

-- "P not 1..16": the procedure that is called is one of these
abbrev pub Callee : Turn → Type 0
Callee (T.Next k) = Unit {0}
Callee (T.Test q) = Unit {0}
Callee (T.Call m) = m < (limits concurrent).procs
Callee T.Return = Unit {0}

-- all that the turn leads to is there
pub record Moving (turn : Turn) (thread top : ℕ) (labels depths : List ℕ) : Type 0 where
  pub callee : Callee turn
  pub label : get_or labels top 0 ≤ max_labels
  pub there : thread < most_threads
  pub room : top + 1 < all_frames
  pub some : 1 ≤ get_or depths thread 0
  pub few : get_or depths thread 0 ≤ most_frames
  pub labels_long : length labels ≡ all_frames
  pub depths_long : length depths ≡ most_threads

-- the thread goes on there
pub record Moves (turn : Turn) (map bounds : List ℕ) (thread top : ℕ) (labels depths : List ℕ) (n : ℕ) (labels' depths' : List ℕ)
    (r : ℕ) : Type 0 where
  pub moved : labels' ≡ labels_after map bounds top labels turn
  pub deep : depths' ≡ depths_after thread depths turn
  pub answer : r ≡ events_after n turn

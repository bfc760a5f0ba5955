-- What the code for a step of a thread is asked and answers: the thread's stack, memory and events at work.
use Rattle.std.specs.Prelude.{ℕ, ◌+◌, ◌*◌, ◌-◌, ◌^◌, ◌≤◌, ◌<◌, ◌≡◌, List, ◌++◌, map, length, get_or, Result, Ok, Err}
use Rattle.value.specs.Try.{has, lacks}
use Rattle.value.specs.declared.Reason.{Reason}
use Rattle.basics.specs.Sizes.{thread_frames, most_threads, all_frames}
use Rattle.format.specs.Syntax.{Program, Plain, concurrent}
use Rattle.format.specs.Encode.{table}
use Rattle.format.specs.Labels.{labelled}
use Rattle.format.proofs.Laws.Sound.{Sound}
use Rattle.format.proofs.Laws.TablePlaces.{records_at}
use Rattle.semantics.specs.Memory.{Event}
use Rattle.semantics.specs.Threads as P
use Rattle.semantics.specs.Calls.{unlabelled}
use Rattle.semantics.proofs.Laws.Cells.{shape}
use Rattle.engine.specs.Work.{thread_words, Holds, Bases}
use Rattle.engine.specs.Events.{Logged}
use Rattle.atomic.specs.Threaded.{most_frames, Threaded}
use Rattle.report.specs.Rows.{most_rows, all_rows, places, AllRows, Known}

-- ---- what a run keeps

-- the table of a program that keeps the rules, where its records begin, and its first cells
pub record Loaded (t : List ℕ) (records : ℕ) (ss : List ℕ) : Type 0 where
  pub program : Program Plain
  pub same : t ≡ table concurrent program
  pub sound : Sound concurrent program
  pub heads : records ≡ records_at program
  pub starts : Bases program.sizes ss

-- the depths of the stacks, the rows of the frames, the words of the locals and of the cells, and the lent buffer of events are the state s after
-- the events evs; `lent` is the buffer as it was lent. Depths and locals are kept as in the first engine, which has a label for each frame;
-- here no labels are at work, but there are such
pub record Present (t : List ℕ) (p : Program Plain) (lent depths heights rows ends ls cs o : List ℕ) (n : ℕ) (s : P.State) (evs : List Event) : Type 0 where
  pub labels : List ℕ
  pub threads : Threaded p labels depths ls s.threads
  pub rowed : AllRows t rows heights s.threads
  pub known : Known t ends
  pub long : length ls ≡ thread_words
  pub memory : Holds s.memory cs
  pub sizes : shape s.memory ≡ p.sizes
  pub events : Logged lent (map unlabelled evs) o n

-- ---- a step

-- a run, and one of its threads
pub record Stepping (t : List ℕ) (records : ℕ) (ss : List ℕ) (thread : ℕ) (depths heights rows ends ls cs o : List ℕ) (n : ℕ) : Type 0 where
  pub loaded : Loaded t records ss
  pub lent : List ℕ
  pub state : P.State
  pub so_far : List Event
  pub present : Present t loaded.program lent depths heights rows ends ls cs o n state so_far
  pub there : thread < length loaded.program.mains
  -- the count fits its word
  pub few : n + length t < 2 ^ 64

module _ {t : List ℕ} {records : ℕ} {ss : List ℕ} {thread : ℕ} {depths heights rows ends ls cs o : List ℕ} {n : ℕ}
    (h : Stepping t records ss thread depths heights rows ends ls cs o n)
    (depths' heights' rows' ends' ls' cs' o' : List ℕ) where
  -- the thread took its step
  pub record Went (k : ℕ) : Type 0 where
    pub step : P.Step
    pub goes : P.thread_step (labelled h.loaded.program) thread h.state ≡ has step
    pub present : Present t h.loaded.program h.lent depths' heights' rows' ends' ls' cs' o' k step.state (h.so_far ++ step.events)
    pub few : k ≤ n + length t

  -- it blocked: "the state stays as before the step, and no event of that step is written or counted"
  pub record Stays (why : Reason) : Type 0 where
    pub blocks : P.thread_step (labelled h.loaded.program) thread h.state ≡ lacks why
    pub present : Present t h.loaded.program h.lent depths' heights' rows' ends' ls' cs' o' n h.state h.so_far

  -- what is so of each answer
  abbrev pub Answers : Result ℕ Reason → Type 0
  Answers (Ok k) = Went k
  Answers (Err why) = Stays why

-- whatever run it is
pub record Steps (t : List ℕ) (records : ℕ) (ss : List ℕ) (thread : ℕ) (depths heights rows ends ls cs o : List ℕ) (n : ℕ)
    (depths' heights' rows' ends' ls' cs' o' : List ℕ) (r : Result ℕ Reason) : Type 0 where
  pub steps : (h : Stepping t records ss thread depths heights rows ends ls cs o n) → Answers h depths' heights' rows' ends' ls' cs' o' r

-- ---- an instruction

-- the uppermost frame of the thread is frame `top` of all, and its uppermost row begins with an instruction; numbers and lengths that follow
pub record Ready (t : List ℕ) (thread top : ℕ) (depths heights rows ls : List ℕ) (n : ℕ) : Type 0 where
  pub some : get_or depths thread 0 ≡ 0 → ⊥
  pub is : top ≡ thread_frames * thread + get_or depths thread 0 - 1
  pub high : get_or heights top 0 ≡ 0 → ⊥
  pub begins : get_or t (get_or rows (most_rows * top + get_or heights top 0 - 1) 0) 0 ≡ 0 → ⊥
  pub there : thread < most_threads
  pub room : top + 1 < all_frames
  pub few : get_or heights top 0 ≤ most_rows
  pub deep : get_or depths thread 0 ≤ most_frames
  pub inside : get_or rows (most_rows * top + get_or heights top 0 - 1) 0 < length t
  pub short : length t ≤ places
  pub depths_long : length depths ≡ most_threads
  pub heights_long : length heights ≡ all_frames
  pub rows_long : length rows ≡ all_rows
  pub words_long : length ls ≡ thread_words
  pub small : n + length t < 2 ^ 64

-- it is done, or blocks
pub record Rules (t : List ℕ) (records : ℕ) (ss : List ℕ) (thread top : ℕ) (depths heights rows ends ls cs o : List ℕ) (n : ℕ)
    (depths' heights' rows' ends' ls' cs' o' : List ℕ) (r : Result ℕ Reason) : Type 0 where
  pub rules : Ready t thread top depths heights rows ls n
      → Steps t records ss thread depths heights rows ends ls cs o n depths' heights' rows' ends' ls' cs' o' r

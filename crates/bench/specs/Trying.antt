-- An allotment is tried: what the code is asked and answers.
use Rattle.std.specs.Prelude.{ℕ, ◌*◌, ◌-◌, ◌≤◌, ◌<◌, ◌≡◌, List, [], ◌++◌, Bool, true, false, length, drop, replicate}
use Rattle.value.specs.Lists.{over}
use Rattle.format.specs.Syntax.{Program, Plain}
use Rattle.format.specs.Encode.{trailer_size}
use Rattle.format.specs.Labels.{labelled}
use Rattle.semantics.specs.Threads as P
use Rattle.semantics.proofs.Laws.Cells.{shape}
use Rattle.engine.specs.Work.{thread_words, Holds}
use Rattle.atomic.specs.Threaded.{most_threads, all_frames}
use Rattle.concurrent.specs.Stepping.{Loaded, Present}
use Rattle.concurrent.specs.Concurrent.{Accepted}
use Rattle.concurrent.specs.Anew.{Prepares}
use Rattle.allotments.specs.Allotments.{allotted}
use Rattle.allotments.specs.Bench.{places, allotments, counts_at, run_at, blocks_at}
use Rattle.allotments.proofs.Laws.Trials.{Tried, tries}
use Rattle.bench.specs.Counting.{Benched}

-- ---- a state

-- a prepared program, and the arrays that are a state of its run
pub record Ready (t map bounds ss labels depths ls cs : List ℕ) : Type 0 where
  pub loaded : Loaded t map bounds ss
  pub state : P.State
  pub present : Present loaded.program [] labels depths ls cs [] 0 state []

-- ---- the steps of a thread

-- what comes of further steps ts: nothing, where a step has blocked
abbrev pub does_go_on : Program ℕ → List ℕ → P.State → Bool → Tried
does_go_on q ts s true = record { state = s; stuck = true }
does_go_on q ts s false = tries q ts s

-- a thread of the program
pub record Taking (t map bounds ss : List ℕ) (thread : ℕ) (labels depths ls cs : List ℕ) : Type 0 where
  pub ready : Ready t map bounds ss labels depths ls cs
  pub there : thread < length ready.loaded.program.mains

-- the state after the steps us, or where one of them blocked
pub record Led (p : Program Plain) (s : P.State) (us labels depths ls cs : List ℕ) (r : Bool) : Type 0 where
  pub after : P.State
  pub present : Present p [] labels depths ls cs [] 0 after []
  pub same : (ts : List ℕ) → tries (labelled p) (us ++ ts) s ≡ does_go_on (labelled p) ts after r

-- it took n steps
pub record Takes (t map bounds ss : List ℕ) (thread n : ℕ) (labels depths ls cs labels' depths' ls' cs' : List ℕ) (r : Bool) : Type 0 where
  pub takes : (h : Taking t map bounds ss thread labels depths ls cs)
      → Led h.ready.loaded.program h.ready.state (replicate n thread) labels' depths' ls' cs' r

-- ---- the rounds of an allotment

-- the program's T threads, and the counts of k rounds
pub record Playing (t map bounds ss : List ℕ) (k T : ℕ) (counts labels depths ls cs : List ℕ) : Type 0 where
  pub ready : Ready t map bounds ss labels depths ls cs
  pub threads : T ≡ length ready.loaded.program.mains
  pub given : List ℕ
  pub rest : List ℕ
  pub split : counts ≡ given ++ rest
  pub count : length given ≡ k * T
  pub few : k * T ≤ places
  pub rounds : k ≤ places

-- the state after the steps us, or where one of them blocked
pub record Ends (p : Program Plain) (s : P.State) (us labels depths ls cs : List ℕ) (r : Bool) : Type 0 where
  pub after : P.State
  pub present : Present p [] labels depths ls cs [] 0 after []
  pub same : tries (labelled p) us s ≡ record { state = after; stuck = r }

-- they were played
pub record Plays (t map bounds ss : List ℕ) (k T : ℕ) (counts labels depths ls cs labels' depths' ls' cs' : List ℕ) (r : Bool) : Type 0 where
  pub plays : (h : Playing t map bounds ss k T counts labels depths ls cs)
      → Ends h.ready.loaded.program h.ready.state (allotted T 0 h.given) labels' depths' ls' cs' r

-- ---- one allotment

-- what it needs of the arrays: no count but those of k rounds is set
pub record Kept (T c k : ℕ) (counts labels depths ls cs : List ℕ) : Type 0 where
  pub blank : drop (k * T) counts ≡ drop (k * T) (replicate places 0)
  pub counts_long : length counts ≡ places
  pub labels_long : length labels ≡ all_frames
  pub depths_long : length depths ≡ most_threads
  pub words_long : length ls ≡ thread_words
  pub cells_room : c ≤ length cs

-- an accepted table, prepared, and a number i before which no allotment of k rounds of 0 to s steps blocks
pub record Trying (t : List ℕ) (i₀ T c k s i : ℕ) (map bounds ss counts labels depths ls cs : List ℕ) : Type 0 where
  pub procedures : ℕ
  pub locations : ℕ
  pub accepted : Accepted t procedures locations T c
  pub prepares : Prepares t procedures locations T map bounds ss
  pub mains : i₀ ≡ length t - trailer_size - 2 * T
  pub bench : Benched T k s
  pub before : (j : ℕ) → j < i → blocks_at accepted.program k s j ≡ false
  pub more : i < allotments T k s
  pub kept : Kept T c k counts labels depths ls cs

-- allotment i was run: its counts, and the cells of its run
pub record RanAt (p : Program Plain) (k s i : ℕ) (counts cs : List ℕ) (b : Bool) : Type 0 where
  pub blocks : blocks_at p k s i ≡ b
  pub given : counts ≡ over (counts_at p k s i) (replicate places 0)
  pub memory : Holds (run_at p k s i).state.memory cs
  pub sizes : shape (run_at p k s i).state.memory ≡ p.sizes

-- it was tried
pub record Tries (t : List ℕ) (i₀ T c k s i : ℕ) (map bounds ss counts labels depths ls cs counts' labels' depths' ls' cs' : List ℕ) (r : Bool)
    : Type 0 where
  pub tried : (h : Trying t i₀ T c k s i map bounds ss counts labels depths ls cs) → RanAt h.accepted.program k s i counts' cs' r
  pub kept : Trying t i₀ T c k s i map bounds ss counts labels depths ls cs → Kept T c k counts' labels' depths' ls' cs'

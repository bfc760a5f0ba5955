-- The sequential machine at work: what its code keeps, which step is due, and what a step leaves.
use Rattle.std.specs.Prelude.{ℕ, ◌+◌, ◌*◌, ◌-◌, ◌^◌, ◌≤◌, ◌<◌, ◌≡◌, List, [], ◌∷◌, ◌++◌, map, Bool, true, false, length, get_or, set, drop, ltb}
use Rattle.value.specs.Maybe.{is, pick}
use Rattle.value.specs.Try.{has}
use Rattle.value.specs.declared.Reason.{Reason}
use Rattle.value.specs.Lists.{sum}
use Rattle.value.specs.Values.{cell_size}
use Rattle.basics.specs.Places.{number_at}
use Rattle.value.specs.declared.Value.{Value}
use Rattle.format.specs.Syntax.{Expr, Instr, call, select, Block, end, step, ◌⊕◌, Program, Plain, sequential}
use Rattle.format.specs.Encode.{table, record_size, trailer_size}
use Rattle.format.specs.Rules.{verdict, accepted, limits}
use Rattle.labels.specs.Spots.{CodeAt}
use Rattle.format.proofs.Laws.Sound.{Sound}
use Rattle.format.proofs.Laws.TablePlaces.{records_at}
use Rattle.semantics.specs.declared.RunAnswer.{RunAnswer}
use Rattle.decide.specs.declared.step.Step.{Step}
use Rattle.decide.specs.declared.step.Step.TheVariants.{Return, Blocked}
use Rattle.sequential.specs.declared.machine.Ran.{Ran}
use Rattle.sequential.specs.declared.machine.State.{State}
use Rattle.semantics.specs.Memory.{evals, fresh, Event}
use Rattle.semantics.specs.Step.{Frame, Stack}
use Rattle.semantics.specs.Threads.{End}
use Rattle.semantics.specs.Copy as C
use Rattle.semantics.specs.Calls.{Outcome, sequential_outcome}
use Rattle.engine.specs.declared.ends.End as E
use Rattle.engine.specs.Ends.{end_of}
use Rattle.engine.specs.Work.{Clears, frame_words, local_words, cell_words, Framed, Holds, Bases}
use Rattle.engine.specs.Events.{Logged, way_of}
use Rattle.decide.specs.Decided.{Act, act_of, act_end, decided, chosen}
use Rattle.jumps.specs.Jumps.{positions, Jumps}
use Rattle.sequential.specs.Frames.{word_of, procedure_in, Stacked}
use Rattle.semantics.proofs.Laws.Cells.{shape}
use Rattle.basics.specs.Sizes.{stack_frames}

-- ---- what a run keeps

-- "P not 1..1,024": no procedure runs twice in a stack, so there are at most so many frames
abbrev pub most_frames : ℕ
most_frames = (limits sequential).procs

-- the table of a program that keeps the rules, where its records begin, its jump table and its first cells
pub record Loaded (t : List ℕ) (records : ℕ) (js ss : List ℕ) : Type 0 where
  pub program : Program Plain
  pub same : t ≡ table sequential program
  pub sound : Sound sequential program
  pub place : records ≡ records_at program
  pub jumps : Jumps program.procs js
  pub starts : Bases program.sizes ss

-- the words of the locals, the words of the frames, the words of the cells, the lent buffer of events and the state s are a
-- configuration, where ts is the schedule and `lent` the buffer as it was lent
pub record Present (p : Program Plain) (lent ts ls bs cs es : List ℕ) (s : State) (c : C.Config) : Type 0 where
  pub depth : s.depth ≡ length c.stack
  pub frames : Stacked p.procs ls bs s.at c.stack
  pub long : length ls ≡ local_words
  pub backs : length bs ≡ stack_frames
  pub memory : Holds c.memory cs
  pub full : length cs ≡ cell_words
  pub sizes : shape c.memory ≡ p.sizes
  pub todo : c.todo ≡ drop s.taken ts
  pub taken : s.taken ≤ length ts
  pub last : c.last ≡ s.thread
  pub events : Logged lent c.events es s.events

-- ---- the step that is due

-- the step x is decided for the frame f, whose code goes on at k
pub data Decision (p : Program Plain) (c : C.Config) (f : Frame Plain) (k : ℕ) (x : Step) : Type 0 where
  leaves : f.code ≡ end → x ≡ Return → Decision p c f k x
  acts : (i : Instr Plain) (d r : Block Plain) (a : Act) → CodeAt p.procs f.proc k (step tt i d) r → f.code ≡ step tt i (d ⊕ r)
      → act_of i ≡ is a → x ≡ decided f.env c.memory a (act_end {A = Plain} k i) → Decision p c f k x
  selects : (a b t : ℕ) (ts : List ℕ) (d r : Block Plain) → CodeAt p.procs f.proc k (step tt (select a b) d) r
      → f.code ≡ step tt (select a b) (d ⊕ r) → c.todo ≡ t ∷ ts → x ≡ chosen c.memory a b t (act_end {A = Plain} k (select a b))
      → Decision p c f k x

-- the step x is due, and does not block
pub record Due (t : List ℕ) (records : ℕ) (js ls bs cs es : List ℕ) (s : State) (x : Step) : Type 0 where
  pub starts : List ℕ
  pub loaded : Loaded t records js starts
  pub lent : List ℕ
  pub schedule : List ℕ
  pub config : C.Config
  pub present : Present loaded.program lent schedule ls bs cs es s config
  pub frame : Frame Plain
  pub below : Stack Plain
  pub stack : config.stack ≡ frame ∷ below
  pub decision : Decision loaded.program config frame s.at x
  pub args : (m : ℕ) (es : List Expr) (b : Block Plain) (vs : List Value) → frame.code ≡ step tt (call m es) b → evals frame.env es ≡ has vs
      → Framed ls (frame_words * s.depth) (map is vs)
  pub going : (r : Reason) → x ≡ Blocked r → ⊥
  pub some : 1 ≤ s.depth
  pub few : s.depth ≤ most_frames
  pub small : length t ≤ positions
  pub inside : s.at < length t
  -- the counts fit their words
  pub entries : length schedule < 2 ^ 64
  pub counted : s.events + 1 < 2 ^ 64

-- ---- what it leaves

-- what is read or written in the state s, where bs are the words of the frames
abbrev pub event_in : List ℕ → State → Bool → ℕ → ℕ → Value → Event
event_in bs s writes l i v =
    record { thread = s.thread; way = way_of writes; place = l; index = i; value = v; label = procedure_in (get_or bs (s.depth - 1) 0) }

-- "records only locations below h": an event was written as number n, or not
pub record Recorded (h : ℕ) (es : List ℕ) (n : ℕ) (e : Event) (es' : List ℕ) (n' : ℕ) : Type 0 where
  pub logged : (lent : List ℕ) (evs : List Event) → Logged lent evs es n → Logged lent (pick (ltb e.place h) (evs ++ (e ∷ [])) evs) es' n'
  pub most : n' ≤ n + 1

-- there is room for the frame of procedure m above d others, and its record is right
pub record Enterable (t : List ℕ) (records d m : ℕ) : Type 0 where
  pub inside : records + record_size * m + record_size ≤ length t
  pub params : get_or t (records + record_size * m) 0 ≤ get_or t (records + record_size * m + 1) 0
  pub locals : get_or t (records + record_size * m + 1) 0 ≤ frame_words
  pub few : d ≤ most_frames
  pub number : m < most_frames

-- procedure m began above d frames, the topmost of which goes on at k; its body begins at v
pub record Enters (t : List ℕ) (records d m k : ℕ) (ls bs ls' bs' : List ℕ) (v : ℕ) : Type 0 where
  pub back : bs' ≡ set bs d (word_of k m)
  pub clears : Clears ls ls' (frame_words * d + get_or t (records + record_size * m) 0) (frame_words * d + get_or t (records + record_size * m + 1) 0)
  pub start : v ≡ number_at 4 t (records + record_size * m + 2)

-- the state in which the run goes on at k, with d frames and n events
abbrev pub moved_to : State → ℕ → ℕ → ℕ → State
moved_to s k d n = record { at = k; depth = d; thread = s.thread; taken = s.taken; events = n }

-- the state in which it goes on at k, with the next entry u taken
abbrev pub selected_to : State → ℕ → ℕ → State
selected_to s k u = record { at = k; depth = s.depth; thread = u; taken = s.taken + 1; events = s.events }

-- the definition's step from c, and its configuration at work
pub record Moves (p : Program Plain) (lent ts : List ℕ) (h : ℕ) (c : C.Config) (ls bs cs es : List ℕ) (s : State) : Type 0 where
  pub config : C.Config
  pub goes : C.next h p.procs c ≡ C.goes config
  pub present : Present p lent ts ls bs cs es s config

-- the step that is due was carried out
pub record CarriesOut (t : List ℕ) (records : ℕ) (js : List ℕ) (h : ℕ) (ls bs cs es : List ℕ) (s : State) (x : Step) (ls' bs' cs' es' : List ℕ)
    (s' : State) : Type 0 where
  pub moves : (d : Due t records js ls bs cs es s x) → Moves d.loaded.program d.lent d.schedule h d.config ls' bs' cs' es' s'
  pub most : s'.events ≤ s.events + 1

-- ---- deciding a step

-- a run with a frame, and with an entry where a select stands
pub record Facing (t ts ss ls cs : List ℕ) (s : State) : Type 0 where
  pub records : ℕ
  pub jumps : List ℕ
  pub loaded : Loaded t records jumps ss
  pub lent : List ℕ
  pub backs : List ℕ
  pub buffer : List ℕ
  pub config : C.Config
  pub present : Present loaded.program lent ts ls backs cs buffer s config
  pub frame : Frame Plain
  pub below : Stack Plain
  pub stack : config.stack ≡ frame ∷ below
  pub entry : get_or t s.at 0 ≡ 0x27 → s.taken < length ts

-- the step x is decided for it; the arguments of a call are in the frame above
pub record Faced {t ts ss ls cs : List ℕ} {s : State} (f : Facing t ts ss ls cs s) (ls' : List ℕ) (x : Step) : Type 0 where
  pub decision : Decision f.loaded.program f.config f.frame s.at x
  pub present : Present f.loaded.program f.lent ts ls' f.backs cs f.buffer s f.config
  pub args : (m : ℕ) (es : List Expr) (b : Block Plain) (vs : List Value) → f.frame.code ≡ step tt (call m es) b → evals f.frame.env es ≡ has vs
      → Framed ls' (frame_words * s.depth) (map is vs)

-- of whatever run it is
pub record Faces (t ts ss ls cs : List ℕ) (s : State) (ls' : List ℕ) (x : Step) : Type 0 where
  pub faced : (f : Facing t ts ss ls cs s) → Faced f ls' x

-- ---- the run

-- "used up (select and no entry)"
pub record UsedUp (t ts : List ℕ) (s : State) (r : Bool) : Type 0 where
  pub yes : r ≡ true → (get_or t s.at 0 ≡ 0x27) × (s.taken ≡ length ts)
  pub no : r ≡ false → get_or t s.at 0 ≡ 0x27 → s.taken < length ts

-- what a run came to, in this state
abbrev pub ran_with : E.End → ℕ → State → Ran
ran_with how steps s = record { end = how; steps = steps; taken = s.taken; events = s.events }

-- the words of the locals, of the cells and of the frames, before the first step
pub record Starting (t : List ℕ) (records : ℕ) (js ss ls bs cs : List ℕ) : Type 0 where
  pub loaded : Loaded t records js ss
  pub inside : records + record_size ≤ length t
  pub zero : (k : ℕ) → get_or ls k 0 ≡ 0
  pub long : length ls ≡ local_words
  pub backs : length bs ≡ stack_frames
  pub zeroth : get_or bs 0 0 ≡ 0
  pub cells : Holds (fresh loaded.program.sizes) cs
  pub full : length cs ≡ cell_words

-- the run of the definition, with budget n
abbrev pub run_of : {t : List ℕ} {records : ℕ} {js ss ls bs cs : List ℕ} → Starting t records js ss ls bs cs → List ℕ → ℕ → ℕ → C.Ran
run_of q ts h n = C.run h q.loaded.program.procs n 0 (C.start q.loaded.program ts)

-- how it ended, as the code says it
pub record RanAs {t : List ℕ} {records : ℕ} {js ss ls bs cs : List ℕ} (q : Starting t records js ss ls bs cs) (ts : List ℕ)
    (h n : ℕ) (lent cs' es : List ℕ) (r : Ran) : Type 0 where
  pub how : End
  pub config : C.Config
  pub same : run_of q ts h n ≡ record { how = how; steps = r.steps; config = config }
  pub end : end_of r.end ≡ how
  pub memory : Holds config.memory cs'
  pub full : length cs' ≡ cell_words
  pub sizes : shape config.memory ≡ q.loaded.program.sizes
  pub todo : config.todo ≡ drop r.taken ts
  pub taken : r.taken ≤ length ts
  pub events : Logged lent config.events es r.events

-- whatever program it is
pub record Runs (t : List ℕ) (records : ℕ) (ts js ss ls bs cs : List ℕ) (h n : ℕ) (lent cs' es : List ℕ) (r : Ran) : Type 0 where
  pub ran : (q : Starting t records js ss ls bs cs) → RanAs q ts h n lent cs' es r

-- ---- the call

-- a table that is accepted, with its numbers of procedures, locations and cells
pub record Accepted (t : List ℕ) (P M n : ℕ) : Type 0 where
  pub program : Program Plain
  pub read : verdict sequential t ≡ accepted program
  pub same : t ≡ table sequential program
  pub sound : Sound sequential program
  pub procs : P ≡ length program.procs
  pub places : M ≡ length program.sizes
  pub cells : n ≡ sum program.sizes
  pub room : trailer_size + record_size * P + 2 * M ≤ length t

-- the answer and the lent buffers after the run of it
pub record Outcomes (t : List ℕ) (P M c : ℕ) (ts : List ℕ) (n h : ℕ) (cs es : List ℕ) (r : RunAnswer) (cs' es' : List ℕ) : Type 0 where
  pub same : (a : Accepted t P M c) → cell_size * c ≤ length cs
      → ◌≡◌ {A = Outcome} (record { answer = r; cells = cs'; events = es' }) (sequential_outcome n h ts cs es a.program)

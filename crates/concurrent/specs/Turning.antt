-- What the code for one step of a frame is asked and answers: the code that stands at a place of a table, over a frame of locals, the
-- words of memory and a buffer of events.
use Rattle.std.specs.Prelude.{ℕ, ◌+◌, ◌^◌, ◌≤◌, ◌<◌, ◌≡◌, List, ◌∷◌, ◌++◌, Bool, false, length, eqb, Result, Ok, Err}
use Rattle.value.specs.Maybe.{is, either}
use Rattle.value.specs.Try.{Try, has, lacks}
use Rattle.value.specs.declared.Reason.{Reason}
use Rattle.value.specs.Lists.{at}
use Rattle.format.specs.Syntax.{Instr, Block, end, step, Proc, Program, Plain}
use Rattle.format.specs.Labels.{labelled, first, ends_of}
use Rattle.labels.specs.LabelMap as Map
use Rattle.format.specs.Rules.{max_locals}
use Rattle.concurrent.specs.declared.threads.Turn.{Turn}
use Rattle.concurrent.specs.declared.threads.Turn.TheVariants as T
use Rattle.semantics.specs.Memory.{Event}
use Rattle.semantics.specs.Step.{Stack, Moved, entered, quiet, runs}
use Rattle.semantics.specs.Threads as P
use Rattle.semantics.specs.Threads.{Atomic}
use Rattle.engine.specs.Work.{frame_words, Beside, Framed}
use Rattle.decide.specs.Decided.{branch}
use Rattle.atomic.specs.Doing.{Works}
use Rattle.atomic.specs.Laws.Standing.{Standing}
use Rattle.concurrent.specs.Laws.Leading.{label_after, Called}

-- code c of procedure m stands at i and has this label, with locals, memory and events as `a` says
pub record Turning (t : List ℕ) (thread label fb : ℕ) (bs : List ℕ) (i : ℕ) (ls cs o : List ℕ) (n : ℕ) : Type 0 where
  pub p : Program Plain
  pub m : ℕ
  pub c : Block ℕ
  pub stands : Standing t p m i c
  pub here : label ≡ first (ends_of p m) c
  pub a : Atomic
  pub es : List ℕ
  pub works : Works fb bs es ls cs o n a
  pub full : (q : Proc ℕ) → at (labelled p).procs m ≡ is q → length a.env ≡ q.locals
  pub params : (q : ℕ) (r : Proc ℕ) → at (labelled p).procs q ≡ is r → (r.params ≤ r.locals) × (r.locals ≤ max_locals)
  pub few : n + length t < 2 ^ 64

-- what code c of procedure m does above the frames s
abbrev pub code_of : Program Plain → ℕ → ℕ → Block ℕ → Atomic → Stack ℕ → Try (Moved ℕ)
code_of p thread m c a s = P.code (labelled p).procs thread c m a.env s a.memory

module _ (t : List ℕ) (p : Program Plain) (thread m : ℕ) (c : Block ℕ) (a : Atomic) (fb : ℕ) (bs es : List ℕ) (n : ℕ) (ls' cs' o' : List ℕ) where
  -- the code goes on after its first instruction, whose new locals and memory `b` has, with these new events
  pub record Went (k : ℕ) : Type 0 where
    pub b : Atomic
    pub new : List Event
    pub rest : Block ℕ
    pub code : (s : Stack ℕ) → code_of p thread m c a s
        ≡ has (record { stack = record { proc = m; env = b.env; code = rest } ∷ s; memory = b.memory; events = new })
    pub label : first (ends_of p m) rest ≡ Map.next (ends_of p m) c
    pub tag : ℕ
    pub instr : Instr ℕ
    pub begins : c ≡ step tag instr rest
    pub log : b.events ≡ a.events ++ new
    pub works : Works fb bs es ls' cs' o' k b
    pub same : length b.env ≡ length a.env
    pub few : k ≤ n + length t

  -- its first instruction is a test that comes out as q
  pub record Tested (q : Bool) : Type 0 where
    pub tag : ℕ
    pub instr : Instr ℕ
    pub rest : Block ℕ
    pub begins : c ≡ step tag instr rest
    pub code : (s : Stack ℕ)
        → code_of p thread m c a s ≡ has (quiet (record { proc = m; env = a.env; code = branch q tag instr rest } ∷ s) a.memory)
    pub label : first (ends_of p m) (branch q tag instr rest) ≡ label_after q (ends_of p m) c
    pub works : Works fb bs es ls' cs' o' n a

  -- it calls procedure q, whose frame is above
  pub record Calls (q : ℕ) : Type 0 where
    pub tag : ℕ
    pub instr : Instr ℕ
    pub rest : Block ℕ
    pub begins : c ≡ step tag instr rest
    pub called : Called p m a.env instr q
    pub code : (s : Stack ℕ) → either (eqb q m) (runs q s) ≡ false → code_of p thread m c a s
        ≡ has (quiet (entered q called.proc called.values ∷ record { proc = m; env = a.env; code = rest } ∷ s) a.memory)
    pub label : first (ends_of p m) rest ≡ Map.next (ends_of p m) c
    pub works : Works fb bs es ls' cs' o' n a
    pub above : Framed ls' (fb + frame_words) (entered q called.proc called.values).env

  -- it blocks
  pub record Stays (why : Reason) : Type 0 where
    pub code : (s : Stack ℕ) → code_of p thread m c a s ≡ lacks why
    pub works : Works fb bs es ls' cs' o' n a

  -- it returns
  pub record Returns : Type 0 where
    pub code : c ≡ end
    pub works : Works fb bs es ls' cs' o' n a

  -- what is so of each turn
  abbrev pub Turned : Turn → Type 0
  Turned (T.Next k) = Went k
  Turned (T.Test q) = Tested q
  Turned (T.Call q) = Calls q
  Turned T.Return = Returns

  -- of each, or where it blocks
  abbrev pub Answers : Result Turn Reason → Type 0
  Answers (Ok turn) = Turned turn
  Answers (Err why) = Stays why

-- the step was made, and words of no other frame but the one above are others
pub record Turns (t : List ℕ) (thread label fb : ℕ) (bs : List ℕ) (i : ℕ) (ls cs o : List ℕ) (n : ℕ) (ls' cs' o' : List ℕ) (r : Result Turn Reason) : Type 0 where
  pub beside : Turning t thread label fb bs i ls cs o n → Beside ls ls' fb (fb + frame_words + frame_words)
  pub answers : (h : Turning t thread label fb bs i ls cs o n) → Answers t h.p thread h.m h.c h.a fb bs h.es n ls' cs' o' r

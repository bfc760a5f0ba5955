-- The sequential machine: report RR-2017-03, figure 1, with select by schedule. Document 01, "The two machines".
use Rattle.std.specs.Prelude.{ℕ, zero, suc, List, [], ◌∷◌, ◌++◌, ltb, pos, negsuc}
use Rattle.value.specs.Maybe.{pick}
use Rattle.value.specs.Try.{Try, has, lacks, ◌⟫◌}
use Rattle.value.specs.declared.Value.{Value}
use Rattle.value.specs.declared.Value.TheVariants.{Whole, Location, Truth}
use Rattle.value.specs.declared.Reason.TheVariants.{WrongKind, FinishedThread}
use Rattle.format.specs.Syntax.{Instr, assign, write, read, while, if, call, atomic, select, Block, end, step, Proc, Program, Plain}
use Rattle.semantics.specs.Memory.{Env, Memory, cell, stored, fresh, Event}
use Rattle.semantics.specs.Step.{Frame, Stack, Moved, entered, instr}
use Rattle.semantics.specs.Threads.{End, finished, used, blocked, spent}

-- the stack of frames and the memory (figure 1), the entries not yet taken, the thread last selected, the events recorded
pub record Config : Type 0 where
  pub stack : Stack Plain
  pub memory : Memory
  pub todo : List ℕ
  pub last : ℕ
  pub events : List Event

-- one step, or how the run ends
pub data Next : Type 0 where
  ended : End → Next
  goes : Config → Next

-- "Sequential tables .. start at procedure 0. All cells start as number 0", and 0 was selected before the first select
abbrev pub start : Program Plain → List ℕ → Config
start p ts = record { stack = stack p.procs; memory = fresh p.sizes; todo = ts; last = 0; events = [] }
  where
    stack : List (Proc Plain) → Stack Plain
    stack [] = []
    stack (q ∷ qs) = entered 0 q [] ∷ []

-- "a number other than 0"; request #101: "one whose cell isn't a number 2, one whose cell is 0 gives 4"
abbrev pub running : Value → Try Value
running (Whole (pos zero)) = lacks FinishedThread
running (Whole (pos (suc n))) = has (Whole (pos (suc n)))
running (Whole (negsuc n)) = has (Whole (negsuc n))
running (Location l) = lacks WrongKind
running (Truth b) = lacks WrongKind

-- events after others, of the locations below h
abbrev pub kept : ℕ → List Event → List Event → List Event
kept h evs [] = evs
kept h evs (e ∷ es) = kept h (pick (ltb e.place h) (evs ++ (e ∷ [])) evs) es

-- a step of figure 1; "a missing value, a wrong kind or an index outside the size blocks"
abbrev pub moved : ℕ → List ℕ → ℕ → List Event → Try (Moved Plain) → Next
moved h ts t evs (lacks r) = ended (blocked r)
moved h ts t evs (has r) = goes (record { stack = r.stack; memory = r.memory; todo = ts; last = t; events = kept h evs r.events })

-- "writes t into a[0], without an event, if b[t] exists and is a number other than 0; else it blocks and takes none"
abbrev pub selected : ℕ → Memory → Frame Plain → Stack Plain → ℕ → List ℕ → List Event → Try Value → Next
selected a η f s t ts evs (lacks r) = ended (blocked r)
selected a η f s t ts evs (has v) =
    goes (record { stack = f ∷ s; memory = stored η a 0 (Whole (pos t)); todo = ts; last = t; events = evs })

-- "Select takes the next entry t"; "used up (select and no entry)"; "whose entry lies outside b gives 3"
abbrev pub choose : ℕ → ℕ → Memory → Frame Plain → Stack Plain → List ℕ → List Event → Next
choose a b η f s [] evs = ended used
choose a b η f s (t ∷ ts) evs = selected a η f s t ts evs (cell η b t ⟫ running)

-- the machine records the events of the locations below h
module _ (h : ℕ) (procs : List (Proc Plain)) where
  -- an instruction before c, in procedure m with locals ρ above s; "The sequential machine writes the number of the procedure it is in"
  abbrev pub one : ℕ → Env → Instr Plain → Block Plain → Stack Plain → Memory → List ℕ → ℕ → List Event → Next
  one m ρ (select a b) c s η ts t evs = choose a b η (record { proc = m; env = ρ; code = c }) s ts evs
  one m ρ (assign x e) c s η ts t evs = moved h ts t evs (instr procs t m m ρ tt (assign x e) c s η)
  one m ρ (write y o e) c s η ts t evs = moved h ts t evs (instr procs t m m ρ tt (write y o e) c s η)
  one m ρ (read x y o) c s η ts t evs = moved h ts t evs (instr procs t m m ρ tt (read x y o) c s η)
  one m ρ (while e b) c s η ts t evs = moved h ts t evs (instr procs t m m ρ tt (while e b) c s η)
  one m ρ (if e b d) c s η ts t evs = moved h ts t evs (instr procs t m m ρ tt (if e b d) c s η)
  one m ρ (call n es) c s η ts t evs = moved h ts t evs (instr procs t m m ρ tt (call n es) c s η)
  one m ρ (atomic b) c s η ts t evs = ended (blocked WrongKind)

  -- code, or a return
  abbrev pub code : Block Plain → ℕ → Env → Stack Plain → Memory → List ℕ → ℕ → List Event → Next
  code end m ρ s η ts t evs = goes (record { stack = s; memory = η; todo = ts; last = t; events = evs })
  code (step a i c) m ρ s η ts t evs = one m ρ i c s η ts t evs

  -- "Before each step a run is judged finished .."
  abbrev pub stack : Stack Plain → Memory → List ℕ → ℕ → List Event → Next
  stack [] η ts t evs = ended finished
  stack (f ∷ s) η ts t evs = code f.code f.proc f.env s η ts t evs

  -- one step, or how the run ends here
  abbrev pub next : Config → Next
  next c = stack c.stack c.memory c.todo c.last c.events

-- how a run ended, its steps, and where
pub record Ran : Type 0 where
  pub how : End
  pub steps : ℕ
  pub config : Config

-- ".. at its budget, used up, blocked, in this order": finished comes first
abbrev pub at_budget : Next → End
at_budget (ended finished) = finished
at_budget (ended used) = spent
at_budget (ended (blocked r)) = spent
at_budget (ended spent) = spent
at_budget (goes c) = spent

-- at most n more steps, after k
abbrev pub run : ℕ → List (Proc Plain) → ℕ → ℕ → Config → Ran
run h procs zero k c = record { how = at_budget (next h procs c); steps = k; config = c }
run h procs (suc n) k c = elim (next h procs c) [
  | ended how ↦ record { how = how; steps = k; config = c }
  | goes d ↦ run h procs n (suc k) d
]

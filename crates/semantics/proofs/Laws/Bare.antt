-- The evaluator and the two machines without reasons, as document 01 alone has them: line by line what stood in Memory, Step, Threads and Copy before
-- request #101. The machines are over an evaluator: document 01's is `eval`, which evaluates both sides of every `and`. No other definition uses these;
-- Forget says that they are those files without the reason, over today's evaluator, and where that one differs.
use Rattle.std.specs.Prelude.{ℕ, zero, suc, List, [], ◌∷◌, ◌++◌, Bool, true, false, length, set, eqb, pos, negsuc}
use Rattle.std.proofs.Math.Bool as B
use Rattle.value.specs.Maybe.{Maybe, is, nothing, ◌>>=◌, when, pick, either}
use Rattle.value.specs.Lists.{at}
use Rattle.value.proofs.Laws.Bare.{apply₁, apply₂, place, truth}
use Rattle.value.specs.declared.Value.{Value}
use Rattle.value.specs.declared.Value.TheVariants.{Whole, Location, Truth}
use Rattle.format.specs.Syntax.{Expr, constant, local, one, two, Instr, assign, write, read, while, if, call, atomic, select, Block, end, step, ◌⊕◌}
use Rattle.format.specs.Syntax.{Proc, Program, Plain}
use Rattle.semantics.specs.Memory.{Env, lookup, bound, Memory, stored, reading, writing, Event}
use Rattle.semantics.specs.Step.{Frame, Stack, Moved, quiet, entered, runs}
use Rattle.semantics.specs.Threads.{State, done, size, Atomic, Step}
use Rattle.semantics.specs.Copy.{Config, kept}

-- ---- Memory

-- document 01: "An operator with an operand that has no value, or of the wrong kind, has none itself"
abbrev pub eval : Env → Expr → Maybe Value
eval ρ (constant v) = is v
eval ρ (local x) = lookup ρ x
eval ρ (one o a) = eval ρ a >>= apply₁ o
eval ρ (two o a b) = eval ρ a >>= λ u. eval ρ b >>= λ v. apply₂ o u v

-- what gives expressions their values
abbrev pub Evaluator : Type 0
Evaluator = Env → Expr → Maybe Value

-- several expressions, all of which must have a value
abbrev pub evals : Evaluator → Env → List Expr → Maybe (List Value)
evals by ρ [] = is []
evals by ρ (e ∷ es) = by ρ e >>= λ v. evals by ρ es >>= λ vs. is (v ∷ vs)

-- a whole number that can be an index
abbrev pub index : Value → Maybe ℕ
index (Whole (pos n)) = is n
index (Whole (negsuc n)) = nothing
index (Location l) = nothing
index (Truth b) = nothing

-- the cell of an index of a location, if it is there
abbrev pub cell : Memory → ℕ → ℕ → Maybe Value
cell η l i = at η l >>= λ row. at row i

-- ---- Step

module _ {A : Type 0} (by : Evaluator) (procs : List (Proc A)) (t j : ℕ) where
  -- instruction i with tag a, first in procedure m, before c and above the frames s; a call has the report's condition that its procedure
  -- runs in no frame, which is never broken after rule 7
  abbrev pub instr : ℕ → Env → A → Instr A → Block A → Stack A → Memory → Maybe (Moved A)
  instr m ρ a (assign x e) c s η =
      by ρ e >>= λ v.
      is (quiet (record { proc = m; env = bound ρ x v; code = c } ∷ s) η)
  instr m ρ a (write y o e) c s η =
      by ρ e >>= λ v.
      by ρ o >>= index >>= λ i.
      lookup ρ y >>= place >>= λ l.
      cell η l i >>= λ _.
      is (record {
        stack = record { proc = m; env = ρ; code = c } ∷ s;
        memory = stored η l i v;
        events = record { thread = t; way = writing; place = l; index = i; value = v; label = j } ∷ [];
      })
  instr m ρ a (read x y o) c s η =
      by ρ o >>= index >>= λ i.
      lookup ρ y >>= place >>= λ l.
      cell η l i >>= λ v.
      is (record {
        stack = record { proc = m; env = bound ρ x v; code = c } ∷ s;
        memory = η;
        events = record { thread = t; way = reading; place = l; index = i; value = v; label = j } ∷ [];
      })
  instr m ρ a (while e b) c s η =
      by ρ e >>= truth >>= λ q.
      is (quiet (record { proc = m; env = ρ; code = pick q (b ⊕ step a (while e b) c) c } ∷ s) η)
  instr m ρ a (if e b d) c s η =
      by ρ e >>= truth >>= λ q.
      is (quiet (record { proc = m; env = ρ; code = pick q b d ⊕ c } ∷ s) η)
  instr m ρ a (call n es) c s η =
      evals by ρ es >>= λ vs.
      at procs n >>= λ p.
      when (B.not (either (eqb n m) (runs n s)))
      (is (quiet (entered n p vs ∷ record { proc = m; env = ρ; code = c } ∷ s) η))
  instr m ρ a (atomic b) c s η = nothing
  instr m ρ a (select x y) c s η = nothing

-- ---- Threads

module _ (by : Evaluator) (procs : List (Proc ℕ)) (t j : ℕ) where
  -- steps of a stack until one frame with no code is left, at most n of them
  abbrev pub to_end : ℕ → Stack ℕ → Memory → List Event → Maybe Atomic
  to_end zero [] η evs = nothing
  to_end zero (f ∷ s) η evs = elim f.code [ end ↦ is (record { env = f.env; memory = η; events = evs }) | step a i c ↦ nothing ]
  to_end (suc n) [] η evs = nothing
  to_end (suc n) (f ∷ s) η evs = elim f.code [
    | end ↦ is (record { env = f.env; memory = η; events = evs })
    | step a i c ↦ (instr by procs t j f.proc f.env a i c s η >>= λ r. to_end n r.stack r.memory (evs ++ r.events))
  ]

module _ (by : Evaluator) (procs : List (Proc ℕ)) (t : ℕ) where
  -- the first instruction of a thread's code: a whole atomic block, or one step
  abbrev pub first_instr : ℕ → Env → ℕ → Instr ℕ → Block ℕ → Stack ℕ → Memory → Maybe (Moved ℕ)
  first_instr m ρ a (atomic b) c s η =
      to_end by procs t a (size b) (record { proc = m; env = ρ; code = b } ∷ []) η [] >>= λ r.
      is (record { stack = record { proc = m; env = r.env; code = c } ∷ s; memory = r.memory; events = r.events })
  first_instr m ρ a (assign x e) c s η = instr by procs t a m ρ a (assign x e) c s η
  first_instr m ρ a (write y o e) c s η = instr by procs t a m ρ a (write y o e) c s η
  first_instr m ρ a (read x y o) c s η = instr by procs t a m ρ a (read x y o) c s η
  first_instr m ρ a (while e b) c s η = instr by procs t a m ρ a (while e b) c s η
  first_instr m ρ a (if e b d) c s η = instr by procs t a m ρ a (if e b d) c s η
  first_instr m ρ a (call n es) c s η = instr by procs t a m ρ a (call n es) c s η
  first_instr m ρ a (select x y) c s η = nothing

  -- the code of the top frame, or its return
  abbrev pub code : Block ℕ → ℕ → Env → Stack ℕ → Memory → Maybe (Moved ℕ)
  code end m ρ s η = is (record { stack = s; memory = η; events = [] })
  code (step a i c) m ρ s η = first_instr m ρ a i c s η

  -- a step of a thread; a finished one has none
  abbrev pub thread : Stack ℕ → Memory → Maybe (Moved ℕ)
  thread [] η = nothing
  thread (f ∷ s) η = code f.code f.proc f.env s η

-- thread t takes a step
abbrev pub thread_step : Evaluator → Program ℕ → ℕ → State → Maybe Step
thread_step by p t s =
    at s.threads t >>= λ stack.
    thread by p.procs t stack s.memory >>= λ r.
    is (record { state = record { threads = set s.threads t r.stack; memory = r.memory }; events = r.events })

-- finished, schedule used up, blocked; the last is a sequential run at its budget
pub data End : Type 0 where
  finished used blocked spent : End

-- a run: how it ended, its steps and unused entries, the state and the events
pub record Ran : Type 0 where
  pub how : End
  pub steps : ℕ
  pub unused : ℕ
  pub state : State
  pub events : List Event

-- under a schedule, from a state, after k steps and some events
abbrev pub run : Evaluator → Program ℕ → List ℕ → State → ℕ → List Event → Ran
run by p [] s k evs = elim (done s.threads) [
  | true ↦ record { how = finished; steps = k; unused = 0; state = s; events = evs }
  | false ↦ record { how = used; steps = k; unused = 0; state = s; events = evs }
]
run by p (t ∷ ts) s k evs = elim (done s.threads) [
  | true ↦ record { how = finished; steps = k; unused = suc (length ts); state = s; events = evs }
  | false ↦ elim (thread_step by p t s) [
    | nothing ↦ record { how = blocked; steps = k; unused = suc (length ts); state = s; events = evs }
    | is r ↦ run by p ts r.state (suc k) (evs ++ r.events)
  ]
]

-- ---- Copy

-- one step, or how the run ends
pub data Next : Type 0 where
  ended : End → Next
  goes : Config → Next

-- "a number other than 0"
abbrev pub running : Value → Bool
running (Whole (pos zero)) = false
running (Whole (pos (suc n))) = true
running (Whole (negsuc n)) = true
running (Location l) = false
running (Truth b) = false

-- a step of figure 1; "a missing value, a wrong kind or an index outside the size blocks"
abbrev pub moved : ℕ → List ℕ → ℕ → List Event → Maybe (Moved Plain) → Next
moved h ts t evs nothing = ended blocked
moved h ts t evs (is r) = goes (record { stack = r.stack; memory = r.memory; todo = ts; last = t; events = kept h evs r.events })

-- "writes t into a[0], without an event, if b[t] exists and is a number other than 0; else it blocks and takes none"
abbrev pub selected : ℕ → Memory → Frame Plain → Stack Plain → ℕ → List ℕ → List Event → Maybe Value → Next
selected a η f s t ts evs nothing = ended blocked
selected a η f s t ts evs (is v) = elim (running v) [
  | false ↦ ended blocked
  | true ↦ goes (record { stack = f ∷ s; memory = stored η a 0 (Whole (pos t)); todo = ts; last = t; events = evs })
]

-- "Select takes the next entry t"; "used up (select and no entry)"
abbrev pub choose : ℕ → ℕ → Memory → Frame Plain → Stack Plain → List ℕ → List Event → Next
choose a b η f s [] evs = ended used
choose a b η f s (t ∷ ts) evs = selected a η f s t ts evs (cell η b t)

-- the machine records the events of the locations below h
module _ (by : Evaluator) (h : ℕ) (procs : List (Proc Plain)) where
  -- an instruction before c, in procedure m with locals ρ above s
  abbrev pub copy_one : ℕ → Env → Instr Plain → Block Plain → Stack Plain → Memory → List ℕ → ℕ → List Event → Next
  copy_one m ρ (select a b) c s η ts t evs = choose a b η (record { proc = m; env = ρ; code = c }) s ts evs
  copy_one m ρ (assign x e) c s η ts t evs = moved h ts t evs (instr by procs t m m ρ tt (assign x e) c s η)
  copy_one m ρ (write y o e) c s η ts t evs = moved h ts t evs (instr by procs t m m ρ tt (write y o e) c s η)
  copy_one m ρ (read x y o) c s η ts t evs = moved h ts t evs (instr by procs t m m ρ tt (read x y o) c s η)
  copy_one m ρ (while e b) c s η ts t evs = moved h ts t evs (instr by procs t m m ρ tt (while e b) c s η)
  copy_one m ρ (if e b d) c s η ts t evs = moved h ts t evs (instr by procs t m m ρ tt (if e b d) c s η)
  copy_one m ρ (call n es) c s η ts t evs = moved h ts t evs (instr by procs t m m ρ tt (call n es) c s η)
  copy_one m ρ (atomic b) c s η ts t evs = ended blocked

  -- code, or a return
  abbrev pub copy_code : Block Plain → ℕ → Env → Stack Plain → Memory → List ℕ → ℕ → List Event → Next
  copy_code end m ρ s η ts t evs = goes (record { stack = s; memory = η; todo = ts; last = t; events = evs })
  copy_code (step a i c) m ρ s η ts t evs = copy_one m ρ i c s η ts t evs

  -- "Before each step a run is judged finished .."
  abbrev pub stack : Stack Plain → Memory → List ℕ → ℕ → List Event → Next
  stack [] η ts t evs = ended finished
  stack (f ∷ s) η ts t evs = copy_code f.code f.proc f.env s η ts t evs

  -- one step, or how the run ends here
  abbrev pub next : Config → Next
  next c = stack c.stack c.memory c.todo c.last c.events

-- how a run ended, its steps, and where
pub record CopyRan : Type 0 where
  pub how : End
  pub steps : ℕ
  pub config : Config

-- ".. at its budget, used up, blocked, in this order": finished comes first
abbrev pub at_budget : Next → End
at_budget (ended finished) = finished
at_budget (ended used) = spent
at_budget (ended blocked) = spent
at_budget (ended spent) = spent
at_budget (goes c) = spent

-- at most n more steps, after k
abbrev pub copy_run : Evaluator → ℕ → List (Proc Plain) → ℕ → ℕ → Config → CopyRan
copy_run by h procs zero k c = record { how = at_budget (next by h procs c); steps = k; config = c }
copy_run by h procs (suc n) k c = elim (next by h procs c) [
  | ended how ↦ record { how = how; steps = k; config = c }
  | goes d ↦ copy_run by h procs n (suc k) d
]

-- The concurrent machine: report RR-2017-03, figure 2, under a schedule. Document 01, "The two machines".
use Rattle.std.specs.Prelude.{ℕ, zero, suc, ◌+◌, List, [], ◌∷◌, ◌++◌, Bool, true, false, length, set}
use Rattle.value.specs.Maybe.{Maybe, is, nothing}
use Rattle.value.specs.Try.{Try, has, lacks, ◌⟫◌, or_lacks}
use Rattle.value.specs.Lists.{at}
use Rattle.format.specs.Syntax.{Instr, assign, write, read, while, if, call, atomic, select, Block, end, step, Proc, Program}
use Rattle.format.specs.Labels.{first, end_of}
use Rattle.semantics.specs.Memory.{Env, Memory, fresh, Event}
use Rattle.value.specs.declared.Reason.{Reason}
use Rattle.value.specs.declared.Reason.TheVariants.{WrongKind, FinishedThread}
use Rattle.semantics.specs.Step.{Stack, Moved, entered, instr}

-- a stack for each thread, and memory: report RR-2017-03, figure 2
pub record State : Type 0 where
  pub threads : List (Stack ℕ)
  pub memory : Memory

-- a thread's first frame
abbrev pub begun : ℕ → Maybe (Proc ℕ) → Stack ℕ
begun m (is q) = entered m q [] ∷ []
begun m nothing = []

-- one for each main
abbrev pub starts : List (Proc ℕ) → List ℕ → List (Stack ℕ)
starts ps [] = []
starts ps (m ∷ ms) = begun m (at ps m) ∷ starts ps ms

-- "Then per thread its main procedure"; "All cells start as number 0"
abbrev pub start : Program ℕ → State
start p = record { threads = starts p.procs p.mains; memory = fresh p.sizes }

-- all threads are finished
abbrev pub done : List (Stack ℕ) → Bool
done [] = true
done ([] ∷ ts) = done ts
done ((f ∷ s) ∷ ts) = false

-- how many instructions an atomic block can run
abbrev mutual
  pub size_i : {A : Type 0} → Instr A → ℕ
  size_i (assign x e) = 1
  size_i (write y o e) = 1
  size_i (read x y o) = 1
  size_i (while e b) = suc (size b)
  size_i (if e b c) = suc (size b + size c)
  size_i (call m es) = 1
  size_i (atomic b) = suc (size b)
  size_i (select x y) = 1

  -- the instructions of a block
  pub size : {A : Type 0} → Block A → ℕ
  size end = 0
  size (step a i b) = size_i i + size b

-- what an atomic block leaves
pub record Atomic : Type 0 where
  pub env : Env
  pub memory : Memory
  pub events : List Event

module _ (procs : List (Proc ℕ)) (t j : ℕ) where
  -- steps of a stack until one frame with no code is left, at most n of them
  abbrev pub to_end : ℕ → Stack ℕ → Memory → List Event → Try Atomic
  to_end zero [] η evs = lacks WrongKind
  to_end zero (f ∷ s) η evs = elim f.code [ end ↦ has (record { env = f.env; memory = η; events = evs }) | step a i c ↦ lacks WrongKind ]
  to_end (suc n) [] η evs = lacks WrongKind
  to_end (suc n) (f ∷ s) η evs = elim f.code [
    | end ↦ has (record { env = f.env; memory = η; events = evs })
    | step a i c ↦ (instr procs t j f.proc f.env a i c s η ⟫ λ r. to_end n r.stack r.memory (evs ++ r.events))
  ]

module _ (procs : List (Proc ℕ)) (t : ℕ) where
  -- the first instruction of a thread's code: a whole atomic block, or one step; its label is its tag, and "inside an atomic block it is the
  -- block's label"
  abbrev pub first_instr : ℕ → Env → ℕ → Instr ℕ → Block ℕ → Stack ℕ → Memory → Try (Moved ℕ)
  first_instr m ρ a (atomic b) c s η =
      to_end procs t a (size b) (record { proc = m; env = ρ; code = b } ∷ []) η [] ⟫ λ r.
      has (record { stack = record { proc = m; env = r.env; code = c } ∷ s; memory = r.memory; events = r.events })
  first_instr m ρ a (assign x e) c s η = instr procs t a m ρ a (assign x e) c s η
  first_instr m ρ a (write y o e) c s η = instr procs t a m ρ a (write y o e) c s η
  first_instr m ρ a (read x y o) c s η = instr procs t a m ρ a (read x y o) c s η
  first_instr m ρ a (while e b) c s η = instr procs t a m ρ a (while e b) c s η
  first_instr m ρ a (if e b d) c s η = instr procs t a m ρ a (if e b d) c s η
  first_instr m ρ a (call n es) c s η = instr procs t a m ρ a (call n es) c s η
  first_instr m ρ a (select x y) c s η = lacks WrongKind

  -- the code of the top frame, or its return
  abbrev pub code : Block ℕ → ℕ → Env → Stack ℕ → Memory → Try (Moved ℕ)
  code end m ρ s η = has (record { stack = s; memory = η; events = [] })
  code (step a i c) m ρ s η = first_instr m ρ a i c s η

  -- a step of a thread; "4 finished thread chosen"
  abbrev pub thread : Stack ℕ → Memory → Try (Moved ℕ)
  thread [] η = lacks FinishedThread
  thread (f ∷ s) η = code f.code f.proc f.env s η

-- what a step of a thread leaves
pub record Step : Type 0 where
  pub state : State
  pub events : List Event

-- thread t takes a step
abbrev pub thread_step : Program ℕ → ℕ → State → Try Step
thread_step p t s =
    or_lacks FinishedThread (at s.threads t) ⟫ λ stack.
    thread p.procs t stack s.memory ⟫ λ r.
    has (record { state = record { threads = set s.threads t r.stack; memory = r.memory }; events = r.events })

-- finished, schedule used up, blocked and why; the last is a sequential run at its budget
pub data End : Type 0 where
  finished used spent : End
  blocked : Reason → End

-- a run: how it ended, its steps and unused entries, the state and the events
pub record Ran : Type 0 where
  pub how : End
  pub steps : ℕ
  pub unused : ℕ
  pub state : State
  pub events : List Event

-- under a schedule, from a state, after k steps and some events
abbrev pub run : Program ℕ → List ℕ → State → ℕ → List Event → Ran
run p [] s k evs = elim (done s.threads) [
  | true ↦ record { how = finished; steps = k; unused = 0; state = s; events = evs }
  | false ↦ record { how = used; steps = k; unused = 0; state = s; events = evs }
]
run p (t ∷ ts) s k evs = elim (done s.threads) [
  | true ↦ record { how = finished; steps = k; unused = suc (length ts); state = s; events = evs }
  | false ↦ elim (thread_step p t s) [
    | lacks r ↦ record { how = blocked r; steps = k; unused = suc (length ts); state = s; events = evs }
    | has r ↦ run p ts r.state (suc k) (evs ++ r.events)
  ]
]

-- the label that a thread is at; 0 once it is finished
abbrev pub label_of : Program ℕ → Stack ℕ → ℕ
label_of p [] = 0
label_of p (f ∷ s) = first (end_of 1 p.procs f.proc) f.code

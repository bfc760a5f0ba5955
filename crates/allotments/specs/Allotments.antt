-- Allotments and their runs. Request #102: "k rounds, threads in rising order, each given from 0 to s steps in each round".
use Rattle.std.specs.Prelude.{ℕ, zero, suc, ◌/◌, ◌%◌, List, [], ◌∷◌, ◌++◌, Bool, true, false, length, replicate, ltb}
use Rattle.value.specs.Maybe.{Maybe, is, nothing, pick}
use Rattle.value.specs.Try.{has, lacks}
use Rattle.value.specs.Lists.{at}
use Rattle.format.specs.Syntax.{Program, Plain}
use Rattle.format.specs.Labels.{labelled}
use Rattle.semantics.specs.Step.{Stack}
use Rattle.semantics.specs.Threads.{State, thread_step, End, finished, used, blocked, spent}
use Rattle.semantics.specs.Threads as P
use Rattle.semantics.specs.Calls.{concurrent_run}

-- allotment number i, of n counts below b: i written to base b, "the first thread's first round varying slowest"
abbrev pub counts : ℕ → ℕ → ℕ → List ℕ
counts b zero i = []
counts b (suc n) i = counts b n (i / b) ++ (i % b ∷ [])

-- after thread t of T, "in rising order", round after round
abbrev pub next : ℕ → ℕ → ℕ
next T t = pick (ltb (suc t) T) (suc t) 0

-- the steps that counts allot, one by one, the first count to thread t of T
abbrev pub allotted : ℕ → ℕ → List ℕ → List ℕ
allotted T t [] = []
allotted T t (c ∷ cs) = replicate c t ++ allotted T (next T t) cs

-- a thread that has no frame is finished
abbrev pub rests : Maybe (Stack ℕ) → Bool
rests nothing = true
rests (is []) = true
rests (is (f ∷ s)) = false

-- "leaves out each step of a finished thread": the schedule of the others, from a state on. One that blocks is the last
abbrev pub taken : Program ℕ → List ℕ → State → List ℕ
taken p [] s = []
taken p (t ∷ ts) s = elim (rests (at s.threads t)) [
  | true ↦ taken p ts s
  | false ↦ elim (thread_step p t s) [
    | lacks r ↦ t ∷ []
    | has r ↦ t ∷ taken p ts r.state
  ]
]

-- the schedule of an allotment, by its counts
abbrev pub schedule_of : Program Plain → List ℕ → List ℕ
schedule_of p cs = let q : Program ℕ = labelled p in taken q (allotted (length p.mains) 0 cs) (P.start q)

-- its run: "the concurrent program's" under that schedule
abbrev pub run_of : Program Plain → List ℕ → P.Ran
run_of p cs = concurrent_run p (schedule_of p cs)

-- does a run that ended so block
abbrev pub blocks : End → Bool
blocks finished = false
blocks used = false
blocks spent = false
blocks (blocked r) = true

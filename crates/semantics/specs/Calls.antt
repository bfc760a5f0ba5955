-- What each run call answers and leaves in the lent buffers, for every input. Document 01, "Numbers of refusal": 1 to 8 of the
-- table, then 11 and 12. "A run answers 0 with its end, its steps, its unused entries and its events, those not written included."
use Rattle.std.specs.Prelude.{ℕ, ◌*◌, List, [], map, Bool, true, false, length, ltb, leb}
use Rattle.value.specs.Maybe.{both}
use Rattle.value.specs.Try.{reason_number}
use Rattle.value.specs.Lists.{all, sum, over}
use Rattle.value.specs.Values.{cell_size}
use Rattle.format.specs.Syntax.{Program, Plain, Kind, concurrent, sequential}
use Rattle.format.specs.Labels.{labelled}
use Rattle.format.specs.Rules.{Verdict, refused, accepted, verdict}
use Rattle.semantics.specs.declared.RunAnswer.{RunAnswer}
use Rattle.semantics.specs.Memory.{Memory, Event}
use Rattle.semantics.specs.Threads.{End, finished, used, blocked, spent}
use Rattle.semantics.specs.Threads as P
use Rattle.semantics.specs.Copy as C
use Rattle.semantics.specs.Buffers.{cells, log}

-- a number for each end: the paper has words only, and none for a run at its budget
abbrev pub end_number : End → ℕ
end_number finished = 0
end_number used = 1
end_number (blocked r) = 2
end_number spent = 3

-- why it blocked, "0 when not blocked"
abbrev pub reason_of : End → ℕ
reason_of finished = 0
reason_of used = 0
reason_of spent = 0
reason_of (blocked r) = reason_number r

-- "A refusal returns its number and zeros"
abbrev pub refusal : ℕ → RunAnswer
refusal n = record { number = n; end = 0; steps = 0; unused = 0; events = 0; reason = 0 }

-- its end, its steps, its unused entries, its events, its reason
abbrev pub ran : End → ℕ → ℕ → ℕ → RunAnswer
ran how steps unused events =
    record { number = 0; end = end_number how; steps = steps; unused = unused; events = events; reason = reason_of how }

-- an answer, and the lent buffers after the call
pub record Outcome : Type 0 where
  pub answer : RunAnswer
  pub cells : List ℕ
  pub events : List ℕ

-- "A refusal returns its number and zeros and writes nothing"
abbrev pub untouched : ℕ → List ℕ → List ℕ → Outcome
untouched n cs es = record { answer = refusal n; cells = cs; events = es }

-- "All other bytes stay"
abbrev pub result : End → ℕ → ℕ → Memory → List Event → List ℕ → List ℕ → Outcome
result how steps unused η evs cs es =
    record { answer = ran how steps unused (length evs); cells = over (cells η) cs; events = over (log (length es) evs) es }

-- 11: "schedule over 4,096 entries, or (concurrent) an entry not below T"
abbrev pub max_entries : ℕ
max_entries = 4096

-- may the schedule be run
abbrev pub scheduled : Kind → Program Plain → List ℕ → Bool
scheduled concurrent p ts = both (leb (length ts) max_entries) (all (λ t. ltb t (length p.mains)) ts)
scheduled sequential p ts = leb (length ts) max_entries

-- 12: "cell buffer shorter than 5 bytes a cell"
abbrev pub roomy : Program Plain → List ℕ → Bool
roomy p cs = leb (cell_size * sum p.sizes) (length cs)

-- the refusals of a run, in their order
abbrev pub run_as : Kind → Verdict → (Program Plain → Outcome) → List ℕ → List ℕ → List ℕ → Outcome
run_as k (refused n) go ts cs es = untouched n cs es
run_as k (accepted p) go ts cs es = elim (scheduled k p ts) [
  | false ↦ untouched 11 cs es
  | true ↦ elim (roomy p cs) [
    | false ↦ untouched 12 cs es
    | true ↦ go p
  ]
]

-- ---- the concurrent run

-- the run itself
abbrev pub concurrent_run : Program Plain → List ℕ → P.Ran
concurrent_run p ts = let q : Program ℕ = labelled p in P.run q ts (P.start q) 0 []

-- what it leaves in the lent buffers
abbrev pub concurrent_outcome : List ℕ → List ℕ → List ℕ → Program Plain → Outcome
concurrent_outcome ts cs es p =
    let r : P.Ran = concurrent_run p ts in
    result r.how r.steps r.unused r.state.memory r.events cs es

-- the call, on table t and schedule ts, with the lent buffers cs for cells and es for events
abbrev pub concurrent_call : List ℕ → List ℕ → List ℕ → List ℕ → Outcome
concurrent_call t ts cs es = run_as concurrent (verdict concurrent t) (concurrent_outcome ts cs es) ts cs es

-- ---- the plain run: request #109

-- "events (0 in their label bytes)"
abbrev pub unlabelled : Event → Event
unlabelled e = record { thread = e.thread; way = e.way; place = e.place; index = e.index; value = e.value; label = 0 }

-- "the same end, reason, cells, counts and events" otherwise: the same run
abbrev pub plain_outcome : List ℕ → List ℕ → List ℕ → Program Plain → Outcome
plain_outcome ts cs es p =
    let r : P.Ran = concurrent_run p ts in
    result r.how r.steps r.unused r.state.memory (map unlabelled r.events) cs es

-- "It refuses exactly what the first refuses"
abbrev pub plain_call : List ℕ → List ℕ → List ℕ → List ℕ → Outcome
plain_call t ts cs es = run_as concurrent (verdict concurrent t) (plain_outcome ts cs es) ts cs es

-- ---- the sequential run

-- a budget of n steps; "records only locations below h"
abbrev pub sequential_run : ℕ → ℕ → Program Plain → List ℕ → C.Ran
sequential_run n h p ts = C.run h p.procs n 0 (C.start p ts)

-- what it leaves in the lent buffers
abbrev pub sequential_outcome : ℕ → ℕ → List ℕ → List ℕ → List ℕ → Program Plain → Outcome
sequential_outcome n h ts cs es p =
    let r : C.Ran = sequential_run n h p ts in
    result r.how r.steps (length r.config.todo) r.config.memory r.config.events cs es

-- the call, on table t and schedule ts, with the lent buffers cs for cells and es for events
abbrev pub sequential_call : ℕ → ℕ → List ℕ → List ℕ → List ℕ → List ℕ → Outcome
sequential_call n h t ts cs es = run_as sequential (verdict sequential t) (sequential_outcome n h ts cs es) ts cs es

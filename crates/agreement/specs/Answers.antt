-- What the two runs answer where the lent buffers are large enough: "It lends buffers that are large enough and gives the copy
-- demand 3's budget."
use Rattle.std.specs.Prelude.{ℕ, List, true, false, length, eqb}
use Rattle.value.specs.Maybe.{pick}
use Rattle.format.specs.Syntax.{Program, Plain, Kind, concurrent, sequential}
use Rattle.format.specs.Rules.{Verdict, refused, accepted, verdict}
use Rattle.semantics.specs.Threads as P
use Rattle.semantics.specs.Copy as C
use Rattle.semantics.specs.declared.RunAnswer.{RunAnswer}
use Rattle.semantics.specs.Calls.{refusal, ran, scheduled, concurrent_run, sequential_run}
use Rattle.agreement.specs.declared.Figures.{Figures}
use Rattle.agreement.specs.Agreement.{budget}
use Rattle.agreement.specs.Figures as Told

-- by the verdict on the table, then 11; 12 cannot occur
abbrev pub answer_as : Kind → Verdict → (Program Plain → RunAnswer) → List ℕ → RunAnswer
answer_as k (refused n) go ts = refusal n
answer_as k (accepted p) go ts = elim (scheduled k p ts) [ false ↦ refusal 11 | true ↦ go p ]

-- of the concurrent table t under schedule ts
unfoldable pub program_answer : List ℕ → List ℕ → RunAnswer
program_answer t ts = answer_as concurrent (verdict concurrent t) (λ p.
    let r : P.Ran = concurrent_run p ts in
    ran r.how r.steps r.unused (length r.events)) ts

-- of the sequential table t under schedule ts, with events of locations below h
unfoldable pub copy_answer : List ℕ → List ℕ → ℕ → RunAnswer
copy_answer t ts h = answer_as sequential (verdict sequential t) (λ p.
    let r : C.Ran = sequential_run budget h p ts in
    ran r.how r.steps (length r.config.todo) (length r.config.events)) ts

-- the run program's figures, from the answers of the program's run and of its copy's
unfoldable pub compared : RunAnswer → RunAnswer → Figures
compared r s = pick (eqb r.number 0)
    (record { number = 0; end = r.end; steps = r.steps; copy = s.steps; unused = r.unused; events = r.events; reason = r.reason })
    (Told.refusal r.number)

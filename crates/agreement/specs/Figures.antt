-- What the run program tells of a table and a schedule: document 01, "Worked by hand", its last paragraph.
use Rattle.std.specs.Prelude.{ℕ, List, true, false, length, ltb}
use Rattle.format.specs.Syntax.{Program, Plain, concurrent, sequential}
use Rattle.format.specs.Encode.{table}
use Rattle.format.specs.Rules.{Verdict, refused, accepted, verdict, limits}
use Rattle.translation.specs.declared.Mode.{Mode}
use Rattle.translation.specs.Translate.{translate_in}
use Rattle.semantics.specs.Threads as P
use Rattle.semantics.specs.Copy as C
use Rattle.semantics.specs.Calls.{end_number, reason_of, scheduled}
use Rattle.agreement.specs.declared.Figures.{Figures}
use Rattle.agreement.specs.Agreement.{program_run, copy_run, budget}

-- "A refusal prints refused N"
abbrev pub refusal : ℕ → Figures
refusal n = record { number = n; end = 0; steps = 0; copy = 0; unused = 0; events = 0; reason = 0 }

-- "the program's end and steps, the copy's steps, the program's unused entries and shared events"; request #101: the program's reason, "0 when not
-- blocked"
abbrev pub figures : P.Ran → C.Ran → Figures
figures r c = record {
  number = 0;
  end = end_number r.how;
  steps = r.steps;
  copy = c.steps;
  unused = r.unused;
  events = length r.events;
  reason = reason_of r.how;
}

-- of an accepted program: 9, then 11. "It lends buffers that are large enough and gives the copy demand 3's budget." The copy is that of a
-- mode.
abbrev pub figures_of : Mode → Program Plain → List ℕ → Figures
figures_of mode p ts = elim (ltb (limits sequential).bytes (length (table sequential (translate_in mode p)))) [
  | true ↦ refusal 9
  | false ↦ elim (scheduled concurrent p ts) [
    | false ↦ refusal 11
    | true ↦ figures (program_run p ts) (copy_run (translate_in mode p) budget p ts)
  ]
]

-- by the verdict on the table
abbrev pub figures_as : Mode → Verdict → List ℕ → Figures
figures_as mode (refused n) ts = refusal n
figures_as mode (accepted p) ts = figures_of mode p ts

-- the call, in a mode, on concurrent table t and schedule ts
abbrev pub figures_call : Mode → List ℕ → List ℕ → Figures
figures_call mode t ts = figures_as mode (verdict concurrent t) ts

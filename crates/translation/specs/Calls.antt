-- What the translator's call answers and leaves in the lent buffer, for every input. Document 01, "Numbers of refusal": 1 to 8 of
-- the concurrent table, then 9 and 10. "An accepted translation writes its length of bytes and no more."
use Rattle.std.specs.Prelude.{ℕ, List, true, false, length, ltb}
use Rattle.value.specs.Lists.{over}
use Rattle.format.specs.Syntax.{concurrent, sequential}
use Rattle.format.specs.Encode.{table}
use Rattle.format.specs.Rules.{Verdict, refused, accepted, verdict, limits}
use Rattle.translation.specs.declared.WriteAnswer.{WriteAnswer}
use Rattle.translation.specs.declared.Mode.{Mode}
use Rattle.translation.specs.Translate.{translate_in}

-- "A refusal returns its number and zeros"
abbrev pub refusal : ℕ → WriteAnswer
refusal n = record { number = n; length = 0 }

-- so many bytes
abbrev pub written : ℕ → WriteAnswer
written n = record { number = 0; length = n }

-- an answer, and the lent buffer after the call
pub record Written : Type 0 where
  pub answer : WriteAnswer
  pub out : List ℕ

-- 10: "output buffer too short for it"
abbrev pub writes : List ℕ → List ℕ → Written
writes new out = elim (ltb (length out) (length new)) [
  | true ↦ record { answer = refusal 10; out = out }
  | false ↦ record { answer = written (length new); out = over new out }
]

-- 9: "the sequential table would pass 65,536 bytes"
abbrev pub writes_table : List ℕ → List ℕ → Written
writes_table new out = elim (ltb (limits sequential).bytes (length new)) [
  | true ↦ record { answer = refusal 9; out = out }
  | false ↦ writes new out
]

-- by the verdict on the concurrent table; request #107: "Numbers 9 and 10 use the chosen mode's length"
abbrev pub translate_as : Mode → Verdict → List ℕ → Written
translate_as mode (refused n) out = record { answer = refusal n; out = out }
translate_as mode (accepted p) out = writes_table (table sequential (translate_in mode p)) out

-- the call, in a mode, on concurrent table t with the lent buffer out
abbrev pub translate_call : Mode → List ℕ → List ℕ → Written
translate_call mode t out = translate_as mode (verdict concurrent t) out

-- Request 107's example C, run: "Schedule of eight 0: finished 8 205 0 0 in both modes".
use Rattle.std.specs.Prelude.{ℕ, ◌≡◌, refl, List, [], ◌∷◌, ◌++◌, replicate}
use Rattle.value.specs.Values.{bytes}
use Rattle.format.specs.Syntax.{concurrent, sequential}
use Rattle.format.specs.Encode.{table}
use Rattle.translation.specs.declared.Mode.{Mode}
use Rattle.translation.specs.declared.Mode.TheVariants.{Own, Shared}
use Rattle.translation.specs.Placement.{largest, callers, by_rounds}
use Rattle.translation.specs.Translate.{translate_in}
use Rattle.translation.specs.Calls.{translate_call}
use Rattle.translation.proofs.Worked.{C}
use Rattle.semantics.specs.Calls.{sequential_call}
use Rattle.agreement.specs.Agreement.{budget}
use Rattle.agreement.specs.Line.{finished_word, digits, numbers, line, told, printed}
use Rattle.agreement.proofs.Worked.{write_numbers, run_numbers}

-- eight entries of thread 0
abbrev pub eight : List ℕ
eight = replicate 8 0

-- C's copy in a mode, run
abbrev copied : Mode → List ℕ
copied mode = run_numbers (sequential_call budget 0 (table sequential (translate_in mode C)) eight (replicate 45 0) []).answer

-- EXAMPLE C IN BOTH MODES
pub reused :
    -- the run program, whose copy is the old mode's
    (printed (bytes 2 8 ++ (eight ++ table concurrent C))
    ≡ finished_word ++ (32 ∷ 56 ∷ 32 ∷ 50 ∷ 48 ∷ 53 ∷ 32 ∷ 48 ∷ 32 ∷ 48 ∷ 32 ∷ 48 ∷ 10 ∷ []))
    × (copied Own ≡ 0 ∷ 0 ∷ 205 ∷ 0 ∷ 0 ∷ 0 ∷ [])
    × (copied Shared ≡ 0 ∷ 0 ∷ 205 ∷ 0 ∷ 0 ∷ 0 ∷ [])
    -- "Numbers 9 and 10 use the chosen mode's length": a buffer of 563 bytes is enough in one mode only
    × (write_numbers (translate_call Own (table concurrent C) (replicate 563 0)).answer ≡ 10 ∷ 0 ∷ [])
    × (write_numbers (translate_call Shared (table concurrent C) (replicate 563 0)).answer ≡ 0 ∷ 563 ∷ [])
    × (write_numbers (translate_call Shared (table concurrent C) (replicate 562 0)).answer ≡ 10 ∷ 0 ∷ [])
unfolding digits numbers line told by_rounds largest callers
reused = (refl, refl, refl, refl, refl, refl)

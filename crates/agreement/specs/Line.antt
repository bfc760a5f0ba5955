-- The run program's line: document 01, "Worked by hand", its last paragraph. Bytes are ASCII.
use Rattle.std.specs.Prelude.{ℕ, zero, suc, ◌+◌, ◌/◌, ◌%◌, List, [], ◌∷◌, ◌++◌, true, false, length, take, drop, ltb, eqb}
use Rattle.value.specs.Maybe.{pick}
use Rattle.value.specs.Lists.{over}
use Rattle.value.specs.Values.{unbytes}
use Rattle.format.specs.Rules.{limits}
use Rattle.format.specs.Syntax.{concurrent}
use Rattle.translation.specs.declared.Mode.TheVariants.{Own}
use Rattle.semantics.specs.Calls.{max_entries}
use Rattle.agreement.specs.declared.Figures.{Figures}
use Rattle.agreement.specs.Figures.{refusal, figures_call}

-- ---- words

-- "finished"
abbrev pub finished_word : List ℕ
finished_word = 102 ∷ 105 ∷ 110 ∷ 105 ∷ 115 ∷ 104 ∷ 101 ∷ 100 ∷ []

-- "used"
abbrev pub used_word : List ℕ
used_word = 117 ∷ 115 ∷ 101 ∷ 100 ∷ []

-- "blocked"
abbrev pub blocked_word : List ℕ
blocked_word = 98 ∷ 108 ∷ 111 ∷ 99 ∷ 107 ∷ 101 ∷ 100 ∷ []

-- "refused"
abbrev pub refused_word : List ℕ
refused_word = 114 ∷ 101 ∷ 102 ∷ 117 ∷ 115 ∷ 101 ∷ 100 ∷ []

-- "Ends are written finished, used, blocked": by the end's number, `end_number` of Calls; a program is never at a budget
abbrev pub end_word : ℕ → List ℕ
end_word zero = finished_word
end_word (suc zero) = used_word
end_word (suc (suc n)) = blocked_word

-- ---- numbers

-- the digits of n, at most so many of them
unfoldable pub digits : ℕ → ℕ → List ℕ
digits zero n = []
digits (suc k) n = elim (ltb n 10) [ true ↦ (48 + n) ∷ [] | false ↦ digits k (n / 10) ++ ((48 + n % 10) ∷ []) ]

-- n in decimal: 20 digits are enough for 64 bits
abbrev pub decimal : ℕ → List ℕ
decimal n = digits 20 n

-- a space, then n
abbrev pub spaced : ℕ → List ℕ
spaced n = 32 ∷ decimal n

-- ---- the line

-- one newline ends the line
abbrev pub newline : List ℕ
newline = 10 ∷ []

-- "A refusal prints refused N"
abbrev pub refused_line : ℕ → List ℕ
refused_line n = refused_word ++ (spaced n ++ newline)

-- five numbers end a line
unfoldable pub numbers : ℕ → ℕ → ℕ → ℕ → ℕ → List ℕ
numbers a b c d e = spaced a ++ (spaced b ++ (spaced c ++ (spaced d ++ (spaced e ++ newline))))

-- "It prints one line: the program's end and steps, the copy's steps, the program's unused entries and shared events"; request #101, of
-- the reason: "the printed line gets it as a sixth field (0 when not blocked)"
unfoldable pub line : Figures → List ℕ
line f =
    pick (eqb f.number 0)
    (end_word f.end ++ numbers f.steps f.copy f.unused f.events f.reason)
    (refused_line f.number)

-- ---- the input

-- "a schedule length (2 bytes), the schedule, a concurrent table"
abbrev pub schedule_of : List ℕ → List ℕ
schedule_of input = take (unbytes (take 2 input)) (drop 2 input)

-- what comes after the schedule: "If the input ends before the schedule does, the table is empty"
abbrev pub table_of : List ℕ → List ℕ
table_of input = drop (unbytes (take 2 input)) (drop 2 input)

-- "an input over 20,482 bytes is answered 2": the schedule's length, the longest schedule, the longest table
abbrev pub max_input : ℕ
max_input = 2 + max_entries + (limits concurrent).bytes

-- the figures of an input, in the old mode
unfoldable pub told : List ℕ → Figures
told input = pick (ltb max_input (length input)) (refusal 2) (figures_call Own (table_of input) (schedule_of input))

-- the program: what it prints for its standard input
abbrev pub printed : List ℕ → List ℕ
printed input = line (told input)

-- ---- the call

-- the line's length, and the lent buffer after the call
pub record Lined : Type 0 where
  pub count : ℕ
  pub out : List ℕ

-- a line at the start of a lent buffer; all other bytes stay
unfoldable pub lined : List ℕ → List ℕ → Lined
lined l out = record { count = length l; out = over l out }

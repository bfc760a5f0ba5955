-- What the printer's and the text reader's calls answer and leave in the lent buffer, for every input. Document 02, request #106: "Print an
-- accepted sequential table as C11 text", "A reader for exactly that text gives back the table, byte by byte, and refuses all other text".
use Rattle.std.specs.Prelude.{ℕ, zero, suc, List, [], ◌∷◌, ◌++◌, map, Bool, true, false, eqb}
use Rattle.value.specs.Maybe.{Maybe, is, nothing, both}
use Rattle.value.specs.Lists.{upto}
use Rattle.format.specs.Syntax.{sequential}
use Rattle.format.specs.Rules.{Verdict, refused, accepted, verdict, limits}
use Rattle.translation.specs.Calls.{Written, refusal, writes}
use Rattle.ctext.specs.Text.{text}

-- ---- print

-- by the verdict on the sequential table: "Text that doesn't fit the buffer is answered by 10"
abbrev pub print_as : Verdict → List ℕ → Written
print_as (refused n) out = record { answer = refusal n; out = out }
print_as (accepted p) out = writes (text p) out

-- the call, on sequential table t with the lent buffer out
unfoldable pub print_call : List ℕ → List ℕ → Written
print_call t out = print_as (verdict sequential t) out

-- ---- read text

-- the same bytes
abbrev pub same_bytes : List ℕ → List ℕ → Bool
same_bytes [] [] = true
same_bytes [] (b ∷ bs) = false
same_bytes (a ∷ l) [] = false
same_bytes (a ∷ l) (b ∷ bs) = both (eqb a b) (same_bytes l bs)

-- is x the text of this table
abbrev pub text_as : Verdict → List ℕ → Bool
text_as (refused n) x = false
text_as (accepted p) x = same_bytes (text p) x

-- the first that passes
unfoldable pub find : {A : Type 0} → (A → Bool) → List A → Maybe A
find f [] = nothing
find f (a ∷ l) = elim (f a) [ true ↦ is a | false ↦ find f l ]

-- each of some bytes before each of some lists
abbrev pub longer : List ℕ → List (List ℕ) → List (List ℕ)
longer [] ls = []
longer (b ∷ bs) ls = map (λ l. b ∷ l) ls ++ longer bs ls

-- all lists of at most n bytes
unfoldable pub all_bytes : ℕ → List (List ℕ)
all_bytes zero = [] ∷ []
all_bytes (suc n) = [] ∷ longer (upto 0 256) (all_bytes n)

-- the table whose text x is. It is defined by a search through all tables, which nobody makes; Laws/Reads says what is found.
unfoldable pub untext : List ℕ → Maybe (List ℕ)
untext x = find (λ t. text_as (verdict sequential t) x) (all_bytes (limits sequential).bytes)

-- "text that isn't ours by 1", and 10 as above
abbrev pub read_as : Maybe (List ℕ) → List ℕ → Written
read_as nothing out = record { answer = refusal 1; out = out }
read_as (is t) out = writes t out

-- the call, on text x with the lent buffer out
unfoldable pub read_text_call : List ℕ → List ℕ → Written
read_text_call x out = read_as (untext x) out

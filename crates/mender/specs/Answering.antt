-- What the mender answers of a table that is neither too short nor too long, and not accepted as it is.
use Rattle.std.specs.Prelude.{ℕ, ◌≡◌, true, false, List, ◌++◌, length, Option, Some, None, Result, Ok, Err}
use Rattle.basics.specs.Refusals.{refusal_number}
use Rattle.basics.specs.declared.refusals.Refusal.{Refusal}
use Rattle.value.proofs.Laws.Bytes.{Bytes}
use Rattle.format.specs.Syntax.{Kind}
use Rattle.format.specs.Encode.{trailer_size}
use Rattle.format.specs.Decode.{but}
use Rattle.mending.specs.Mending.{with_trailer, acceptable, Outcome, become, mend_by, mend_call}
use Rattle.mending.specs.declared.MendAnswer.{MendAnswer}
use Rattle.mender.specs.declared.trailer.Counts.{Counts}
use Rattle.mender.specs.Trailing.{trailer_as}

-- an answer, and the lent buffers
abbrev pub left : MendAnswer → List ℕ → List ℕ → Outcome
left r t l = record { answer = r; table = t; list = l }

-- the paper's answer, from the number of changed bytes, if any had to change, or the reason of a refusal
abbrev pub answer_of : Result (Option ℕ) Refusal → MendAnswer
answer_of (Ok (Some n)) = record { refusal = 0; mended = true; changes = n }
answer_of (Ok None) = record { refusal = 0; mended = false; changes = 0 }
answer_of (Err why) = record { refusal = refusal_number why; mended = false; changes = 0 }

-- where some byte had to change
abbrev pub some_of : Result ℕ Refusal → MendAnswer
some_of (Ok n) = answer_of (Ok (Some n))
some_of (Err why) = answer_of (Err why)

-- the table, when a refusal has put the old bytes back
abbrev pub settled : List ℕ → List ℕ → Result ℕ Refusal → List ℕ
settled old t (Ok n) = t
settled old t (Err why) = but trailer_size t ++ old

-- the table with the old bytes becomes the one with that trailer, but that a refusal has not put them back
pub record Becomes (k : Kind) (t : List ℕ) (c : Counts) (old l t' l' : List ℕ) (r : Result ℕ Refusal) : Type 0 where
  pub same : left (some_of r) (settled old t' r) l' ≡ become (but trailer_size t ++ old) (with_trailer t (trailer_as k t c)) l

-- mended by the list of acceptable trailers, but that a refusal has not put them back
pub record MendsBut (k : Kind) (t old l t' l' : List ℕ) (r : Result ℕ Refusal) : Type 0 where
  pub same : Bytes t → left (some_of r) (settled old t' r) l' ≡ mend_by t l (acceptable k t)
  pub length : length t' ≡ length t

-- mended by it
pub record Mends (k : Kind) (t l t' l' : List ℕ) (r : Result ℕ Refusal) : Type 0 where
  pub same : Bytes t → left (some_of r) t' l' ≡ mend_by t l (acceptable k t)

-- what the call does
pub record Called (k : Kind) (t l t' l' : List ℕ) (r : Result (Option ℕ) Refusal) : Type 0 where
  pub same : left (answer_of r) t' l' ≡ mend_call k t l

-- What the mender answers and leaves in the table and the list of changes, for every input. Request #108: "it overwrites the last sixteen with
-- the trailer for the one choice of the three counts that makes an acceptable table of that length, and lists each changed byte".
use Rattle.std.specs.Prelude.{ℕ, zero, suc, ◌-◌, ◌*◌, List, [], ◌∷◌, ◌++◌, Bool, true, false, length, ltb, eqb}
use Rattle.value.specs.Maybe.{pick}
use Rattle.value.specs.Lists.{upto, over}
use Rattle.value.specs.Values.{bytes}
use Rattle.format.specs.Syntax.{Kind, concurrent, sequential}
use Rattle.format.specs.Encode.{each, Trailer, trailer, trailer_size, kind_mark, form_mark, distance}
use Rattle.format.specs.Decode.{but}
use Rattle.format.specs.Rules.{Limits, limits, Verdict, refused, accepted, verdict}
use Rattle.mending.specs.declared.MendAnswer.{MendAnswer}

-- ---- the acceptable trailers

-- the numbers from one to another
abbrev pub range : ℕ → ℕ → List ℕ
range lo hi = upto lo (suc hi - lo)

-- the lists of things, one after the other
abbrev pub gather : {A B : Type 0} → List A → (A → List B) → List B
gather [] f = []
gather (x ∷ xs) f = f x ++ gather xs f

-- the trailer for P, M, T of a table of n bytes
abbrev pub trailer_for : Kind → ℕ → ℕ → ℕ → ℕ → Trailer
trailer_for k n P M T =
    record { kind = kind_mark k; mark = form_mark; procs = P; places = M; threads = T; back = distance P M T; whole = n }

-- the table with another trailer: "Bytes before the last sixteen are never changed"
abbrev pub with_trailer : List ℕ → Trailer → List ℕ
with_trailer t r = but trailer_size t ++ trailer r

-- by the verdict
abbrev pub passes : Verdict → Bool
passes (refused n) = false
passes (accepted p) = true

-- is it accepted
abbrev pub accepts : Kind → List ℕ → Bool
accepts k t = passes (verdict k t)

-- a trailer, if it makes an acceptable table
abbrev pub kept : Kind → List ℕ → Trailer → List Trailer
kept k t r = pick (accepts k (with_trailer t r)) (r ∷ []) []

-- the acceptable ones among those of all counts within the bounds
abbrev pub acceptable : Kind → List ℕ → List Trailer
acceptable k t =
    let m : Limits = limits k in
    gather (range 1 m.procs) λ P.
    gather (range m.fewest m.threads) λ T.
    gather (range 0 m.places) λ M.
    kept k t (trailer_for k (length t) P M T)

-- ---- the list of changes

-- a changed byte: its place, its old and its new value
pub record Change : Type 0 where
  pub place : ℕ
  pub old : ℕ
  pub new : ℕ

-- "each changed byte, by rising place, with its old and new value", from place i on
abbrev pub changes_from : ℕ → List ℕ → List ℕ → List Change
changes_from i [] v = []
changes_from i (a ∷ u) [] = []
changes_from i (a ∷ u) (b ∷ v) =
    let rest : List Change = changes_from (suc i) u v in
    pick (eqb a b) rest (record { place = i; old = a; new = b } ∷ rest)

-- "place 4 bytes, old, new"
abbrev pub change_bytes : Change → List ℕ
change_bytes c = bytes 4 c.place ++ (c.old ∷ c.new ∷ [])

-- the bytes of one
abbrev pub change_size : ℕ
change_size = 6

-- ---- the call

-- an answer, and the lent buffers after the call
pub record Outcome : Type 0 where
  pub answer : MendAnswer
  pub table : List ℕ
  pub list : List ℕ

-- "A refusal writes nothing"; 0: "nothing to mend"
abbrev pub untouched : ℕ → List ℕ → List ℕ → Outcome
untouched n t l = record { answer = record { refusal = n; mended = false; changes = 0 }; table = t; list = l }

-- t becomes u; "too short a list buffer is 10"
abbrev pub become : List ℕ → List ℕ → List ℕ → Outcome
become t u l =
    let cs : List Change = changes_from 0 t u in
    elim (ltb (length l) (change_size * length cs)) [
      | true ↦ untouched 10 t l
      | false ↦ record {
        answer = record { refusal = 0; mended = true; changes = length cs };
        table = u;
        list = over (each change_bytes cs) l;
      }
    ]

-- "14 if no choice is acceptable, 15 if more than one is"
abbrev pub mend_by : List ℕ → List ℕ → List Trailer → Outcome
mend_by t l [] = untouched 14 t l
mend_by t l (r ∷ []) = become t (with_trailer t r) l
mend_by t l (r ∷ s ∷ rs) = untouched 15 t l

-- the kind wanted by its number, for callers that have no enum: 0 concurrent, any other sequential
abbrev pub kind_numbered : ℕ → Kind
kind_numbered zero = concurrent
kind_numbered (suc n) = sequential

-- the call, on table t of the kind wanted, with the lent buffer l for the list: "under 16 bytes 1, over length 2"
abbrev pub mend_call : Kind → List ℕ → List ℕ → Outcome
mend_call k t l = elim (ltb (length t) trailer_size) [
  | true ↦ untouched 1 t l
  | false ↦ elim (ltb (limits k).bytes (length t)) [
    | true ↦ untouched 2 t l
    | false ↦ elim (accepts k t) [
      | true ↦ untouched 0 t l
      | false ↦ mend_by t l (acceptable k t)
    ]
  ]
]

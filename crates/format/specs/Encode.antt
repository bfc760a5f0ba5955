-- A program's bytes: document 01, the mark tables and "A table".
use Rattle.std.specs.Prelude.{ℕ, ◌+◌, ◌*◌, List, [], ◌∷◌, ◌++◌, true, false, length}
use Rattle.value.specs.Values.{bytes, word}
use Rattle.value.specs.Marks.{mark₁, mark₂}
use Rattle.value.specs.declared.Value.{Value}
use Rattle.value.specs.declared.Value.TheVariants.{Whole, Location, Truth}
use Rattle.format.specs.Syntax.{Expr, constant, local, one, two}
use Rattle.format.specs.Syntax.{Instr, assign, write, read, while, if, call, atomic, select, Block, end, step, Proc}
use Rattle.format.specs.Syntax.{Program, Kind, concurrent, sequential}

-- a constant: "01 + 4 bytes: whole number, two's complement; 02 + 2 bytes: location; 03, 04: false, true"
abbrev constants : Value → List ℕ
constants (Whole z) = 0x01 ∷ bytes 4 (word z)
constants (Location l) = 0x02 ∷ bytes 2 l
constants (Truth false) = 0x03 ∷ []
constants (Truth true) = 0x04 ∷ []

-- "Prefix order; numbers of several bytes are low byte first"
abbrev pub expr : Expr → List ℕ
expr (constant v) = constants v
expr (local x) = 0x05 ∷ x ∷ []
expr (one o a) = mark₁ o ∷ expr a
expr (two o a b) = mark₂ o ∷ expr a ++ expr b

-- things one after the other, each as its own bytes
abbrev pub each : {A : Type 0} → (A → List ℕ) → List A → List ℕ
each item [] = []
each item (x ∷ xs) = item x ++ each item xs

abbrev mutual
  -- document 01, "Instructions", the table
  pub instr : {A : Type 0} → Instr A → List ℕ
  instr (assign x e) = 0x20 ∷ x ∷ expr e
  instr (write y o e) = 0x21 ∷ y ∷ expr o ++ expr e
  instr (read x y o) = 0x22 ∷ x ∷ y ∷ expr o
  instr (while e b) = 0x23 ∷ expr e ++ block b
  instr (if e b c) = 0x24 ∷ expr e ++ (block b ++ block c)
  instr (call m es) = 0x25 ∷ bytes 2 m ++ (length es ∷ each expr es)
  instr (atomic b) = 0x26 ∷ block b
  instr (select a b) = 0x27 ∷ bytes 2 a ++ bytes 2 b

  -- "a block ends with byte 00"
  pub block : {A : Type 0} → Block A → List ℕ
  block end = 0x00 ∷ []
  block (step a i b) = instr i ++ block b

-- ---- a table

-- the record of a procedure: its body begins at `at`
pub record Head : Type 0 where
  pub params : ℕ
  pub locals : ℕ
  pub at : ℕ

-- "per procedure 6 bytes"
abbrev pub record_size : ℕ
record_size = 6

-- "parameters, locals, body offset (4)"
abbrev pub head : Head → List ℕ
head h = h.params ∷ h.locals ∷ bytes 4 h.at

-- the records of procedures whose first body begins at `at`
abbrev pub heads : {A : Type 0} → ℕ → List (Proc A) → List Head
heads at [] = []
heads at (p ∷ ps) = record { params = p.params; locals = p.locals; at = at } ∷ heads (at + length (block p.body)) ps

-- the part between the bodies and the trailer
pub record Middle : Type 0 where
  pub heads : List Head
  pub sizes : List ℕ
  pub mains : List ℕ

-- records, then "per location its size (2)", then "per thread its main procedure (2)"
abbrev pub middle : Middle → List ℕ
middle m = each head m.heads ++ (each (bytes 2) m.sizes ++ each (bytes 2) m.mains)

-- "Last a 16-byte trailer"
abbrev pub trailer_size : ℕ
trailer_size = 16

-- what it says
pub record Trailer : Type 0 where
  pub kind : ℕ
  pub mark : ℕ
  pub procs : ℕ
  pub places : ℕ
  pub threads : ℕ
  pub back : ℕ
  pub whole : ℕ

-- "43 50 .. or 53 50 ..; P, M, T (2 each); the distance .. (4); the whole length (4)"
abbrev pub trailer : Trailer → List ℕ
trailer r = r.kind ∷ r.mark ∷ bytes 2 r.procs ++ (bytes 2 r.places ++ (bytes 2 r.threads ++ (bytes 4 r.back ++ bytes 4 r.whole)))

-- "43 50 concurrent or 53 50 sequential"
abbrev pub kind_mark : Kind → ℕ
kind_mark concurrent = 0x43
kind_mark sequential = 0x53

-- the second of these bytes
abbrev pub form_mark : ℕ
form_mark = 0x50

-- from the trailer back to the records
abbrev pub distance : ℕ → ℕ → ℕ → ℕ
distance P M T = record_size * P + 2 * M + 2 * T

-- the bodies of procedures, in order
abbrev pub bodies_of : {A : Type 0} → List (Proc A) → List (Block A)
bodies_of [] = []
bodies_of (p ∷ ps) = p.body ∷ bodies_of ps

-- a program's records, sizes and mains
abbrev pub middle_of : {A : Type 0} → Program A → Middle
middle_of p = record { heads = heads 0 p.procs; sizes = p.sizes; mains = p.mains }

-- "Bodies in procedure order from byte 0 without gaps", then the middle
abbrev pub front : {A : Type 0} → Program A → List ℕ
front p = each block (bodies_of p.procs) ++ middle (middle_of p)

-- a program's trailer
abbrev pub trailer_of : {A : Type 0} → Kind → Program A → Trailer
trailer_of k p =
    let P : ℕ = length p.procs in
    let M : ℕ = length p.sizes in
    let T : ℕ = length p.mains in
    record { kind = kind_mark k; mark = form_mark; procs = P; places = M; threads = T; back = distance P M T; whole = length (front p) + trailer_size }

-- the whole table
abbrev pub table : {A : Type 0} → Kind → Program A → List ℕ
table k p = front p ++ trailer (trailer_of k p)

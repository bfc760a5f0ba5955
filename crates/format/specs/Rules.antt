-- The numbers of refusal 1 to 8: document 01, "Numbers of refusal". Each rule is a test that passes unless its number applies.
use Rattle.std.specs.Prelude.{ℕ, zero, suc, ◌+◌, ◌-◌, List, [], ◌∷◌, ◌++◌, Bool, true, false, length, ltb, eqb, leb}
use Rattle.std.proofs.Math.Bool as B
use Rattle.value.specs.Maybe.{Maybe, is, nothing, ◌>>=◌, when, there, both, either}
use Rattle.value.specs.Lists.{all, any, sum, upto}
use Rattle.value.specs.declared.Value.TheVariants.{Whole, Location, Truth}
use Rattle.format.specs.Syntax.{Expr, constant, local, one, two}
use Rattle.format.specs.Syntax.{Instr, assign, write, read, while, if, call, atomic, select, Block, end, step, Proc}
use Rattle.format.specs.Syntax.{Program, Plain, Kind, concurrent, sequential}
use Rattle.format.specs.Encode.{Head, Middle, Trailer, kind_mark, distance, block, trailer_size, form_mark}
use Rattle.format.specs.Decode.{times, finish, but, last, max_nesting}
use Rattle.format.specs.Decode as D
use Rattle.format.specs.Labels.{counts}

-- ---- the bounds of each kind

-- "concurrent: over 16,384 bytes, P not 1..16, M over 64, T not 1..32. Sequential: ..", and those of rule 3
pub record Limits : Type 0 where
  pub bytes : ℕ
  pub procs : ℕ
  pub places : ℕ
  -- threads: not fewer and not more
  pub fewest : ℕ
  pub threads : ℕ
  pub locals : ℕ
  pub cells : ℕ

-- numbers 2 and 3. Request #110: "T goes to 32", "sequential tables may have 1,024 procedures and 16,384 cells"
abbrev pub limits : Kind → Limits
limits concurrent = record { bytes = 16384; procs = 16; places = 64; fewest = 1; threads = 32; locals = 16; cells = 2048 }
limits sequential = record { bytes = 65536; procs = 1024; places = 512; fewest = 0; threads = 0; locals = 32; cells = 16384 }

-- "locals over 16": the most that a procedure of a concurrent program has
abbrev pub max_locals : ℕ
max_locals = (limits concurrent).locals

-- "size not 1..256", of both kinds
abbrev pub max_size : ℕ
max_size = 256

-- number 6; request #110: "labels to 1,000"
abbrev pub max_labels : ℕ
max_labels = 1000

-- a number between two others
abbrev pub within : ℕ → ℕ → ℕ → Bool
within lo hi n = both (leb lo n) (leb n hi)

-- ---- 1: the trailer

-- "wrong kind marks, distance or length; distance over length - 16"
abbrev pub right_trailer : Kind → List ℕ → Trailer → Bool
right_trailer k t r =
    both (eqb r.kind (kind_mark k))
    (both (eqb r.mark form_mark)
    (both (eqb r.back (distance r.procs r.places r.threads))
    (both (eqb r.whole (length t))
    (leb r.back (length t - trailer_size)))))

-- ---- 2: the counts

-- "over 16,384 bytes, P not 1..16, M over 64, T not 1..32"
abbrev pub counts_within : Limits → List ℕ → Trailer → Bool
counts_within m t r =
    both (leb (length t) m.bytes)
    (both (within 1 m.procs r.procs)
    (both (leb r.places m.places)
    (within m.fewest m.threads r.threads)))

-- within the bounds of a kind
abbrev pub right_counts : Kind → List ℕ → Trailer → Bool
right_counts k = counts_within (limits k)

-- ---- 3: the records

-- procedures that are begun with no arguments
abbrev pub starts : Kind → List ℕ → List ℕ
starts concurrent mains = mains
starts sequential mains = 0 ∷ mains

-- is there a procedure n, with no parameters
abbrev pub begun : List Head → ℕ → Bool
begun [] n = false
begun (h ∷ hs) zero = eqb h.params 0
begun (h ∷ hs) (suc n) = begun hs n

-- "parameters over locals; locals over 16; size not 1..256; all sizes together over 2,048; a main that is not below P or has parameters"
abbrev pub records_within : Limits → Kind → Middle → Bool
records_within l k m =
    both (all (λ h. both (leb h.params h.locals) (leb h.locals l.locals)) m.heads)
    (both (all (within 1 max_size) m.sizes)
    (both (leb (sum m.sizes) l.cells)
    (all (begun m.heads) (starts k m.mains))))

-- within the bounds of a kind
abbrev pub right_records : Kind → Middle → Bool
right_records k = records_within (limits k) k

-- ---- 4: the bodies

-- may an instruction stand here: in which language, in which procedure, inside an atomic block or not
pub record Here : Type 0 where
  pub kind : Kind
  pub proc : ℕ
  pub inside : Bool

-- not inside an atomic block
abbrev pub plainly : Here → Bool
plainly h = B.not h.inside

-- is it the concurrent language
abbrev pub is_concurrent : Kind → Bool
is_concurrent concurrent = true
is_concurrent sequential = false

abbrev mutual
  -- "atomic, concurrent only; within it no while, call or atomic", "select, sequential only, only in procedure 0"
  pub allowed_i : {A : Type 0} → Here → Instr A → Bool
  allowed_i h (assign x e) = true
  allowed_i h (write y o e) = true
  allowed_i h (read x y o) = true
  allowed_i h (while e b) = both (plainly h) (allowed h b)
  allowed_i h (if e b c) = both (allowed h b) (allowed h c)
  allowed_i h (call m es) = plainly h
  allowed_i h (atomic b) = both (is_concurrent h.kind) (both (plainly h) (allowed (record { kind = h.kind; proc = h.proc; inside = true }) b))
  allowed_i h (select a b) = both (B.not (is_concurrent h.kind)) (eqb h.proc 0)

  -- of a block
  pub allowed : {A : Type 0} → Here → Block A → Bool
  allowed h end = true
  allowed h (step a i b) = both (allowed_i h i) (allowed h b)

-- of the bodies of procedures from m on
abbrev pub all_allowed : Kind → ℕ → List (Block Plain) → Bool
all_allowed k m [] = true
all_allowed k m (b ∷ bs) = both (allowed (record { kind = k; proc = m; inside = false }) b) (all_allowed k (suc m) bs)

-- each body begins where its record says, and where the one before it ends
abbrev pub placed : ℕ → List Head → List (Block Plain) → Bool
placed at [] bs = true
placed at (h ∷ hs) [] = false
placed at (h ∷ hs) (b ∷ bs) = both (eqb h.at at) (placed (at + length (block b)) hs bs)

-- procedures, of their records and bodies
abbrev pub bind : List Head → List (Block Plain) → List (Proc Plain)
bind [] bs = []
bind (h ∷ hs) [] = []
bind (h ∷ hs) (b ∷ bs) = record { params = h.params; locals = h.locals; body = b } ∷ bind hs bs

-- the program of these bodies and records; nothing where 4 applies
abbrev pub program : Kind → List ℕ → Middle → Maybe (Program Plain)
program k code m =
    finish (times (D.block max_nesting) (length m.heads) code) >>= λ bs.
    when (both (placed 0 m.heads bs) (all_allowed k 0 bs))
    (is (record { procs = bind m.heads bs; sizes = m.sizes; mains = m.mains }))

-- ---- 5: each name means something

-- each local is below X and each location below M
abbrev pub in_expr : ℕ → ℕ → Expr → Bool
in_expr X M (constant (Whole z)) = true
in_expr X M (constant (Location l)) = ltb l M
in_expr X M (constant (Truth b)) = true
in_expr X M (local x) = ltb x X
in_expr X M (one o a) = in_expr X M a
in_expr X M (two o a b) = both (in_expr X M a) (in_expr X M b)

-- is there a procedure m, with n parameters
abbrev pub takes : {A : Type 0} → List (Proc A) → ℕ → ℕ → Bool
takes [] m n = false
takes (p ∷ ps) zero n = eqb p.params n
takes (p ∷ ps) (suc m) n = takes ps m n

module _ {A : Type 0} (p : Program A) (X : ℕ) where
  -- an expression of a procedure of X locals
  abbrev pub ex : Expr → Bool
  ex = in_expr X (length p.sizes)

  abbrev mutual
    -- "a local, location or procedure not below its count; n not the callee's parameters"
    pub named_i : Instr A → Bool
    named_i (assign x e) = both (ltb x X) (ex e)
    named_i (write y o e) = both (ltb y X) (both (ex o) (ex e))
    named_i (read x y o) = both (ltb x X) (both (ltb y X) (ex o))
    named_i (while e b) = both (ex e) (named b)
    named_i (if e b c) = both (ex e) (both (named b) (named c))
    named_i (call m es) = both (takes p.procs m (length es)) (all ex es)
    named_i (atomic b) = named b
    named_i (select a b) = both (ltb a (length p.sizes)) (ltb b (length p.sizes))

    -- of a block
    pub named : Block A → Bool
    named end = true
    named (step a i b) = both (named_i i) (named b)

-- of all procedures
abbrev pub all_named : {A : Type 0} → Program A → Bool
all_named p = all (λ q. named p q.locals q.body) p.procs

-- ---- 6: labels

-- "concurrent: over 1,000 labels"
abbrev pub labels_within : {A : Type 0} → ℕ → Kind → Program A → Bool
labels_within most concurrent p = leb (counts p.procs) most
labels_within most sequential p = true

-- within the bound
abbrev pub few_labels : {A : Type 0} → Kind → Program A → Bool
few_labels = labels_within max_labels

-- ---- 7: calls

abbrev mutual
  -- the procedures that an instruction calls
  pub callees_i : {A : Type 0} → Instr A → List ℕ
  callees_i (assign x e) = []
  callees_i (write y o e) = []
  callees_i (read x y o) = []
  callees_i (while e b) = callees b
  callees_i (if e b c) = callees b ++ callees c
  callees_i (call m es) = m ∷ []
  callees_i (atomic b) = callees b
  callees_i (select a b) = []

  -- of a block
  pub callees : {A : Type 0} → Block A → List ℕ
  callees end = []
  callees (step a i b) = callees_i i ++ callees b

-- of procedure m
abbrev pub callees_of : {A : Type 0} → List (Proc A) → ℕ → List ℕ
callees_of [] m = []
callees_of (p ∷ ps) zero = callees p.body
callees_of (p ∷ ps) (suc m) = callees_of ps m

-- does m reach n by at most k calls
abbrev pub reaches : {A : Type 0} → List (Proc A) → ℕ → ℕ → ℕ → Bool
reaches ps zero m n = false
reaches ps (suc k) m n = any (λ c. either (eqb c n) (reaches ps k c n)) (callees_of ps m)

-- "some procedure can reach itself by calls": as many calls as there are procedures are enough
abbrev pub no_cycle : {A : Type 0} → Program A → Bool
no_cycle p = all (λ m. B.not (reaches p.procs (length p.procs) m m)) (upto 0 (length p.procs))

-- ---- 8: set before read

-- the locals that are set
abbrev pub Known : Type 0
Known = ℕ → Bool

-- "an assignment or read sets its target"
abbrev pub with : Known → ℕ → Known
with s x = λ y. either (eqb x y) (s y)

-- "Every variable that an instruction mentions for its value must be set there"
abbrev pub known : Known → Expr → Bool
known s (constant v) = true
known s (local x) = s x
known s (one o a) = known s a
known s (two o a b) = both (known s a) (known s b)

abbrev mutual
  -- "after an if, what both branches set; after a while, what was set before it; after an atomic, what its block sets"
  pub after_i : {A : Type 0} → Known → Instr A → Maybe Known
  after_i s (assign x e) = when (known s e) (is (with s x))
  after_i s (write y o e) = when (both (s y) (both (known s o) (known s e))) (is s)
  after_i s (read x y o) = when (both (s y) (known s o)) (is (with s x))
  after_i s (while e b) = when (known s e) (after s b >>= λ _. is s)
  after_i s (if e b c) = when (known s e) (after s b >>= λ u. after s c >>= λ v. is (λ x. both (u x) (v x)))
  after_i s (call m es) = when (all (known s) es) (is s)
  after_i s (atomic b) = after s b
  after_i s (select a b) = is s

  -- what is set after a block, if each variable that it mentions for its value is set there
  pub after : {A : Type 0} → Known → Block A → Maybe Known
  after s end = is s
  after s (step a i b) = after_i s i >>= λ u. after u b

-- "parameters are set at entry"
abbrev pub set_first : {A : Type 0} → Program A → Bool
set_first p = all (λ q. there (after (λ x. ltb x q.params) q.body)) p.procs

-- ---- all of them

-- what a table is read as: the smallest number that applies, or the program
pub data Verdict : Type 0 where
  refused : ℕ → Verdict
  accepted : Program Plain → Verdict

-- n is answered where there is nothing
abbrev pub demand : {A : Type 0} → ℕ → Maybe A → (A → Verdict) → Verdict
demand n nothing next = refused n
demand n (is a) next = next a

-- n is answered where a test fails
abbrev pub require : ℕ → Bool → Verdict → Verdict
require n true v = v
require n false v = refused n

-- "The smallest number that applies is answered", by the bounds of each kind and the most labels
abbrev pub verdict_by : (Kind → Limits) → ℕ → Kind → List ℕ → Verdict
verdict_by bounds most k t =
    demand 1 (finish (D.trailer (last trailer_size t))) λ r.
    let body : List ℕ = but trailer_size t in
    require 1 (right_trailer k t r)
    (require 2 (counts_within (bounds k) t r)
    (demand 1 (finish (D.middle r.procs r.places r.threads (last r.back body))) λ m.
    require 3 (records_within (bounds k) k m)
    (demand 4 (program k (but r.back body) m) λ p.
    require 5 (all_named p)
    (require 6 (labels_within most k p)
    (require 7 (no_cycle p)
    (require 8 (set_first p)
    (accepted p)))))))

-- by the bounds that are in force
abbrev pub verdict : Kind → List ℕ → Verdict
verdict = verdict_by limits max_labels

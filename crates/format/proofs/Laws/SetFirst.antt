-- Rule 8: no local is read before it is set, as a statement, and its test.
use Rattle.std.specs.Prelude.{◌≡◌, refl, true, ltb}
use Rattle.value.specs.Maybe.{Maybe, is, nothing, there, both}
use Rattle.value.proofs.Laws.Tests.{Decides, never, itself, always, ◌and◌}
use Rattle.value.proofs.Laws.Lists.{Each, all?}
use Rattle.format.specs.Syntax.{Expr, constant, local, one, two}
use Rattle.format.specs.Syntax.{Instr, assign, write, read, while, if, call, atomic, select, Block, end, step, Program}
use Rattle.format.specs.Rules.{Known, with, known, after_i, after, set_first}
use Rattle.format.proofs.Laws.Reading.{If, so, none, chain, if_so, tested, test_passed}

-- what is set after an instruction and after a block, if s is set before it
abbrev mutual
  pub set_by_i : {A : Type 0} → Known → Instr A → Known
  -- "an assignment or read sets its target"
  set_by_i s (assign x e) = with s x
  set_by_i s (write y o e) = s
  set_by_i s (read x y o) = with s x
  -- "after a while, what was set before it"
  set_by_i s (while e b) = s
  -- "after an if, what both branches set"
  set_by_i s (if e b c) = λ x. both (set_by s b x) (set_by s c x)
  set_by_i s (call m es) = s
  -- "after an atomic, what its block sets"
  set_by_i s (atomic b) = set_by s b
  set_by_i s (select a b) = s

  -- of a block
  pub set_by : {A : Type 0} → Known → Block A → Known
  set_by s end = s
  set_by s (step a i b) = set_by (set_by_i s i) b

-- each variable of an expression is set
abbrev pub Set : Known → Expr → Type 0
Set s (constant v) = Unit {0}
Set s (local x) = s x ≡ true
Set s (one o a) = Set s a
Set s (two o a b) = Set s a × Set s b

-- "Every variable that an instruction mentions for its value must be set there"
abbrev mutual
  pub ReadsSetI : {A : Type 0} → Known → Instr A → Type 0
  ReadsSetI s (assign x e) = Set s e
  ReadsSetI s (write y o e) = (s y ≡ true) × (Set s o × Set s e)
  ReadsSetI s (read x y o) = (s y ≡ true) × Set s o
  ReadsSetI s (while e b) = Set s e × ReadsSet s b
  ReadsSetI s (if e b c) = Set s e × (ReadsSet s b × ReadsSet s c)
  ReadsSetI s (call m es) = Each (Set s) es
  ReadsSetI s (atomic b) = ReadsSet s b
  ReadsSetI s (select a b) = Unit {0}

  -- of a block
  pub ReadsSet : {A : Type 0} → Known → Block A → Type 0
  ReadsSet s end = Unit {0}
  ReadsSet s (step a i b) = ReadsSetI s i × ReadsSet (set_by_i s i) b

-- "parameters are set at entry"
abbrev pub SetFirst : {A : Type 0} → Program A → Type 0
SetFirst p = Each (λ q. ReadsSet (λ x. ltb x q.params) q.body) p.procs

-- ---- the test decides this

-- an expression
set? : (s : Known) (e : Expr) → Decides (known s e) (Set s e)
set? s (constant v) = always
set? s (local x) = itself (s x)
set? s (one o a) = set? s a
set? s (two o a b) = set? s a and set? s b

-- u is what is set, and each variable was set where it was read
abbrev Leaves : Known → Type 0 → Known → Type 0
Leaves after P u = (u ≡ after) × P

mutual
  -- what the test gives after an instruction
  gives_i : {A : Type 0} (i : Instr A) (s : Known) → If (Leaves (set_by_i s i) (ReadsSetI s i)) (after_i s i)
  gives_i (assign x e) s = tested _ (set? s e) λ h. so (refl, h)
  gives_i (write y o e) s = tested _ (itself (s y) and set? s o and set? s e) λ h. so (refl, h)
  gives_i (read x y o) s = tested _ (itself (s y) and set? s o) λ h. so (refl, h)
  gives_i (while e b) s = tested _ (set? s e) λ h. chain _ (gives b s) λ u g. so (refl, (h, g.1))
  gives_i (if e b c) s = tested _ (set? s e) λ h. chain _ (gives b s) λ u f. chain _ (gives c s) λ v g. so (rw (f.0, g.0), (h, (f.1, g.1)))
  gives_i (call m es) s = tested _ (all? (set? s) es) λ h. so (refl, h)
  gives_i (atomic b) s = gives b s
  gives_i (select a b) s = so (refl, tt)

  -- and after a block
  gives : {A : Type 0} (b : Block A) (s : Known) → If (Leaves (set_by s b) (ReadsSet s b)) (after s b)
  gives end s = so (refl, tt)
  gives (step a i b) s = chain _ (gives_i i s) λ u f. rw f.0 (if_so (λ v g. (g.0, (f.1, g.1))) (gives b (set_by_i s i)))

mutual
  -- it is passed by an instruction whose variables are set
  passes_i : {A : Type 0} (i : Instr A) (s : Known) → ReadsSetI s i → after_i s i ≡ is (set_by_i s i)
  passes_i (assign x e) s h = test_passed _ (set? s e) h
  passes_i (write y o e) s h = test_passed _ (itself (s y) and set? s o and set? s e) h
  passes_i (read x y o) s h = test_passed _ (itself (s y) and set? s o) h
  passes_i (while e b) s h = rw ((set? s e).of h.0, passes b s h.1)
  passes_i (if e b c) s h = rw ((set? s e).of h.0, passes b s h.1.0, passes c s h.1.1)
  passes_i (call m es) s h = test_passed _ (all? (set? s) es) h
  passes_i (atomic b) s h = passes b s h
  passes_i (select a b) s h = refl

  -- and by a block
  pub passes : {A : Type 0} (b : Block A) (s : Known) → ReadsSet s b → after s b ≡ is (set_by s b)
  passes end s h = refl
  passes (step a i b) s h = rw (passes_i i s h.0) (passes b (set_by_i s i) h.1)

-- of a body
pub reads_set? : {A : Type 0} (b : Block A) (s : Known) → Decides (there (after s b)) (ReadsSet s b)
reads_set? b s = record { so = λ e. inside (after s b) e (gives b s); of = λ h. rw (passes b s h) }
  where
    inside : (m : Maybe Known) → there m ≡ true → If (Leaves (set_by s b) (ReadsSet s b)) m → ReadsSet s b
    inside (is u) e (so g) = g.1
    inside nothing e none = absurd (never e)

-- of all procedures
pub set_first? : {A : Type 0} (p : Program A) → Decides (set_first p) (SetFirst p)
set_first? p = all? (λ q. reads_set? q.body (λ x. ltb x q.params)) p.procs

-- Each name means something: rule 5 as statements, and its test.
use Rattle.std.specs.Prelude.{ℕ, zero, suc, ◌<◌, ◌≡◌, List, [], ◌∷◌, length}
use Rattle.value.specs.declared.Value.TheVariants.{Whole, Location, Truth}
use Rattle.value.proofs.Laws.Tests.{Decides, always, never?, ◌and◌, lt?, eq?}
use Rattle.value.proofs.Laws.Lists.{Each, all?}
use Rattle.format.specs.Syntax.{Expr, constant, local, one, two}
use Rattle.format.specs.Syntax.{Instr, assign, write, read, while, if, call, atomic, select, Block, end, step, Proc}
use Rattle.format.specs.Syntax.{Program, Plain}
use Rattle.format.specs.Rules.{in_expr, takes, named, named_i, all_named}

-- there is a procedure m, and it has n parameters
abbrev pub Takes : {A : Type 0} → List (Proc A) → ℕ → ℕ → Type 0
Takes [] m n = ⊥
Takes (q ∷ qs) zero n = q.params ≡ n
Takes (q ∷ qs) (suc m) n = Takes qs m n

-- each local is below X, and each location below M
abbrev pub InRange : ℕ → ℕ → Expr → Type 0
InRange X M (constant (Whole z)) = Unit {0}
InRange X M (constant (Location l)) = l < M
InRange X M (constant (Truth b)) = Unit {0}
InRange X M (local x) = x < X
InRange X M (one o a) = InRange X M a
InRange X M (two o a b) = InRange X M a × InRange X M b

module _ (p : Program Plain) (X : ℕ) where
  -- an expression of a procedure of X locals
  abbrev pub Ranges : Expr → Type 0
  Ranges = InRange X (length p.sizes)

  -- each name of an instruction and of a block, in a procedure of X locals, means something
  abbrev mutual
    pub NamesI : Instr Plain → Type 0
    NamesI (assign x e) = (x < X) × Ranges e
    NamesI (write y o e) = (y < X) × (Ranges o × Ranges e)
    NamesI (read x y o) = (x < X) × ((y < X) × Ranges o)
    NamesI (while e b) = Ranges e × Names b
    NamesI (if e b c) = Ranges e × (Names b × Names c)
    NamesI (call m es) = Takes p.procs m (length es) × Each Ranges es
    NamesI (atomic b) = Names b
    NamesI (select a b) = (a < length p.sizes) × (b < length p.sizes)

    -- of a block
    pub Names : Block Plain → Type 0
    Names end = Unit {0}
    Names (step a i b) = NamesI i × Names b

-- of the whole program
abbrev pub AllNames : Program Plain → Type 0
AllNames p = Each (λ q. Names p q.locals q.body) p.procs

-- ---- the tests decide these

-- the callee
pub takes? : {A : Type 0} (qs : List (Proc A)) (m n : ℕ) → Decides (takes qs m n) (Takes qs m n)
takes? [] m n = never?
takes? (q ∷ qs) zero n = eq? q.params n
takes? (q ∷ qs) (suc m) n = takes? qs m n

-- an expression
in_range? : (X M : ℕ) (e : Expr) → Decides (in_expr X M e) (InRange X M e)
in_range? X M (constant (Whole z)) = always
in_range? X M (constant (Location l)) = lt? l M
in_range? X M (constant (Truth b)) = always
in_range? X M (local x) = lt? x X
in_range? X M (one o a) = in_range? X M a
in_range? X M (two o a b) = in_range? X M a and in_range? X M b

module _ (p : Program Plain) (X : ℕ) where
  -- of a procedure of X locals
  ranges? : (e : Expr) → Decides (in_expr X (length p.sizes) e) (Ranges p X e)
  ranges? = in_range? X (length p.sizes)

  mutual
    -- an instruction
    names_i? : (i : Instr Plain) → Decides (named_i p X i) (NamesI p X i)
    names_i? (assign x e) = lt? x X and ranges? e
    names_i? (write y o e) = lt? y X and ranges? o and ranges? e
    names_i? (read x y o) = lt? x X and lt? y X and ranges? o
    names_i? (while e b) = ranges? e and names? b
    names_i? (if e b c) = ranges? e and names? b and names? c
    names_i? (call m es) = takes? p.procs m (length es) and all? ranges? es
    names_i? (atomic b) = names? b
    names_i? (select a b) = lt? a (length p.sizes) and lt? b (length p.sizes)

    -- a block
    pub names? : (b : Block Plain) → Decides (named p X b) (Names p X b)
    names? end = always
    names? (step a i b) = names_i? i and names? b

-- all bodies
pub all_names? : (p : Program Plain) → Decides (all_named p) (AllNames p)
all_names? p = all? (λ q. names? p q.locals q.body) p.procs

-- A sequential program as C11 text: docs/C-TEXT.md, "The rules". Every template there is one line here.
use Rattle.std.specs.Prelude.{ℕ, zero, suc, ◌*◌, ◌-◌, List, [], ◌∷◌, ◌++◌, true, false, replicate}
use Rattle.value.specs.Lists.{upto}
use Rattle.value.specs.Values.{One, not, neg, Two, add, sub, mul, less, equal, and}
use Rattle.value.specs.declared.Value.TheVariants.{Whole, Location, Truth}
use Rattle.format.specs.Syntax.{Expr, constant, local, one, two}
use Rattle.format.specs.Syntax.{Instr, assign, write, read, while, if, call, atomic, select, Block, end, step, Proc, Program}
use Rattle.format.specs.Encode.{each}
use Rattle.ctext.specs.Pieces.{say, joined, decimal, whole}
use Rattle.ctext.specs.Prelude.{prelude}

-- ---- expressions

-- a local
abbrev pub var : ℕ → List ℕ
var i = say "x" ++ decimal i

-- an operator of one operand, up to its parenthesis
abbrev pub name₁ : One → List ℕ
name₁ not = say "z_not("
name₁ neg = say "z_neg("

-- of two
abbrev pub name₂ : Two → List ℕ
name₂ add = say "z_add("
name₂ sub = say "z_sub("
name₂ mul = say "z_mul("
name₂ less = say "z_less("
name₂ equal = say "z_equal("
name₂ and = say "z_and("

-- SEP, where n levels still keep to their line
abbrev pub sep : ℕ → List ℕ
sep zero = say ",\n"
sep (suc n) = say ", "

-- an expression of which n levels keep to their line
abbrev pub expr_in : ℕ → Expr → List ℕ
expr_in n (constant (Whole z)) = joined (say "z_num(" ∷ whole z ∷ say ")" ∷ [])
expr_in n (constant (Location l)) = joined (say "z_loc(" ∷ decimal l ∷ say ")" ∷ [])
expr_in n (constant (Truth false)) = say "z_false()"
expr_in n (constant (Truth true)) = say "z_true()"
expr_in n (local i) = var i
expr_in n (one o a) = joined (name₁ o ∷ expr_in (n - 1) a ∷ say ")" ∷ [])
expr_in n (two o a b) = joined (name₂ o ∷ expr_in (n - 1) a ∷ sep n ∷ expr_in (n - 1) b ∷ say ")" ∷ [])

-- "SEP(l) is `, ` for l = 1, 2, 3"
abbrev pub expr : Expr → List ℕ
expr = expr_in 3

-- ---- instructions

-- things with a piece between each two of them
abbrev pub listed : {A : Type 0} → List ℕ → (A → List ℕ) → List A → List ℕ
listed between item [] = []
listed between item (x ∷ xs) = item x ++ each (λ y. between ++ item y) xs

-- IND
abbrev pub ind : ℕ → List ℕ
ind d = replicate (2 * d) 32

abbrev mutual
  -- an instruction at depth d, behind its spaces; no sequential program has an atomic block
  pub instr : {A : Type 0} → ℕ → Instr A → List ℕ
  instr d (assign x e) = joined (var x ∷ say " = z_set(" ∷ expr e ∷ say ");\n" ∷ [])
  instr d (write y o e) = joined (say "z_write(here, " ∷ var y ∷ say ", " ∷ expr o ∷ say ", " ∷ expr e ∷ say ");\n" ∷ [])
  instr d (read x y o) = joined (var x ∷ say " = z_read(here, " ∷ var y ∷ say ", " ∷ expr o ∷ say ");\n" ∷ [])
  instr d (while e b) = joined (say "while (z_test(" ∷ expr e ∷ say ")) {\n" ∷ block (suc d) b ∷ ind d ∷ say "}\n" ∷ [])
  instr d (if e b c) =
      joined (
      say "if (z_test(" ∷ expr e ∷ say ")) {\n" ∷ block (suc d) b ∷ ind d ∷ say "} else {\n" ∷ block (suc d) c ∷ ind d ∷ say "}\n" ∷ [])
  instr d (call m es) = joined (say "z_call(); p" ∷ decimal m ∷ say "(" ∷ listed (say ",\n") expr es ∷ say ");\n" ∷ [])
  instr d (atomic b) = []
  instr d (select a b) = joined (say "z_select(" ∷ decimal a ∷ say ", " ∷ decimal b ∷ say ");\n" ∷ [])

  -- a block at depth d
  pub block : {A : Type 0} → ℕ → Block A → List ℕ
  block d end = []
  block d (step a i b) = joined (ind d ∷ instr d i ∷ block d b ∷ [])

-- ---- the text

-- things from number k on, each with its number
abbrev pub numbered : {A : Type 0} → (ℕ → A → List ℕ) → ℕ → List A → List ℕ
numbered item k [] = []
numbered item k (x ∷ xs) = item k x ++ numbered item (suc k) xs

-- location k and its size
abbrev pub location : ℕ → ℕ → List ℕ
location k size = joined (say "z_value m" ∷ decimal k ∷ say "[" ∷ decimal size ∷ say "];\n" ∷ [])

-- its entry in the table of areas
abbrev pub area : ℕ → ℕ → List ℕ
area k size = joined (say "  { m" ∷ decimal k ∷ say ", " ∷ decimal size ∷ say " },\n" ∷ [])

-- n parameters
abbrev pub params : ℕ → List ℕ
params zero = say "void"
params (suc n) = listed (say ", ") (λ j. say "z_value " ++ var j) (upto 0 (suc n))

-- procedure k with n parameters
abbrev pub head : ℕ → ℕ → List ℕ
head k n = joined (say "void p" ∷ decimal k ∷ say "(" ∷ params n ∷ say ")" ∷ [])

-- procedure k
abbrev pub declaration : {A : Type 0} → ℕ → Proc A → List ℕ
declaration k p = head k p.params ++ say ";\n"

-- parameter j, judged
abbrev pub argument : ℕ → List ℕ
argument j = joined (say "  " ∷ var j ∷ say " = z_arg(" ∷ var j ∷ say ");\n" ∷ [])

-- another local
abbrev pub unset : ℕ → List ℕ
unset j = joined (say "  z_value " ∷ var j ∷ say " = z_unset(); (void)" ∷ var j ∷ say ";\n" ∷ [])

-- procedure k
abbrev pub definition : {A : Type 0} → ℕ → Proc A → List ℕ
definition k p =
    joined (
    say "\n" ∷ head k p.params ∷ say " {\n  enum { here = " ∷ decimal k ∷ say " };\n" ∷
    each argument (upto 0 p.params) ∷ each unset (upto p.params (p.locals - p.params)) ∷
    block 1 p.body ∷ say "  z_return();\n}\n" ∷ [])

-- the whole text
unfoldable pub text : {A : Type 0} → Program A → List ℕ
text p =
    joined (
    prelude ∷ numbered location 0 p.sizes ∷ say "const z_area z_areas[] = {\n" ∷ numbered area 0 p.sizes ∷ say "  { 0, 0 }\n};\n\n" ∷
    numbered declaration 0 p.procs ∷ numbered definition 0 p.procs ∷ [])

-- Names that mean something fit their bytes: so the rules of Sound say all that a table can say.
use Rattle.std.specs.Prelude.{ℕ, ◌^◌, ◌≤◌, ◌<◌, List, [], ◌∷◌, length}
use Rattle.std.proofs.Common.{arith}
use Rattle.value.specs.declared.Value.TheVariants.{Whole, Location, Truth}
use Rattle.value.proofs.Laws.Lists.{Each, each_so}
use Rattle.format.specs.Syntax.{Expr, constant, local, one, two}
use Rattle.format.specs.Syntax.{Instr, assign, write, read, while, if, call, atomic, select, Block, end, step, Program}
use Rattle.format.specs.Syntax.{Plain}
use Rattle.format.proofs.Laws.Names.{Takes, Ranges, Names, NamesI}
use Rattle.format.proofs.Laws.Depths.{WholesRight, ExprRight, ExprsRight, ExprsRightI, BodyRight}
use Rattle.format.proofs.Laws.Fits.{NumbersFit, ExprFits, Says, SaysI, BlockFits}
use Rattle.format.specs.Decode.{max_depth, max_nesting}

-- ---- what fits is right

-- an expression that bytes can say has right whole numbers
wholes_right : (e : Expr) → NumbersFit e → WholesRight e
wholes_right (constant (Whole z)) h = h
wholes_right (constant (Location l)) h = tt
wholes_right (constant (Truth b)) h = tt
wholes_right (local x) h = tt
wholes_right (one o a) h = wholes_right a h
wholes_right (two o a b) h = (wholes_right a h.0, wholes_right b h.1)

-- and is right
expr_right : (e : Expr) → ExprFits max_depth e → ExprRight e
expr_right e h = record { deep = h.0; wholes = wholes_right e h.1 }

mutual
  -- those of an instruction
  exprs_right_i : (i : Instr Plain) → SaysI i → ExprsRightI i
  exprs_right_i (assign x e) h = expr_right e h.1
  exprs_right_i (write y o e) h = (expr_right o h.1, expr_right e h.2)
  exprs_right_i (read x y o) h = expr_right o h.2
  exprs_right_i (while e b) h = (expr_right e h.0, exprs_right b h.1)
  exprs_right_i (if e b c) h = (expr_right e h.0, exprs_right b h.1, exprs_right c h.2)
  exprs_right_i (call m es) h = each_so expr_right es h.2
  exprs_right_i (atomic b) h = exprs_right b h
  exprs_right_i (select a b) h = tt

  -- and of a block
  exprs_right : (b : Block Plain) → Says b → ExprsRight b
  exprs_right end h = tt
  exprs_right (step a i b) h = (exprs_right_i i h.0, exprs_right b h.1)

-- a body that fits is right
pub body_right : (b : Block Plain) → BlockFits max_nesting b → BodyRight b
body_right b h = record { deep = h.0; exprs = exprs_right b h.1 }

-- ---- what is right fits, where its names mean something

module _ (p : Program Plain) (X : ℕ) (few : X ≤ 2 ^ 8) (most : length p.sizes ≤ 2 ^ 16)
    (arity : (m n : ℕ) → Takes p.procs m n → (m < 2 ^ 16) × (n < 2 ^ 8)) where
  -- an expression with right numbers and names
  numbers_fit : (e : Expr) → WholesRight e → Ranges p X e → NumbersFit e
  numbers_fit (constant (Whole z)) h i = h
  numbers_fit (constant (Location l)) h i = omega arith
  numbers_fit (constant (Truth b)) h i = tt
  numbers_fit (local x) h i = omega arith
  numbers_fit (one o a) h i = numbers_fit a h i
  numbers_fit (two o a b) h i = (numbers_fit a h.0 i.0, numbers_fit b h.1 i.1)

  -- can be said by bytes
  expr_fits : (e : Expr) → ExprRight e → Ranges p X e → ExprFits max_depth e
  expr_fits e h i = (h.deep, numbers_fit e h.wholes i)

  -- so can several
  exprs_fit : (es : List Expr) → Each ExprRight es → Each (Ranges p X) es → Each (ExprFits max_depth) es
  exprs_fit [] h i = tt
  exprs_fit (e ∷ es) h i = (expr_fits e h.0 i.0, exprs_fit es h.1 i.1)

  mutual
    -- an instruction
    says_i : (i : Instr Plain) → ExprsRightI i → NamesI p X i → SaysI i
    says_i (assign x e) h i = (omega (arith, i.0), expr_fits e h i.1)
    says_i (write y o e) h i = (omega (arith, i.0), expr_fits o h.0 i.1.0, expr_fits e h.1 i.1.1)
    says_i (read x y o) h i = (omega (arith, i.0), omega (arith, i.1.0), expr_fits o h i.1.1)
    says_i (while e b) h i = (expr_fits e h.0 i.0, says b h.1 i.1)
    says_i (if e b c) h i = (expr_fits e h.0 i.0, says b h.1 i.1.0, says c h.2 i.1.1)
    says_i (call m es) h i = ((arity m (length es) i.0).0, (arity m (length es) i.0).1, exprs_fit es h i.1)
    says_i (atomic b) h i = says b h i
    says_i (select a b) h i = (omega (arith, i.0), omega (arith, i.1))

    -- and a block
    says : (b : Block Plain) → ExprsRight b → Names p X b → Says b
    says end h i = tt
    says (step a i b) h j = (says_i i h.0 j.0, says b h.1 j.1)

  -- a body whose names mean something fits
  pub body_fits : (b : Block Plain) → BodyRight b → Names p X b → BlockFits max_nesting b
  body_fits b h i = (h.deep, says b h.exprs i)

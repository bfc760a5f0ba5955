-- How deep expressions and blocks nest, and which whole numbers there are: document 01, "Values and expressions" and "Instructions".
use Rattle.std.specs.Prelude.{ℕ, suc, ◌^◌, ◌≤◌, ◌<◌, max}
use Rattle.std.specs.Int.Signed.{mag}
use Rattle.value.specs.declared.Value.TheVariants.{Whole, Location, Truth}
use Rattle.value.proofs.Laws.Lists.{Each}
use Rattle.format.specs.Syntax.{Expr, constant, local, one, two, Instr, assign, write, read, while, if, call, atomic, select, Block, end, step}
use Rattle.format.specs.Decode.{max_depth, max_nesting}

-- a leaf has depth 1
abbrev pub depth : Expr → ℕ
depth (constant v) = 1
depth (local x) = 1
depth (one o a) = suc (depth a)
depth (two o a b) = suc (max (depth a) (depth b))

-- each whole number is from -2,147,483,648 to 2,147,483,647: `mag z` is n for n and for -(n + 1)
abbrev pub WholesRight : Expr → Type 0
WholesRight (constant (Whole z)) = mag z < 2 ^ 31
WholesRight (constant (Location l)) = Unit {0}
WholesRight (constant (Truth b)) = Unit {0}
WholesRight (local x) = Unit {0}
WholesRight (one o a) = WholesRight a
WholesRight (two o a b) = WholesRight a × WholesRight b

-- an expression is at most 16 deep
pub record ExprRight (e : Expr) : Type 0 where
  pub deep : depth e ≤ max_depth
  pub wholes : WholesRight e

-- how many blocks an instruction holds one in the other, and how many a block is; a body is at depth 1
abbrev mutual
  pub nesting_i : {A : Type 0} → Instr A → ℕ
  nesting_i (assign x e) = 0
  nesting_i (write y o e) = 0
  nesting_i (read x y o) = 0
  nesting_i (while e b) = nesting b
  nesting_i (if e b c) = max (nesting b) (nesting c)
  nesting_i (call m es) = 0
  nesting_i (atomic b) = nesting b
  nesting_i (select a b) = 0

  -- of a block
  pub nesting : {A : Type 0} → Block A → ℕ
  nesting end = 1
  nesting (step a i b) = max (suc (nesting_i i)) (nesting b)

-- each expression is right
abbrev mutual
  pub ExprsRightI : {A : Type 0} → Instr A → Type 0
  ExprsRightI (assign x e) = ExprRight e
  ExprsRightI (write y o e) = ExprRight o × ExprRight e
  ExprsRightI (read x y o) = ExprRight o
  ExprsRightI (while e b) = ExprRight e × ExprsRight b
  ExprsRightI (if e b c) = ExprRight e × ExprsRight b × ExprsRight c
  ExprsRightI (call m es) = Each ExprRight es
  ExprsRightI (atomic b) = ExprsRight b
  ExprsRightI (select a b) = Unit {0}

  -- of a block
  pub ExprsRight : {A : Type 0} → Block A → Type 0
  ExprsRight end = Unit {0}
  ExprsRight (step a i b) = ExprsRightI i × ExprsRight b

-- a body is at depth 1, and at most 16 deep
pub record BodyRight {A : Type 0} (b : Block A) : Type 0 where
  pub deep : nesting b ≤ max_nesting
  pub exprs : ExprsRight b

-- What a table can say: each number fits its bytes, and nothing nests too deep. For the readers; the rules are in Sound.
use Rattle.std.specs.Prelude.{ℕ, ◌^◌, ◌≤◌, ◌<◌, length}
use Rattle.std.specs.Int.Signed.{mag}
use Rattle.value.specs.declared.Value.{Value}
use Rattle.value.specs.declared.Value.TheVariants.{Whole, Location, Truth}
use Rattle.value.proofs.Laws.Lists.{Each}
use Rattle.format.specs.Syntax.{Expr, constant, local, one, two, Instr, assign, write, read, while, if, call, atomic, select, Block, end, step}
use Rattle.format.proofs.Laws.Depths.{depth, nesting, nesting_i}
use Rattle.format.specs.Decode.{max_depth}

-- a whole number in 32 bits, a location in 2 bytes
abbrev pub ValueFits : Value → Type 0
ValueFits (Whole z) = mag z < 2 ^ 31
ValueFits (Location l) = l < 2 ^ 16
ValueFits (Truth b) = Unit {0}

-- each constant and each local of an expression fits its bytes
abbrev pub NumbersFit : Expr → Type 0
NumbersFit (constant v) = ValueFits v
NumbersFit (local x) = x < 2 ^ 8
NumbersFit (one o a) = NumbersFit a
NumbersFit (two o a b) = NumbersFit a × NumbersFit b

-- an expression that a reader of depth d reads
abbrev pub ExprFits : ℕ → Expr → Type 0
ExprFits d e = (depth e ≤ d) × NumbersFit e

-- each number of an instruction and of a block fits its bytes, and no expression is deeper than 16
abbrev mutual
  pub SaysI : {A : Type 0} → Instr A → Type 0
  SaysI (assign x e) = (x < 2 ^ 8) × ExprFits max_depth e
  SaysI (write y o e) = (y < 2 ^ 8) × ExprFits max_depth o × ExprFits max_depth e
  SaysI (read x y o) = (x < 2 ^ 8) × (y < 2 ^ 8) × ExprFits max_depth o
  SaysI (while e b) = ExprFits max_depth e × Says b
  SaysI (if e b c) = ExprFits max_depth e × Says b × Says c
  SaysI (call m es) = (m < 2 ^ 16) × (length es < 2 ^ 8) × Each (ExprFits max_depth) es
  SaysI (atomic b) = Says b
  SaysI (select a b) = (a < 2 ^ 16) × (b < 2 ^ 16)

  -- what the bytes of an expression can say
  pub Says : {A : Type 0} → Block A → Type 0
  Says end = Unit {0}
  Says (step a i b) = SaysI i × Says b

-- an instruction and a block that a reader of d blocks one in the other reads
abbrev pub InstrFits : {A : Type 0} → ℕ → Instr A → Type 0
InstrFits d i = (nesting_i i ≤ d) × SaysI i

-- a block of at most d blocks one in the other, of what bytes can say
abbrev pub BlockFits : {A : Type 0} → ℕ → Block A → Type 0
BlockFits d b = (nesting b ≤ d) × Says b

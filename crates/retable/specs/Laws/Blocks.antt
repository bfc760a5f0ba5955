-- What is promised of instructions and blocks. Their lines have w spaces, two for each depth.
use Rattle.std.specs.Prelude.{ℕ, ◌+◌, ◌*◌, ◌≤◌, ◌≡◌, List, ◌∷◌, length}
use Rattle.format.specs.Syntax.{Expr, Instr, Block, Plain}
use Rattle.format.specs.Encode.{expr, instr, block}
use Rattle.format.specs.Decode.{max_depth}
use Rattle.ctext.proofs.Laws.ExprText.{ExprText}
use Rattle.ctext.proofs.Laws.LineText.{InstrText, BlockText, IfIn}
use Rattle.retable.specs.Laws.Exprs.{Parses}
use Rattle.retable.specs.declared.exprs.Parsed.{Parsed}

-- a test, behind the mark m of its instruction, and the rest of its line
pub record ParsesTest (x : List ℕ) (i m : ℕ) (o : List ℕ) (p : ℕ) (o' : List ℕ) (r : Parsed) : Type 0 where
  pub gives : (e : Expr) (k : ℕ) → ExprText x i max_depth 3 e k → k + 5 ≤ length x → Parses (m ∷ expr e) (k + 5) o p o' r

module _ (x : List ℕ) (i c w : ℕ) (o : List ℕ) (p : ℕ) (o' : List ℕ) (r : Parsed) where
  -- an if
  pub record ParsesIf : Type 0 where
    pub gives : (d : ℕ) (s : Instr Plain) (j : ℕ) → w ≡ 2 * d → InstrText x i c d s j → IfIn x i c d s j → Parses (instr s) j o p o' r

  -- an instruction
  pub record ParsesInstr : Type 0 where
    pub gives : (d : ℕ) (s : Instr Plain) (j : ℕ) → w ≡ 2 * d → InstrText x i c d s j → Parses (instr s) j o p o' r

  -- a block
  pub record ParsesBlock : Type 0 where
    pub gives : (d : ℕ) (b : Block Plain) (j : ℕ) → w ≡ 2 * d → BlockText x i c d b j → Parses (block b) j o p o' r

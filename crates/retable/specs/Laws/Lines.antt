-- What is promised of lines that hold no block.
use Rattle.std.specs.Prelude.{ℕ, ◌+◌, ◌^◌, ◌<◌, ◌≡◌, List, ◌∷◌, length}
use Rattle.format.specs.Syntax.{Expr, Instr, Plain}
use Rattle.format.specs.Encode.{expr, each, instr}
use Rattle.format.specs.Decode.{max_depth}
use Rattle.ctext.proofs.Laws.ExprText.{ExprText}
use Rattle.ctext.proofs.Laws.ArgText.{NumberText, ArgsText, MoreText}
use Rattle.ctext.proofs.Laws.LineText.{InstrText, TargetIn, WriteIn, CallIn, SelectIn}
use Rattle.writer.specs.Laws.Put.{Put}
use Rattle.retable.specs.Laws.Exprs.{Parses}
use Rattle.retable.specs.declared.exprs.Parsed.{Parsed}
use Rattle.retable.specs.declared.exprs.Listed.{Listed}

module _ (x : List ℕ) (i : ℕ) (o : List ℕ) (p : ℕ) (o' : List ℕ) (r : Parsed) where
  -- a local, and an expression
  pub record ParsesPointed : Type 0 where
    pub gives : (y : ℕ) (e : Expr) (k j : ℕ) → NumberText x i y k → y < 2 ^ 8 → ExprText x (k + 2) max_depth 3 e j → Parses (y ∷ expr e) j o p o' r

  -- x<x> = ..
  pub record ParsesTarget : Type 0 where
    pub gives : (c d : ℕ) (s : Instr Plain) (j : ℕ) → InstrText x i c d s j → TargetIn x i c d s j → Parses (instr s) j o p o' r

  -- z_write
  pub record ParsesWrite : Type 0 where
    pub gives : (c d : ℕ) (s : Instr Plain) (j : ℕ) → InstrText x i c d s j → WriteIn x i c d s j → Parses (instr s) j o p o' r

  -- z_select
  pub record ParsesSelect : Type 0 where
    pub gives : (c d : ℕ) (s : Instr Plain) (j : ℕ) → InstrText x i c d s j → SelectIn x i c d s j → Parses (instr s) j o p o' r

  -- z_call
  pub record ParsesCall : Type 0 where
    pub gives : (c d : ℕ) (s : Instr Plain) (j : ℕ) → InstrText x i c d s j → CallIn x i c d s j → Parses (instr s) j o p o' r

-- arguments es behind n others, which end at j, were written
pub record Argued (n : ℕ) (es : List Expr) (j : ℕ) (o : List ℕ) (p : ℕ) (o' : List ℕ) (r : Listed ℕ) : Type 0 where
  pub count : r.count ≡ n + length es
  pub puts : Put o p (each expr es) o' r.to
  pub ends : r.next ≡ j

-- whatever arguments stand there behind n others are written
pub record ParsesMore (x : List ℕ) (i n : ℕ) (o : List ℕ) (p : ℕ) (o' : List ℕ) (r : Listed ℕ) : Type 0 where
  pub gives : (es : List Expr) (j : ℕ) → MoreText x i es j → n + length es < 2 ^ 8 → Argued n es j o p o' r

-- whatever arguments stand there are written
pub record ParsesArgs (x : List ℕ) (i : ℕ) (o : List ℕ) (p : ℕ) (o' : List ℕ) (r : Listed ℕ) : Type 0 where
  pub gives : (es : List Expr) (j : ℕ) → ArgsText x i es j → length es < 2 ^ 8 → Argued 0 es j o p o' r

-- with their number before them
pub record ParsesCounted (x : List ℕ) (i : ℕ) (o : List ℕ) (p : ℕ) (o' : List ℕ) (r : Parsed) : Type 0 where
  pub gives : (es : List Expr) (j : ℕ) → ArgsText x i es j → length es < 2 ^ 8 → Parses (length es ∷ each expr es) j o p o' r

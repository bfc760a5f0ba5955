-- What is promised of expressions in a text: whatever stands there is written as the bytes of a table.
use Rattle.std.specs.Prelude.{ℕ, ◌^◌, ◌<◌, ◌≡◌, List, [], ◌∷◌, ℤ}
use Rattle.std.specs.Int.Signed.{mag}
use Rattle.value.specs.Values.{bytes, word}
use Rattle.basics.specs.Columns.{operands_of}
use Rattle.format.specs.Syntax.{Expr}
use Rattle.format.specs.Encode.{expr}
use Rattle.format.proofs.Laws.Stands.{Stands}
use Rattle.ctext.specs.Pieces.{decimal, whole}
use Rattle.ctext.proofs.Laws.Numbers.{Stops}
use Rattle.ctext.proofs.Laws.ExprText.{key_at, ExprText}
use Rattle.writer.specs.Laws.Put.{Put}
use Rattle.retable.specs.declared.exprs.Parsed.{Parsed}

-- the bytes bs were written for what ends at j
pub record Parses (bs : List ℕ) (j : ℕ) (o : List ℕ) (p : ℕ) (o' : List ℕ) (r : Parsed) : Type 0 where
  pub puts : Put o p bs o' r.to
  pub ends : r.next ≡ j

module _ (x : List ℕ) (i : ℕ) (o : List ℕ) (p : ℕ) (o' : List ℕ) (r : Parsed) where
  -- a number of one byte
  pub record ParsesByte : Type 0 where
    pub gives : (n j : ℕ) → Stands x i (decimal n) j → Stops x j → n < 2 ^ 8 → Parses (n ∷ []) j o p o' r

  -- of two
  pub record ParsesTwo : Type 0 where
    pub gives : (n j : ℕ) → Stands x i (decimal n) j → Stops x j → n < 2 ^ 16 → Parses (bytes 2 n) j o p o' r

  -- a whole number
  pub record ParsesWhole : Type 0 where
    pub gives : (z : ℤ) (j : ℕ) → Stands x i (whole z) j → Stops x j → mag z < 2 ^ 31 → Parses (bytes 4 (word z)) j o p o' r

-- a leaf with mark m
pub record ParsesLeaf (x : List ℕ) (i m : ℕ) (o : List ℕ) (p : ℕ) (o' : List ℕ) (r : Parsed) : Type 0 where
  pub gives : (d n : ℕ) (e : Expr) (j : ℕ) → ExprText x i d n e j → key_at x i ≡ m → operands_of m ≡ 0 → Parses (expr e) j o p o' r

-- an expression at most d deep
pub record ParsesExpr (x : List ℕ) (i d : ℕ) (o : List ℕ) (p : ℕ) (o' : List ℕ) (r : Parsed) : Type 0 where
  pub gives : (n : ℕ) (e : Expr) (j : ℕ) → ExprText x i d n e j → Parses (expr e) j o p o' r

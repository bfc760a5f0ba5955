-- What is promised of expressions, instructions and blocks in a table: whatever stands there, its text is set.
use Rattle.std.specs.Prelude.{ℕ, ◌≤◌, ◌<◌, ◌≡◌, List, get_or, eqb}
use Rattle.value.specs.Maybe.{pick}
use Rattle.format.specs.Syntax.{Expr}
use Rattle.format.proofs.Laws.ExprGrammar.{ExprAt}
use Rattle.ctext.specs.Pieces.{say}
use Rattle.ctext.specs.Text.{expr_in}
use Rattle.typeset.specs.declared.pieces.Page.{Page}
use Rattle.typeset.specs.Page.{lent, Put}

-- ---- expressions

-- the name of an operator's mark, up to its parenthesis
unfoldable pub name_of : ℕ → List ℕ
name_of m =
    pick (eqb m 0x14) (say "z_equal(")
    (pick (eqb m 0x10) (say "z_add(")
    (pick (eqb m 0x15) (say "z_and(")
    (pick (eqb m 0x16) (say "z_not(")
    (pick (eqb m 0x13) (say "z_less(")
    (pick (eqb m 0x11) (say "z_sub(")
    (pick (eqb m 0x12) (say "z_mul(") (say "z_neg(")))))))

-- whatever expression stands at i, at most d deep, its text is set, n levels of it on their line: page p became q, and the table goes on at k
pub record Shows (t : List ℕ) (i d n : ℕ) (p q : Page) (k : ℕ) : Type 0 where
  pub shown : (e : Expr) (j : ℕ) → ExprAt t i d e j → Put p (expr_in n e) q
  pub ends : (e : Expr) (j : ℕ) → ExprAt t i d e j → k ≡ j
  pub forward : i ≤ k
  pub kept : lent q ≡ lent p

-- a leaf with mark m
pub record ShowsLeaf (t : List ℕ) (i m : ℕ) (p q : Page) (k : ℕ) : Type 0 where
  pub gives : (d n : ℕ) → m ≡ get_or t i 0 → m < 0x10 → Shows t i d n p q k
  pub forward : i ≤ k
  pub kept : lent q ≡ lent p

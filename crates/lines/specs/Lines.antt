-- What is promised of instructions and blocks in a table: whatever stands there, its text is set.
use Rattle.std.specs.Prelude.{ℕ, suc, ◌*◌, ◌≤◌, ◌<◌, ◌≡◌, List, ◌++◌, get_or}
use Rattle.format.specs.Syntax.{Expr, Instr, Block, Plain}
use Rattle.format.specs.Encode.{each}
use Rattle.format.specs.Decode.{max_depth}
use Rattle.format.proofs.Laws.Grammar.{ExprAt, ExprsAt, InstrAt, BlockAt}
use Rattle.ctext.specs.Pieces.{say}
use Rattle.ctext.specs.Text.{expr, listed, ind, instr, block}
use Rattle.ctext.proofs.Laws.LineText.{FlatI, Flat}
use Rattle.typeset.specs.declared.pieces.Page.{Page}
use Rattle.typeset.specs.Page.{lent, Put}

-- ---- arguments

-- whatever n expressions stand from i on, each is set behind a comma
pub record ShowsMore (t : List ℕ) (i n : ℕ) (p q : Page) (k : ℕ) : Type 0 where
  pub shown : (es : List Expr) (j : ℕ) → ExprsAt t i n es j → Put p (each (λ e. say ",\n" ++ expr e) es) q
  pub ends : (es : List Expr) (j : ℕ) → ExprsAt t i n es j → k ≡ j
  pub forward : i ≤ k
  pub kept : lent q ≡ lent p

-- the one at i, behind a comma
pub record ShowsNext (t : List ℕ) (i : ℕ) (p q : Page) (k : ℕ) : Type 0 where
  pub shown : (e : Expr) (j : ℕ) → ExprAt t i max_depth e j → Put p (say ",\n" ++ expr e) q
  pub ends : (e : Expr) (j : ℕ) → ExprAt t i max_depth e j → k ≡ j
  pub forward : i ≤ k
  pub kept : lent q ≡ lent p

-- what is set from there on is set from here on
pub record Further (t : List ℕ) (i n : ℕ) (p : Page) (i' left : ℕ) (q : Page) : Type 0 where
  pub back : {r : Page} {k : ℕ} → ShowsMore t i' left q r k → ShowsMore t i n p r k
  pub kept : lent q ≡ lent p

-- a comma only between them
pub record ShowsArgs (t : List ℕ) (i n : ℕ) (p q : Page) (k : ℕ) : Type 0 where
  pub shown : (es : List Expr) (j : ℕ) → ExprsAt t i n es j → Put p (listed (say ",\n") expr es) q
  pub ends : (es : List Expr) (j : ℕ) → ExprsAt t i n es j → k ≡ j
  pub forward : i ≤ k
  pub kept : lent q ≡ lent p

-- ---- instructions and blocks

-- whatever instruction stands at i, its blocks at most c deep, is set behind w spaces
pub record ShowsInstr (t : List ℕ) (i c w : ℕ) (p q : Page) (k : ℕ) : Type 0 where
  pub shown : (d : ℕ) (s : Instr Plain) (j : ℕ) → w ≡ 2 * d → InstrAt t i c s j → FlatI s → Put p (instr d s) q
  pub ends : (s : Instr Plain) (j : ℕ) → InstrAt t i c s j → FlatI s → k ≡ j
  pub forward : i < k
  pub kept : lent q ≡ lent p

-- the expression at i, and the end of its line
pub record ShowsLast (t : List ℕ) (i : ℕ) (p q : Page) (k : ℕ) : Type 0 where
  pub shown : (e : Expr) (j : ℕ) → ExprAt t i max_depth e j → Put p (expr e ++ say ");\n") q
  pub ends : (e : Expr) (j : ℕ) → ExprAt t i max_depth e j → k ≡ j
  pub forward : i ≤ k
  pub kept : lent q ≡ lent p

-- one with byte m, which holds no block
pub record ShowsAs (t : List ℕ) (i m : ℕ) (p q : Page) (k : ℕ) : Type 0 where
  pub gives : (c w : ℕ) → get_or t i 0 ≡ m → ShowsInstr t i c w p q k
  pub forward : i < k
  pub kept : lent q ≡ lent p

-- one that holds no block
pub record ShowsPlain (t : List ℕ) (i m : ℕ) (p q : Page) (k : ℕ) : Type 0 where
  pub gives : (c w : ℕ) → get_or t i 0 ≡ m → (m ≡ 0x23 → ⊥) → (m ≡ 0x24 → ⊥) → ShowsInstr t i c w p q k
  pub forward : i < k
  pub kept : lent q ≡ lent p

-- a word, the test at i, and a brace
pub record ShowsTest (word t : List ℕ) (i : ℕ) (p q : Page) (k : ℕ) : Type 0 where
  pub shown : (e : Expr) (j : ℕ) → ExprAt t i max_depth e j → Put p (word ++ (expr e ++ say ")) {\n")) q
  pub ends : (e : Expr) (j : ℕ) → ExprAt t i max_depth e j → k ≡ j
  pub forward : i ≤ k
  pub kept : lent q ≡ lent p

-- whatever block stands at i, at most c deep, is set behind w spaces
pub record ShowsBlock (t : List ℕ) (i c w : ℕ) (p q : Page) (k : ℕ) : Type 0 where
  pub shown : (d : ℕ) (b : Block Plain) (j : ℕ) → w ≡ 2 * d → BlockAt t i c b j → Flat b → Put p (block d b) q
  pub ends : (b : Block Plain) (j : ℕ) → BlockAt t i c b j → Flat b → k ≡ j
  pub forward : i ≤ k
  pub kept : lent q ≡ lent p

-- one level further in, with the line behind it
pub record ShowsClosed (word t : List ℕ) (i c w : ℕ) (p q : Page) (k : ℕ) : Type 0 where
  pub shown : (d : ℕ) (b : Block Plain) (j : ℕ) → w ≡ 2 * d → BlockAt t i c b j → Flat b → Put p (block (suc d) b ++ (ind d ++ word)) q
  pub ends : (b : Block Plain) (j : ℕ) → BlockAt t i c b j → Flat b → k ≡ j
  pub forward : i ≤ k
  pub kept : lent q ≡ lent p

-- what is set from there on is set from here on
pub record Later (t : List ℕ) (i c w : ℕ) (p : Page) (i' : ℕ) (q : Page) : Type 0 where
  pub back : {r : Page} {k : ℕ} → ShowsBlock t i' c w q r k → ShowsBlock t i c w p r k
  pub kept : lent q ≡ lent p

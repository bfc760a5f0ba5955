-- What a page promises: bytes from its place on, in the buffer that was lent to it.
use Rattle.std.specs.Prelude.{ℕ, ◌≡◌, List}
use Rattle.std.specs.Borrow.{MutBor}
use Rattle.format.specs.Syntax.{Expr, Instr, Block, Plain}
use Rattle.format.specs.Encode.{expr, instr, block}
use Rattle.writer.specs.declared.page.Page.{Page}
use Rattle.writer.specs.Laws.Put.{Put}

-- a page begins at byte 0 of the buffer
pub record Opens (o : MutBor (List ℕ)) (a : Page) : Type 0 where
  pub same : a.out.ghost_name ≡ o.ghost_name
  pub is : a.out.now ≡ o.now
  pub first : a.at ≡ 0

-- Page a becomes page b, with the bytes bs from its place on. The buffer is the same.
pub record Puts (a : Page) (bs : List ℕ) (b : Page) : Type 0 where
  pub puts : Put a.out.now a.at bs b.out.now b.at
  pub same : b.out.ghost_name ≡ a.out.ghost_name

-- an expression
pub record PutsExpr (a : Page) (e : Expr) (b : Page) : Type 0 where
  pub puts : Puts a (expr e) b

-- an instruction
pub record PutsInstr (a : Page) (i : Instr Plain) (b : Page) : Type 0 where
  pub puts : Puts a (instr i) b

-- a block
pub record PutsBlock (a : Page) (c : Block Plain) (b : Page) : Type 0 where
  pub puts : Puts a (block c) b

-- Of the bytes `all` from a on, only `rest` remains to be written, from b on.
pub record Onto (a : Page) (all : List ℕ) (b : Page) (rest : List ℕ) : Type 0 where
  pub then : {c : Page} → Puts b rest c → Puts a all c

-- The bytes of a piece of code f, whatever block follows it.
pub record Writes (a : Page) (f : Block Plain → Block Plain) (b : Page) : Type 0 where
  pub before : (c : Block Plain) → Onto a (block (f c)) b (block c)

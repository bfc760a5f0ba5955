-- What the translator promises of code that it reads from the source's table: contracts over what stands there.
use Rattle.std.specs.Prelude.{◌≡◌, ℕ, ◌+◌, ◌-◌, ◌<◌, ◌≤◌, List, [], ◌∷◌, ◌++◌, ◌≢◌, slice_index}
use Rattle.value.proofs.Laws.Lists.{Each}
use Rattle.format.specs.Syntax.{Expr, constant, local, one, two, Instr, assign, write, read, while, if, call, atomic, select, Block, end, step}
use Rattle.format.specs.Syntax as S
use Rattle.format.specs.Encode.{expr, block}
use Rattle.format.proofs.Laws.Grammar.{ExprAt, ExprsAt, InstrAt, BlockAt}
use Rattle.format.specs.Decode.{max_depth, max_nesting}
use Rattle.format.specs.Rules.{max_locals}
use Rattle.basics.specs.BitSets.{bits}
use Rattle.labels.specs.Walks.{SetOf}
use Rattle.translation.specs.Code.{◌then◌, tid, tmp, num, loc, moved, shift, mentions, variables, load, load_all, loads, pc, returns, put}
use Rattle.translation.specs.Code.{keep_in, inside_i, inside, goto, tests, passes, calls, code}
use Rattle.translation.specs.Layout.{Layout}
use Rattle.writer.specs.Laws.Pages.{Puts, PutsInstr, PutsBlock, Onto, Writes}
use Rattle.writer.specs.declared.page.Page.{Page}
use Rattle.emit.specs.declared.layout.Site.{Site}

-- each local of an expression is below n
abbrev pub Low : ℕ → Expr → Type 0
Low n (constant v) = Unit {0}
Low n (local x) = x < n
Low n (one o a) = Low n a
Low n (two o a b) = Low n a × Low n b

-- whatever expression stands at i, at most d deep, is written over the moved locals
pub record Copies (t : List ℕ) (i d : ℕ) (o o' : Page) (r : ℕ) : Type 0 where
  pub copied : (e : Expr) (j : ℕ) → ExprAt t i d e j → Low max_locals e → Puts o (expr (shift e)) o'
  pub ends : (e : Expr) (j : ℕ) → ExprAt t i d e j → Low max_locals e → r ≡ j
  pub forward : i ≤ r

-- ---- loads, stores and labels, in procedure m of n locals

-- a site says where the layout keeps what the code of procedure m uses
pub record Sited (G : Layout) (m n : ℕ) (s : Site) : Type 0 where
  pub locals : s.locals ≡ n
  pub few : n ≤ max_locals
  pub pct : s.pct ≡ G.pct
  pub from : s.from ≡ G.from m
  pub home : (x : ℕ) → s.home + x ≡ G.home m x

-- tmp := location l; x := tmp[tid]
pub record Takes (l x : ℕ) (o o' : Page) : Type 0 where
  pub gives : Writes o (λ c. assign tmp (loc l) then read x tmp (local tid) then c) o'

-- the load of x
pub record Loads (s : Site) (x : ℕ) (o o' : Page) : Type 0 where
  pub gives : (G : Layout) (m n : ℕ) → Sited G m n s → x < n → Writes o (load G m n x) o'

-- the load of x, if it is one of the variables of es: exactly if it is in the set u
pub record LoadsIf (s : Site) (u x : ℕ) (o o' : Page) : Type 0 where
  pub gives : (G : Layout) (m n : ℕ) (es : List Expr) → Sited G m n s → bits u x ≡ mentions x es → (c : Block S.Plain)
      → Onto o (block (load_all G m n (variables x (n - x) es) c)) o' (block (load_all G m n (variables (x + 1) (n - (x + 1)) es) c))

-- the loads of all variables of es
pub record LoadsAll (s : Site) (u : ℕ) (o o' : Page) : Type 0 where
  pub gives : (G : Layout) (m n : ℕ) (es : List Expr) → Sited G m n s → SetOf u es → Writes o (loads G m n es) o'

-- the loads of the locals from x on are left
pub record Loading (s : Site) (u x : ℕ) (o o' : Page) : Type 0 where
  pub rest : (G : Layout) (m n : ℕ) (es : List Expr) → Sited G m n s → SetOf u es → (c : Block S.Plain)
      → Onto o (block (loads G m n es c)) o' (block (load_all G m n (variables x (n - x) es) c))

-- "pc"
pub record Goes (s : Site) (label : ℕ) (o o' : Page) : Type 0 where
  pub gives : (G : Layout) (m n : ℕ) → Sited G m n s → PutsBlock o (pc G m n label) o'

-- the code of an end label
pub record Returns (s : Site) (o o' : Page) : Type 0 where
  pub gives : (G : Layout) (m n : ℕ) → Sited G m n s → PutsBlock o (returns G m n) o'

-- ---- instructions that hold no block

-- an expression of a procedure of n locals stands at i
pub record ExprOf (t : List ℕ) (i n : ℕ) (e : Expr) (j : ℕ) : Type 0 where
  pub stands : ExprAt t i max_depth e j
  pub low : Low n e

-- the loads of an expression's variables
pub record LoadsOf (t : List ℕ) (i : ℕ) (s : Site) (o o' : Page) : Type 0 where
  pub gives : (G : Layout) (m n : ℕ) (e : Expr) (j : ℕ) → Sited G m n s → ExprOf t i n e j → Writes o (loads G m n (e ∷ [])) o'

-- tmp := location l; tmp[tid] := e
pub record Stores (t : List ℕ) (i l : ℕ) (o o' : Page) (r : ℕ) : Type 0 where
  pub gives : (G : Layout) (m n : ℕ) (e : Expr) (j : ℕ) → ExprAt t i max_depth e j → Low max_locals e → Writes o (put G m n l (shift e)) o'
  pub ends : (e : Expr) (j : ℕ) → ExprAt t i max_depth e j → Low max_locals e → r ≡ j
  pub forward : i ≤ r

-- local x, as it was moved, into its location
pub record Holds (s : Site) (x : ℕ) (o o' : Page) : Type 0 where
  pub gives : (G : Layout) (m n : ℕ) → Sited G m n s → x < n → Writes o (keep_in G m n x (local (moved x))) o'

-- "load e's j, then o's k, then p"
pub record LoadsWrite (t : List ℕ) (i k : ℕ) (s : Site) (y : ℕ) (o o' : Page) : Type 0 where
  pub gives : (G : Layout) (m n : ℕ) (a e : Expr) (j : ℕ) → Sited G m n s → ExprOf t i n a k → ExprOf t k n e j → y < n
      → Writes o (λ c. loads G m n (e ∷ []) (loads G m n (a ∷ []) (load G m n y c))) o'

-- y[a] := e
pub record Sets (t : List ℕ) (i y : ℕ) (o o' : Page) (r : ℕ) : Type 0 where
  pub gives : (a e : Expr) (k j : ℕ) → ExprAt t i max_depth a k → Low max_locals a → ExprAt t k max_depth e j → Low max_locals e → y < max_locals
      → PutsInstr o (write (moved y) (shift a) (shift e)) o'
  pub ends : (a e : Expr) (k j : ℕ) → ExprAt t i max_depth a k → Low max_locals a → ExprAt t k max_depth e j → Low max_locals e → r ≡ j
  pub forward : i ≤ r

-- x := y[a]
pub record Gets (t : List ℕ) (i x y : ℕ) (o o' : Page) (r : ℕ) : Type 0 where
  pub gives : (a : Expr) (j : ℕ) → ExprAt t i max_depth a j → Low max_locals a → x < max_locals → y < max_locals
      → PutsInstr o (read (moved x) (moved y) (shift a)) o'
  pub ends : (a : Expr) (j : ℕ) → ExprAt t i max_depth a j → Low max_locals a → r ≡ j
  pub forward : i ≤ r

-- an instruction of a procedure of n locals that may stand in an atomic block
abbrev mutual
  pub InPlaceI : ℕ → Instr ℕ → Type 0
  InPlaceI n (assign x e) = (x < n) × Low n e
  InPlaceI n (write y o e) = (y < n) × Low n o × Low n e
  InPlaceI n (read x y o) = (x < n) × (y < n) × Low n o
  InPlaceI n (while e b) = ⊥
  InPlaceI n (if e b c) = Low n e × InPlace n b × InPlace n c
  InPlaceI n (call q es) = ⊥
  InPlaceI n (atomic b) = ⊥
  InPlaceI n (select a b) = ⊥

  -- of a block
  pub InPlace : ℕ → Block ℕ → Type 0
  InPlace n end = Unit {0}
  InPlace n (step l i b) = InPlaceI n i × InPlace n b

-- whatever assign, read or write stands at i, its code is written
pub record Plain (t : List ℕ) (i : ℕ) (s : Site) (o o' : Page) (r : ℕ) : Type 0 where
  pub gives : (G : Layout) (m n : ℕ) (d : ℕ) (a : Instr ℕ) (j : ℕ) → Sited G m n s → InstrAt t i d a j → InPlaceI n a
      → Writes o (inside_i G m n a) o'
  pub ends : (n d : ℕ) (a : Instr ℕ) (j : ℕ) → n ≤ max_locals → InstrAt t i d a j → InPlaceI n a → r ≡ j
  pub forward : i < r

-- where no branch stands
pub record PlainIf (t : List ℕ) (i : ℕ) (s : Site) (o o' : Page) (r : ℕ) : Type 0 where
  pub gives : (slice_index t i ≢ 0x24) → Plain t i s o o' r
  pub forward : i < r

-- ---- blocks inside an atomic block

-- whatever instruction stands at i, its blocks at most d deep, its code is written in place
pub record InsideInstr (t : List ℕ) (i d : ℕ) (s : Site) (o o' : Page) (r : ℕ) : Type 0 where
  pub gives : (G : Layout) (m n : ℕ) (a : Instr ℕ) (j : ℕ) → Sited G m n s → InstrAt t i d a j → InPlaceI n a
      → Writes o (inside_i G m n a) o'
  pub ends : (n : ℕ) (a : Instr ℕ) (j : ℕ) → n ≤ max_locals → InstrAt t i d a j → InPlaceI n a → r ≡ j
  pub forward : i < r

-- whatever block stands at i, at most d deep
pub record InsideBlock (t : List ℕ) (i d : ℕ) (s : Site) (o o' : Page) (r : ℕ) : Type 0 where
  pub gives : (G : Layout) (m n : ℕ) (b : Block ℕ) (j : ℕ) → Sited G m n s → BlockAt t i d b j → InPlace n b → Writes o (inside G m n b) o'
  pub ends : (n : ℕ) (b : Block ℕ) (j : ℕ) → n ≤ max_locals → BlockAt t i d b j → InPlace n b → r ≡ j
  pub forward : i ≤ r

-- a block that is a branch, with its end
pub record Branch (t : List ℕ) (i d : ℕ) (s : Site) (o o' : Page) (r : ℕ) : Type 0 where
  pub gives : (G : Layout) (m n : ℕ) (b : Block ℕ) (j : ℕ) → Sited G m n s → BlockAt t i d b j → InPlace n b
      → PutsBlock o (inside G m n b end) o'
  pub ends : (n : ℕ) (b : Block ℕ) (j : ℕ) → n ≤ max_locals → BlockAt t i d b j → InPlace n b → r ≡ j
  pub forward : i ≤ r

-- what is written from k on is written from i on
pub record From (t : List ℕ) (i d : ℕ) (s : Site) (o : Page) (k : ℕ) (o' : Page) : Type 0 where
  pub back : {o'' : Page} {r : ℕ} → InsideBlock t k d s o' o'' r → InsideBlock t i d s o o'' r

-- "if e", over the moved locals
pub record Asks (t : List ℕ) (i : ℕ) (o o' : Page) (r : ℕ) : Type 0 where
  pub gives : (e : Expr) (j : ℕ) → ExprAt t i max_depth e j → Low max_locals e → Puts o (0x24 ∷ expr (shift e)) o'
  pub ends : (e : Expr) (j : ℕ) → ExprAt t i max_depth e j → Low max_locals e → r ≡ j
  pub forward : i ≤ r

-- ---- the code of a label

-- a branch of one tmp[tid] := label
pub record Ways (label : ℕ) (o o' : Page) : Type 0 where
  pub gives : (G : Layout) (m n : ℕ) → PutsBlock o (goto G m n label) o'

-- the loads of a test, and "tmp := pct; if e"
pub record Questions (t : List ℕ) (i : ℕ) (s : Site) (o o' : Page) : Type 0 where
  pub gives : (G : Layout) (m n : ℕ) (e : Expr) (j : ℕ) → Sited G m n s → ExprOf t i n e j → (b c : Block S.Plain)
      → Onto o (block (loads G m n (e ∷ []) (assign tmp (loc G.pct) then if (shift e) b c then end))) o' (block b ++ (block c ++ (0 ∷ [])))

-- if, while
pub record Tests (t : List ℕ) (i : ℕ) (s : Site) (l k : ℕ) (o o' : Page) : Type 0 where
  pub gives : (G : Layout) (m n : ℕ) (e : Expr) (j : ℕ) → Sited G m n s → ExprOf t i n e j → PutsBlock o (tests G m n e l k) o'

-- k expressions of a procedure of n locals stand from i on
pub record ExprsOf (t : List ℕ) (i k n : ℕ) (es : List Expr) (j : ℕ) : Type 0 where
  pub stand : ExprsAt t i k es j
  pub low : Each (Low n) es

-- the loads of the variables of several expressions
pub record LoadsEach (t : List ℕ) (i k : ℕ) (s : Site) (o o' : Page) : Type 0 where
  pub gives : (G : Layout) (m n : ℕ) (es : List Expr) (j : ℕ) → Sited G m n s → ExprsOf t i k n es j → Writes o (loads G m n es) o'

-- arguments, from parameter x of procedure q on
pub record Passes (t : List ℕ) (i k x : ℕ) (c : Site) (o o' : Page) : Type 0 where
  pub gives : (G : Layout) (m n q l : ℕ) (es : List Expr) (j : ℕ) → Sited G q l c → n ≤ max_locals → ExprsOf t i k n es j
      → Writes o (passes G m n q x es) o'

-- what is passed from there on is passed from here on
pub record Passing (t : List ℕ) (i k : ℕ) (c : Site) (o : Page) (i' x : ℕ) (o' : Page) : Type 0 where
  pub back : {o'' : Page} → Passes t i' (k - x) x c o' o'' → Passes t i k 0 c o o''
  pub most : x ≤ k

-- a label into a "from"
pub record Marks (c : Site) (label : ℕ) (o o' : Page) : Type 0 where
  pub gives : (G : Layout) (m n q l : ℕ) → Sited G q l c → Writes o (put G m n (G.from q) (num label)) o'

-- call
pub record Calls (t : List ℕ) (i k : ℕ) (s c : Site) (begin next : ℕ) (o o' : Page) : Type 0 where
  pub gives : (G : Layout) (m n q l : ℕ) (es : List Expr) (j : ℕ) → Sited G m n s → Sited G q l c → ExprsOf t i k n es j
      → PutsBlock o (calls G m n q es begin next) o'

-- an instruction of a procedure of n locals that has one label: assign, read, write and atomic
abbrev pub OneLabel : ℕ → Instr ℕ → Type 0
OneLabel n (assign x e) = InPlaceI n (assign x e)
OneLabel n (write y o e) = InPlaceI n (write y o e)
OneLabel n (read x y o) = InPlaceI n (read x y o)
OneLabel n (while e b) = ⊥
OneLabel n (if e b c) = ⊥
OneLabel n (call q es) = ⊥
OneLabel n (atomic b) = InPlace n b
OneLabel n (select a b) = ⊥

-- and its code
pub record Steps (t : List ℕ) (i : ℕ) (s : Site) (next : ℕ) (o o' : Page) : Type 0 where
  pub gives : (G : Layout) (m n : ℕ) (begin : ℕ → ℕ) (l : ℕ) (a : Instr ℕ) (j : ℕ) → Sited G m n s → InstrAt t i max_nesting a j → OneLabel n a
      → PutsBlock o (code G m n begin l a next) o'

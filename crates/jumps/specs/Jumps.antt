-- The jump table of the sequential machine: where a run goes on after a block, and where a test fails.
use Rattle.std.specs.Prelude.{ℕ, ◌≤◌, ◌<◌, ◌≡◌, List, Bool, true, false, length, get_or}
use Rattle.value.specs.Maybe.{Maybe, is, nothing}
use Rattle.format.specs.Syntax.{Instr, assign, write, read, while, if, call, atomic, select, Block, end, step, ◌⊕◌, Proc, Plain}
pub use Rattle.basics.specs.Sizes.{positions}
use Rattle.labels.specs.Spots.{Spot, Inner, CodeAt}
use Rattle.labels.specs.Walks.{BodiesAt}
use Rattle.format.proofs.Laws.Grammar.{InstrAt, BlockAt}
use Rattle.engine.specs.Work.{Beside}

-- in procedure m the code x goes on at k, where its first instruction stands; of no code, k is the end of the body
pub data Settled (ps : List (Proc Plain)) (m k : ℕ) (x : Block Plain) : Type 0 where
  last : CodeAt ps m k end end → x ≡ end → Settled ps m k x
  first : (i : Instr Plain) (d r : Block Plain) → CodeAt ps m k (step tt i d) r → x ≡ step tt i (d ⊕ r) → Settled ps m k x

-- where d stands and r remains after it: the code that follows a block that ends there, or a test that fails. "After the last
-- instruction of a while body comes the while; after the last of a branch, what follows the if"
abbrev pub beyond : Block Plain → Block Plain → Maybe (Block Plain)
beyond end r = is r
beyond (step a (while e b) d) r = is (d ⊕ r)
beyond (step a (if e b f) d) r = is (f ⊕ (d ⊕ r))
beyond (step a (assign x e) d) r = nothing
beyond (step a (write y o e) d) r = nothing
beyond (step a (read x y o) d) r = nothing
beyond (step a (call n es) d) r = nothing
beyond (step a (atomic b) d) r = nothing
beyond (step a (select x y) d) r = nothing

-- v is the right entry there
pub record Entry (ps : List (Proc Plain)) (m v : ℕ) (d r : Block Plain) : Type 0 where
  pub goes : (x : Block Plain) → beyond d r ≡ is x → Settled ps m v x

-- each entry is right
pub record Jumps (ps : List (Proc Plain)) (js : List ℕ) : Type 0 where
  pub entry : (m k : ℕ) (d r : Block Plain) → CodeAt ps m k d r → Entry ps m (get_or js k 0) d r

-- ---- what the walks that fill it promise

-- code goes on at f whose next block stands at i, and is followed by what goes on at n
pub record Onward (t : List ℕ) (i n f : ℕ) : Type 0 where
  pub gives : (d : ℕ) (b : Block Plain) (j : ℕ) → BlockAt t i d b j → (ps : List (Proc Plain)) (m : ℕ) (c : Block Plain) → CodeAt ps m i b c
      → Settled ps m n c → Settled ps m f (b ⊕ c)
  pub below : n < positions → length t ≤ positions → f < positions

-- the entries of the block b from i up to j, followed by what goes on at n
pub record FilledBlock (i : ℕ) (b : Block Plain) (j n : ℕ) (js js' : List ℕ) : Type 0 where
  pub beside : Beside js js' i j
  pub entries : (ps : List (Proc Plain)) (m : ℕ) (c : Block Plain) → CodeAt ps m i b c → Settled ps m n c
      → (k : ℕ) (d r : Block Plain) → Spot k d r i b c → Entry ps m (get_or js' k 0) d r

-- those of the instruction s, followed by what goes on at n
pub record FilledInstr (i : ℕ) (s : Instr Plain) (j n : ℕ) (js js' : List ℕ) : Type 0 where
  pub beside : Beside js js' i j
  pub itself : (ps : List (Proc Plain)) (m : ℕ) (b c : Block Plain) → CodeAt ps m i (step tt s b) c → Settled ps m n (b ⊕ c)
      → Entry ps m (get_or js' i 0) (step tt s b) c
  pub inner : (ps : List (Proc Plain)) (m : ℕ) (b c : Block Plain) → CodeAt ps m i (step tt s b) c → Settled ps m n (b ⊕ c)
      → (k : ℕ) (d r : Block Plain) → Inner k d r i tt s (b ⊕ c) → Entry ps m (get_or js' k 0) d r

-- of the block that stands at i
pub record FillsBlock (t : List ℕ) (i d n : ℕ) (js js' : List ℕ) : Type 0 where
  pub gives : length js ≡ positions → length t ≤ positions → (b : Block Plain) (j : ℕ) → BlockAt t i d b j → FilledBlock i b j n js js'

-- of the instruction
pub record FillsInstr (t : List ℕ) (i d n : ℕ) (js js' : List ℕ) : Type 0 where
  pub gives : length js ≡ positions → length t ≤ positions → (s : Instr Plain) (j : ℕ) → InstrAt t i d s j → FilledInstr i s j n js js'

-- of the bodies of c procedures
pub record FillsJumps (t : List ℕ) (c : ℕ) (js js' : List ℕ) : Type 0 where
  pub gives : length js ≡ positions → length t ≤ positions → (ps : List (Proc Plain)) (j : ℕ) → BodiesAt t 0 c ps j → Jumps ps js'

-- ---- what going on promises

-- the entry of k at a block's end, and k elsewhere
pub record Settles (t js : List ℕ) (k v : ℕ) : Type 0 where
  pub ended : get_or t k 0 ≡ 0 → v ≡ get_or js k 0
  pub other : (get_or t k 0 ≡ 0 → ⊥) → v ≡ k
  pub below : v < positions

-- after a test at k: where its block begins, at n, or the entry of k
pub record Branches (t js : List ℕ) (k : ℕ) (q : Bool) (n v : ℕ) : Type 0 where
  pub yes : q ≡ true → Settles t js n v
  pub no : q ≡ false → v ≡ get_or js k 0

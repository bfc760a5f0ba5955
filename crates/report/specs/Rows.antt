-- The rows of frames: the code that remains in a frame, as positions in the table.
use Rattle.std.specs.Prelude.{ℕ, zero, suc, ◌+◌, ◌*◌, ◌-◌, ◌≤◌, ◌<◌, ◌≡◌, List, [], ◌∷◌, Bool, true, false, length, get_or, set}
use Rattle.value.specs.Maybe.{is, pick}
use Rattle.value.specs.Lists.{at}
use Rattle.basics.specs.Sizes.{thread_frames, all_frames}
use Rattle.format.specs.Syntax.{Block, end, ◌⊕◌, concurrent}
use Rattle.format.specs.Encode.{record_size}
use Rattle.format.specs.Decode.{max_nesting}
use Rattle.format.specs.Rules.{limits}
use Rattle.format.proofs.Laws.Grammar.{BlockAt}
use Rattle.labels.specs.Walks.{BlockIn}
use Rattle.semantics.specs.Step.{Stack}

-- "depth at most 16": a frame has at most a row for each block around its next instruction
abbrev pub most_rows : ℕ
most_rows = max_nesting

-- those of all frames
abbrev pub all_rows : ℕ
all_rows = most_rows * all_frames

-- the positions of a concurrent table
abbrev pub places : ℕ
places = (limits concurrent).bytes

-- ---- what they hold

-- the n lowest rows of the frame whose rows begin at place k are the code c: what is left of a block at the uppermost of them, and then those below
-- it. Each stands one block deeper than the one below
pub data RowsAt (t rows : List ℕ) (k : ℕ) : ℕ → Block ℕ → Type 0 where
  none : {c : Block ℕ} → c ≡ end → RowsAt t rows k zero c
  some : {n : ℕ} {c : Block ℕ} (b rest : Block ℕ) (j : ℕ) → c ≡ b ⊕ rest → BlockAt t (get_or rows (k + n) 0) (max_nesting - n) b j → RowsAt t rows k n rest
      → RowsAt t rows k (suc n) c

module _ (t rows heights : List ℕ) where
  -- the frames of a stack have their code in rows, the lowest frame at number k
  abbrev pub FrameRows : ℕ → Stack ℕ → Type 0
  FrameRows k [] = Unit {0}
  FrameRows k (f ∷ s) = RowsAt t rows (most_rows * (k + length s)) (get_or heights (k + length s) 0) f.code × FrameRows k s

  -- so have the frames of each thread
  pub record AllRows (ts : List (Stack ℕ)) : Type 0 where
    pub rows_long : length rows ≡ all_rows
    pub heights_long : length heights ≡ all_frames
    pub each : (i : ℕ) (s : Stack ℕ) → at ts i ≡ is s → FrameRows (thread_frames * i) s

-- ---- where blocks end

-- what was found: where the block at i ends, or 0
pub record Known (t ends : List ℕ) : Type 0 where
  pub long : length ends ≡ places
  pub each : (i : ℕ) → (get_or ends i 0 ≡ 0 → ⊥) → (b : Block ℕ) (j : ℕ) → BlockAt t i max_nesting b j → get_or ends i 0 ≡ j

-- a block stands there
pub record Passing (t ends : List ℕ) (i : ℕ) : Type 0 where
  pub block : BlockIn t i max_nesting
  pub known : Known t ends
  pub short : length t ≤ places

-- it ends at r
pub record Passes (t : List ℕ) (i : ℕ) (ends' : List ℕ) (r : ℕ) : Type 0 where
  pub ends : (b : Block ℕ) (j : ℕ) → BlockAt t i max_nesting b j → r ≡ j
  pub known : Known t ends'

-- ---- rows that are used up

-- the n lowest rows from place k on are positions of the table
pub record Within (t rows : List ℕ) (k n : ℕ) : Type 0 where
  pub room : k + n ≤ all_rows
  pub long : length rows ≡ all_rows
  pub each : (i : ℕ) → i < n → get_or rows (k + i) 0 < length t

-- of those the r lowest are left: those above them are used up, and the uppermost of them is not
pub record Leaves (t rows : List ℕ) (k n r : ℕ) : Type 0 where
  pub less : r ≤ n
  pub used : (i : ℕ) → r ≤ i → i < n → get_or t (get_or rows (k + i) 0) 0 ≡ 0
  pub next : (r ≡ 0 → ⊥) → get_or t (get_or rows (k + r - 1) 0) 0 ≡ 0 → ⊥

-- ---- after a test

-- a while or an if stands at i, its test ends at n, and frame `top` goes on there
pub record Testing (t : List ℕ) (i n top : ℕ) (rows heights ends : List ℕ) : Type 0 where
  pub inside : i < length t
  pub first : BlockIn t n max_nesting
  pub block : Block ℕ
  pub next : ℕ
  pub there : BlockAt t n max_nesting block next
  pub second : (get_or t i 0 ≡ 0x23 → ⊥) → BlockIn t next max_nesting
  pub known : Known t ends
  pub short : length t ≤ places
  pub some : 1 ≤ get_or heights top 0
  pub few : get_or heights top 0 < most_rows
  pub frame : top < all_frames
  pub rows_long : length rows ≡ all_rows
  pub heights_long : length heights ≡ all_frames

-- its rows then
pub record Tested (t : List ℕ) (i : ℕ) (q : Bool) (n top : ℕ) (rows heights rows' heights' ends' : List ℕ) : Type 0 where
  pub known : Known t ends'
  -- [while : true]
  pub again : get_or t i 0 ≡ 0x23 → q ≡ true
      → (rows' ≡ set rows (most_rows * top + get_or heights top 0) n) × (heights' ≡ set heights top (get_or heights top 0 + 1))
  -- [while : false]
  pub past : get_or t i 0 ≡ 0x23 → q ≡ false → (b : Block ℕ) (j : ℕ) → BlockAt t n max_nesting b j
      → (rows' ≡ set rows (most_rows * top + get_or heights top 0 - 1) j) × (heights' ≡ heights)
  -- [if : true], [if : false]
  pub into : (get_or t i 0 ≡ 0x23 → ⊥) → (b : Block ℕ) (l : ℕ) → BlockAt t n max_nesting b l → (c : Block ℕ) (j : ℕ) → BlockAt t l max_nesting c j
      → (rows' ≡ set (set rows (most_rows * top + get_or heights top 0 - 1) j) (most_rows * top + get_or heights top 0) (pick q n l))
      × (heights' ≡ set heights top (get_or heights top 0 + 1))

-- ---- the body of a procedure

-- its record is one of those from i on
pub record HasRecord (t : List ℕ) (i m : ℕ) : Type 0 where
  pub inside : i + record_size * m + record_size ≤ length t

-- What the machines keep at work: arrays of words, the locals of a frame, the cells of memory.
use Rattle.std.specs.Prelude.{ℕ, zero, suc, ◌+◌, ◌*◌, ◌≤◌, ◌<◌, ◌≡◌, List, [], ◌∷◌, ◌++◌, length, get_or, take, set, pos, Result, Ok, Err}
use Rattle.value.specs.Maybe.{is}
use Rattle.value.specs.Try.{Try, has, lacks, ◌⟫◌}
use Rattle.value.specs.Lists.{at, sum, over}
use Rattle.value.specs.Values.{cell_size, number, place}
use Rattle.value.specs.declared.Value.{Value}
use Rattle.basics.specs.Places.{number_at, with_value}
use Rattle.value.specs.declared.Reason.{Reason}
use Rattle.engine.specs.declared.memory.Spot.{Spot}
use Rattle.semantics.specs.Memory.{Env, lookup, index, Memory, cell}
use Rattle.semantics.specs.Buffers.{cells}
pub use Rattle.basics.specs.Sizes.{frame_words, local_words, thread_words, most_locations, start_words, cell_words, program_words}
use Rattle.engine.specs.Words.{held}
use Rattle.semantics.proofs.Laws.Cells.{shape}

-- ---- words

-- a word that holds v was stored at place i
pub record Puts (ws ws' : List ℕ) (i : ℕ) (v : Value) : Type 0 where
  pub word : ℕ
  pub holds : held word ≡ is v
  pub stored : ws' ≡ set ws i word

-- at most the words from a up to b are others
pub record Beside (ws ws' : List ℕ) (a b : ℕ) : Type 0 where
  pub long : length ws' ≡ length ws
  pub below : (k : ℕ) → k < a → get_or ws' k 0 ≡ get_or ws k 0
  pub above : (k : ℕ) → b ≤ k → get_or ws' k 0 ≡ get_or ws k 0

-- the words from a up to b are 0, and the others as they were
pub record Clears (ws ws' : List ℕ) (a b : ℕ) : Type 0 where
  pub beside : Beside ws ws' a b
  pub zero : (k : ℕ) → a ≤ k → k < b → get_or ws' k 0 ≡ 0

-- ---- locals

-- the words from fb on hold the locals ρ
pub record Framed (ls : List ℕ) (fb : ℕ) (ρ : Env) : Type 0 where
  pub room : fb + length ρ ≤ length ls
  pub each : (x : ℕ) → x < length ρ → held (get_or ls (fb + x) 0) ≡ lookup ρ x

-- ---- cells

-- all cells, in location order
abbrev pub flat : Memory → List Value
flat [] = []
flat (row ∷ η) = row ++ flat η

-- the words hold the cells of η
pub record Holds (η : Memory) (cs : List ℕ) : Type 0 where
  pub few : length (flat η) ≤ length cs
  pub each : (k : ℕ) → k < length (flat η) → held (get_or cs k 0) ≡ at (flat η) k

-- the number of the first cell of each location of these sizes; past the last of them, the number of all cells
pub record Bases (sizes bs : List ℕ) : Type 0 where
  pub few : length sizes ≤ most_locations
  pub starts : (l : ℕ) → l ≤ most_locations → get_or bs l 0 ≡ sum (take l sizes)

-- n sizes of two bytes each, from i on
abbrev pub sizes_at : List ℕ → ℕ → ℕ → List ℕ
sizes_at t i zero = []
sizes_at t i (suc n) = number_at 2 t i ∷ sizes_at t (i + 2) n

-- the first cells of locations of these sizes, and the number of all cells
pub record Starts (sizes bs : List ℕ) (n : ℕ) : Type 0 where
  pub long : length bs ≡ start_words
  pub bases : Bases sizes bs
  pub all : n ≡ sum sizes

-- number k among all cells is that of index i of location l
pub record IsCell (η : Memory) (l i k : ℕ) : Type 0 where
  pub number : k ≡ sum (take l (shape η)) + i
  pub size : i < get_or (shape η) l 0

-- where index i of location l is
abbrev pub Found : Memory → ℕ → ℕ → Result Spot Reason → Type 0
Found η l i (Ok s) = (s.location ≡ l) × (s.index ≡ i) × IsCell η l i s.cell
Found η l i (Err r) = cell η l i ≡ lacks r

-- the same, over all memories of these first cells
pub record Finds (bs : List ℕ) (l i : ℕ) (s : Result Spot Reason) : Type 0 where
  pub found : (η : Memory) → Bases (shape η) bs → Found η l i s

-- where the cell of a pointer and an index is, if they have values of the right kinds: the wanted cell of a read or a write, or why there is none
abbrev pub Placed : Memory → Try Value → Try Value → Result Spot Reason → Type 0
Placed η p o (Ok s) = ((o ⟫ number) ≡ has (pos s.index)) × ((p ⟫ place) ≡ has s.location) × IsCell η s.location s.index s.cell
Placed η p o (Err r) = (o ⟫ number ⟫ λ z. p ⟫ place ⟫ λ l. index z ⟫ λ i. cell η l i) ≡ lacks r

-- the same, over all memories of these first cells
pub record Places (bs : List ℕ) (p o : Try Value) (s : Result Spot Reason) : Type 0 where
  pub placed : (η : Memory) → Bases (shape η) bs → Placed η p o s

-- the bytes of a word's value were written over those of a buffer, where they fit
pub record WritesOne (w : ℕ) (o : List ℕ) (i : ℕ) (o' : List ℕ) : Type 0 where
  pub written : (v : Value) → held w ≡ is v → o' ≡ with_value o i v

-- the bytes of n cells were written over those of a buffer, where they fit
pub record Writes (cs : List ℕ) (n : ℕ) (o o' : List ℕ) : Type 0 where
  pub written : (η : Memory) → Holds η cs → n ≡ length (flat η) → cell_size * n ≤ length o → o' ≡ over (cells η) o

-- The deciding half of a frequent step, by words: what is answered stands for the step that `decide` answers, or for several tests in a row that fail.
-- `Left` stands for nothing: the step is then done the general way.
use Rattle.std.specs.Prelude.{ℕ, suc, ◌+◌, ◌^◌, ◌≤◌, ◌<◌, ◌≡◌, List, Bool, true, false, length, get_or, Option, Some, Ok}
use Rattle.value.specs.Maybe.{is}
use Rattle.value.specs.declared.Value.{Value}
use Rattle.engine.specs.Words.{held}
use Rattle.engine.specs.Work.{Beside, frame_words, cell_words, most_locations, Places}
use Rattle.engine.specs.declared.memory.Spot.{Spot}
use Rattle.decide.specs.declared.step.Step.TheVariants as S
use Rattle.decide.specs.Decided.{Poised, Kept, Lies, DecidesAll, Tests}
use Rattle.jumps.specs.Jumps.{positions}
use Rattle.value.specs.Values.{given}
use Rattle.basics.specs.Places.{number_at}
use Rattle.format.specs.Decode.{max_depth}
use Rattle.engine.specs.Evaluated.{valued, Evaluates}
use Rattle.quick.specs.Brief.{answer_in, Sure}
use Rattle.quick.specs.declared.brief.Worded.{Worded}
use Rattle.quick.specs.declared.turn.Quick.{Quick}
use Rattle.quick.specs.declared.turn.Quick.TheVariants.{Assign, Read, Write, Holds, Fails, Call, Left}

-- ---- what is asked

-- the code goes on at i, over the locals of the frame at fb: an instruction or a return stands there, or a select; the words cs hold a memory
pub record Turning (t ls bs cs : List ℕ) (fb i : ℕ) : Type 0 where
  pub inside : i < length t
  pub small : length t ≤ positions
  pub poised : (get_or t i 0 ≡ 0x27 → ⊥) → Poised t ls fb i
  pub kept : Kept bs cs
  pub full : length cs ≡ cell_words

-- ---- what is answered

-- n tests in a row fail, from the one at i on, and the run goes on at k: each goes on at the jump table's entry of its own place
pub data Row (t js ls bs cs : List ℕ) (fb i : ℕ) : ℕ → ℕ → Type 0 where
  none : Row t js ls bs cs fb i 0 i
  more : {n k j : ℕ} → Row t js ls bs cs fb i n k → Tests t k → DecidesAll t ls ls fb k (Lies bs cs) (S.Test false j)
      → Row t js ls bs cs fb i (suc n) (get_or js k 0)

-- the step that an answer stands for is decided, its value the one that the word holds; ls are the words of the locals before, and ls' after it
abbrev pub Turned : List ℕ → List ℕ → List ℕ → List ℕ → List ℕ → List ℕ → ℕ → ℕ → ℕ → Quick → Type 0
Turned t js ls ls' bs cs fb i left (Assign x w n) = (v : Value) × (held w ≡ is v) × DecidesAll t ls ls' fb i (Lies bs cs) (S.Assign x v n)
Turned t js ls ls' bs cs fb i left (Read x l k w n) = (v : Value) × (held w ≡ is v) × DecidesAll t ls ls' fb i (Lies bs cs) (S.Read x l k v n)
Turned t js ls ls' bs cs fb i left (Write l k c w n) = (v : Value) × (held w ≡ is v) × DecidesAll t ls ls' fb i (Lies bs cs) (S.Write l k c v n)
Turned t js ls ls' bs cs fb i left (Holds n) = DecidesAll t ls ls' fb i (Lies bs cs) (S.Test true n)
-- as many tests as there are steps, and no more than are left
Turned t js ls ls' bs cs fb i left (Fails k n) = (ls' ≡ ls) × (1 ≤ n) × (n ≤ left) × Row t js ls bs cs fb i n k
Turned t js ls ls' bs cs fb i left (Call m n) = DecidesAll t ls ls' fb i (Lies bs cs) (S.Call m n)
Turned t js ls ls' bs cs fb i left Left = Unit {0}

-- a select is left to the general way; and at most words of the frame above are others, even where it is left
pub record Turns (t js ls ls' bs cs : List ℕ) (fb i left : ℕ) (q : Quick) : Type 0 where
  pub beside : Beside ls ls' (fb + frame_words) (fb + frame_words + frame_words)
  pub other : get_or t i 0 ≡ 0x27 → q ≡ Left
  pub turned : Turned t js ls ls' bs cs fb i left q

-- so many steps
abbrev pub steps_of : Quick → ℕ
steps_of (Assign x w n) = 1
steps_of (Read x l k w n) = 1
steps_of (Write l k c w n) = 1
steps_of (Holds n) = 1
steps_of (Fails k n) = n
steps_of (Call m n) = 1
steps_of Left = 0

-- ---- the parts of it

-- the first cells are below 2 ^ 31, so that no index of a cell is taken for a number below zero
pub record Small (bs : List ℕ) : Type 0 where
  pub small : (l : ℕ) → l ≤ most_locations → get_or bs l 0 ≤ 2 ^ 31

-- a cell of a pointer and an index that are these words is the right one; of none nothing is said
pub record Spotted (bs : List ℕ) (p o : ℕ) (s : Option Spot) : Type 0 where
  pub places : (at : Spot) → s ≡ Some at → Places bs (given (answer_in p)) (given (answer_in o)) (Ok at)

-- "x := e", by the word of e
pub record Assigns (t : List ℕ) (i : ℕ) (e : Worded) (q : Quick) : Type 0 where
  pub turned : (js ls bs cs : List ℕ) (fb left : ℕ) → get_or t i 0 ≡ 0x20 → Sure t ls fb (i + 2) e → Turned t js ls ls bs cs fb i left q

-- "y[o] := e" stands at i, with a local o and the word of e
pub record Writing (t ls bs : List ℕ) (fb i : ℕ) (e : Worded) : Type 0 where
  pub poised : Poised t ls fb i
  pub mark : get_or t i 0 ≡ 0x21
  pub inside : i + 4 < length t
  pub offset : get_or t (i + 2) 0 ≡ 5
  pub source : Sure t ls fb (i + 4) e
  pub small : Small bs

pub record Writes (t ls bs : List ℕ) (fb i : ℕ) (q : Quick) : Type 0 where
  pub turned : (js cs : List ℕ) (left : ℕ) → Turned t js ls ls bs cs fb i left q

-- "x := y[o]" stands at i, with the word of o, which ends at n
pub record Reading (t ls bs cs : List ℕ) (fb i o n : ℕ) : Type 0 where
  pub poised : Poised t ls fb i
  pub mark : get_or t i 0 ≡ 0x22
  pub inside : i + 3 < length t
  pub offset : Evaluates t ls fb (i + 3) max_depth (valued (answer_in o) n)
  pub kept : Kept bs cs
  pub small : Small bs

pub record Reads (t ls bs cs : List ℕ) (fb i : ℕ) (q : Quick) : Type 0 where
  pub turned : (js : List ℕ) (left : ℕ) → Turned t js ls ls bs cs fb i left q

-- the test of a while or an if, by its word
pub record Tested (js : List ℕ) (i : ℕ) (e : Worded) (q : Quick) : Type 0 where
  pub turned : (t ls bs cs : List ℕ) (fb left : ℕ) → Tests t i → 1 ≤ left → Sure t ls fb (i + 1) e → Turned t js ls ls bs cs fb i left q

-- a while or an if stands at i
pub record Testing (t ls : List ℕ) (fb i : ℕ) : Type 0 where
  pub poised : Poised t ls fb i
  pub mark : Tests t i
  pub inside : i + 1 < length t
  pub small : length t ≤ positions

-- its test is of a local and a number that are equal: "24 14 05 x 01 c"
pub record Choice (t : List ℕ) (i : ℕ) : Type 0 where
  pub equal : get_or t (i + 1) 0 ≡ 0x14
  pub local : get_or t (i + 2) 0 ≡ 5
  pub number : get_or t (i + 4) 0 ≡ 1

pub record SaysChoice (t : List ℕ) (i : ℕ) (r : Bool) : Type 0 where
  pub yes : r ≡ true → Choice t i

-- at k the same four bytes h stand, and a number other than v
pub record Another (t : List ℕ) (k h v : ℕ) : Type 0 where
  pub head : number_at 4 t k ≡ h
  pub number : get_or t (k + 4) 0 ≡ 1
  pub small : number_at 4 t (k + 5) < 2 ^ 32
  pub other : number_at 4 t (k + 5) ≡ v → ⊥

pub record SaysAnother (t : List ℕ) (k h v : ℕ) (r : Bool) : Type 0 where
  pub yes : r ≡ true → Another t k h v

-- such tests in a row
pub record Chooses (t js ls : List ℕ) (fb i left : ℕ) (q : Quick) : Type 0 where
  pub turned : (bs cs : List ℕ) → Turned t js ls ls bs cs fb i left q

-- a call, and the words of the frame above
pub record Calls (t ls ls' : List ℕ) (fb i : ℕ) (q : Quick) : Type 0 where
  pub beside : Beside ls ls' (fb + frame_words) (fb + frame_words + frame_words)
  pub turned : (js bs cs : List ℕ) (left : ℕ) → Turned t js ls ls' bs cs fb i left q

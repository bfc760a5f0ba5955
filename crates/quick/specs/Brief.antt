-- Words of operators and of brief expressions. An answer that is NOTHING, the word 0, claims nothing: whoever asked then goes the general way. Any other is right.
use Rattle.std.specs.Prelude.{ℕ, ◌+◌, ◌*◌, ◌^◌, ◌<◌, ◌≡◌, List, Bool, true, ℤ, length, get_or, Result, Ok, Err}
use Rattle.value.specs.Maybe.{Maybe, is, nothing}
use Rattle.value.specs.Try.{Try, has}
use Rattle.value.specs.Marks.{mark_of}
use Rattle.value.specs.declared.Value.{Value}
use Rattle.value.specs.declared.Value.TheVariants.{Whole, Truth}
use Rattle.value.specs.declared.Reason.{Reason}
use Rattle.value.specs.declared.Reason.TheVariants.{WrongKind}
use Rattle.basics.specs.Columns.{applied₂}
use Rattle.basics.specs.Places.{number_at}
use Rattle.engine.specs.Words.{held}
use Rattle.engine.specs.Evaluated.{operated₂, Ready, valued, Evaluates}
use Rattle.quick.specs.declared.brief.Worded.{Worded}

-- ---- what a word holds

-- it holds what is asked for
pub record Worth (w : ℕ) (a : Try Value) : Type 0 where
  pub value : Value
  pub holds : held w ≡ is value
  pub same : a ≡ has value

-- it holds something
pub record Shows (w : ℕ) : Type 0 where
  pub value : Value
  pub holds : held w ≡ is value

-- it is NOTHING, or it holds what is asked for
pub record Claims (w : ℕ) (a : Try Value) : Type 0 where
  pub worth : (w ≡ 0 → ⊥) → Worth w a

-- a word r that shows that w holds something: w itself, or NOTHING
pub record Shown (w r : ℕ) : Type 0 where
  pub same : (r ≡ 0 → ⊥) → r ≡ w
  pub shows : (r ≡ 0 → ⊥) → Shows r

-- a word of a truth value
pub record IsTruth (w : ℕ) : Type 0 where
  pub truth : Bool
  pub holds : held w ≡ is (Truth truth)

-- the test says so
pub record SaysTruth (w : ℕ) (r : Bool) : Type 0 where
  pub yes : r ≡ true → IsTruth w

-- what a word holds, as an answer of the evaluator; a word that holds nothing is that of a local that is not set
abbrev pub answer_of : Maybe Value → Result Value Reason
answer_of (is v) = Ok v
answer_of nothing = Err WrongKind

abbrev pub answer_in : ℕ → Result Value Reason
answer_in w = answer_of (held w)

-- ---- operators

-- the operator of mark m on two whole numbers
abbrev pub Wholes : ℕ → ℤ → ℤ → ℕ → Type 0
Wholes m a b w = Claims w (applied₂ (mark_of m) (Whole a) (Whole b))

-- on two words: both hold values, and w holds what the operator gives of them
pub record Operated (m l r w : ℕ) : Type 0 where
  pub left : Value
  pub right : Value
  pub value : Value
  pub holds_left : held l ≡ is left
  pub holds_right : held r ≡ is right
  pub holds : held w ≡ is value
  pub gives : operated₂ m (has left) (has right) ≡ has value

pub record Operates (m l r w : ℕ) : Type 0 where
  pub operated : (w ≡ 0 → ⊥) → Operated m l r w

-- ---- expressions

-- a word, and where its expression ends
abbrev pub worded : ℕ → ℕ → Worded
worded w j = record { word = w; next = j }

-- an expression stands at i, however deep, over the locals of the frame at fb
pub record Standing (t ls : List ℕ) (fb i : ℕ) : Type 0 where
  pub d : ℕ
  pub ready : Ready t ls fb i d

-- the local whose number stands at i is one of the words
pub record LocalAt (t ls : List ℕ) (fb i : ℕ) : Type 0 where
  pub inside : i < length t
  pub word : fb + get_or t i 0 < length ls

-- the word of the number of four bytes at i
pub record NumberAt (t : List ℕ) (i w : ℕ) : Type 0 where
  pub same : w ≡ 2 ^ 32 + number_at 4 t i
  pub small : number_at 4 t i < 2 ^ 32

-- that of the location of two
pub record LocationAt (t : List ℕ) (i w : ℕ) : Type 0 where
  pub same : w ≡ 2 ^ 32 * 2 + number_at 2 t i
  pub small : number_at 2 t i < 2 ^ 16

-- what a word says of the expression at i is so: the word stands for its answer, and it ends there
pub record Words (t ls : List ℕ) (fb i : ℕ) (r : Worded) : Type 0 where
  pub says : (r.word ≡ 0 → ⊥) → (d : ℕ) → Evaluates t ls fb i d (valued (answer_in r.word) r.next)

-- and it has a value
pub record Sure (t ls : List ℕ) (fb i : ℕ) (r : Worded) : Type 0 where
  pub words : Words t ls fb i r
  pub shows : (r.word ≡ 0 → ⊥) → Shows r.word

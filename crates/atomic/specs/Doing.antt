-- What the code that runs an atomic block is asked and answers: the block that stands at a place of a table, over a frame of locals,
-- the words of memory and a buffer of events.
use Rattle.std.specs.Prelude.{ℕ, ◌+◌, ◌^◌, ◌≤◌, ◌<◌, ◌≡◌, List, [], ◌∷◌, ◌++◌, length, get_or, true, Result, Ok, Err}
use Rattle.value.specs.Try.{Try, has, lacks}
use Rattle.value.specs.declared.Reason.{Reason}
use Rattle.value.specs.declared.Reason.TheVariants.{WrongKind}
use Rattle.format.specs.Syntax.{Instr, Block, Program}
use Rattle.format.specs.Rules.{allowed, allowed_i, named, named_i}
use Rattle.format.proofs.Laws.Grammar.{InstrAt, BlockAt}
use Rattle.decide.specs.declared.step.Step.{Step}
use Rattle.decide.specs.declared.step.Step.TheVariants as S
use Rattle.atomic.specs.declared.block.Done.{Done}
use Rattle.semantics.specs.Memory.{bound, stored, reading, writing}
use Rattle.engine.specs.Work.{frame_words, Beside, Framed, Holds, Bases, IsCell}
use Rattle.engine.specs.Events.{Logged}
use Rattle.semantics.specs.Threads.{Atomic}
use Rattle.atomic.specs.Acts.{within, act_i, act}
use Rattle.semantics.proofs.Laws.Cells.{shape}

-- ---- what is at work

-- the words from fb on, those of memory with its first cells bs, and a buffer es with the events written hold what `a` says
pub record Works (fb : ℕ) (bs es ls cs o : List ℕ) (n : ℕ) (a : Atomic) : Type 0 where
  pub framed : Framed ls fb a.env
  pub room : fb + frame_words + frame_words ≤ length ls
  pub small : length a.env ≤ frame_words
  pub holds : Holds a.memory cs
  pub bases : Bases (shape a.memory) bs
  pub logged : Logged es a.events o n

-- from i up to j this was done: of all words of locals only those of the frame are others, and there are not more new events than bytes
pub record Worked (fb i j : ℕ) (bs es ls : List ℕ) (n X : ℕ) (a : Atomic) (ls' cs' o' : List ℕ) (k : ℕ) : Type 0 where
  pub works : Works fb bs es ls' cs' o' k a
  pub same : length a.env ≡ X
  pub beside : Beside ls ls' fb (fb + frame_words)
  pub few : k + i ≤ n + j

-- it came to j, with k events then
abbrev pub to : ℕ → ℕ → Result Done Reason
to j k = Ok (record { next = j; events = k })

-- how it went: blocked, or to the end
pub data Went (fb i j : ℕ) (bs es ls : List ℕ) (n X : ℕ) (ls' cs' o' : List ℕ) (m : Try Atomic) (r : Result Done Reason) : Type 0 where
  stops : (q : Reason) → m ≡ lacks q → r ≡ Err q → Went fb i j bs es ls n X ls' cs' o' m r
  goes : (a : Atomic) (k : ℕ) → m ≡ has a → r ≡ to j k → Worked fb i j bs es ls n X a ls' cs' o' k → Went fb i j bs es ls n X ls' cs' o' m r

-- ---- a step that was decided

-- it is carried out
abbrev pub carried : ℕ → ℕ → Step → Atomic → Try Atomic
carried t label (S.Assign x v j) a = has (record { env = bound a.env x v; memory = a.memory; events = a.events })
carried t label (S.Read x l i v j) a = has (record {
  env = bound a.env x v;
  memory = a.memory;
  events = a.events ++ (record { thread = t; way = reading; place = l; index = i; value = v; label = label } ∷ []);
})
carried t label (S.Write l i k v j) a = has (record {
  env = a.env;
  memory = stored a.memory l i v;
  events = a.events ++ (record { thread = t; way = writing; place = l; index = i; value = v; label = label } ∷ []);
})
carried t label S.Return a = lacks WrongKind
carried t label (S.Test q j) a = lacks WrongKind
carried t label (S.Call m j) a = lacks WrongKind
carried t label (S.Select k u j) a = lacks WrongKind
carried t label (S.Blocked q) a = lacks q

-- its local or its cell is there
abbrev pub StepFits : Atomic → Step → Type 0
StepFits a (S.Assign x v j) = x < length a.env
StepFits a (S.Read x l i v j) = x < length a.env
StepFits a (S.Write l i k v j) = IsCell a.memory l i k
StepFits a S.Return = Unit {0}
StepFits a (S.Test q j) = Unit {0}
StepFits a (S.Call m j) = Unit {0}
StepFits a (S.Select k u j) = Unit {0}
StepFits a (S.Blocked q) = Unit {0}

-- where its instruction ends
abbrev pub end_of : Step → ℕ
end_of (S.Assign x v j) = j
end_of (S.Read x l i v j) = j
end_of (S.Write l i k v j) = j
end_of S.Return = 0
end_of (S.Test q j) = j
end_of (S.Call m j) = j
end_of (S.Select k u j) = j
end_of (S.Blocked q) = 0

-- it ends behind i
abbrev pub Past : ℕ → Step → Type 0
Past i (S.Assign x v j) = i < j
Past i (S.Read x l k v j) = i < j
Past i (S.Write l k c v j) = i < j
Past i S.Return = Unit {0}
Past i (S.Test q j) = Unit {0}
Past i (S.Call m j) = Unit {0}
Past i (S.Select k u j) = Unit {0}
Past i (S.Blocked q) = Unit {0}

-- it can be carried out
pub record Carrying (fb : ℕ) (s : Step) (ls cs o : List ℕ) (n : ℕ) : Type 0 where
  pub a : Atomic
  pub bs : List ℕ
  pub es : List ℕ
  pub works : Works fb bs es ls cs o n a
  pub fits : StepFits a s
  pub few : n + 1 < 2 ^ 64

-- it was
pub record Carries (thread label fb : ℕ) (s : Step) (ls cs o : List ℕ) (n : ℕ) (ls' cs' o' : List ℕ) (r : Result Done Reason) : Type 0 where
  pub carries : (h : Carrying fb s ls cs o n) (i : ℕ) → Past i s
      → Went fb i (end_of s) h.bs h.es ls n (length h.a.env) ls' cs' o' (carried thread label s h.a) r
  pub still : (q : Reason) → r ≡ Err q → (ls' ≡ ls) × (cs' ≡ cs) × (o' ≡ o)

-- ---- a block

-- the first n words are those from fb on
pub record Copies (ls : List ℕ) (fb n : ℕ) (ws : List ℕ) : Type 0 where
  pub each : (k : ℕ) → k < n → get_or ws k 0 ≡ get_or ls (fb + k) 0

module _ (t : List ℕ) (thread label fb : ℕ) (bs : List ℕ) where
  -- an instruction stands at i
  pub record DoingI (i d : ℕ) (ls cs o : List ℕ) (n : ℕ) : Type 0 where
    pub a : Atomic
    pub es : List ℕ
    pub works : Works fb bs es ls cs o n a
    pub instr : Instr ℕ
    pub j : ℕ
    pub here : InstrAt t i d instr j
    pub p : Program ℕ
    pub named : named_i p (length a.env) instr ≡ true
    pub m : ℕ
    pub allowed : allowed_i (within m) instr ≡ true
    pub few : n + j < 2 ^ 64 + i

  -- a block does
  pub record Doing (i d : ℕ) (ls cs o : List ℕ) (n : ℕ) : Type 0 where
    pub a : Atomic
    pub es : List ℕ
    pub works : Works fb bs es ls cs o n a
    pub block : Block ℕ
    pub j : ℕ
    pub here : BlockAt t i d block j
    pub p : Program ℕ
    pub named : named p (length a.env) block ≡ true
    pub m : ℕ
    pub allowed : allowed (within m) block ≡ true
    pub few : n + j < 2 ^ 64 + i

  -- the instruction is done
  pub record DoesI (i d : ℕ) (ls cs o : List ℕ) (n : ℕ) (ls' cs' o' : List ℕ) (r : Result Done Reason) : Type 0 where
    pub does : (h : DoingI i d ls cs o n) → Went fb i h.j bs h.es ls n (length h.a.env) ls' cs' o' (act_i thread label h.instr h.a) r

  -- the block is done
  pub record Does (i d : ℕ) (ls cs o : List ℕ) (n : ℕ) (ls' cs' o' : List ℕ) (r : Result Done Reason) : Type 0 where
    pub does : (h : Doing i d ls cs o n) → Went fb i h.j bs h.es ls n (length h.a.env) ls' cs' o' (act thread label h.block h.a) r

  -- the block is done as a whole: where it blocks, all is as before
  pub record DoesWhole (i d : ℕ) (ls cs o : List ℕ) (n : ℕ) (ls' cs' o' : List ℕ) (r : Result Done Reason) : Type 0 where
    pub does : Does i d ls cs o n ls' cs' o' r
    pub still : Doing i d ls cs o n → (q : Reason) → r ≡ Err q → (ls' ≡ ls) × (cs' ≡ cs) × (o' ≡ o)

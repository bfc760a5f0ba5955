-- The deciding half of a step: what an instruction asks, where it stands, and the step that the code answers.
use Rattle.std.specs.Prelude.{ℕ, ◌+◌, ◌≤◌, ◌<◌, ◌≡◌, ◌⊎◌, List, [], ◌∷◌, map, Bool, length, get_or, take, eqb, Result, Ok, Err}
use Rattle.std.proofs.Math.Bool as B
use Rattle.value.specs.Maybe.{Maybe, is, nothing, pick, either}
use Rattle.value.specs.Try.{Try, has, lacks, ◌⟫◌, provided, or_lacks}
use Rattle.value.specs.Lists.{at, sum}
use Rattle.value.specs.Values.{given}
use Rattle.basics.specs.Places.{number_at}
use Rattle.value.specs.declared.Value.{Value}
use Rattle.value.specs.declared.Reason.{Reason}
use Rattle.value.specs.declared.Reason.TheVariants.{WrongKind}
use Rattle.value.proofs.Laws.Lists.{Each}
use Rattle.format.specs.Syntax.{Expr, local, Instr, assign, write, read, while, if, call, atomic, select, Block, step, ◌⊕◌, Proc}
use Rattle.format.specs.Encode.{expr, instr}
use Rattle.format.proofs.Laws.Grammar.{ExprAt, ExprsAt}
use Rattle.format.specs.Decode.{max_depth}
use Rattle.engine.specs.declared.evaluate.Valued.{Valued}
use Rattle.decide.specs.declared.step.Step.{Step}
use Rattle.decide.specs.declared.step.Step.TheVariants.{Return, Assign, Read, Write, Test, Call, Select, Blocked}
use Rattle.semantics.specs.Memory.{Env, bound, eval, evals, index, Memory, cell, stored, reading, writing}
use Rattle.value.specs.Values.{number, place, truth}
use Rattle.semantics.specs.Step.{Stack, Moved, entered, quiet, runs}
use Rattle.semantics.specs.Copy.{running}
use Rattle.engine.specs.Work.{Beside, frame_words, Framed, Holds, Bases, IsCell}
use Rattle.engine.specs.Evaluated.{Below, Evaluates}
use Rattle.semantics.proofs.Laws.Cells.{shape}

-- ---- what an instruction asks

-- of its frame and of memory, without the blocks that it may hold; or the return at the end of a body
pub data Act : Type 0 where
  assigns : ℕ → Expr → Act
  writes : ℕ → Expr → Expr → Act
  reads : ℕ → ℕ → Expr → Act
  tests : Expr → Act
  calls : ℕ → List Expr → Act
  returns : Act

-- what an instruction asks; an atomic block and a select ask nothing of this kind
abbrev pub act_of : {A : Type 0} → Instr A → Maybe Act
act_of (assign x e) = is (assigns x e)
act_of (write y o e) = is (writes y o e)
act_of (read x y o) = is (reads x y o)
act_of (while e b) = is (tests e)
act_of (if e b c) = is (tests e)
act_of (call m es) = is (calls m es)
act_of (atomic b) = nothing
act_of (select a b) = nothing

-- where it ends, if the instruction stands at i: of a while and an if, where the test ends and the first block begins
abbrev pub act_end : {A : Type 0} → ℕ → Instr A → ℕ
act_end i (while e b) = i + 1 + length (expr e)
act_end i (if e b c) = i + 1 + length (expr e)
act_end {A} i (assign x e) = i + length (instr {A = A} (assign x e))
act_end {A} i (write y o e) = i + length (instr {A = A} (write y o e))
act_end {A} i (read x y o) = i + length (instr {A = A} (read x y o))
act_end {A} i (call m es) = i + length (instr {A = A} (call m es))
act_end i (atomic b) = i + length (instr (atomic b))
act_end {A} i (select a b) = i + length (instr {A = A} (select a b))

-- the arguments of a call
abbrev pub args_of : Act → List Expr
args_of (calls m es) = es
args_of (assigns x e) = []
args_of (writes y o e) = []
args_of (reads x y o) = []
args_of (tests e) = []
args_of returns = []

-- ---- the step that is decided

-- the number of a cell among all cells
abbrev pub number_of : Memory → ℕ → ℕ → ℕ
number_of η l i = sum (take l (shape η)) + i

-- what is done, if nothing is missing; j is where the instruction, or its test, ends
abbrev pub deed : Env → Memory → Act → ℕ → Try Step
deed ρ η (assigns x e) j = eval ρ e ⟫ λ v. has (Assign x v j)
deed ρ η (writes y o e) j =
    eval ρ e ⟫ λ v.
    eval ρ o ⟫ number ⟫ λ z.
    eval ρ (local y) ⟫ place ⟫ λ l.
    index z ⟫ λ i.
    cell η l i ⟫ λ _.
    has (Write l i (number_of η l i) v j)
deed ρ η (reads x y o) j =
    eval ρ o ⟫ number ⟫ λ z.
    eval ρ (local y) ⟫ place ⟫ λ l.
    index z ⟫ λ i.
    cell η l i ⟫ λ v.
    has (Read x l i v j)
deed ρ η (tests e) j = eval ρ e ⟫ truth ⟫ λ q. has (Test q j)
deed ρ η (calls m es) j = evals ρ es ⟫ λ vs. has (Call m j)
deed ρ η returns j = has Return

-- "a missing value, a wrong kind or an index outside the size blocks", and says why
abbrev pub or_blocked : Try Step → Step
or_blocked (has s) = s
or_blocked (lacks r) = Blocked r

-- the step of an act
abbrev pub decided : Env → Memory → Act → ℕ → Step
decided ρ η a j = or_blocked (deed ρ η a j)

-- ---- what a step means

-- the code after a test
abbrev pub branch : {A : Type 0} → Bool → A → Instr A → Block A → Block A
branch q a (while e b) c = pick q (b ⊕ step a (while e b) c) c
branch q a (if e b d) c = pick q b d ⊕ c
branch q a (assign x e) c = c
branch q a (write y o e) c = c
branch q a (read x y o) c = c
branch q a (call m es) c = c
branch q a (atomic b) c = c
branch q a (select x y) c = c

-- the arguments of an instruction
abbrev pub args_in : {A : Type 0} → Instr A → List Expr
args_in (call m es) = es
args_in (assign x e) = []
args_in (write y o e) = []
args_in (read x y o) = []
args_in (while e b) = []
args_in (if e b c) = []
args_in (atomic b) = []
args_in (select a b) = []

-- what it leaves, of thread t at a label, of instruction i with tag a, first in procedure m with locals ρ, before c and above the frames s: report RR-2017-03, figure 1
module _ {A : Type 0} (procs : List (Proc A)) (t label m : ℕ) (ρ : Env) (a : A) (i : Instr A) (c : Block A) (s : Stack A) (η : Memory) where
  abbrev pub carried : Step → Try (Moved A)
  carried (Assign x v j) = has (quiet (record { proc = m; env = bound ρ x v; code = c } ∷ s) η)
  carried (Read x l k v j) =
      has (record {
        stack = record { proc = m; env = bound ρ x v; code = c } ∷ s;
        memory = η;
        events = record { thread = t; way = reading; place = l; index = k; value = v; label = label } ∷ [];
      })
  carried (Write l k n v j) =
      has (record {
        stack = record { proc = m; env = ρ; code = c } ∷ s;
        memory = stored η l k v;
        events = record { thread = t; way = writing; place = l; index = k; value = v; label = label } ∷ [];
      })
  carried (Test q j) = has (quiet (record { proc = m; env = ρ; code = branch q a i c } ∷ s) η)
  carried (Call n j) =
      evals ρ (args_in i) ⟫ λ vs.
      or_lacks WrongKind (at procs n) ⟫ λ p.
      provided (B.not (either (eqb n m) (runs n s))) WrongKind
      (quiet (entered n p vs ∷ record { proc = m; env = ρ; code = c } ∷ s) η)
  carried Return = has (quiet s η)
  carried (Select k e j) = lacks WrongKind
  carried (Blocked r) = lacks r

-- the local that an act sets
abbrev pub target_of : Act → Maybe ℕ
target_of (assigns x e) = is x
target_of (reads x y o) = is x
target_of (writes y o e) = nothing
target_of (tests e) = nothing
target_of (calls m es) = nothing
target_of returns = nothing

-- the procedure that it calls
abbrev pub callee_of : Act → Maybe ℕ
callee_of (calls m es) = is m
callee_of (assigns x e) = nothing
callee_of (writes y o e) = nothing
callee_of (reads x y o) = nothing
callee_of (tests e) = nothing
callee_of returns = nothing

-- what a decided step of act k says is so: it goes on at j, its local is the act's target, its cell is one of memory, its arguments have values
abbrev pub Right : Env → Memory → Act → ℕ → Step → Type 0
Right ρ η k j (Assign x v n) = (n ≡ j) × (target_of k ≡ is x)
Right ρ η k j (Read x l i v n) = (n ≡ j) × (target_of k ≡ is x)
Right ρ η k j (Write l i c v n) = (n ≡ j) × IsCell η l i c
Right ρ η k j (Test q n) = n ≡ j
Right ρ η k j (Call m n) = (n ≡ j) × (callee_of k ≡ is m) × ((vs : List Value) × (evals ρ (args_of k) ≡ has vs))
Right ρ η k j Return = k ≡ returns
Right ρ η k j (Select c e n) = ⊥
Right ρ η k j (Blocked r) = Unit {0}

-- "Select .. writes t into a[0], .. if b[t] exists and is a number other than 0"
abbrev pub chosen : Memory → ℕ → ℕ → ℕ → ℕ → Step
chosen η a b t j = or_blocked (cell η b t ⟫ running ⟫ λ _. has (Select (number_of η a 0) t j))

-- ---- where it stands

-- n is the number of locals of the frame

-- "20 x e"
pub record AssignHere (t : List ℕ) (i n x : ℕ) (e : Expr) (j : ℕ) : Type 0 where
  pub mark : get_or t i 0 ≡ 0x20
  pub target : get_or t (i + 1) 0 ≡ x
  pub source : ExprAt t (i + 2) max_depth e j
  pub below : (x < n) × Below n e

-- "21 y o e"
pub record WriteHere (t : List ℕ) (i n y : ℕ) (o e : Expr) (j : ℕ) : Type 0 where
  pub mark : get_or t i 0 ≡ 0x21
  pub pointer : get_or t (i + 1) 0 ≡ y
  pub k : ℕ
  pub offset : ExprAt t (i + 2) max_depth o k
  pub source : ExprAt t k max_depth e j
  pub below : (y < n) × Below n o × Below n e

-- "22 x y o"
pub record ReadHere (t : List ℕ) (i n x y : ℕ) (o : Expr) (j : ℕ) : Type 0 where
  pub mark : get_or t i 0 ≡ 0x22
  pub target : get_or t (i + 1) 0 ≡ x
  pub pointer : get_or t (i + 2) 0 ≡ y
  pub offset : ExprAt t (i + 3) max_depth o j
  pub below : (x < n) × (y < n) × Below n o

-- "23 e block", "24 e block block"
abbrev pub Tests : List ℕ → ℕ → Type 0
Tests t i = (get_or t i 0 ≡ 0x23) ⊎ (get_or t i 0 ≡ 0x24)

-- their expression
pub record TestHere (t : List ℕ) (i n : ℕ) (e : Expr) (j : ℕ) : Type 0 where
  pub mark : Tests t i
  pub test : ExprAt t (i + 1) max_depth e j
  pub below : Below n e

-- "25 m(2) n(1) n expressions"
pub record CallHere (t : List ℕ) (i n m : ℕ) (es : List Expr) (j : ℕ) : Type 0 where
  pub mark : get_or t i 0 ≡ 0x25
  pub inside : i + 4 ≤ length t
  pub callee : number_at 2 t (i + 1) ≡ m
  pub args : ExprsAt t (i + 4) (get_or t (i + 3) 0) es j
  pub below : Each (Below n) es
  pub few : length es ≤ frame_words

-- "a block ends with byte 00"
pub record ReturnHere (t : List ℕ) (i : ℕ) : Type 0 where
  pub mark : get_or t i 0 ≡ 0x00
  pub inside : i < length t

-- what stands at i, up to j
abbrev pub ActAt : List ℕ → ℕ → ℕ → Act → ℕ → Type 0
ActAt t i n (assigns x e) j = AssignHere t i n x e j
ActAt t i n (writes y o e) j = WriteHere t i n y o e j
ActAt t i n (reads x y o) j = ReadHere t i n x y o j
ActAt t i n (tests e) j = TestHere t i n e j
ActAt t i n (calls m es) j = CallHere t i n m es j
ActAt t i n returns j = ReturnHere t i

-- at i stands an instruction or a return, over the locals of the frame at fb; there is room for a frame above that
pub record Poised (t ls : List ℕ) (fb i : ℕ) : Type 0 where
  pub env : Env
  pub framed : Framed ls fb env
  pub act : Act
  pub j : ℕ
  pub here : ActAt t i (length env) act j
  pub narrow : length env ≤ frame_words
  pub room : fb + frame_words + frame_words ≤ length ls

-- n expressions stand at i, over the locals of the frame at fb
pub record Passable (t ls : List ℕ) (fb i n : ℕ) : Type 0 where
  pub env : Env
  pub framed : Framed ls fb env
  pub es : List Expr
  pub j : ℕ
  pub args : ExprsAt t i n es j
  pub below : Each (Below (length env)) es
  pub few : n ≤ frame_words
  pub narrow : length env ≤ frame_words
  pub room : fb + frame_words + frame_words ≤ length ls

-- "y[o] := e" stands at i, and its index and value are evaluated
pub record Writable (t ls : List ℕ) (fb i : ℕ) (o e : Valued) : Type 0 where
  pub poised : Poised t ls fb i
  pub mark : get_or t i 0 ≡ 0x21
  pub offset : Evaluates t ls fb (i + 2) max_depth o
  pub source : Evaluates t ls fb o.next max_depth e

-- "x := y[o]" stands at i, and its index is evaluated
pub record Readable (t ls : List ℕ) (fb i : ℕ) (o : Valued) : Type 0 where
  pub poised : Poised t ls fb i
  pub mark : get_or t i 0 ≡ 0x22
  pub offset : Evaluates t ls fb (i + 3) max_depth o

-- a memory of these first cells
pub record Laid (bs : List ℕ) (η : Memory) : Type 0 where
  pub bases : Bases (shape η) bs

-- one that these words hold
pub record Lies (bs cs : List ℕ) (η : Memory) : Type 0 where
  pub bases : Bases (shape η) bs
  pub holds : Holds η cs

-- there is one
pub record Kept (bs cs : List ℕ) : Type 0 where
  pub memory : Memory
  pub lies : Lies bs cs memory

-- any memory
pub record Any (η : Memory) : Type 0 where

-- ---- what the code answers

-- the step of what stands there, in each memory of which M is known
pub record Decides (t ls : List ℕ) (fb i : ℕ) (M : Memory → Type 0) (s : Step) : Type 0 where
  pub step : (h : Poised t ls fb i) (η : Memory) → M η → s ≡ decided h.env η h.act h.j

-- the step of "x := e" at i, by what e came to
pub record AssignOf (t : List ℕ) (i : ℕ) (e : Valued) (s : Step) : Type 0 where
  pub step : s ≡ or_blocked (given e.answer ⟫ λ v. has (Assign (get_or t (i + 1) 0) v e.next))

-- the step of a while or an if, by what its test came to
pub record TestOf (e : Valued) (s : Step) : Type 0 where
  pub step : s ≡ or_blocked (given e.answer ⟫ truth ⟫ λ q. has (Test q e.next))

-- the arguments of a call were passed: the words of the frame above hold their values; or one has none
abbrev pub PassedAs : {t ls : List ℕ} {fb i n : ℕ} → Passable t ls fb i n → List ℕ → Result ℕ Reason → Type 0
PassedAs {fb = fb} h ls' (Ok k) = (k ≡ h.j) × ((vs : List Value) × (evals h.env h.es ≡ has vs) × Framed ls' (fb + frame_words) (map is vs))
PassedAs h ls' (Err r) = evals h.env h.es ≡ lacks r

-- and no other words were touched
pub record PassesAll (t ls ls' : List ℕ) (fb i n : ℕ) (r : Result ℕ Reason) : Type 0 where
  pub beside : Beside ls ls' (fb + frame_words) (fb + frame_words + n)
  pub passed : (h : Passable t ls fb i n) → PassedAs h ls' r

-- the same of what stands at i, a call or not
pub record Passes (t ls ls' : List ℕ) (fb i : ℕ) : Type 0 where
  pub beside : (h : Poised t ls fb i) → Beside ls ls' (fb + frame_words) (fb + frame_words + length (args_of h.act))
  pub passed : (h : Poised t ls fb i) (vs : List Value) → evals h.env (args_of h.act) ≡ has vs → Framed ls' (fb + frame_words) (map is vs)

-- a step, and the words of the frame above
pub record DecidesAll (t ls ls' : List ℕ) (fb i : ℕ) (M : Memory → Type 0) (s : Step) : Type 0 where
  pub decides : Decides t ls fb i M s
  pub passes : Passes t ls ls' fb i

-- ---- select

-- "27 a(2) b(2)": both locations are there, and a has a cell
pub record SelectHere (t : List ℕ) (i a b : ℕ) (η : Memory) : Type 0 where
  pub inside : i + 5 ≤ length t
  pub target : number_at 2 t (i + 1) ≡ a
  pub source : number_at 2 t (i + 3) ≡ b
  pub there : 0 < get_or (shape η) a 0

-- the value that a select looks at, as the code answers it: that of cell b[e], or why there is none
pub record Looks (t bs cs : List ℕ) (i e : ℕ) (x : Result Value Reason) : Type 0 where
  pub value : (a b : ℕ) (η : Memory) → SelectHere t i a b η → Lies bs cs η → cell η b e ≡ given x

-- the step of a select that takes entry e
pub record Selects (t bs cs : List ℕ) (i e : ℕ) (s : Step) : Type 0 where
  pub step : (a b : ℕ) (η : Memory) → SelectHere t i a b η → Lies bs cs η → s ≡ chosen η a b e (i + 5)

-- there is one
pub record Selectable (t bs cs : List ℕ) (i : ℕ) : Type 0 where
  pub a : ℕ
  pub b : ℕ
  pub memory : Memory
  pub here : SelectHere t i a b memory
  pub lies : Lies bs cs memory

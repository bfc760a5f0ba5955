-- What the walks over a table that was read answer. Each is said of what stands at the position from which the walk begins.
use Rattle.std.specs.Prelude.{ℕ, suc, ◌+◌, ◌*◌, ◌-◌, ◌≤◌, ◌<◌, ◌≡◌, List, [], ◌∷◌, ◌++◌, length, eqb}
use Rattle.std.proofs.lemmas.List.Edits.{sets}
use Rattle.basics.specs.BitSets.{bits}
use Rattle.value.specs.Maybe.{either}
use Rattle.value.proofs.Laws.Lists.{Each}
use Rattle.format.specs.Syntax.{Expr, constant, local, one, two}
use Rattle.format.specs.Syntax.{Instr, assign, write, read, while, if, call, atomic, select, Block, end, step, Proc, Program, Plain}
use Rattle.format.specs.Syntax.{concurrent}
use Rattle.format.specs.Encode.{expr, instr, block, each, bodies_of}
use Rattle.format.specs.Labels.{count, count_i, counts, label, first}
use Rattle.labels.specs.LabelMap.{Mapped}
use Rattle.format.specs.Variables.{mentioned, mentions, variables}
use Rattle.format.specs.Rules.{limits, max_labels, max_locals}
use Rattle.format.proofs.Laws.Fits.{BlockFits}
use Rattle.format.proofs.Laws.Formed.{Formed}
use Rattle.format.proofs.Laws.Stands.{Stands}
use Rattle.format.proofs.Laws.Grammar.{ExprAt, ExprsAt, InstrAt, BlockAt}
use Rattle.format.specs.Decode.{max_depth, max_nesting}
use Rattle.labels.specs.declared.count.Counted.{Counted}
use Rattle.labels.specs.declared.variables.Gathered.{Gathered}

-- ---- something stands there

-- an instruction whose blocks are at most d deep
pub record InstrIn (t : List ℕ) (i d : ℕ) : Type 0 where
  pub instr : Instr Plain
  pub next : ℕ
  pub there : InstrAt t i d instr next
  pub inside : i < length t

-- a block at most d deep
pub record BlockIn (t : List ℕ) (i d : ℕ) : Type 0 where
  pub block : Block Plain
  pub next : ℕ
  pub there : BlockAt t i d block next
  pub inside : i < length t
  pub deep : 1 ≤ d

-- ---- where it ends

-- an expression
pub record ExprEnds (t : List ℕ) (i r : ℕ) : Type 0 where
  pub forward : i ≤ r
  pub ends : (e : Expr) (j : ℕ) → ExprAt t i max_depth e j → r ≡ j

-- n expressions
pub record ExprsEnd (t : List ℕ) (i n r : ℕ) : Type 0 where
  pub ends : (es : List Expr) (j : ℕ) → ExprsAt t i n es j → r ≡ j

-- an instruction without blocks
pub record PlainEnds (t : List ℕ) (i r : ℕ) : Type 0 where
  pub ends : (s : Instr Plain) (j : ℕ) → InstrAt t i 0 s j → r ≡ j

-- ---- its variables

-- how many operands an expression has
abbrev pub arity : Expr → ℕ
arity (constant v) = 0
arity (local x) = 0
arity (one o a) = 1
arity (two o a b) = 2

-- a set of one variable; those from 16 on are in none
pub record Only (x r : ℕ) : Type 0 where
  pub is : (y : ℕ) → y < max_locals → bits r y ≡ eqb y x

-- the bits of a set are the variables of es
abbrev pub SetOf : ℕ → List Expr → Type 0
SetOf s es = (x : ℕ) → x < max_locals → bits s x ≡ mentions x es

-- the variables of the expression that stands at i, and where it ends
pub record Gathers (t : List ℕ) (i d : ℕ) (r : Gathered) : Type 0 where
  pub set : (e : Expr) (j : ℕ) → ExprAt t i d e j → (x : ℕ) → x < max_locals → bits r.set x ≡ mentioned x e
  pub ends : (e : Expr) (j : ℕ) → ExprAt t i d e j → r.next ≡ j

-- the same, of an expression without operands
pub record GathersLeaf (t : List ℕ) (i : ℕ) (r : Gathered) : Type 0 where
  pub set : (e : Expr) (d j : ℕ) → ExprAt t i d e j → arity e ≡ 0 → (x : ℕ) → x < max_locals → bits r.set x ≡ mentioned x e
  pub ends : (e : Expr) (d j : ℕ) → ExprAt t i d e j → arity e ≡ 0 → r.next ≡ j

-- what is in the set s, and the variables of k expressions from i on
pub record GathersMore (t : List ℕ) (i k s r : ℕ) : Type 0 where
  pub gives : (es : List Expr) (j : ℕ) → ExprsAt t i k es j → (x : ℕ) → x < max_locals → bits r x ≡ either (bits s x) (mentions x es)

-- the variables of k expressions, in one set
pub record GathersEach (t : List ℕ) (i k r : ℕ) : Type 0 where
  pub gives : (es : List Expr) (j : ℕ) → ExprsAt t i k es j → SetOf r es

-- what is gathered from there on is gathered from here on, where so many are done
pub record Gathering (t : List ℕ) (i k s i' done : ℕ) : Type 0 where
  pub back : {r : ℕ} → GathersMore t i' (k - done) s r → GathersEach t i k r

-- how many are in a set: as many as there are variables
pub record CountsSet (s r : ℕ) : Type 0 where
  pub few : r ≤ max_locals
  pub counts : (es : List Expr) → SetOf s es → r ≡ length (variables 0 max_locals es)

-- ---- how many labels it has

-- where it ends, and its labels
abbrev pub counted : ℕ → ℕ → Counted
counted j n = record { next = j; labels = n }

-- an instruction: it has a label, and not more than bytes
pub record CountsInstr (t : List ℕ) (i d : ℕ) (r : Counted) : Type 0 where
  pub gives : (s : Instr Plain) (j : ℕ) → InstrAt t i d s j → r ≡ counted j (count_i s)
  pub some : 1 ≤ r.labels
  pub room : i + r.labels ≤ r.next
  pub fits : r.next ≤ length t

-- a block: it has fewer labels than bytes
pub record CountsBlock (t : List ℕ) (i d : ℕ) (r : Counted) : Type 0 where
  pub gives : (b : Block Plain) (j : ℕ) → BlockAt t i d b j → r ≡ counted j (count b)
  pub room : i + r.labels < r.next
  pub fits : r.next ≤ length t

-- ---- its numbers in the label map

-- the label that code without labels begins with, where its own would begin with l; of an empty block, k: what follows it
pub record BeginsAt (t : List ℕ) (i l k r : ℕ) : Type 0 where
  pub gives : (d : ℕ) (b : Block Plain) (j : ℕ) → BlockAt t i d b j → r ≡ first k (label l b)

-- the label after an instruction with label l, or where its test holds; k follows it
abbrev pub next_of : ℕ → Instr Plain → ℕ → ℕ
next_of l (assign x e) k = k
next_of l (write y o e) k = k
next_of l (read x y o) k = k
next_of l (while e b) k = first l (label (suc l) b)
next_of l (if e b f) k = first k (label (suc l) b)
next_of l (call q es) k = k
next_of l (atomic b) k = k
next_of l (select x y) k = k

-- where its test does not hold
abbrev pub other_of : ℕ → Instr Plain → ℕ → ℕ
other_of l (assign x e) k = 0
other_of l (write y o e) k = 0
other_of l (read x y o) k = 0
other_of l (while e b) k = k
other_of l (if e b f) k = first k (label (suc l + count b) f)
other_of l (call q es) k = 0
other_of l (atomic b) k = 0
other_of l (select x y) k = 0

-- in procedure m: four numbers for each label, of an instruction with label l at i that k follows
module _ (m : ℕ) where
  abbrev mutual
    pub numbers_i : ℕ → ℕ → Instr Plain → ℕ → List ℕ
    numbers_i i l (assign x e) k = []
    numbers_i i l (write y o e) k = []
    numbers_i i l (read x y o) k = []
    numbers_i i l (while e b) k = numbers (i + 1 + length (expr e)) (suc l) b l
    numbers_i i l (if e b f) k =
        numbers (i + 1 + length (expr e)) (suc l) b k
        ++ numbers (i + 1 + length (expr e) + length (block b)) (suc l + count b) f k
    numbers_i i l (call q es) k = []
    numbers_i i l (atomic b) k = []
    numbers_i i l (select x y) k = []

    -- of a block whose first label is l
    pub numbers : ℕ → ℕ → Block Plain → ℕ → List ℕ
    numbers i l end k = []
    numbers i l (step a s b) k =
        let next : ℕ = first k (label (l + count_i s) b) in
        i ∷ m ∷ next_of l s next ∷ other_of l s next ∷ numbers_i i l s next ++ numbers (i + length (instr s)) (l + count_i s) b k

-- of procedures from m on, the first of which begins at i with label l; each body has an end label at its last byte
abbrev pub all_numbers : ℕ → ℕ → ℕ → List (Proc Plain) → List ℕ
all_numbers m i l [] = []
all_numbers m i l (p ∷ ps) =
    let k : ℕ = l + count p.body in
    let j : ℕ = i + length (block p.body) in
    numbers m i l p.body k ++ ((j - 1) ∷ m ∷ 0 ∷ 0 ∷ all_numbers (suc m) j (suc k) ps)

-- the labels with which they begin and end
abbrev pub all_bounds : ℕ → List (Proc Plain) → List ℕ
all_bounds l [] = []
all_bounds l (p ∷ ps) =
    let k : ℕ = l + count p.body in
    first k (label l p.body) ∷ k ∷ all_bounds (suc k) ps

-- ---- writing them

-- a list of rows of w numbers, n, becomes n': these numbers from row l on
pub record Put (w : ℕ) (n : List ℕ) (l : ℕ) (xs n' : List ℕ) : Type 0 where
  pub wrote : n' ≡ sets n (w * l) xs

-- those of label l, if there can be such a label
pub record PutsNode (n : List ℕ) (l place proc next other : ℕ) (n' : List ℕ) : Type 0 where
  pub gives : l ≤ max_labels → Put 4 n l (place ∷ proc ∷ next ∷ other ∷ []) n'

-- of procedure m, if there can be such a procedure
pub record PutsBounds (n : List ℕ) (m begin end : ℕ) (n' : List ℕ) : Type 0 where
  pub gives : m < (limits concurrent).procs → Put 2 n m (begin ∷ end ∷ []) n'

-- of the instruction that stands at i
pub record FillsInstr (t : List ℕ) (i d l k m : ℕ) (n n' : List ℕ) : Type 0 where
  pub gives : (s : Instr Plain) (j : ℕ) → InstrAt t i d s j → l + count_i s ≤ max_labels + 1
      → Put 4 n l (i ∷ m ∷ next_of l s k ∷ other_of l s k ∷ numbers_i m i l s k) n'

-- of the block
pub record FillsBlock (t : List ℕ) (i d l k m : ℕ) (n n' : List ℕ) : Type 0 where
  pub gives : (b : Block Plain) (j : ℕ) → BlockAt t i d b j → l + count b ≤ max_labels + 1 → Put 4 n l (numbers m i l b k) n'

-- ---- all procedures

-- the bodies of c procedures stand from i up to j
pub record BodiesAt (t : List ℕ) (i c : ℕ) (ps : List (Proc Plain)) (j : ℕ) : Type 0 where
  pub stands : Stands t i (each block (bodies_of ps)) j
  pub count : length ps ≡ c
  pub fits : Each (BlockFits max_nesting) (bodies_of ps)

-- those of some
pub record BodiesIn (t : List ℕ) (i c : ℕ) : Type 0 where
  pub procs : List (Proc Plain)
  pub next : ℕ
  pub there : BodiesAt t i c procs next

-- the map of a program that was read, and how many labels it has
pub record MapsLabels (t : List ℕ) (c : ℕ) (map bounds : List ℕ) (r : ℕ) : Type 0 where
  pub gives : (p : Program Plain) → Formed concurrent t p → length p.procs ≡ c → counts p.procs ≤ max_labels
      → Mapped p map bounds × (r ≡ counts p.procs)

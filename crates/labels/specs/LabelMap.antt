-- The label map: of each label its position, its procedure, the code that remains there, and the labels it leads to.
use Rattle.std.specs.Prelude.{ℕ, zero, suc, ◌+◌, ◌*◌, ◌-◌, ◌<◌, ◌≡◌, List, [], ◌∷◌, ◌++◌, length, get_or}
use Rattle.value.specs.Maybe.{Maybe, is, nothing}
use Rattle.value.specs.Lists.{at}
use Rattle.format.specs.Syntax.{Instr, assign, write, read, while, if, call, atomic, select, Block, end, step, ◌⊕◌, Proc, Program}
use Rattle.format.specs.Encode.{expr, instr, block}
use Rattle.format.specs.Labels.{first, labelled, ends_of, begins}

-- a label's place in the bytes, its procedure, and the code that remains there: none at an end label
pub record Node : Type 0 where
  pub place : ℕ
  pub proc : ℕ
  pub code : Block ℕ

-- ---- the nodes of a labelled program, in label order

module _ (m : ℕ) where
  abbrev mutual
    -- those inside an instruction with label l that stands at i and is followed by c
    pub held : ℕ → ℕ → Instr ℕ → Block ℕ → List Node
    held i l (assign x e) c = []
    held i l (write y o e) c = []
    held i l (read x y o) c = []
    held i l (while e b) c = nodes (i + 1 + length (expr e)) b (step l (while e b) c)
    held i l (if e b f) c = nodes (i + 1 + length (expr e)) b c ++ nodes (i + 1 + length (expr e) + length (block b)) f c
    held i l (call q es) c = []
    held i l (atomic b) c = []
    held i l (select x y) c = []

    -- those of a block, in procedure m: "instructions in textual order, those inside an atomic block having none"
    pub nodes : ℕ → Block ℕ → Block ℕ → List Node
    nodes i end c = []
    nodes i (step l j b) c = record { place = i; proc = m; code = step l j (b ⊕ c) } ∷ held i l j (b ⊕ c) ++ nodes (i + length (instr j)) b c

-- of procedures from m on, where the first body begins at i: ".. then one end label", at the byte that ends the body
abbrev pub all_nodes : ℕ → ℕ → List (Proc ℕ) → List Node
all_nodes m i [] = []
all_nodes m i (p ∷ ps) =
    let j : ℕ = i + length (block p.body) in
    nodes m i p.body end ++ (record { place = j - 1; proc = m; code = end } ∷ all_nodes (suc m) j ps)

-- the node of a label: "Count from 1"
abbrev pub node_of : {A : Type 0} → Program A → ℕ → Maybe Node
node_of p zero = nothing
node_of p (suc l) = at (all_nodes 0 0 (labelled p).procs) l

-- ---- the labels that code leads to, in a procedure whose end label is k

-- the label after the first instruction; of a test, the one where it holds
abbrev pub next : ℕ → Block ℕ → ℕ
next k end = 0
next k (step l (assign x e) c) = first k c
next k (step l (write y o e) c) = first k c
next k (step l (read x y o) c) = first k c
next k (step l (while e b) c) = first l b
next k (step l (if e b f) c) = first (first k c) b
next k (step l (call q es) c) = first k c
next k (step l (atomic b) c) = first k c
next k (step l (select x y) c) = first k c

-- of a test, the label where it does not hold
abbrev pub other : ℕ → Block ℕ → ℕ
other k end = 0
other k (step l (assign x e) c) = 0
other k (step l (write y o e) c) = 0
other k (step l (read x y o) c) = 0
other k (step l (while e b) c) = first k c
other k (step l (if e b f) c) = first (first k c) f
other k (step l (call q es) c) = 0
other k (step l (atomic b) c) = 0
other k (step l (select x y) c) = 0

-- ---- the map as numbers

-- four for each label: position, procedure and the labels it leads to
abbrev pub words : (ℕ → ℕ) → List Node → List ℕ
words ends [] = []
words ends (n ∷ ns) = n.place ∷ n.proc ∷ next (ends n.proc) n.code ∷ other (ends n.proc) n.code ∷ words ends ns

-- what a filled map holds: the numbers of label l from 4 * l on, and the first and the last label of procedure m at 2 * m
pub record Mapped {A : Type 0} (p : Program A) (map bounds : List ℕ) : Type 0 where
  pub place : (l : ℕ) (n : Node) → node_of p l ≡ is n → get_or map (4 * l) 0 ≡ n.place
  pub proc : (l : ℕ) (n : Node) → node_of p l ≡ is n → get_or map (4 * l + 1) 0 ≡ n.proc
  pub next : (l : ℕ) (n : Node) → node_of p l ≡ is n → get_or map (4 * l + 2) 0 ≡ next (ends_of p n.proc) n.code
  pub other : (l : ℕ) (n : Node) → node_of p l ≡ is n → get_or map (4 * l + 3) 0 ≡ other (ends_of p n.proc) n.code
  pub begins : (m : ℕ) → m < length p.procs → get_or bounds (2 * m) 0 ≡ begins p m
  pub ends : (m : ℕ) → m < length p.procs → get_or bounds (2 * m + 1) 0 ≡ ends_of p m

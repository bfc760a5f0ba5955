-- Labels: document 01, "Labels". They count from 1; 0 is a finished thread.
use Rattle.std.specs.Prelude.{ℕ, zero, suc, ◌+◌, List, [], ◌∷◌}
use Rattle.format.specs.Syntax.{Instr, assign, write, read, while, if, call, atomic, select, Block, end, step, Proc, Program}

-- how many labels an instruction and a block have; what is inside an atomic block has none of its own
abbrev mutual
  pub count_i : {A : Type 0} → Instr A → ℕ
  count_i (assign x e) = 1
  count_i (write y o e) = 1
  count_i (read x y o) = 1
  count_i (while e b) = suc (count b)
  count_i (if e b c) = suc (count b + count c)
  count_i (call m es) = 1
  count_i (atomic b) = 1
  count_i (select a b) = 1

  -- of a block
  pub count : {A : Type 0} → Block A → ℕ
  count end = 0
  count (step a i b) = count_i i + count b

-- each procedure has one end label more
abbrev pub counts : {A : Type 0} → List (Proc A) → ℕ
counts [] = 0
counts (p ∷ ps) = suc (count p.body) + counts ps

-- the same tag at each instruction inside
abbrev mutual
  pub tag_i : {A B : Type 0} → B → Instr A → Instr B
  tag_i l (assign x e) = assign x e
  tag_i l (write y o e) = write y o e
  tag_i l (read x y o) = read x y o
  tag_i l (while e b) = while e (tag l b)
  tag_i l (if e b c) = if e (tag l b) (tag l c)
  tag_i l (call m es) = call m es
  tag_i l (atomic b) = atomic (tag l b)
  tag_i l (select a b) = select a b

  -- of a block
  pub tag : {A B : Type 0} → B → Block A → Block B
  tag l end = end
  tag l (step a i b) = step l (tag_i l i) (tag l b)

-- an instruction whose label is l, and a block whose first label is l
abbrev mutual
  pub label_i : {A : Type 0} → ℕ → Instr A → Instr ℕ
  label_i l (assign x e) = assign x e
  label_i l (write y o e) = write y o e
  label_i l (read x y o) = read x y o
  label_i l (while e b) = while e (label (suc l) b)
  label_i l (if e b c) = if e (label (suc l) b) (label (suc l + count b) c)
  label_i l (call m es) = call m es
  label_i l (atomic b) = atomic (tag l b)
  label_i l (select a b) = select a b

  -- of a block
  pub label : {A : Type 0} → ℕ → Block A → Block ℕ
  label l end = end
  label l (step a i b) = step l (label_i l i) (label (l + count_i i) b)

-- "Procedures in order; in each, instructions in textual order, .. then one end label"
abbrev pub labels : {A : Type 0} → ℕ → List (Proc A) → List (Proc ℕ)
labels l [] = []
labels l (p ∷ ps) = record { params = p.params; locals = p.locals; body = label l p.body } ∷ labels (l + suc (count p.body)) ps

-- "Count from 1"
abbrev pub labelled : {A : Type 0} → Program A → Program ℕ
labelled p = record { procs = labels 1 p.procs; sizes = p.sizes; mains = p.mains }

-- the label that a block begins with; of an empty one, that of what follows
abbrev pub first : ℕ → Block ℕ → ℕ
first k end = k
first k (step l i b) = l

-- the end label of procedure m, where the first label of all is l
abbrev pub end_of : {A : Type 0} → ℕ → List (Proc A) → ℕ → ℕ
end_of l [] m = 0
end_of l (p ∷ ps) zero = l + count p.body
end_of l (p ∷ ps) (suc m) = end_of (l + suc (count p.body)) ps m

-- the end label of each procedure: "Count from 1"
abbrev pub ends_of : {A : Type 0} → Program A → ℕ → ℕ
ends_of p = end_of 1 p.procs

-- the body of procedure m
abbrev pub body_of : {A : Type 0} → List (Proc A) → ℕ → Block A
body_of [] m = end
body_of (p ∷ ps) zero = p.body
body_of (p ∷ ps) (suc m) = body_of ps m

-- where procedure m begins: at its first instruction, or at its end label
abbrev pub begin_of : List (Proc ℕ) → (ℕ → ℕ) → ℕ → ℕ
begin_of ps ends m = first (ends m) (body_of ps m)

-- where each procedure begins
abbrev pub begins : {A : Type 0} → Program A → ℕ → ℕ
begins p = begin_of (labelled p).procs (ends_of p)

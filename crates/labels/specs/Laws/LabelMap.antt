-- The label map: the nodes of a labelled program are its labels in order, and what remains at a label is the code of its node.
use Rattle.std.specs.Prelude.{ℕ, zero, suc, ◌+◌, ◌-◌, ◌≤◌, ◌<◌, ◌≡◌, refl, List, [], ◌∷◌, ◌++◌, map, length}
use Rattle.std.proofs.Common.{zero-add, arith, sym, ap, subst, ◌∙◌, length-append}
use Rattle.std.proofs.lemmas.List.{length-map}
use Rattle.value.specs.Maybe.{is}
use Rattle.value.specs.Lists.{at, upto}
use Rattle.value.proofs.Laws.Maybes.{is_inj, missing}
use Rattle.value.proofs.Laws.Lists.{at_below, at_get_d, In, in_front, in_back, in_either}
use Rattle.value.proofs.Laws.Lists as Lists
use Rattle.format.specs.Syntax.{Expr, Instr, assign, write, read, while, if, call, atomic, select, Block, end, step, ◌⊕◌, Proc, Program}
use Rattle.format.specs.Encode.{expr, instr, block}
use Rattle.format.specs.Labels.{count, count_i, counts, label, label_i, labels, labelled, first, end_of, ends_of, body_of, begins}
use Rattle.labels.specs.Spots.{Spot, here, later, inner, Inner, body, thens, elses, body_at, CodeAt}
use Rattle.labels.specs.LabelMap.{Node, held, nodes, all_nodes, node_of, next, other}
use Rattle.format.proofs.Laws.Joined.{first_append}
use Rattle.labels.specs.Laws.Spots.{itself, Remains, none, some, remains_body}

-- ---- lists of labels

-- one list of numbers after another
upto_append : (l a b : ℕ) → upto l (a + b) ≡ upto l a ++ upto (l + a) b
upto_append l zero b =
    let same : 0 + b ≡ b = omega arith in
    let from : l + 0 ≡ l = omega arith in
    rw (same, from)
upto_append l (suc a) b =
    let same : suc a + b ≡ suc (a + b) = omega arith in
    let from : l + suc a ≡ suc l + a = omega arith in
    rw (same, from, upto_append (suc l) a b)

-- the images of one list after another
map_append : {A B : Type 0} (f : A → B) (xs ys : List A) → map f (xs ++ ys) ≡ map f xs ++ map f ys
map_append f [] ys = refl
map_append f (x ∷ xs) ys = rw (map_append f xs ys)

-- the number at a place
at_upto : (l n i : ℕ) → i < n → at (upto l n) i ≡ is (l + i)
at_upto l zero i h = absurd (omega arith)
at_upto l (suc n) zero h = ap is (omega arith)
at_upto l (suc n) (suc i) h = at_upto (suc l) n i (omega arith) ∙ ap is (omega arith)

-- how many
length_upto : (l n : ℕ) → length (upto l n) ≡ n
length_upto l zero = refl
length_upto l (suc n) = ap suc (length_upto (suc l) n)

-- the image at a place
at_map : {A B : Type 0} (f : A → B) (xs : List A) (i : ℕ) {x : A} → at xs i ≡ is x → at (map f xs) i ≡ is (f x)
at_map f [] i e = missing e
at_map f (x ∷ xs) zero e = rw (is_inj e)
at_map f (x ∷ xs) (suc i) e = at_map f xs i e

-- a member has a place
in_at : {A : Type 0} {x : A} (xs : List A) → In x xs → (i : ℕ) × (at xs i ≡ is x)
in_at (x ∷ xs) Lists.here = (0, refl)
in_at (y ∷ xs) (Lists.there p) = let q = in_at xs p in (suc q.0, q.1)
in_at {A = A} [] x'' = elim x'' [ ]

-- what stands at a place is a member
at_in : {A : Type 0} (xs : List A) (i : ℕ) {x : A} → at xs i ≡ is x → In x xs
at_in [] i e = missing e
at_in (y ∷ xs) zero e = rw (is_inj e) Lists.here
at_in (y ∷ xs) (suc i) e = Lists.there (at_in xs i e)

-- the first, or one of the others
in_cons : {A G : Type 0} {x y : A} {xs : List A} → In x (y ∷ xs) → (x ≡ y → G) → (In x xs → G) → G
in_cons Lists.here f g = f refl
in_cons (Lists.there p) f g = g p

-- none
in_none : {A G : Type 0} {x : A} → In x [] → G
in_none = elim [ ]

-- ---- the labels of the nodes

-- the label of a node, in procedures with these end labels
abbrev pub label_at : (ℕ → ℕ) → Node → ℕ
label_at ends n = first (ends n.proc) n.code

module _ {A : Type 0} (ends : ℕ → ℕ) (m : ℕ) where
  mutual
    -- of those inside an instruction
    held_labels : (j : Instr A) (i l : ℕ) (c : Block ℕ) → l ∷ map (label_at ends) (held m i l (label_i l j) c) ≡ upto l (count_i j)
    held_labels (assign x e) i l c = refl
    held_labels (write y o e) i l c = refl
    held_labels (read x y o) i l c = refl
    held_labels (while e b) i l c = rw (nodes_labels b (i + 1 + length (expr e)) (suc l) (step l (while e (label (suc l) b)) c))
    held_labels (if e b f) i l c = rw (
      map_append (label_at ends) (nodes m (i + 1 + length (expr e)) (label (suc l) b) c)
          (nodes m (i + 1 + length (expr e) + length (block (label (suc l) b))) (label (suc l + count b) f) c),
      nodes_labels b (i + 1 + length (expr e)) (suc l) c,
      nodes_labels f (i + 1 + length (expr e) + length (block (label (suc l) b))) (suc l + count b) c,
      upto_append (suc l) (count b) (count f),
    )
    held_labels (call q es) i l c = refl
    held_labels (atomic b) i l c = refl
    held_labels (select x y) i l c = refl

    -- those of a block are its labels, in order
    nodes_labels : (b : Block A) (i l : ℕ) (c : Block ℕ) → map (label_at ends) (nodes m i (label l b) c) ≡ upto l (count b)
    nodes_labels end i l c = refl
    nodes_labels (step a j b) i l c =
        let inside : List Node = held m i l (label_i l j) (label (l + count_i j) b ⊕ c) in
        let later : List Node = nodes m (i + length (instr (label_i l j))) (label (l + count_i j) b) c in
        ap (l ∷◌) (map_append (label_at ends) inside later)
        ∙ ap (◌++ map (label_at ends) later) (held_labels j i l (label (l + count_i j) b ⊕ c))
        ∙ ap (upto l (count_i j) ++◌) (nodes_labels b (i + length (instr (label_i l j))) (l + count_i j) c)
        ∙ sym (upto_append l (count_i j) (count b))

-- of procedures from m on: all labels, in order
all_labels : {A : Type 0} (ends : ℕ → ℕ) (ps : List (Proc A)) (m i l : ℕ) → ((q : ℕ) → ends (m + q) ≡ end_of l ps q)
    → map (label_at ends) (all_nodes m i (labels l ps)) ≡ upto l (counts ps)
all_labels ends [] m i l h = refl
all_labels ends (p ∷ ps) m i l h =
    let b : Block ℕ = label l p.body in
    let j : ℕ = i + length (block b) in
    let n : ℕ = count p.body in
    let last : ends m ≡ l + n = ap ends (omega arith) ∙ h 0 in
    let later : map (label_at ends) (all_nodes (suc m) j (labels (l + suc n) ps)) ≡ upto (l + suc n) (counts ps) =
    all_labels ends ps (suc m) j (l + suc n) (λ q. ap ends (omega arith) ∙ h (suc q))
    in
    let from : suc (l + n) ≡ l + suc n = omega arith in
    let all : suc n + counts ps ≡ n + suc (counts ps) = omega arith in
    map_append (label_at ends) (nodes m i b end) (record { place = j - 1; proc = m; code = end } ∷ all_nodes (suc m) j (labels (l + suc n) ps))
    ∙ rw (nodes_labels ends m p.body i l end, last, later, all, upto_append l n (suc (counts ps)), from)

-- ---- nodes are spots

-- the node of an instruction with label l at k, in procedure m
abbrev pub node_at : ℕ → ℕ → ℕ → Instr ℕ → Block ℕ → Node
node_at m k l j c = record { place = k; proc = m; code = step l j c }

module _ {m k l : ℕ} {j : Instr ℕ} {d r : Block ℕ} where
  mutual
    -- each instruction at a spot has its node
    pub spot_node : {i : ℕ} {b c : Block ℕ} → Spot k (step l j d) r i b c → In (node_at m k l j (d ⊕ r)) (nodes m i b c)
    spot_node (here e f g) = rw (e, f, g) Lists.here
    spot_node {i} (later {a = a} {j = s} {b = b} {c = c} p) =
        Lists.there (in_back (held m i a s (b ⊕ c)) (nodes m (i + length (instr s)) b c) (spot_node p))
    spot_node {i} (inner {a = a} {j = s} {b = b} {c = c} p) =
        Lists.there (in_front (held m i a s (b ⊕ c)) (nodes m (i + length (instr s)) b c) (inner_node p))

    -- inside an instruction
    inner_node : {i a : ℕ} {s : Instr ℕ} {c : Block ℕ} → Inner k (step l j d) r i a s c → In (node_at m k l j (d ⊕ r)) (held m i a s c)
    inner_node (body p) = spot_node p
    inner_node {i} {c = c} (thens {e = e} {b = b} {f = f} p) =
        in_front (nodes m (i + 1 + length (expr e)) b c) (nodes m (i + 1 + length (expr e) + length (block b)) f c) (spot_node p)
    inner_node {i} {c = c} (elses {e = e} {b = b} {f = f} p) =
        in_back (nodes m (i + 1 + length (expr e)) b c) (nodes m (i + 1 + length (expr e) + length (block b)) f c) (spot_node p)

-- a node of procedure m whose code remains at its place, in a block that stands at i and is followed by c
pub record NodeSpot (m i : ℕ) (b c : Block ℕ) (n : Node) : Type 0 where
  pub tag : ℕ
  pub instr : Instr ℕ
  pub rest : Block ℕ
  pub after : Block ℕ
  pub proc : n.proc ≡ m
  pub code : n.code ≡ step tag instr (rest ⊕ after)
  pub spot : Spot n.place (step tag instr rest) after i b c

module _ {m : ℕ} {n : Node} where
  -- a spot of what is inside is a spot
  wider : {i i' : ℕ} {b b' c c' : Block ℕ} → ((k : ℕ) (d r : Block ℕ) → Spot k d r i b c → Spot k d r i' b' c') → NodeSpot m i b c n
      → NodeSpot m i' b' c' n
  wider f w = record {
    tag = w.tag;
    instr = w.instr;
    rest = w.rest;
    after = w.after;
    proc = w.proc;
    code = w.code;
    spot = f n.place (step w.tag w.instr w.rest) w.after w.spot;
  }

  mutual
    -- each node has its instruction at a spot
    pub node_spot : (b : Block ℕ) (i : ℕ) (c : Block ℕ) → In n (nodes m i b c) → NodeSpot m i b c n
    node_spot end i c p = in_none p
    node_spot (step l j b) i c p =
        in_cons p
        (λ e. rw e (record { tag = l; instr = j; rest = b; after = c; proc = refl; code = refl; spot = itself }))
        (λ o. in_either (held m i l j (b ⊕ c)) (nodes m (i + length (instr j)) b c) o
        (λ q. held_spot j i l b c q)
        (λ q. wider (λ k d r. later) (node_spot b (i + length (instr j)) c q)))

    -- inside an instruction
    held_spot : (j : Instr ℕ) (i l : ℕ) (b c : Block ℕ) → In n (held m i l j (b ⊕ c)) → NodeSpot m i (step l j b) c n
    held_spot (while e w) i l b c p =
        wider (λ k d r q. inner (body q)) (node_spot w (i + 1 + length (expr e)) (step l (while e w) (b ⊕ c)) p)
    held_spot (if e y f) i l b c p =
        in_either (nodes m (i + 1 + length (expr e)) y (b ⊕ c)) (nodes m (i + 1 + length (expr e) + length (block y)) f (b ⊕ c)) p
        (λ q. wider (λ k d r s. inner (thens s)) (node_spot y (i + 1 + length (expr e)) (b ⊕ c) q))
        (λ q. wider (λ k d r s. inner (elses s)) (node_spot f (i + 1 + length (expr e) + length (block y)) (b ⊕ c) q))
    held_spot (assign x e) i l b c p = in_none p
    held_spot (write y o e) i l b c p = in_none p
    held_spot (read x y o) i l b c p = in_none p
    held_spot (call q es) i l b c p = in_none p
    held_spot (atomic d) i l b c p = in_none p
    held_spot (select x y) i l b c p = in_none p

-- ---- the nodes of all procedures

-- a node of procedure m: an instruction of its body, or the end of it, where nothing follows
pub record ProcNode (ps : List (Proc ℕ)) (i m : ℕ) (n : Node) : Type 0 where
  pub proc : Proc ℕ
  pub found : at ps m ≡ is proc
  pub left : Block ℕ
  pub after : Block ℕ
  pub code : n.code ≡ left ⊕ after
  pub ends : left ≡ end → after ≡ end
  pub spot : Spot n.place left after (body_at i ps m) proc.body end

-- the end of a block is a spot
pub last_spot : {A : Type 0} (i : ℕ) (b c : Block A) → Spot (i + length (block b) - 1) end c i b c
last_spot i end c = let same : i ≡ i + 1 - 1 = omega arith in here same refl refl
last_spot {A} i (step a j b) c =
    let same : i + length (block (step a j b)) - 1 ≡ i + length (instr j) + length (block b) - 1 = omega (arith, length-append (instr j) (block b)) in
    subst (λ (k : ℕ). Spot k end c i (step a j b) c) (sym same) (later (last_spot (i + length (instr j)) b c))

-- no instruction is an end
step_not : {A : Type 0} {a : A} {j : Instr A} {b : Block A} {G : Type 0} → step a j b ≡ end → G
step_not e = let z : ◌≡◌ {A = ℕ} 0 1 = cc in absurd (omega arith)

-- each node is one of some procedure
all_nodes_lem : (ps : List (Proc ℕ)) (m i : ℕ) {n : Node} → In n (all_nodes m i ps) → (x : ℕ) × (n.proc ≡ m + x) × ProcNode ps i x n
all_nodes_lem [] m i p = in_none p
all_nodes_lem (q ∷ ps) m i {n} p =
    let j : ℕ = i + length (block q.body) in
    let last : Node = record { place = j - 1; proc = m; code = end } in
    in_either (nodes m i q.body end) (last ∷ all_nodes (suc m) j ps) p
    (λ o. let w : NodeSpot m i q.body end n = node_spot q.body i end o in (
      0,
      w.proc ∙ omega arith,
      record {
        proc = q;
        found = refl;
        left = step w.tag w.instr w.rest;
        after = w.after;
        code = w.code;
        ends = step_not;
        spot = w.spot;
      },
    ))
    (λ o. in_cons o
    (λ e. rw e
    (0, omega arith, record { proc = q; found = refl; left = end; after = end; code = refl; ends = λ e. refl; spot = last_spot i q.body end }))
    (λ r. let w : (x : ℕ) × (n.proc ≡ suc m + x) × ProcNode ps j x n = all_nodes_lem ps (suc m) j r in (
      suc w.0,
      w.1 ∙ omega arith,
      record {
        proc = w.2.proc;
        found = w.2.found;
        left = w.2.left;
        after = w.2.after;
        code = w.2.code;
        ends = w.2.ends;
        spot = w.2.spot;
      },
    )))

-- the nodes of procedure x are among them
proc_nodes : (ps : List (Proc ℕ)) (m i x : ℕ) {q : Proc ℕ} {n : Node} → at ps x ≡ is q → In n (nodes (m + x) (body_at i ps x) q.body end)
    → In n (all_nodes m i ps)
proc_nodes [] m i x e p = missing e
proc_nodes (o ∷ ps) m i zero {q} {n} e p =
    let j : ℕ = i + length (block o.body) in
    let same : o ≡ q = is_inj e in
    let first : m + 0 ≡ m = omega arith in
    in_front (nodes m i o.body end) (record { place = j - 1; proc = m; code = end } ∷ all_nodes (suc m) j ps)
    (rw (same, ← first) p)
proc_nodes (o ∷ ps) m i (suc x) {q} {n} e p =
    let j : ℕ = i + length (block o.body) in
    let next : m + suc x ≡ suc m + x = omega arith in
    in_back (nodes m i o.body end) (record { place = j - 1; proc = m; code = end } ∷ all_nodes (suc m) j ps)
    (Lists.there (proc_nodes ps (suc m) j x e (rw next at p)))

-- and so is its end
proc_end : (ps : List (Proc ℕ)) (m i x : ℕ) {q : Proc ℕ} → at ps x ≡ is q
    → In (record { place = body_at i ps x + length (block q.body) - 1; proc = m + x; code = end }) (all_nodes m i ps)
proc_end [] m i x e = missing e
proc_end (o ∷ ps) m i zero {q} e =
    let j : ℕ = i + length (block o.body) in
    let same : o ≡ q = is_inj e in
    let first : m + 0 ≡ m = omega arith in
    in_back (nodes m i o.body end) (record { place = j - 1; proc = m; code = end } ∷ all_nodes (suc m) j ps)
    (rw (first, ← same) Lists.here)
proc_end (o ∷ ps) m i (suc x) e =
    let j : ℕ = i + length (block o.body) in
    let next : m + suc x ≡ suc m + x = omega arith in
    in_back (nodes m i o.body end) (record { place = j - 1; proc = m; code = end } ∷ all_nodes (suc m) j ps)
    (Lists.there (rw next (proc_end ps (suc m) j x e)))

-- the body of a procedure
body_of_lem : (ps : List (Proc ℕ)) (m : ℕ) {q : Proc ℕ} → at ps m ≡ is q → body_of ps m ≡ q.body
body_of_lem [] m e = missing e
body_of_lem (p ∷ ps) zero e = rw (is_inj e)
body_of_lem (p ∷ ps) (suc m) e = body_of_lem ps m e

-- ---- the node of a label

-- what the map says of label l: its node's code remains at its place, and begins with l
pub record NodeOf {A : Type 0} (p : Program A) (l : ℕ) (n : Node) : Type 0 where
  pub label : first (ends_of p n.proc) n.code ≡ l
  pub left : Block ℕ
  pub after : Block ℕ
  pub code : n.code ≡ left ⊕ after
  pub ends : left ≡ end → after ≡ end
  pub spot : CodeAt (labelled p).procs n.proc n.place left after

module _ {A : Type 0} (p : Program A) where
  -- the labels of all nodes, in order
  labels_order : map (label_at (ends_of p)) (all_nodes 0 0 (labelled p).procs) ≡ upto 1 (counts p.procs)
  labels_order = all_labels (ends_of p) p.procs 0 0 1 (λ q. ap (ends_of p) (omega arith))

  -- as many nodes as labels
  pub length_nodes : length (all_nodes 0 0 (labelled p).procs) ≡ counts p.procs
  length_nodes =
      sym (length-map (all_nodes 0 0 (labelled p).procs) (label_at (ends_of p))) ∙ ap length labels_order ∙ length_upto 1 (counts p.procs)

  -- each label from 1 on has a node
  pub node_there : (l : ℕ) → 1 ≤ l → l ≤ counts p.procs → (n : Node) × (node_of p l ≡ is n)
  node_there zero h k = absurd (omega arith)
  node_there (suc l) h k = (
    _,
    at_get_d (all_nodes 0 0 (labelled p).procs) l (record { place = 0; proc = 0; code = end }) (omega (arith, length_nodes)),
  )

  -- and no other number has
  pub node_range : (l : ℕ) {n : Node} → node_of p l ≡ is n → (1 ≤ l) × (l ≤ counts p.procs)
  node_range zero e = missing e
  node_range (suc l) e = omega (arith, length_nodes, at_below (all_nodes 0 0 (labelled p).procs) l e)

  -- a node's label
  node_label : (l : ℕ) {n : Node} → node_of p l ≡ is n → label_at (ends_of p) n ≡ l
  node_label zero e = missing e
  node_label (suc l) {n} e =
      is_inj (sym (at_map (label_at (ends_of p)) (all_nodes 0 0 (labelled p).procs) l e)
      ∙ ap (λ (ls : List ℕ). at ls l) labels_order
      ∙ at_upto 1 (counts p.procs) l (node_range (suc l) e).1) ∙ omega arith

  -- what the map says
  pub node_of_lem : (l : ℕ) {n : Node} → node_of p l ≡ is n → NodeOf p l n
  node_of_lem zero e = missing e
  node_of_lem (suc l) {n} e =
      let w = all_nodes_lem (labelled p).procs 0 0 (at_in (all_nodes 0 0 (labelled p).procs) l e) in
      let v : ProcNode (labelled p).procs 0 w.0 n = w.2 in
      let same : n.proc ≡ w.0 = w.1 ∙ omega arith in
      record {
        label = node_label (suc l) e;
        left = v.left;
        after = v.after;
        code = v.code;
        ends = v.ends;
        spot = subst (λ (m : ℕ). CodeAt (labelled p).procs m n.place v.left v.after) (sym same)
            (record { proc = v.proc; found = v.found; spot = v.spot });
      }

  -- a node is that of its label
  in_node : {n : Node} → In n (all_nodes 0 0 (labelled p).procs) → node_of p (label_at (ends_of p) n) ≡ is n
  in_node {n} i =
      let w = in_at (all_nodes 0 0 (labelled p).procs) i in
      subst (λ (l : ℕ). node_of p l ≡ is n) (sym (node_label (suc w.0) w.1)) w.1

  -- code that remains in procedure m has one node: the node of its label
  pub remains_node : {m : ℕ} {c : Block ℕ} → Remains (labelled p).procs m c
      → (n : Node) × (node_of p (first (ends_of p m) c) ≡ is n) × (n.proc ≡ m) × (n.code ≡ c)
  remains_node {m} (none q e) =
      let same : 0 + m ≡ m = zero-add m in
      let k : ℕ = body_at 0 (labelled p).procs m + length (block q.body) - 1 in
      (record { place = k; proc = m; code = end }, in_node (rw same at (proc_end (labelled p).procs 0 0 m e)), refl, refl)
  remains_node {m} (some k a j d r c) =
      let same : 0 + m ≡ m = zero-add m in
      (node_at m k a j (d ⊕ r), in_node (proc_nodes (labelled p).procs 0 0 m c.found (rw same (spot_node c.spot))), refl, refl)

  -- a procedure begins at the node of its body
  pub begin_node : {m : ℕ} {q : Proc ℕ} → at (labelled p).procs m ≡ is q
      → (n : Node) × (node_of p (begins p m) ≡ is n) × (n.proc ≡ m) × (n.code ≡ q.body)
  begin_node {m} {q} e = rw (body_of_lem (labelled p).procs m e) (remains_node (remains_body e))

-- ---- the labels that code leads to are those of the code that then remains

module _ (k l : ℕ) (e : Expr) where
  -- a loop whose test holds
  pub loop_next : (b c : Block ℕ) → first k (b ⊕ step l (while e b) c) ≡ next k (step l (while e b) c)
  loop_next b c = first_append k b (step l (while e b) c)

  -- a branch whose test holds
  pub then_next : (b f c : Block ℕ) → first k (b ⊕ c) ≡ next k (step l (if e b f) c)
  then_next b f c = first_append k b c

  -- and one whose test does not
  pub else_other : (b f c : Block ℕ) → first k (f ⊕ c) ≡ other k (step l (if e b f) c)
  else_other b f c = first_append k f c

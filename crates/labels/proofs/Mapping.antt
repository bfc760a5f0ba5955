-- One law for each way through the loop over the procedures, and what a filled map holds.
use Prim.Native.Nat.{ℕ, zero, suc, ◌+◌, ◌*◌, ◌-◌, ◌≤◌, ◌<◌}
use native.Mathlib.Omega.{arith}
use mathlib.Core.Path.{◌≡◌, refl, sym, ap, ap₂, subst, ◌∙◌}
use mathlib.Core.List.{List, [], ◌∷◌, ◌++◌, append_assoc}
use lib.ListN.{length, get_or, take, drop, get_or-append}
use lib.Seq.{sets-eq, length-take-le, get_or-append-add}
use Rattle.value.specs.Maybe.{is}
use Rattle.value.specs.Lists.{at}
use Rattle.value.proofs.Laws.Maybes.{is_inj, missing}
use Rattle.value.proofs.Laws.Lists.{at_below}
use Rattle.format.specs.Syntax.{Instr, assign, write, read, while, if, call, atomic, select}
use Rattle.format.specs.Syntax.{Block, end, step, ◌⊕◌, Proc, Program, Plain, concurrent}
use Rattle.format.specs.Encode.{expr, instr, block, each, bodies_of}
use Rattle.format.specs.Labels.{count, count_i, counts, label, label_i, labels, labelled, first, end_of, ends_of, body_of, begins}
use Rattle.labels.specs.LabelMap.{Node, held, nodes, all_nodes, node_of, next, other, words, Mapped}
use Rattle.format.specs.Rules.{limits, max_labels}
use Rattle.labels.specs.Walks.{BlockIn, counted, CountsBlock, BeginsAt, next_of, other_of, numbers_i, numbers, all_numbers, all_bounds}
use Rattle.labels.specs.Walks.{Put, PutsNode, PutsBounds, FillsBlock, BodiesAt, BodiesIn, MapsLabels}
use Rattle.format.proofs.Laws.Stands.{front, back}
use Rattle.format.proofs.Laws.Grammar.{BlockAt}
use Rattle.format.proofs.Laws.Joined.{first_append}
use Rattle.format.proofs.Laws.Labelled.{block_label, instr_label}
use Rattle.format.proofs.Laws.TablePlaces.{records_at}
use Rattle.format.specs.Decode.{max_nesting}
use Rattle.basics.specs.Sizes.{map_words, bound_words}
use Rattle.labels.specs.Laws.Walked.{bodies_at}
use Rattle.labels.specs.Laws.LabelMap.{length_nodes}
use Rattle.labels.specs.declared.count.Counted.{Counted}
use Rattle.labels.proofs.Counting.{block_in}
use Rattle.labels.proofs.Filling.{put_then, put_same, length_numbers}

-- ---- the loop

-- what the loop leaves that begins with procedure m at i, with label l, and c procedures to go
pub record FillsAll (t : List ℕ) (i c m l : ℕ) (n b n' b' : List ℕ) (r : ℕ) : Type 0 where
  pub map : (ps : List (Proc Plain)) (j : ℕ) → BodiesAt t i c ps j → l + counts ps ≤ max_labels + 1 → Put 4 n l (all_numbers m i l ps) n'
  pub bounds : (ps : List (Proc Plain)) (j : ℕ) → BodiesAt t i c ps j → m + c ≤ (limits concurrent).procs → Put 2 b m (all_bounds l ps) b'
  pub last : (ps : List (Proc Plain)) (j : ℕ) → BodiesAt t i c ps j → r ≡ l + counts ps

-- the loop goes on with procedure m at i and label l
pub record Mapping (t : List ℕ) (c : ℕ) (n b : List ℕ) (m i l : ℕ) (n' b' : List ℕ) : Type 0 where
  pub rest : BodiesIn t i (c - m)
  pub few : l ≤ i + 1
  pub some : 1 ≤ l
  pub low : m ≤ c
  pub back : (n'' b'' : List ℕ) (r : ℕ) → FillsAll t i (c - m) m l n' b' n'' b'' r → FillsAll t 0 c 0 1 n b n'' b'' r

-- one body, and then the others
pub record FirstBody (t : List ℕ) (i c : ℕ) (ps : List (Proc Plain)) (j : ℕ) : Type 0 where
  pub p : Proc Plain
  pub others : List (Proc Plain)
  pub is : ps ≡ p ∷ others
  pub k : ℕ
  pub here : BlockAt t i max_nesting p.body k
  pub after : BodiesAt t k (c - 1) others j

first_body : {t : List ℕ} {i c j : ℕ} (ps : List (Proc Plain)) → BodiesAt t i c ps j → 0 < c → FirstBody t i c ps j
first_body [] h l = absurd (omega (arith, h.count))
first_body {i = i} (p ∷ ps) h l = record {
  p = p;
  others = ps;
  is = refl;
  k = i + length (block p.body);
  here = record { stands = front (block p.body) (each block (bodies_of ps)) h.stands; fits = h.fits.0 };
  after = record { stands = back (block p.body) (each block (bodies_of ps)) h.stands; count = omega (arith, h.count); fits = h.fits.1 };
}

module _ {t : List ℕ} {c : ℕ} {n b : List ℕ} where
  -- from the beginning
  pub map_start : BodiesIn t 0 c → Mapping t c n b 0 0 1 n b
  map_start h =
      let all : c - 0 ≡ c = omega arith in
      record { rest = rw all h; few = omega arith; some = omega arith; low = omega arith; back = λ n'' b'' r F. rw all at F }

  -- the next body
  pub map_block_in : {m i l : ℕ} {n' b' : List ℕ} → Mapping t c n b m i l n' b' → m < c → BlockIn t i max_nesting
  map_block_in M h = block_in (first_body M.rest.procs M.rest.there (omega arith)).here

  pub map_next : {m i l f : ℕ} {x : Counted} {n₁ n₂ n₃ b₁ b₂ : List ℕ} → Mapping t c n b m i l n₁ b₁ → m < c → CountsBlock t i max_nesting x
      → FillsBlock t i max_nesting l (l + x.labels) m n₁ n₂ → PutsNode n₂ (l + x.labels) (x.next - 1) m 0 0 n₃
      → BeginsAt t i l (l + x.labels) f → PutsBounds b₁ m f (l + x.labels) b₂ → Mapping t c n b (m + 1) x.next (l + x.labels + 1) n₃ b₂
  map_next {m} {i} {l} {f} {x} {n₁} {n₂} {n₃} {b₁} {b₂} M h X B N G P = record {
    rest =
        let w = first_body M.rest.procs M.rest.there (omega arith) in
        let is : x ≡ counted w.k (count w.p.body) = X.gives w.p.body w.k w.here in
        rw (less, is) (record { procs = w.others; next = M.rest.next; there = w.after });
    few = omega (arith, M.few, X.room);
    some = omega arith;
    low = omega arith;
    back = λ n'' b'' r F. M.back n'' b'' r (record {
      map = λ ps j a k.
          let w = first_body ps a (omega arith) in
          let few : l + (suc (count w.p.body) + counts w.others) ≤ max_labels + 1 =
          subst (λ (z : List (Proc Plain)). l + counts z ≤ max_labels + 1) w.is k
          in
          subst (λ (z : List (Proc Plain)). Put 4 n₁ l (all_numbers m i l z) n'') (sym w.is)
          (put_then
          (put_same refl (ap (numbers m i l w.p.body) (labels_are w)) (B.gives w.p.body w.k w.here (omega arith)))
          (omega (arith, length_numbers m w.p.body i l (l + count w.p.body)))
          (put_then
          (put_same (labels_are w) (ap (λ (z : ℕ). (z - 1) ∷ m ∷ 0 ∷ 0 ∷ []) (place_is w)) (N.gives (omega (arith, labels_are w))))
          (omega arith)
          (put_same (ends_are w)
          (ap₂ (λ (y z : ℕ). all_numbers y x.next z w.others) one (ends_are w)
          ∙ ap (λ (z : ℕ). all_numbers (suc m) z (suc (l + count w.p.body)) w.others) (place_is w))
          (F.map w.others j (after_is w) (omega (arith, labels_are w))))));
      bounds = λ ps j a k.
          let w = first_body ps a (omega arith) in
          let begin : f ≡ first (l + count w.p.body) (label l w.p.body) =
          G.gives max_nesting w.p.body w.k w.here ∙ ap (λ (z : ℕ). first z (label l w.p.body)) (labels_are w)
          in
          subst (λ (z : List (Proc Plain)). Put 2 b₁ m (all_bounds l z) b'') (sym w.is)
          (put_then
          (put_same refl (ap₂ (λ (y z : ℕ). y ∷ z ∷ []) begin (labels_are w)) (P.gives (omega arith)))
          (omega arith)
          (put_same one (ap (λ (z : ℕ). all_bounds z w.others) (ends_are w)) (F.bounds w.others j (after_is w) (omega arith))));
      last = λ ps j a.
          let w = first_body ps a (omega arith) in
          F.last w.others j (after_is w) ∙ omega (arith, labels_are w, ap counts w.is);
    });
  }
    where
      less : c - (m + 1) ≡ c - m - 1
      less = omega arith

      one : m + 1 ≡ suc m
      one = omega arith

      is_counted : {ps : List (Proc Plain)} {j : ℕ} (w : FirstBody t i (c - m) ps j) → x ≡ counted w.k (count w.p.body)
      is_counted w = X.gives w.p.body w.k w.here

      labels_are : {ps : List (Proc Plain)} {j : ℕ} (w : FirstBody t i (c - m) ps j) → l + x.labels ≡ l + count w.p.body
      labels_are w = ap (λ (z : Counted). l + z.labels) (is_counted w)

      ends_are : {ps : List (Proc Plain)} {j : ℕ} (w : FirstBody t i (c - m) ps j) → l + x.labels + 1 ≡ suc (l + count w.p.body)
      ends_are w = omega (arith, labels_are w)

      place_is : {ps : List (Proc Plain)} {j : ℕ} (w : FirstBody t i (c - m) ps j) → x.next ≡ i + length (block w.p.body)
      place_is w = ap (λ (z : Counted). z.next) (is_counted w) ∙ w.here.stands.ends

      after_is : {ps : List (Proc Plain)} {j : ℕ} (w : FirstBody t i (c - m) ps j) → BodiesAt t x.next (c - (m + 1)) w.others j
      after_is {j = j} w =
          subst (λ (z : ℕ). BodiesAt t x.next z w.others j) (sym less)
          (subst (λ (z : ℕ). BodiesAt t z (c - m - 1) w.others j) (sym (ap (λ (z : Counted). z.next) (is_counted w))) w.after)

-- ---- the numbers are those of the nodes

-- one list of nodes after another
words_append : (ends : ℕ → ℕ) (xs ys : List Node) → words ends (xs ++ ys) ≡ words ends xs ++ words ends ys
words_append ends [] ys = refl
words_append ends (x ∷ xs) ys = rw (words_append ends xs ys)

module _ (ends : ℕ → ℕ) (m : ℕ) where
  -- the labels that an instruction leads to
  next_is : (s : Instr Plain) (l : ℕ) (c : Block ℕ) → next (ends m) (step l (label_i l s) c) ≡ next_of l s (first (ends m) c)
  next_is (assign x e) l c = refl
  next_is (write y o e) l c = refl
  next_is (read x y o) l c = refl
  next_is (while e b) l c = refl
  next_is (if e b f) l c = refl
  next_is (call q es) l c = refl
  next_is (atomic b) l c = refl
  next_is (select x y) l c = refl

  other_is : (s : Instr Plain) (l : ℕ) (c : Block ℕ) → other (ends m) (step l (label_i l s) c) ≡ other_of l s (first (ends m) c)
  other_is (assign x e) l c = refl
  other_is (write y o e) l c = refl
  other_is (read x y o) l c = refl
  other_is (while e b) l c = refl
  other_is (if e b f) l c = refl
  other_is (call q es) l c = refl
  other_is (atomic b) l c = refl
  other_is (select x y) l c = refl

  mutual
    -- inside an instruction
    held_numbers : (s : Instr Plain) (i l : ℕ) (c : Block ℕ) → words ends (held m i l (label_i l s) c) ≡ numbers_i m i l s (first (ends m) c)
    held_numbers (assign x e) i l c = refl
    held_numbers (write y o e) i l c = refl
    held_numbers (read x y o) i l c = refl
    held_numbers (while e b) i l c = nodes_numbers b (i + 1 + length (expr e)) (suc l) (step l (while e (label (suc l) b)) c)
    held_numbers (if e b f) i l c =
        let j : ℕ = i + 1 + length (expr e) in
        words_append ends (nodes m j (label (suc l) b) c) (nodes m (j + length (block (label (suc l) b))) (label (suc l + count b) f) c)
        ∙ rw (block_label b (suc l), nodes_numbers b j (suc l) c, nodes_numbers f (j + length (block b)) (suc l + count b) c)
    held_numbers (call q es) i l c = refl
    held_numbers (atomic b) i l c = refl
    held_numbers (select x y) i l c = refl

    -- of a block
    nodes_numbers : (b : Block Plain) (i l : ℕ) (c : Block ℕ) → words ends (nodes m i (label l b) c) ≡ numbers m i l b (first (ends m) c)
    nodes_numbers end i l c = refl
    nodes_numbers (step a s b) i l c =
        let rest : Block ℕ = label (l + count_i s) b ⊕ c in
        let follow : first (ends m) rest ≡ first (first (ends m) c) (label (l + count_i s) b) = first_append (ends m) (label (l + count_i s) b) c in
        ap (λ (z : List ℕ). i ∷ m ∷ next (ends m) (step l (label_i l s) rest) ∷ other (ends m) (step l (label_i l s) rest) ∷ z)
        (words_append ends (held m i l (label_i l s) rest) (nodes m (i + length (instr (label_i l s))) (label (l + count_i s) b) c))
        ∙ rw (
          next_is s l rest,
          other_is s l rest,
          held_numbers s i l rest,
          follow,
          instr_label s l,
          nodes_numbers b (i + length (instr s)) (l + count_i s) c,
        )

-- of all procedures
all_numbers_lem : (ends : ℕ → ℕ) (ps : List (Proc Plain)) (m i l : ℕ) → ((q : ℕ) → ends (m + q) ≡ end_of l ps q)
    → words ends (all_nodes m i (labels l ps)) ≡ all_numbers m i l ps
all_numbers_lem ends [] m i l h = refl
all_numbers_lem ends (p ∷ ps) m i l h =
    let j : ℕ = i + length (block p.body) in
    let k : ℕ = l + count p.body in
    let last : ends m ≡ k = ap ends (omega arith) ∙ h 0 in
    let from : l + suc (count p.body) ≡ suc k = omega arith in
    let later : words ends (all_nodes (suc m) j (labels (suc k) ps)) ≡ all_numbers (suc m) j (suc k) ps =
    all_numbers_lem ends ps (suc m) j (suc k) (λ q. ap ends (omega arith) ∙ h (suc q) ∙ ap (λ (z : ℕ). end_of z ps q) from)
    in
    words_append ends (nodes m i (label l p.body) end)
    (record { place = i + length (block (label l p.body)) - 1; proc = m; code = end } ∷
    all_nodes (suc m) (i + length (block (label l p.body))) (labels (l + suc (count p.body)) ps))
    ∙ rw (nodes_numbers ends m p.body i l end, last, block_label p.body l, from, later)

-- ---- looking them up

-- four for each node
length_words : (ends : ℕ → ℕ) (ns : List Node) → length (words ends ns) ≡ 4 * length ns
length_words ends [] = refl
length_words ends (n ∷ ns) = omega (arith, length_words ends ns)

-- those of a node
abbrev numbers_of : (ℕ → ℕ) → Node → List ℕ
numbers_of ends n = n.place ∷ n.proc ∷ next (ends n.proc) n.code ∷ other (ends n.proc) n.code ∷ []

-- stand at its place
words_at : (ends : ℕ → ℕ) (ns : List Node) (x y : ℕ) {n : Node} → at ns x ≡ is n → y < 4
    → get_or (words ends ns) (4 * x + y) 0 ≡ get_or (numbers_of ends n) y 0
words_at ends [] x y e h = missing e
words_at ends (o ∷ ns) zero y {n} e h =
    let from : 4 * 0 + y ≡ y = omega arith in
    rw from (get_or-append (numbers_of ends o) (words ends ns) 0 y h ∙ ap (λ (z : Node). get_or (numbers_of ends z) y 0) (is_inj e))
words_at ends (o ∷ ns) (suc x) y e h =
    let from : 4 * suc x + y ≡ suc (suc (suc (suc (4 * x + y)))) = omega arith in
    rw from (words_at ends ns x y e h)

-- two for each procedure
length_bounds : (ps : List (Proc Plain)) (l : ℕ) → length (all_bounds l ps) ≡ 2 * length ps
length_bounds [] l = refl
length_bounds (p ∷ ps) l = omega (arith, length_bounds ps (suc (l + count p.body)))

-- those of procedure m
bounds_at : (ps : List (Proc Plain)) (l m y : ℕ) → m < length ps → y < 2
    → get_or (all_bounds l ps) (2 * m + y) 0 ≡ get_or (first (end_of l ps m) (body_of (labels l ps) m) ∷ end_of l ps m ∷ []) y 0
bounds_at [] l m y k h = absurd (omega arith)
bounds_at (p ∷ ps) l zero y k h =
    let from : 2 * 0 + y ≡ y = omega arith in
    let e : ℕ = l + count p.body in
    rw from (get_or-append (first e (label l p.body) ∷ e ∷ []) (all_bounds (suc e) ps) 0 y h)
bounds_at (p ∷ ps) l (suc m) y k h =
    let from : 2 * suc m + y ≡ suc (suc (2 * m + y)) = omega arith in
    let next : l + suc (count p.body) ≡ suc (l + count p.body) = omega arith in
    rw (from, next) (bounds_at ps (suc (l + count p.body)) m y (omega arith) h)

-- what was put stands there
put_look : {w : ℕ} {n : List ℕ} {l : ℕ} {xs n' : List ℕ} (x : ℕ) → Put w n l xs n' → w * l + length xs ≤ length n → x < length xs
    → get_or n' (w * l + x) 0 ≡ get_or xs x 0
put_look {w} {n} {l} {xs} {n'} x P fits h =
    let i : ℕ = w * l in
    let first : length (take i n) ≡ i = length-take-le i n (omega arith) in
    let same : n' ≡ take i n ++ (xs ++ drop (i + length xs) n) =
    P.wrote ∙ sets-eq xs n i fits ∙ append_assoc (take i n) xs (drop (i + length xs) n)
    in
    let at : get_or (take i n ++ (xs ++ drop (i + length xs) n)) (i + x) 0 ≡ get_or (xs ++ drop (i + length xs) n) x 0 =
    ap (λ (z : ℕ). get_or (take i n ++ (xs ++ drop (i + length xs) n)) (z + x) 0) (sym first)
    ∙ get_or-append-add (take i n) (xs ++ drop (i + length xs) n) x 0
    in
    ap (λ (z : List ℕ). get_or z (i + x) 0) same ∙ at ∙ get_or-append xs (drop (i + length xs) n) 0 x h

-- ---- the map

-- the numbers of all labels and the bounds of all procedures are a program's map
mapped : (p : Program Plain) {n b n' b' : List ℕ} → length n ≡ map_words → length b ≡ bound_words → length p.procs ≤ (limits concurrent).procs
    → counts p.procs ≤ max_labels
    → Put 4 n 1 (all_numbers 0 0 1 p.procs) n' → Put 2 b 0 (all_bounds 1 p.procs) b' → Mapped p n' b'
mapped p {n} {b} {n'} {b'} ln lb few labels N B = record {
  place = λ l o e. look l 0 e (omega arith) (omega arith);
  proc = λ l o e. look l 1 e refl (omega arith);
  next = λ l o e. look l 2 e refl (omega arith);
  other = λ l o e. look l 3 e refl (omega arith);
  begins = λ m h. bound m 0 h (omega arith) (omega arith);
  ends = λ m h. bound m 1 h refl (omega arith);
}
  where
    ns : List Node
    ns = all_nodes 0 0 (labelled p).procs

    all : all_numbers 0 0 1 p.procs ≡ words (ends_of p) ns
    all = sym (all_numbers_lem (ends_of p) p.procs 0 0 1 (λ q. ap (ends_of p) (omega arith)))

    look : (l y : ℕ) {o : Node} {z : ℕ} → node_of p l ≡ is o → z ≡ 4 * l + y → y < 4 → get_or n' z 0 ≡ get_or (numbers_of (ends_of p) o) y 0
    look zero y e s h = missing e
    look (suc x) y {o} {z} e s h =
        let long : length (words (ends_of p) ns) ≡ 4 * counts p.procs = length_words (ends_of p) ns ∙ ap (4 *◌) (length_nodes p) in
        let below : x < length ns = at_below ns x e in
        let same : z ≡ 4 * 1 + (4 * x + y) = omega arith in
        ap (λ (k : ℕ). get_or n' k 0) same
        ∙ put_look (4 * x + y) (subst (λ (w : List ℕ). Put 4 n 1 w n') all N) (omega arith) (omega (arith, length_nodes p))
        ∙ words_at (ends_of p) ns x y e h

    bound : (m y : ℕ) {z : ℕ} → m < length p.procs → z ≡ 2 * m + y → y < 2 → get_or b' z 0 ≡ get_or (begins p m ∷ ends_of p m ∷ []) y 0
    bound m y {z} h s k =
        let long : length (all_bounds 1 p.procs) ≡ 2 * length p.procs = length_bounds p.procs 1 in
        let same : z ≡ 2 * 0 + (2 * m + y) = omega arith in
        ap (λ (k : ℕ). get_or b' k 0) same
        ∙ put_look (2 * m + y) B (omega arith) (omega arith)
        ∙ bounds_at p.procs 1 m y h k

-- the loop ends
pub map_end : {t : List ℕ} {c m i l : ℕ} {n b n' b' : List ℕ} → Mapping t c n b m i l n' b' → c ≤ m → length n ≡ map_words → length b ≡ bound_words
    → MapsLabels t c n' b' (l - 1)
map_end {t} {c} {m} {i} {l} {n} {b} {n'} {b'} M h ln lb = record {
  gives = λ p f e few.
      let bodies : BodiesAt t 0 c p.procs (records_at p) = subst (λ (z : ℕ). BodiesAt t 0 z p.procs (records_at p)) e (bodies_at f) in (
        mapped p ln lb f.procs.high few (F.map p.procs _ bodies (omega arith))
            (F.bounds p.procs _ bodies (omega (arith, f.procs.high))),
        omega (arith, F.last p.procs _ bodies),
      );
}
  where
    none : (ps : List (Proc Plain)) (j : ℕ) → BodiesAt t i (c - m) ps j → ps ≡ []
    none [] j a = refl
    none (p ∷ ps) j a = absurd (omega (arith, a.count))

    F : FillsAll t 0 c 0 1 n b n' b' l
    F = M.back n' b' l (record {
      map = λ ps j a k. rw (none ps j a) (record { wrote = refl });
      bounds = λ ps j a k. rw (none ps j a) (record { wrote = refl });
      last = λ ps j a. rw (none ps j a) (omega arith);
    })

pub ruleset map_ways = (map_start, map_block_in, map_next, map_end)

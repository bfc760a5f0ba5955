-- The code that remains in a frame stands in the table: what is at the place of its label, by the byte there, and what the rules
-- say of it.
use Rattle.std.specs.Prelude.{ℕ, zero, suc, ◌+◌, ◌*◌, ◌-◌, ◌≤◌, ◌≡◌, refl, List, [], ◌∷◌, true, length, get_or}
use Rattle.std.proofs.Common.{arith, sym, ap, ap₂, subst, ◌∙◌}
use Rattle.value.specs.Maybe.{is, both}
use Rattle.value.specs.Lists.{at}
use Rattle.value.proofs.Laws.Maybes.{is_inj, missing}
use Rattle.value.proofs.Laws.Tests.{both_passed}
use Rattle.value.proofs.Laws.Lists.{each_at, In, in_front, in_back}
use Rattle.format.specs.Syntax.{Instr, assign, write, read, while, if, call, atomic}
use Rattle.format.specs.Syntax.{select, Block, end, step, ◌⊕◌, Proc, Program, Plain, concurrent}
use Rattle.format.specs.Encode.{instr, block, each, bodies_of, table}
use Rattle.format.specs.Labels.{count, count_i, tag, tag_i, label, label_i, labels, labelled, first, ends_of}
use Rattle.format.specs.Rules.{Here, plainly, allowed, allowed_i, named, named_i, callees, callees_i, callees_of, max_labels}
use Rattle.format.specs.Rules as Rules
use Rattle.labels.specs.Spots.{CodeAt}
use Rattle.labels.specs.LabelMap.{Node, node_of, Mapped}
use Rattle.labels.specs.LabelMap as Map
use Rattle.format.proofs.Laws.Names.{names?}
use Rattle.format.proofs.Laws.Depths.{nesting, nesting_i}
use Rattle.format.proofs.Laws.Fits.{Says, SaysI, InstrFits, BlockFits}
use Rattle.format.proofs.Laws.Grammar.{InstrAt, BlockAt, StepAt, end_here, step_here}
use Rattle.format.proofs.Laws.Labelled.{named_label, allowed_label}
use Rattle.format.proofs.Laws.Procs.{body_in, ProcSound, proc_sound, body_at_lem}
use Rattle.format.proofs.Laws.Sound.{Sound}
use Rattle.format.proofs.Laws.Stands.{Stands}
use Rattle.format.proofs.Laws.Accepted.{bodies_fit}
use Rattle.format.proofs.Laws.TablePlaces.{records_at, all_bodies}
use Rattle.format.specs.Decode.{max_nesting}
use Rattle.labels.specs.Laws.Spots.{Inherited, spot_has, allowed_inherited, bodies_labels, code_stands, Remains}
use Rattle.labels.specs.Laws.LabelMap.{NodeOf, node_of_lem, node_range, remains_node}

-- ---- labelled code says what the code says

module _ {A B : Type 0} (k : B) where
  mutual
    -- a tagged instruction
    says_tag_i : (i : Instr A) → SaysI i → SaysI (tag_i k i)
    says_tag_i (assign x e) h = h
    says_tag_i (write y o e) h = h
    says_tag_i (read x y o) h = h
    says_tag_i (while e b) h = (h.0, says_tag b h.1)
    says_tag_i (if e b c) h = (h.0, says_tag b h.1, says_tag c h.2)
    says_tag_i (call m es) h = h
    says_tag_i (atomic b) h = says_tag b h
    says_tag_i (select x y) h = h

    -- a tagged block
    says_tag : (b : Block A) → Says b → Says (tag k b)
    says_tag end h = tt
    says_tag (step a i b) h = (says_tag_i i h.0, says_tag b h.1)

  mutual
    -- and nests as deep
    nesting_i_tag_i : (i : Instr A) → nesting_i (tag_i k i) ≡ nesting_i i
    nesting_i_tag_i (assign x e) = refl
    nesting_i_tag_i (write y o e) = refl
    nesting_i_tag_i (read x y o) = refl
    nesting_i_tag_i (while e b) = nesting_tag b
    nesting_i_tag_i (if e b c) = rw (nesting_tag b, nesting_tag c)
    nesting_i_tag_i (call m es) = refl
    nesting_i_tag_i (atomic b) = nesting_tag b
    nesting_i_tag_i (select x y) = refl

    -- of a block
    nesting_tag : (b : Block A) → nesting (tag k b) ≡ nesting b
    nesting_tag end = refl
    nesting_tag (step a i b) = rw (nesting_i_tag_i i, nesting_tag b)

  mutual
    -- and has the same bytes
    instr_tag_i : (i : Instr A) → instr (tag_i k i) ≡ instr i
    instr_tag_i (assign x e) = refl
    instr_tag_i (write y o e) = refl
    instr_tag_i (read x y o) = refl
    instr_tag_i (while e b) = rw (block_tag b)
    instr_tag_i (if e b c) = rw (block_tag b, block_tag c)
    instr_tag_i (call m es) = refl
    instr_tag_i (atomic b) = rw (block_tag b)
    instr_tag_i (select x y) = refl

    -- of a block
    block_tag : (b : Block A) → block (tag k b) ≡ block b
    block_tag end = refl
    block_tag (step a i b) = rw (instr_tag_i i, block_tag b)

  -- so it stands where the block stands
  pub tag_at : {t : List ℕ} {i d : ℕ} {b : Block A} {j : ℕ} → BlockAt t i d b j → BlockAt t i d (tag k b) j
  tag_at {b = b} h = record { stands = rw (block_tag b) h.stands; fits = (rw (nesting_tag b) h.fits.0, says_tag b h.fits.1) }

module _ {A : Type 0} where
  mutual
    -- a labelled instruction
    says_label_i : (l : ℕ) (i : Instr A) → SaysI i → SaysI (label_i l i)
    says_label_i l (assign x e) h = h
    says_label_i l (write y o e) h = h
    says_label_i l (read x y o) h = h
    says_label_i l (while e b) h = (h.0, says_label (suc l) b h.1)
    says_label_i l (if e b c) h = (h.0, says_label (suc l) b h.1, says_label (suc l + count b) c h.2)
    says_label_i l (call m es) h = h
    says_label_i l (atomic b) h = says_tag l b h
    says_label_i l (select x y) h = h

    -- a labelled block
    says_label : (l : ℕ) (b : Block A) → Says b → Says (label l b)
    says_label l end h = tt
    says_label l (step a i b) h = (says_label_i l i h.0, says_label (l + count_i i) b h.1)

  mutual
    -- and nests as deep
    nesting_i_label_i : (l : ℕ) (i : Instr A) → nesting_i (label_i l i) ≡ nesting_i i
    nesting_i_label_i l (assign x e) = refl
    nesting_i_label_i l (write y o e) = refl
    nesting_i_label_i l (read x y o) = refl
    nesting_i_label_i l (while e b) = nesting_label (suc l) b
    nesting_i_label_i l (if e b c) = rw (nesting_label (suc l) b, nesting_label (suc l + count b) c)
    nesting_i_label_i l (call m es) = refl
    nesting_i_label_i l (atomic b) = nesting_tag l b
    nesting_i_label_i l (select x y) = refl

    -- of a block
    nesting_label : (l : ℕ) (b : Block A) → nesting (label l b) ≡ nesting b
    nesting_label l end = refl
    nesting_label l (step a i b) = rw (nesting_i_label_i l i, nesting_label (l + count_i i) b)

  -- so a labelled block fits where the block fits
  pub fits_label : (l n : ℕ) (b : Block A) → BlockFits n b → BlockFits n (label l b)
  fits_label l n b h = (rw (nesting_label l b) h.0, says_label l b h.1)

-- ---- what a body has, the code inside has

-- it fits
fits_inherited : (n : ℕ) → Inherited {A = ℕ} (BlockFits n) (InstrFits n)
fits_inherited n = record {
  first = λ a j b h. (omega (arith, h.0), h.1.0);
  rest = λ a j b h. (omega (arith, h.0), h.1.1);
  loop = λ e b h. (h.0, h.1.1);
  yes = λ e b f h. (omega (arith, h.0), h.1.1);
  no = λ e b f h. (omega (arith, h.0), h.1.2);
}

-- its names mean something
named_inherited : (p : Program ℕ) (X : ℕ) → Inherited {A = ℕ} (λ b. named p X b ≡ true) (λ j. named_i p X j ≡ true)
named_inherited p X = record {
  first = λ a j b h. (both_passed (named_i p X j) (named p X b) h).0;
  rest = λ a j b h. (both_passed (named_i p X j) (named p X b) h).1;
  loop = λ e b h. (both_passed (Rules.ex p X e) (named p X b) h).1;
  yes = λ e b f h. (both_passed (named p X b) (named p X f) (both_passed (Rules.ex p X e) (both (named p X b) (named p X f)) h).1).0;
  no = λ e b f h. (both_passed (named p X b) (named p X f) (both_passed (Rules.ex p X e) (both (named p X b) (named p X f)) h).1).1;
}

-- it calls only what procedure m calls
calls_inherited : (ps : List (Proc ℕ)) (m : ℕ)
    → Inherited {A = ℕ} (λ b. (q : ℕ) → In q (callees b) → In q (callees_of ps m)) (λ j. (q : ℕ) → In q (callees_i j) → In q (callees_of ps m))
calls_inherited ps m = record {
  first = λ a j b h q i. h q (in_front (callees_i j) (callees b) i);
  rest = λ a j b h q i. h q (in_back (callees_i j) (callees b) i);
  loop = λ e b h. h;
  yes = λ e b f h q i. h q (in_front (callees b) (callees f) i);
  no = λ e b f h q i. h q (in_back (callees b) (callees f) i);
}

-- ---- procedures of a labelled program

-- procedure m, labelled
pub record Labelled (ps : List (Proc Plain)) (m : ℕ) (q : Proc ℕ) : Type 0 where
  pub plain : Proc Plain
  pub found : at ps m ≡ is plain
  pub from : ℕ
  pub params : q.params ≡ plain.params
  pub locals : q.locals ≡ plain.locals
  pub body : q.body ≡ label from plain.body

-- each procedure of a labelled program is one
pub labelled_at : (ps : List (Proc Plain)) (l m : ℕ) {q : Proc ℕ} → at (labels l ps) m ≡ is q → Labelled ps m q
labelled_at [] l m e = missing e
labelled_at (p ∷ ps) l zero e = record {
  plain = p;
  found = refl;
  from = l;
  params = rw (← is_inj e);
  locals = rw (← is_inj e);
  body = rw (← is_inj e);
}
labelled_at (p ∷ ps) l (suc m) e =
    let w = labelled_at ps (l + suc (count p.body)) m e in
    record { plain = w.plain; found = w.found; from = w.from; params = w.params; locals = w.locals; body = w.body }

-- the calls of procedure m
called : (ps : List (Proc ℕ)) (m : ℕ) {q : Proc ℕ} → at ps m ≡ is q → callees q.body ≡ callees_of ps m
called [] m e = missing e
called (p ∷ ps) zero e = rw (is_inj e)
called (p ∷ ps) (suc m) e = called ps m e

-- ---- what stands at a label

-- code c of procedure m stands at place k of table t, up to the end of its block
pub record Standing (t : List ℕ) (p : Program Plain) (m k : ℕ) (c : Block ℕ) : Type 0 where
  pub proc : Proc ℕ
  pub found : at (labelled p).procs m ≡ is proc
  pub left : Block ℕ
  pub after : Block ℕ
  pub code : c ≡ left ⊕ after
  pub ends : left ≡ end → after ≡ end
  pub here : BlockAt t k max_nesting left (k + length (block left))
  pub named : named (labelled p) proc.locals left ≡ true
  pub allowed : allowed (body_in concurrent m) left ≡ true
  pub calls : (q : ℕ) → In q (callees left) → In q (callees_of (labelled p).procs m)

-- it begins with an instruction
pub record Running (t : List ℕ) (p : Program Plain) (m k : ℕ) (c : Block ℕ) : Type 0 where
  pub proc : Proc ℕ
  pub found : at (labelled p).procs m ≡ is proc
  pub tag : ℕ
  pub instr : Instr ℕ
  pub rest : Block ℕ
  pub code : c ≡ step tag instr rest
  pub next : ℕ
  pub here : InstrAt t k (max_nesting - 1) instr next
  pub named : named_i (labelled p) proc.locals instr ≡ true
  pub allowed : allowed_i (body_in concurrent m) instr ≡ true
  pub calls : (q : ℕ) → In q (callees_i instr) → In q (callees_of (labelled p).procs m)

module _ {t : List ℕ} {p : Program Plain} {m k : ℕ} {c : Block ℕ} (s : Standing t p m k c) where
  -- at the byte 00 it has ended
  pub at_end : get_or t k 0 ≡ 0 → c ≡ end
  at_end e =
      let none : s.left ≡ end = (end_here s.here e).0 in
      s.code ∙ ap₂ ◌⊕◌ none (s.ends none)

  -- any other byte begins an instruction
  pub at_instr : (get_or t k 0 ≡ 0 → ⊥) → Running t p m k c
  at_instr e =
      let w : StepAt t k max_nesting s.left (k + length (block s.left)) = step_here s.here e in
      let is : s.left ≡ step w.tag w.s w.rest = w.is in
      record {
        proc = s.proc;
        found = s.found;
        tag = w.tag;
        instr = w.s;
        rest = w.rest ⊕ s.after;
        code = s.code ∙ ap (◌⊕ s.after) is;
        next = w.k;
        here = w.here;
        named =
            (both_passed (named_i (labelled p) s.proc.locals w.s) (named (labelled p) s.proc.locals w.rest)
            (subst (λ (b : Block ℕ). named (labelled p) s.proc.locals b ≡ true) is s.named)).0;
        allowed =
            (both_passed (allowed_i (body_in concurrent m) w.s) (allowed (body_in concurrent m) w.rest)
            (subst (λ (b : Block ℕ). allowed (body_in concurrent m) b ≡ true) is s.allowed)).0;
        calls = λ q i. s.calls q (subst (λ (b : Block ℕ). In q (callees b)) (sym is) (in_front (callees_i w.s) (callees w.rest) i));
      }

module _ {t : List ℕ} {p : Program Plain} (sound : Sound concurrent p) (same : t ≡ table concurrent p) where
  -- the node of a label stands at its place
  pub node_stands : (l : ℕ) {n : Node} → node_of p l ≡ is n → Standing t p n.proc n.place n.code
  node_stands l {n} e =
      let w : NodeOf p l n = node_of_lem p l e in
      let v : CodeAt (labelled p).procs n.proc n.place w.left w.after = w.spot in
      let q : Labelled p.procs n.proc v.proc = labelled_at p.procs 1 n.proc v.found in
      let r : ProcSound concurrent p n.proc q.plain = proc_sound sound n.proc q.plain q.found in
      let fits : BlockFits max_nesting q.plain.body =
      each_at (BlockFits max_nesting) (bodies_of p.procs) n.proc (bodies_fit concurrent p sound) (body_at_lem p.procs n.proc q.found)
      in
      let bodies : Stands t 0 (each block (bodies_of (labelled p).procs)) (records_at p) =
      subst (λ (bs : List ℕ). Stands t 0 bs (records_at p)) (sym (bodies_labels p.procs 1)) (all_bodies concurrent p same)
      in
      record {
        proc = v.proc;
        found = v.found;
        left = w.left;
        after = w.after;
        code = w.code;
        ends = w.ends;
        here = record {
          stands = code_stands bodies v;
          fits = spot_has (fits_inherited max_nesting) v.spot (rw q.body (fits_label q.from max_nesting q.plain.body fits));
        };
        named =
            spot_has (named_inherited (labelled p) v.proc.locals) v.spot
            (ap₂ (λ X b. named (labelled p) X b) q.locals q.body ∙ named_label p q.plain.body q.from q.plain.locals
            ∙ (names? p q.plain.locals q.plain.body).of r.named);
        allowed =
            spot_has (allowed_inherited (body_in concurrent n.proc)) v.spot
            (rw q.body (allowed_label p q.plain.body q.from _ ∙ r.allowed));
        calls =
            spot_has (calls_inherited (labelled p).procs n.proc) v.spot
            (λ x i. subst (In x) (called (labelled p).procs n.proc v.found) i);
      }

-- ---- in the label map

-- label l, where code c of procedure m goes on: its numbers in the map
pub record LabelAt (t map : List ℕ) (p : Program Plain) (m l : ℕ) (c : Block ℕ) : Type 0 where
  pub few : l ≤ max_labels
  pub stands : Standing t p m (get_or map (4 * l) 0) c
  pub next : get_or map (4 * l + 2) 0 ≡ Map.next (ends_of p m) c
  pub other : get_or map (4 * l + 3) 0 ≡ Map.other (ends_of p m) c

-- code that remains has them at its label
pub label_at : {t map bounds : List ℕ} {p : Program Plain} {m l : ℕ} {c : Block ℕ} → Sound concurrent p → t ≡ table concurrent p → Mapped p map bounds
    → Remains (labelled p).procs m c → l ≡ first (ends_of p m) c → LabelAt t map p m l c
label_at {t} {map} {p = p} {m} {l} {c} sound same mapped r e =
    let stands : (m' k : ℕ) (c' : Block ℕ) → m' ≡ m → c' ≡ c → get_or map (4 * l) 0 ≡ k → Standing t p m' k c' → Standing t p m (get_or map (4 * l) 0) c =
    λ m' k c' d f g s. rw (g, ← d, ← f) s
    in
    let w = remains_node p r in
    let n : Node = w.0 in
    let there : node_of p l ≡ is n = rw e w.1 in
    record {
      few = omega (arith, (node_range p l there).1, sound.labels);
      stands = stands n.proc n.place n.code w.2 w.3 (mapped.place l n there) (node_stands sound same l there);
      next = mapped.next l n there ∙ ap₂ (λ m c. Map.next (ends_of p m) c) w.2 w.3;
      other = mapped.other l n there ∙ ap₂ (λ m c. Map.other (ends_of p m) c) w.2 w.3;
    }

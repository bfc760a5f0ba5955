-- Labels and other tags do not matter to the rules: code has the same names, the same allowed instructions and the same
-- set variables with any tags.
use Rattle.std.specs.Prelude.{ℕ, zero, suc, ◌+◌, ◌≡◌, refl, List, [], ◌∷◌, true, length}
use Rattle.std.proofs.Common.{sym, ap, ◌∙◌}
use Rattle.value.specs.Maybe.{is}
use Rattle.value.specs.Lists.{at}
use Rattle.value.proofs.Laws.Maybes.{missing, bind_same}
use Rattle.format.specs.Syntax.{Instr, assign, write, read, while, if, call, atomic, select, Block, end, step, Proc, Program, Plain}
use Rattle.format.specs.Encode.{instr, block}
use Rattle.format.specs.Labels.{count, count_i, tag, tag_i, label, label_i, labels, labelled, end_of}
use Rattle.format.specs.Rules.{callees, callees_i, callees_of, Here, Known, takes, named, named_i, allowed, allowed_i, after_i, after}
use Rattle.format.proofs.Laws.Depths.{nesting, nesting_i}
use Rattle.format.proofs.Laws.Fits.{Says, SaysI, BlockFits}
use Rattle.format.proofs.Laws.Calls.{Reaches, direct, onward}

-- ---- other tags on tagged or labelled code

module _ {A B C : Type 0} (k : C) where
  mutual
    -- an instruction tagged twice
    tag_i_tag_i : (i : Instr A) (l : B) → tag_i k (tag_i l i) ≡ tag_i k i
    tag_i_tag_i (assign x e) l = refl
    tag_i_tag_i (write y o e) l = refl
    tag_i_tag_i (read x y o) l = refl
    tag_i_tag_i (while e b) l = rw (tag_tag b l)
    tag_i_tag_i (if e b c) l = rw (tag_tag b l, tag_tag c l)
    tag_i_tag_i (call m es) l = refl
    tag_i_tag_i (atomic b) l = rw (tag_tag b l)
    tag_i_tag_i (select x y) l = refl

    -- a block
    tag_tag : (b : Block A) (l : B) → tag k (tag l b) ≡ tag k b
    tag_tag end l = refl
    tag_tag (step a i b) l = rw (tag_i_tag_i i l, tag_tag b l)

module _ {A C : Type 0} (k : C) where
  mutual
    -- a labelled instruction, tagged
    tag_i_label_i : (i : Instr A) (l : ℕ) → tag_i k (label_i l i) ≡ tag_i k i
    tag_i_label_i (assign x e) l = refl
    tag_i_label_i (write y o e) l = refl
    tag_i_label_i (read x y o) l = refl
    tag_i_label_i (while e b) l = rw (tag_label b (suc l))
    tag_i_label_i (if e b c) l = rw (tag_label b (suc l), tag_label c (suc l + count b))
    tag_i_label_i (call m es) l = refl
    tag_i_label_i (atomic b) l = rw (tag_tag k b l)
    tag_i_label_i (select x y) l = refl

    -- of a block
    pub tag_label : (b : Block A) (l : ℕ) → tag k (label l b) ≡ tag k b
    tag_label end l = refl
    tag_label (step a i b) l = rw (tag_i_label_i i l, tag_label b (l + count_i i))

-- ---- as many labels

module _ {A : Type 0} where
  mutual
    -- the labels of a labelled instruction
    count_i_label_i : (i : Instr A) (l : ℕ) → count_i (label_i l i) ≡ count_i i
    count_i_label_i (assign x e) l = refl
    count_i_label_i (write y o e) l = refl
    count_i_label_i (read x y o) l = refl
    count_i_label_i (while e b) l = rw (count_label b (suc l))
    count_i_label_i (if e b c) l = rw (count_label b (suc l), count_label c (suc l + count b))
    count_i_label_i (call m es) l = refl
    count_i_label_i (atomic b) l = refl
    count_i_label_i (select x y) l = refl

    -- of a block
    count_label : (b : Block A) (l : ℕ) → count (label l b) ≡ count b
    count_label end l = refl
    count_label (step a i b) l = rw (count_i_label_i i l, count_label b (l + count_i i))

  -- so end labels are the same in a labelled program
  pub end_of_labels : (ps : List (Proc A)) (l k m : ℕ) → end_of l (labels k ps) m ≡ end_of l ps m
  end_of_labels [] l k m = refl
  end_of_labels (p ∷ ps) l k zero = rw (count_label p.body k)
  end_of_labels (p ∷ ps) l k (suc m) =
      end_of_labels ps (l + suc (count (label k p.body))) (k + suc (count p.body)) m
      ∙ ap (λ (c : ℕ). end_of (l + suc c) ps m) (count_label p.body k)

-- ---- the same calls

module _ {A B : Type 0} (k : B) where
  mutual
    -- the calls of a tagged instruction
    callees_i_tag_i : (i : Instr A) → callees_i (tag_i k i) ≡ callees_i i
    callees_i_tag_i (assign x e) = refl
    callees_i_tag_i (write y o e) = refl
    callees_i_tag_i (read x y o) = refl
    callees_i_tag_i (while e b) = callees_tag b
    callees_i_tag_i (if e b c) = rw (callees_tag b, callees_tag c)
    callees_i_tag_i (call m es) = refl
    callees_i_tag_i (atomic b) = callees_tag b
    callees_i_tag_i (select x y) = refl

    -- of a block
    callees_tag : (b : Block A) → callees (tag k b) ≡ callees b
    callees_tag end = refl
    callees_tag (step a i b) = rw (callees_i_tag_i i, callees_tag b)

-- of a labelled block
callees_label : {A : Type 0} (b : Block A) (l : ℕ) → callees (label l b) ≡ callees b
callees_label b l = sym (callees_tag {B = ℕ} 0 (label l b)) ∙ ap (λ (c : Block ℕ). callees c) (tag_label 0 b l) ∙ callees_tag 0 b

-- of procedure m
callees_of_labels : {A : Type 0} (ps : List (Proc A)) (l m : ℕ) → callees_of (labels l ps) m ≡ callees_of ps m
callees_of_labels [] l m = refl
callees_of_labels (p ∷ ps) l zero = callees_label p.body l
callees_of_labels (p ∷ ps) l (suc m) = callees_of_labels ps (l + suc (count p.body)) m

-- who reaches whom by calls
pub reaches_labels : {A : Type 0} (ps : List (Proc A)) (l : ℕ) {m n : ℕ} → Reaches (labels l ps) m n → Reaches ps m n
reaches_labels ps l (direct h) = direct (rw (callees_of_labels ps l _) at h)
reaches_labels ps l (onward h r) = onward (rw (callees_of_labels ps l _) at h) (reaches_labels ps l r)

-- ---- the rules

-- programs that say the same of names
module _ {A B : Type 0} (p : Program A) (q : Program B) (X : ℕ) (k : B) (sizes : length q.sizes ≡ length p.sizes)
    (params : (m n : ℕ) → takes q.procs m n ≡ takes p.procs m n) where
  mutual
    -- rule 5 of a tagged instruction
    named_i_tag_i : (i : Instr A) → named_i q X (tag_i k i) ≡ named_i p X i
    named_i_tag_i (assign x e) = rw sizes
    named_i_tag_i (write y o e) = rw sizes
    named_i_tag_i (read x y o) = rw sizes
    named_i_tag_i (while e b) = rw (sizes, named_tag b)
    named_i_tag_i (if e b c) = rw (sizes, named_tag b, named_tag c)
    named_i_tag_i (call m es) = rw (sizes, params m (length es))
    named_i_tag_i (atomic b) = named_tag b
    named_i_tag_i (select x y) = rw sizes

    -- of a block
    pub named_tag : (b : Block A) → named q X (tag k b) ≡ named p X b
    named_tag end = refl
    named_tag (step a i b) = rw (named_i_tag_i i, named_tag b)

module _ {A B : Type 0} (k : B) where
  mutual
    -- rule 4 of a tagged instruction
    allowed_i_tag_i : (i : Instr A) (w : Here) → allowed_i w (tag_i k i) ≡ allowed_i w i
    allowed_i_tag_i (assign x e) w = refl
    allowed_i_tag_i (write y o e) w = refl
    allowed_i_tag_i (read x y o) w = refl
    allowed_i_tag_i (while e b) w = rw (allowed_tag b w)
    allowed_i_tag_i (if e b c) w = rw (allowed_tag b w, allowed_tag c w)
    allowed_i_tag_i (call m es) w = refl
    allowed_i_tag_i (atomic b) w = rw (allowed_tag b (record { kind = w.kind; proc = w.proc; inside = true }))
    allowed_i_tag_i (select x y) w = refl

    -- of a block
    pub allowed_tag : (b : Block A) (w : Here) → allowed w (tag k b) ≡ allowed w b
    allowed_tag end w = refl
    allowed_tag (step a i b) w = rw (allowed_i_tag_i i w, allowed_tag b w)

  mutual
    -- rule 8 of a tagged instruction
    after_i_tag_i : (i : Instr A) (s : Known) → after_i s (tag_i k i) ≡ after_i s i
    after_i_tag_i (assign x e) s = refl
    after_i_tag_i (write y o e) s = refl
    after_i_tag_i (read x y o) s = refl
    after_i_tag_i (while e b) s = rw (after_tag b s)
    after_i_tag_i (if e b c) s = rw (after_tag b s, after_tag c s)
    after_i_tag_i (call m es) s = refl
    after_i_tag_i (atomic b) s = after_tag b s
    after_i_tag_i (select x y) s = refl

    -- of a block
    pub after_tag : (b : Block A) (s : Known) → after s (tag k b) ≡ after s b
    after_tag end s = refl
    after_tag (step a i b) s = rw (after_i_tag_i i s) (bind_same (after_i s i) (λ u. after u (tag k b)) (λ u. after u b) (λ u. after_tag b u))

-- ---- the same bytes

module _ {A B : Type 0} (k : B) where
  mutual
    -- the bytes of a tagged instruction
    instr_tag_i : (i : Instr A) → instr (tag_i k i) ≡ instr i
    instr_tag_i (assign x e) = refl
    instr_tag_i (write y o e) = refl
    instr_tag_i (read x y o) = refl
    instr_tag_i (while e b) = rw (block_tag b)
    instr_tag_i (if e b c) = rw (block_tag b, block_tag c)
    instr_tag_i (call m es) = refl
    instr_tag_i (atomic b) = rw (block_tag b)
    instr_tag_i (select x y) = refl

    -- of a block
    block_tag : (b : Block A) → block (tag k b) ≡ block b
    block_tag end = refl
    block_tag (step a i b) = rw (instr_tag_i i, block_tag b)

-- a labelled instruction has the bytes that it had
pub instr_label : {A : Type 0} (j : Instr A) (l : ℕ) → instr (label_i l j) ≡ instr j
instr_label j l = sym (instr_tag_i {B = ℕ} 0 (label_i l j)) ∙ ap (λ (c : Instr ℕ). instr c) (tag_i_label_i 0 j l) ∙ instr_tag_i 0 j

-- and a labelled block
pub block_label : {A : Type 0} (b : Block A) (l : ℕ) → block (label l b) ≡ block b
block_label b l = sym (block_tag {B = ℕ} 0 (label l b)) ∙ ap (λ (c : Block ℕ). block c) (tag_label 0 b l) ∙ block_tag 0 b

-- ---- as deep, with the same numbers

module _ {A B : Type 0} (k : B) where
  mutual
    -- how deep a tagged instruction is
    nesting_i_tag_i : (i : Instr A) → nesting_i (tag_i k i) ≡ nesting_i i
    nesting_i_tag_i (assign x e) = refl
    nesting_i_tag_i (write y o e) = refl
    nesting_i_tag_i (read x y o) = refl
    nesting_i_tag_i (while e b) = nesting_tag b
    nesting_i_tag_i (if e b c) = rw (nesting_tag b, nesting_tag c)
    nesting_i_tag_i (call m es) = refl
    nesting_i_tag_i (atomic b) = nesting_tag b
    nesting_i_tag_i (select x y) = refl

    -- of a block
    nesting_tag : (b : Block A) → nesting (tag k b) ≡ nesting b
    nesting_tag end = refl
    nesting_tag (step a i b) = rw (nesting_i_tag_i i, nesting_tag b)

  mutual
    -- what a tagged instruction says
    says_i_tag_i : (i : Instr A) → SaysI i → SaysI (tag_i k i)
    says_i_tag_i (assign x e) h = h
    says_i_tag_i (write y o e) h = h
    says_i_tag_i (read x y o) h = h
    says_i_tag_i (while e b) h = (h.0, says_tag b h.1)
    says_i_tag_i (if e b c) h = (h.0, says_tag b h.1, says_tag c h.2)
    says_i_tag_i (call m es) h = h
    says_i_tag_i (atomic b) h = says_tag b h
    says_i_tag_i (select x y) h = h

    -- of a block
    says_tag : (b : Block A) → Says b → Says (tag k b)
    says_tag end h = tt
    says_tag (step a i b) h = (says_i_tag_i i h.0, says_tag b h.1)

module _ {A : Type 0} where
  mutual
    -- what a labelled instruction says
    says_i_label_i : (i : Instr A) (l : ℕ) → SaysI i → SaysI (label_i l i)
    says_i_label_i (assign x e) l h = h
    says_i_label_i (write y o e) l h = h
    says_i_label_i (read x y o) l h = h
    says_i_label_i (while e b) l h = (h.0, says_label b (suc l) h.1)
    says_i_label_i (if e b c) l h = (h.0, says_label b (suc l) h.1, says_label c (suc l + count b) h.2)
    says_i_label_i (call m es) l h = h
    says_i_label_i (atomic b) l h = says_tag l b h
    says_i_label_i (select x y) l h = h

    -- of a block
    says_label : (b : Block A) (l : ℕ) → Says b → Says (label l b)
    says_label end l h = tt
    says_label (step a i b) l h = (says_i_label_i i l h.0, says_label b (l + count_i i) h.1)

  -- a labelled block fits as the block does
  pub fits_label : {d : ℕ} (b : Block A) (l : ℕ) → BlockFits d b → BlockFits d (label l b)
  fits_label b l h =
      let deep : nesting (label l b) ≡ nesting b =
      sym (nesting_tag {B = Plain} tt (label l b)) ∙ ap (λ (c : Block Plain). nesting c) (tag_label tt b l) ∙ nesting_tag {B = Plain} tt b
      in
      (rw deep h.0, says_label b l h.1)

-- ---- labelled code

-- the parameters of labelled procedures
takes_labels : {A : Type 0} (ps : List (Proc A)) (l m n : ℕ) → takes ps m n ≡ takes (labels l ps) m n
takes_labels [] l m n = refl
takes_labels (p ∷ ps) l zero n = refl
takes_labels (p ∷ ps) l (suc m) n = takes_labels ps (l + suc (count p.body)) m n

-- procedure m of a labelled program is a labelled procedure
pub labels_at : {A : Type 0} (ps : List (Proc A)) (l m : ℕ) {q : Proc ℕ} → at (labels l ps) m ≡ is q → (p : Proc A) × (at ps m ≡ is p)
labels_at [] l m e = missing e
labels_at (p ∷ ps) l zero e = (p, refl)
labels_at (p ∷ ps) l (suc m) e = labels_at ps (l + suc (count p.body)) m e

-- the same code, labelled or not
module _ (p : Program Plain) (b : Block Plain) (k : ℕ) where
  -- rule 5
  pub named_label : (X : ℕ) → named (labelled p) X (label k b) ≡ named p X b
  named_label X =
      sym (named_tag (labelled p) p X tt refl (takes_labels p.procs 1) (label k b))
      ∙ ap (λ (c : Block Plain). named p X c) (tag_label tt b k) ∙ named_tag p p X tt refl (λ m n. refl) b

  -- rule 4
  pub allowed_label : (w : Here) → allowed w (label k b) ≡ allowed w b
  allowed_label w = sym (allowed_tag {B = Plain} tt (label k b) w) ∙ ap (λ (c : Block Plain). allowed w c) (tag_label tt b k) ∙ allowed_tag tt b w

  -- rule 8
  pub after_label : (s : Known) → after s (label k b) ≡ after s b
  after_label s = sym (after_tag {B = Plain} tt (label k b) s) ∙ ap (λ (c : Block Plain). after s c) (tag_label tt b k) ∙ after_tag tt b s

-- The procedures that simulate the labels are right.
use Rattle.std.specs.Prelude.{ℕ, zero, suc, ◌+◌, ◌^◌, ◌≤◌, ◌<◌, ◌≡◌, refl, List, [], ◌∷◌, true, length, ltb}
use Rattle.std.proofs.Common.{arith, ◌∙◌, ap, length-append}
use Rattle.value.proofs.Laws.Lists.{Each, each_append}
use Rattle.format.specs.Syntax.{Expr, Instr, assign, write, read, while, if, call, atomic, select, Block, end, step, Proc, Program, Plain}
use Rattle.format.specs.Labels.{count, count_i, tag, tag_i, label, label_i, first}
use Rattle.format.specs.Rules.{Here, Known, max_locals}
use Rattle.format.proofs.Laws.Names.{Takes, InRange, Names, NamesI}
use Rattle.format.proofs.Laws.Depths.{ExprRight, nesting, nesting_i, ExprsRight, ExprsRightI}
use Rattle.format.proofs.Laws.Blocks.{nesting_pos}
use Rattle.format.proofs.Laws.Sets.{and_more}
use Rattle.format.specs.Decode.{max_nesting}
use Rattle.translation.specs.Layout.{Layout}
use Rattle.translation.specs.Code.{tid, moved, pc, inside, inside_i, code}
use Rattle.translation.specs.Translate.{simulating, held_by, each}
use Rattle.translation.proofs.Laws.Right.{Right, end_right, if_right}
use Rattle.translation.proofs.Laws.Pieces.{Source, Scene, Fine, Follows}
use Rattle.translation.proofs.Laws.Pieces.{loads_right, pc_right, assigns_right, reads_right, writes_right, tests_right}
use Rattle.translation.proofs.Laws.Pieces.{calls_right}

-- a procedure of the copy that simulates a label, right wherever it stands
pub record Simulates (p : Program Plain) (f : Proc Plain) : Type 0 where
  pub params : f.params ≡ 1
  pub few : f.locals ≤ moved max_locals
  pub enough : 1 ≤ f.locals
  pub body : (here : Here) → Right p f.locals here (λ c. ⊥) max_nesting (λ x. ltb x f.params) f.body

-- an expression of the source
source : {n M : ℕ} (e : Expr) → ExprRight e → InRange n M e → Source n M e
source e f i = record { right = f; named = i }

-- the label that a block begins with is below a bound of both
first_below : (N k l : ℕ) (b : Block Plain) → k < N → l < N → first k (label l b) < N
first_below N k l end h j = h
first_below N k l (step a i b) h j = j

-- what a call of procedure c with a arguments needs
pub record Callee (p : Program Plain) (G : Layout) (begin : ℕ → ℕ) (c a : ℕ) : Type 0 where
  pub home : (x : ℕ) → x < a → G.home c x < length p.sizes
  pub from : G.from c < length p.sizes
  pub start : begin c < 2 ^ 31

-- q is the source; m one of its procedures, of n locals
module _ (q : Program Plain) {p : Program Plain} {here : Here} {G : Layout} {m n : ℕ} (scene : Scene p G m n (length q.sizes)) where
  -- ---- inside an atomic block

  mutual
    -- an instruction
    inside_i_right : (i : Instr Plain) (l d : ℕ) {s : Known} (c : Block Plain) → s tid ≡ true → ExprsRightI i → NamesI q n i → nesting_i i < d
        → Follows p here n d s c → Fine p here n d s (inside_i G m n (tag_i l i) c)
    inside_i_right (assign x e) l d c set f i h r =
        assigns_right scene set x e c i.0 (source e f i.1) r
    inside_i_right (write y o e) l d c set f i h r =
        writes_right scene set y o e c i.0 (source o f.0 i.1.0) (source e f.1 i.1.1) r
    inside_i_right (read x y o) l d c set f i h r =
        reads_right scene set x y o c i.0 i.1.0 (source o f i.1.1) r
    inside_i_right (while e b) l d c set f i h r = r _ (λ x e. e)
    inside_i_right (if e a b) l zero c set f i h r = absurd (omega arith)
    inside_i_right (if e a b) l (suc d) c set f i h r =
        loads_right scene (e ∷ []) _ set (source e f.0 i.0, tt) λ u k g.
        if_right _ _ _ g.0
        (inside_right a l d end (k tid set) f.1 i.1.0 (omega arith) (λ v _. end_right (omega (arith, nesting_pos a))))
        (inside_right b l d end (k tid set) f.2 i.1.1 (omega arith) (λ v _. end_right (omega (arith, nesting_pos a))))
        (λ v j. r v (and_more k j))
    inside_i_right (call m es) l d c set f i h r = r _ (λ x e. e)
    inside_i_right (atomic b) l d c set f i h r = r _ (λ x e. e)
    inside_i_right (select a b) l d c set f i h r = r _ (λ x e. e)

    -- a block
    inside_right : (b : Block Plain) (l d : ℕ) {s : Known} (c : Block Plain) → s tid ≡ true → ExprsRight b → Names q n b → nesting b ≤ d
        → Follows p here n d s c → Fine p here n d s (inside G m n (tag l b) c)
    inside_right end l d c set f i h r = r _ (λ x e. e)
    inside_right (step a j b) l d c set f i h r =
        inside_i_right j l d _ set f.0 i.0 (omega arith) λ u k.
        inside_right b l d c (k tid set) f.1 i.1 (omega arith) λ v o.
        r v (and_more k o)

  -- ---- the code of a label

  -- each instruction of the source
  code_right : (begin : ℕ → ℕ) → ((c a : ℕ) → Takes q.procs c a → Callee p G begin c a)
      → (i : Instr Plain) (l k : ℕ) {s : Known} → s tid ≡ true → ExprsRightI i → NamesI q n i → nesting_i i < max_nesting → l + count_i i < 2 ^ 31
      → k < 2 ^ 31 → Fine p here n max_nesting s (code G m n begin l (label_i l i) k)
  code_right begin callee (assign x e) l k set f i h j o =
      inside_i_right (assign x e) l max_nesting (pc G m n k) set f i h (λ u t. pc_right scene (t tid set) k o (omega arith))
  code_right begin callee (write y o e) l k set f i h j z =
      inside_i_right (write y o e) l max_nesting (pc G m n k) set f i h (λ u t. pc_right scene (t tid set) k z (omega arith))
  code_right begin callee (read x y o) l k set f i h j z =
      inside_i_right (read x y o) l max_nesting (pc G m n k) set f i h (λ u t. pc_right scene (t tid set) k z (omega arith))
  code_right begin callee (while e b) l k set f i h j o =
      tests_right scene set e (first l (label (suc l) b)) k (source e f.0 i.0) (first_below (2 ^ 31) l (suc l) b (omega arith) (omega arith)) o
      (omega arith)
  code_right begin callee (if e b c) l k set f i h j o =
      tests_right scene set e (first k (label (suc l) b)) (first k (label (suc l + count b) c)) (source e f.0 i.0)
      (first_below (2 ^ 31) k (suc l) b o (omega arith)) (first_below (2 ^ 31) k (suc l + count b) c o (omega arith)) (omega arith)
  code_right begin callee (call c es) l k set f i h j o =
      let to : Callee p G begin c (length es) = callee c (length es) i.0 in
      calls_right scene set c es (begin c) k (sources es f i.1) to.home to.from to.start o (omega arith)
    where
      sources : (es : List Expr) → Each ExprRight es → Each (InRange n (length q.sizes)) es → Each (Source n (length q.sizes)) es
      sources [] f i = tt
      sources (e ∷ es) f i = (source e f.0 i.0, sources es f.1 i.1)
  code_right begin callee (atomic b) l k set f i h j o =
      inside_right b l max_nesting (pc G m n k) set f i (omega arith) (λ u t. pc_right scene (t tid set) k o (omega arith))
  code_right begin callee (select a b) l k set f i h j o = end_right (omega arith)

-- ---- the procedures of a block's labels

module _ (q : Program Plain) {p : Program Plain} {G : Layout} {m n : ℕ} (scene : Scene p G m n (length q.sizes))
    (begin : ℕ → ℕ) (callee : (c a : ℕ) → Takes q.procs c a → Callee p G begin c a) where
  -- code that is right everywhere makes such a procedure
  pub simulates : (b : Block Plain) → ((here : Here) → Fine p here n max_nesting (λ x. ltb x 1) b) → Simulates p (simulating n b)
  simulates b r = record { params = refl; few = omega (arith, scene.few); enough = omega arith; body = r }

  mutual
    -- of an instruction
    held_by_right : (i : Instr Plain) (l k : ℕ) → ExprsRightI i → NamesI q n i → nesting_i i < max_nesting → l + count_i i < 2 ^ 31 → k < 2 ^ 31
        → Each (Simulates p) (held_by G begin m n (label_i l i) l k)
    held_by_right (assign x e) l k f i h j o = tt
    held_by_right (write y z e) l k f i h j o = tt
    held_by_right (read x y z) l k f i h j o = tt
    held_by_right (while e b) l k f i h j o =
        each_right b (suc l) l f.1 i.1 (omega arith) (omega arith) (omega arith)
    held_by_right (if e b c) l k f i h j o =
        each_append (Simulates p) (each G begin m n (label (suc l) b) k) (each G begin m n (label (suc l + count b) c) k)
        (each_right b (suc l) k f.1 i.1.0 (omega arith) (omega arith) o)
        (each_right c (suc l + count b) k f.2 i.1.1 (omega arith) (omega arith) o)
    held_by_right (call c es) l k f i h j o = tt
    held_by_right (atomic b) l k f i h j o = tt
    held_by_right (select a b) l k f i h j o = tt

    -- of a block
    pub each_right : (b : Block Plain) (l k : ℕ) → ExprsRight b → Names q n b → nesting b ≤ max_nesting → l + count b < 2 ^ 31 → k < 2 ^ 31
        → Each (Simulates p) (each G begin m n (label l b) k)
    each_right end l k f i h j o = tt
    each_right (step a t b) l k f i h j o =
        let next : first k (label (l + count_i t) b) < 2 ^ 31 = first_below (2 ^ 31) k (l + count_i t) b o (omega arith) in (
          simulates _ (λ here.
              code_right q scene begin callee t l (first k (label (l + count_i t) b)) refl f.0 i.0 (omega arith) (omega arith) next),
          each_append (Simulates p) (held_by G begin m n (label_i l t) l (first k (label (l + count_i t) b)))
              (each G begin m n (label (l + count_i t) b) k)
              (held_by_right t l (first k (label (l + count_i t) b)) f.0 i.0 (omega arith) (omega arith) next)
              (each_right b (l + count_i t) k f.1 i.1 (omega arith) (omega arith) o),
        )

-- as many as labels
module _ (G : Layout) (begin : ℕ → ℕ) (m n : ℕ) where
  mutual
    -- an instruction has one for each label inside, without its own
    pub length_held_by : (i : Instr Plain) (l k : ℕ) → suc (length (held_by G begin m n (label_i l i) l k)) ≡ count_i i
    length_held_by (assign x e) l k = refl
    length_held_by (write y o e) l k = refl
    length_held_by (read x y o) l k = refl
    length_held_by (while e b) l k = ap suc (length_each b (suc l) l)
    length_held_by (if e b c) l k =
        ap suc
        (length-append (each G begin m n (label (suc l) b) k) (each G begin m n (label (suc l + count b) c) k)
        ∙ rw (length_each b (suc l) k, length_each c (suc l + count b) k))
    length_held_by (call c es) l k = refl
    length_held_by (atomic b) l k = refl
    length_held_by (select a b) l k = refl

    -- a block has one for each of its labels
    pub length_each : (b : Block Plain) (l k : ℕ) → length (each G begin m n (label l b) k) ≡ count b
    length_each end l k = refl
    length_each (step a i b) l k =
        let next : ℕ = first k (label (l + count_i i) b) in
        omega (
          arith,
          length-append (held_by G begin m n (label_i l i) l next) (each G begin m n (label (l + count_i i) b) k),
          length_held_by i l next,
          length_each b (l + count_i i) k,
        )

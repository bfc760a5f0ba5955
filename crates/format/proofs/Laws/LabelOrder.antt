-- Labels in order: document 01, "Labels".
use Rattle.std.specs.Prelude.{ℕ, zero, suc, ◌+◌, ◌≡◌, refl, List, [], ◌∷◌, ◌++◌, get_or}
use Rattle.std.proofs.Common.{arith, sym, ap, ◌∙◌}
use Rattle.value.specs.Maybe.{is}
use Rattle.value.specs.Lists.{at, upto}
use Rattle.value.proofs.Laws.Maybes.{is_inj, missing}
use Rattle.format.specs.Syntax.{Instr, assign, write, read, while, if, call, atomic, select, Block, end, step, Proc, Program}
use Rattle.format.specs.Labels.{count, count_i, counts, label, label_i, labels, labelled, first, end_of, ends_of, body_of, begins}

-- the labels that an instruction holds: "instructions in textual order, those inside an atomic block having none"
abbrev mutual
  pub held_by : Instr ℕ → List ℕ
  held_by (assign x e) = []
  held_by (write y o e) = []
  held_by (read x y o) = []
  held_by (while e b) = textual b
  held_by (if e b c) = textual b ++ textual c
  held_by (call m es) = []
  held_by (atomic b) = []
  held_by (select a b) = []

  -- those of a block
  pub textual : Block ℕ → List ℕ
  textual end = []
  textual (step l i b) = l ∷ held_by i ++ textual b

-- "Procedures in order; in each, instructions .., then one end label": from procedure m on
abbrev pub in_order : (ℕ → ℕ) → ℕ → List (Proc ℕ) → List ℕ
in_order ends m [] = []
in_order ends m (q ∷ qs) = textual q.body ++ (ends m ∷ in_order ends (suc m) qs)

-- n numbers and then k
upto_append : (l n k : ℕ) → upto l (n + k) ≡ upto l n ++ upto (l + n) k
upto_append l zero k = let a : 0 + k ≡ k = omega arith in let b : l + 0 ≡ l = omega arith in rw (a, b)
upto_append l (suc n) k =
    let a : suc n + k ≡ suc (n + k) = omega arith in
    let b : l + suc n ≡ suc l + n = omega arith in
    rw (a, b) (ap (λ xs. l ∷ xs) (upto_append (suc l) n k))

module _ {A : Type 0} where
  mutual
    -- those of an instruction with label l
    held_upto : (i : Instr A) (l : ℕ) → l ∷ held_by (label_i l i) ≡ upto l (count_i i)
    held_upto (assign x e) l = refl
    held_upto (write y o e) l = refl
    held_upto (read x y o) l = refl
    held_upto (while e b) l = ap (λ xs. l ∷ xs) (textual_upto b (suc l))
    held_upto (if e b c) l =
        ap (λ xs. l ∷ xs) (rw (textual_upto b (suc l), textual_upto c (suc l + count b)) (sym (upto_append (suc l) (count b) (count c))))
    held_upto (call m es) l = refl
    held_upto (atomic b) l = refl
    held_upto (select a b) l = refl

    -- of a block whose first label is l
    textual_upto : (b : Block A) (l : ℕ) → textual (label l b) ≡ upto l (count b)
    textual_upto end l = refl
    textual_upto (step a i b) l =
        ap (λ xs. xs ++ textual (label (l + count_i i) b)) (held_upto i l)
        ∙ rw (textual_upto b (l + count_i i)) (sym (upto_append l (count_i i) (count b)))

  -- of procedures whose first label is l
  order_upto : (ps : List (Proc A)) (l m : ℕ) (ends : ℕ → ℕ) → ((i : ℕ) → ends (m + i) ≡ end_of l ps i)
      → in_order ends m (labels l ps) ≡ upto l (counts ps)
  order_upto [] l m ends h = refl
  order_upto (p ∷ ps) l m ends h =
      let n : ℕ = count p.body in
      let mine : ends m ≡ l + n = ap ends (omega arith) ∙ h 0 in
      let rest : in_order ends (suc m) (labels (l + suc n) ps) ≡ upto (l + suc n) (counts ps)
      = order_upto ps (l + suc n) (suc m) ends (λ i. ap ends (omega arith) ∙ h (suc i)) in
      let all : suc n + counts ps ≡ n + suc (counts ps) = omega arith in
      let next : l + suc n ≡ suc (l + n) = omega arith in
      rw (textual_upto p.body l, mine, rest, all, upto_append l n (suc (counts ps)), next)

  -- THE LABELS IN THIS ORDER ARE 1, 2, AND SO ON: "Count from 1"
  pub in_order_lem : (p : Program A) → in_order (ends_of p) 0 (labelled p).procs ≡ upto 1 (counts p.procs)
  in_order_lem p = order_upto p.procs 1 0 (ends_of p) (λ i. ap (ends_of p) (omega arith))

-- the first label, or what follows
first_textual : (k : ℕ) (b : Block ℕ) → first k b ≡ get_or (textual b ++ (k ∷ [])) 0 0
first_textual k end = refl
first_textual k (step l i b) = refl

-- the body of the procedure at m
body_at_lem : (qs : List (Proc ℕ)) (m : ℕ) {q : Proc ℕ} → at qs m ≡ is q → body_of qs m ≡ q.body
body_at_lem [] m e = missing e
body_at_lem (q ∷ qs) zero e = ap (λ (q : Proc ℕ). q.body) (is_inj e)
body_at_lem (q ∷ qs) (suc m) e = body_at_lem qs m e

-- A PROCEDURE BEGINS AT THE FIRST OF ITS LABELS: "An empty body begins at its end label"
pub begins_first : {A : Type 0} (p : Program A) (m : ℕ) {q : Proc ℕ} → at (labelled p).procs m ≡ is q
    → begins p m ≡ get_or (textual q.body ++ (ends_of p m ∷ [])) 0 0
begins_first p m {q} e = rw (body_at_lem (labelled p).procs m e) (first_textual (ends_of p m) q.body)

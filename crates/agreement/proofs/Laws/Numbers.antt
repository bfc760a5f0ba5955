-- The copy's procedures are numbered by the labels: procedure l simulates label l.
use Rattle.std.specs.Prelude.{ℕ, zero, suc, ◌+◌, ◌≡◌, refl, List, [], ◌∷◌, ◌++◌, length}
use Rattle.std.proofs.Common.{arith, add-zero, ◌∙◌}
use Rattle.value.specs.Maybe.{is}
use Rattle.value.specs.Lists.{at}
use Rattle.value.proofs.Laws.Maybes.{is_inj, missing}
use Rattle.value.proofs.Laws.Lists.{at_after, at_front}
use Rattle.format.specs.Syntax.{Instr, assign, write, read, while, if, call, atomic, select, Block, end, step, Proc, Plain}
use Rattle.format.specs.Labels.{count, count_i, label, label_i, labels, first, end_of}
use Rattle.translation.specs.Layout.{Layout}
use Rattle.translation.specs.Code.{code, returns}
use Rattle.translation.specs.Translate.{simulating, each, held_by, simulations}
use Rattle.translation.proofs.Laws.Labelled.{length_held_by, length_each}
use Rattle.agreement.proofs.Laws.Reps.{Setting}
use Rattle.agreement.proofs.Laws.Frames.{Coded, CodedI}

-- the list xs stands in procs from place l on
abbrev Holds : List (Proc Plain) → ℕ → List (Proc Plain) → Type 0
Holds procs l xs = (i : ℕ) (x : Proc Plain) → at xs i ≡ is x → at procs (l + i) ≡ is x

module _ (procs : List (Proc Plain)) where
  -- the first of two lists
  holds_front : (l : ℕ) (xs ys : List (Proc Plain)) → Holds procs l (xs ++ ys) → Holds procs l xs
  holds_front l xs ys h i x e = h i x (at_front xs ys i e)

  -- the second
  holds_back : (l k : ℕ) (xs ys : List (Proc Plain)) → k ≡ l + length xs → Holds procs l (xs ++ ys) → Holds procs k ys
  holds_back l k xs ys p h i x e = let q : k + i ≡ l + (length xs + i) = omega arith in rw q (h (length xs + i) x (at_after xs ys i ∙ e))

  -- the first thing
  holds_head : (l : ℕ) (x : Proc Plain) (xs : List (Proc Plain)) → Holds procs l (x ∷ xs) → at procs l ≡ is x
  holds_head l x xs h = rw (add-zero l) at (h 0 x refl)

  -- the others
  holds_tail : (l : ℕ) (x : Proc Plain) (xs : List (Proc Plain)) → Holds procs l (x ∷ xs) → Holds procs (suc l) xs
  holds_tail l x xs h i y e = let q : suc l + i ≡ l + suc i = omega arith in rw q (h (suc i) y e)

  -- the same place, written otherwise
  holds_place : (l k : ℕ) (xs : List (Proc Plain)) → k ≡ l → Holds procs l xs → Holds procs k xs
  holds_place l k xs e h i x p = rw e (h i x p)

-- ---- the procedures of one body

module _ (S : Setting) (procs : List (Proc Plain)) (begin : ℕ → ℕ) (m : ℕ) where
  mutual
    -- the labels inside an instruction
    coded_held : (i : Instr Plain) (l k : ℕ) → Holds procs (suc l) (held_by S.G begin m (S.L m) (label_i l i) l k)
        → CodedI S procs begin m (label_i l i) l k
    coded_held (assign x e) l k h = tt
    coded_held (write y o e) l k h = tt
    coded_held (read x y o) l k h = tt
    coded_held (while e b) l k h = coded_each b (suc l) l h
    coded_held (if e b d) l k h = (
      coded_each b (suc l) k
          (holds_front procs (suc l) (each S.G begin m (S.L m) (label (suc l) b) k)
          (each S.G begin m (S.L m) (label (suc l + count b) d) k) h),
      coded_each d (suc l + count b) k
          (holds_back procs (suc l) (suc l + count b) (each S.G begin m (S.L m) (label (suc l) b) k)
          (each S.G begin m (S.L m) (label (suc l + count b) d) k)
          (rw (length_each S.G begin m (S.L m) b (suc l) k)) h),
    )
    coded_held (call q es) l k h = tt
    coded_held (atomic b) l k h = tt
    coded_held (select a b) l k h = tt

    -- where the procedures of a block stand from its first label on, the block is coded
    pub coded_each : (b : Block Plain) (l k : ℕ) → Holds procs l (each S.G begin m (S.L m) (label l b) k) → Coded S procs begin m (label l b) k
    coded_each end l k h = tt
    coded_each (step a i b) l k h =
        let own : Proc Plain = simulating (S.L m) (code S.G m (S.L m) begin l (label_i l i) (first k (label (l + count_i i) b))) in
        let held : List (Proc Plain) = held_by S.G begin m (S.L m) (label_i l i) l (first k (label (l + count_i i) b)) in
        let rest : List (Proc Plain) = each S.G begin m (S.L m) (label (l + count_i i) b) k in
        let front : Holds procs l (own ∷ held) = holds_front procs l (own ∷ held) rest h in (
          holds_head procs l own held front,
          coded_held i l (first k (label (l + count_i i) b)) (holds_tail procs l own held front),
          coded_each b (l + count_i i) k
              (holds_back procs l (l + count_i i) (own ∷ held) rest
              (let p = length_held_by S.G begin m (S.L m) i l (first k (label (l + count_i i) b)) in omega (arith, p)) h),
        )

-- ---- all procedures

-- procedure m of the program, labelled from k on
pub record Numbered (G : Layout) (begin ends : ℕ → ℕ) (procs : List (Proc Plain)) (ps : List (Proc Plain)) (l m m' : ℕ)
    (p : Proc Plain) : Type 0 where
  pub start : ℕ
  pub labelled : at (labels l ps) m ≡ is (record { params = p.params; locals = p.locals; body = label start p.body })
  pub finish : end_of l ps m ≡ start + count p.body
  pub holds : Holds procs start (each G begin m' p.locals (label start p.body) (ends m'))
  pub last : at procs (start + count p.body) ≡ is (simulating p.locals (returns G m' p.locals))

-- each procedure of the program is numbered by its labels
pub numbered : (G : Layout) (begin ends : ℕ → ℕ) (procs : List (Proc Plain)) (ps : List (Proc Plain)) (l m₀ : ℕ)
    → Holds procs l (simulations G begin ends m₀ (labels l ps))
    → (m m' : ℕ) (p : Proc Plain) → m' ≡ m₀ + m → at ps m ≡ is p → Numbered G begin ends procs ps l m m' p
numbered G begin ends procs [] l m₀ h m m' p q e = missing e
numbered G begin ends procs (o ∷ ps) l m₀ h zero m' p q e =
    let same : o ≡ p = is_inj e in
    let m'=m₀ : m' ≡ m₀ = omega arith in
    rw (← same, m'=m₀) (record {
      start = l;
      labelled = refl;
      finish = refl;
      holds =
          holds_front procs l (each G begin m₀ o.locals (label l o.body) (ends m₀))
          (simulating o.locals (returns G m₀ o.locals) ∷ simulations G begin ends (suc m₀) (labels (l + suc (count o.body)) ps)) h;
      last =
          holds_head procs (l + count o.body) (simulating o.locals (returns G m₀ o.locals))
          (simulations G begin ends (suc m₀) (labels (l + suc (count o.body)) ps))
          (holds_back procs l (l + count o.body) (each G begin m₀ o.locals (label l o.body) (ends m₀))
          (simulating o.locals (returns G m₀ o.locals) ∷ simulations G begin ends (suc m₀) (labels (l + suc (count o.body)) ps))
          (rw (length_each G begin m₀ o.locals o.body l (ends m₀))) h);
    })
numbered G begin ends procs (o ∷ ps) l m₀ h (suc m) m' p q e =
    let rest : List (Proc Plain) = simulations G begin ends (suc m₀) (labels (l + suc (count o.body)) ps) in
    let from_end : Holds procs (l + count o.body) (simulating o.locals (returns G m₀ o.locals) ∷ rest)
    = holds_back procs l (l + count o.body) (each G begin m₀ o.locals (label l o.body) (ends m₀))
    (simulating o.locals (returns G m₀ o.locals) ∷ rest) (rw (length_each G begin m₀ o.locals o.body l (ends m₀))) h in
    let next : l + suc (count o.body) ≡ suc (l + count o.body) = omega arith in
    let g
    = numbered G begin ends procs ps (l + suc (count o.body)) (suc m₀)
    (holds_place procs (suc (l + count o.body)) (l + suc (count o.body)) rest next
    (holds_tail procs (l + count o.body) (simulating o.locals (returns G m₀ o.locals)) rest from_end)) m m' p
    (omega arith) e in
    record { start = g.start; labelled = g.labelled; finish = g.finish; holds = g.holds; last = g.last }

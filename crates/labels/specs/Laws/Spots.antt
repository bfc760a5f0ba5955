-- Where code stands: the bytes there, the positions inside, how an end goes on, and that a position determines the code.
use Rattle.std.specs.Prelude.{ℕ, zero, suc, ◌+◌, ◌≤◌, ◌<◌, ◌≡◌, refl, List, [], ◌∷◌, ◌++◌, true, length, get_or, ltb}
use Rattle.std.proofs.Common.{arith, sym, ap, subst, ◌∙◌, length-append, ltb-true, ltb-false}
use Rattle.value.specs.Maybe.{is}
use Rattle.value.specs.Lists.{at}
use Rattle.value.proofs.Laws.Maybes.{is_inj, missing}
use Rattle.value.proofs.Laws.Tests.{both_passed, by_test}
use Rattle.format.specs.Syntax.{Expr, Instr, assign, write, read, while, if, call, atomic, select, Block, end, step, ◌⊕◌, Proc, Program, Plain}
use Rattle.format.specs.Encode.{expr, instr, block, each, bodies_of}
use Rattle.format.specs.Labels.{count, label, labels}
use Rattle.format.specs.Rules.{Here, plainly, allowed, allowed_i}
use Rattle.labels.specs.Spots.{Spot, here, later, inner, Inner, body, thens, elses, body_at, CodeAt}
use Rattle.format.proofs.Laws.Names.{Names, NamesI}
use Rattle.format.proofs.Laws.Depths.{nesting, nesting_i, ExprsRight, ExprsRightI}
use Rattle.format.proofs.Laws.Stands.{Stands, first, others, front, back}
use Rattle.format.proofs.Laws.Labelled.{block_label}

-- ---- from one spot to the next

-- the block itself
pub itself : {A : Type 0} {k : ℕ} {d r : Block A} → Spot k d r k d r
itself = here refl refl refl

module _ {A : Type 0} {k k' : ℕ} {d r d' r' : Block A} where
  mutual
    -- a spot of a spot
    pub onward : {i : ℕ} {b c : Block A} → Spot k d r i b c → Spot k' d' r' k d r → Spot k' d' r' i b c
    onward (here e f g) q = rw (e, f, g) q
    onward (later p) q = later (onward p q)
    onward (inner p) q = inner (onward_i p q)

    -- inside an instruction
    onward_i : {i : ℕ} {a : A} {j : Instr A} {c : Block A} → Inner k d r i a j c → Spot k' d' r' k d r → Inner k' d' r' i a j c
    onward_i (body p) q = body (onward p q)
    onward_i (thens p) q = thens (onward p q)
    onward_i (elses p) q = elses (onward p q)

module _ {A : Type 0} {k i : ℕ} {a : A} {d r b c : Block A} where
  -- after an instruction
  pub spot_after : {j : Instr A} → Spot k (step a j d) r i b c → Spot (k + length (instr j)) d r i b c
  spot_after p = onward p (later itself)

  -- the body of a loop: the loop remains after it
  pub spot_body : {e : Expr} {w : Block A} → Spot k (step a (while e w) d) r i b c
      → Spot (k + 1 + length (expr e)) w (step a (while e w) (d ⊕ r)) i b c
  spot_body p = onward p (inner (body itself))

  -- the first branch
  pub spot_then : {e : Expr} {f g : Block A} → Spot k (step a (if e f g) d) r i b c → Spot (k + 1 + length (expr e)) f (d ⊕ r) i b c
  spot_then p = onward p (inner (thens itself))

  -- the second
  pub spot_else : {e : Expr} {f g : Block A} → Spot k (step a (if e f g) d) r i b c
      → Spot (k + 1 + length (expr e) + length (block f)) g (d ⊕ r) i b c
  spot_else p = onward p (inner (elses itself))

-- ---- positions inside

-- an instruction has a byte
pub instr_some : {A : Type 0} (j : Instr A) → 1 ≤ length (instr j)
instr_some (assign x e) = omega arith
instr_some (write y o e) = omega arith
instr_some (read x y o) = omega arith
instr_some (while e b) = omega arith
instr_some (if e b c) = omega arith
instr_some (call m es) = omega arith
instr_some (atomic b) = omega arith
instr_some (select a b) = omega arith

-- and so has a block
pub block_some : {A : Type 0} (b : Block A) → 1 ≤ length (block b)
block_some end = omega arith
block_some (step a j b) = omega (arith, length-append (instr j) (block b), instr_some j)

module _ {A : Type 0} {k : ℕ} {d r : Block A} where
  mutual
    -- a spot is inside the block
    pub spot_inside : {i : ℕ} {b c : Block A} → Spot k d r i b c → (i ≤ k) × (k + length (block d) ≤ i + length (block b))
    spot_inside (here e f g) = rw (e, f) (omega arith)
    spot_inside (later {j = j} {b = b} p) = let q = spot_inside p in omega (arith, length-append (instr j) (block b))
    spot_inside (inner {j = j} {b = b} p) = let q = inner_inside p in omega (arith, length-append (instr j) (block b))

    -- inside an instruction it is behind the first byte
    inner_inside : {i : ℕ} {a : A} {j : Instr A} {c : Block A} → Inner k d r i a j c → (i < k) × (k + length (block d) ≤ i + length (instr j))
    inner_inside (body {e = e} {b = b} p) = let q = spot_inside p in omega (arith, length-append (expr e) (block b))
    inner_inside (thens {e = e} {b = b} {f = f} p) =
        let q = spot_inside p in omega (arith, length-append (expr e) (block b ++ block f), length-append (block b) (block f))
    inner_inside (elses {e = e} {b = b} {f = f} p) =
        let q = spot_inside p in omega (arith, length-append (expr e) (block b ++ block f), length-append (block b) (block f))

-- ---- the bytes at a spot

module _ {A : Type 0} {t : List ℕ} {k : ℕ} {d r : Block A} where
  mutual
    -- the rest of a block stands at its spot
    pub spot_stands : {i n : ℕ} {b c : Block A} → Spot k d r i b c → Stands t i (block b) n → Stands t k (block d) (k + length (block d))
    spot_stands (here e f g) s = rw (← e, ← f, ← s.ends) s
    spot_stands (later {j = j} {b = b} p) s = spot_stands p (back (instr j) (block b) s)
    spot_stands (inner {j = j} {b = b} p) s = inner_stands p (front (instr j) (block b) s)

    -- inside an instruction
    inner_stands : {i n : ℕ} {a : A} {j : Instr A} {c : Block A} → Inner k d r i a j c → Stands t i (instr j) n
        → Stands t k (block d) (k + length (block d))
    inner_stands (body {e = e} {b = b} p) s = spot_stands p (back (expr e) (block b) (others s))
    inner_stands (thens {e = e} {b = b} {f = f} p) s =
        spot_stands p (front (block b) (block f) (back (expr e) (block b ++ block f) (others s)))
    inner_stands (elses {e = e} {b = b} {f = f} p) s =
        spot_stands p (back (block b) (block f) (back (expr e) (block b ++ block f) (others s)))

-- ---- a position determines the code

-- the same rest, and the same after it
pub record Same {A : Type 0} (d r d' r' : Block A) : Type 0 where
  pub left : d ≡ d'
  pub after : r ≡ r'

module _ {A : Type 0} {k : ℕ} {d r d' r' : Block A} where
  mutual
    -- two spots at one position are one
    pub spot_one : {i : ℕ} {b c : Block A} → Spot k d r i b c → Spot k d' r' i b c → Same d r d' r'
    spot_one (here e f g) (here e' f' g') = record { left = cc; after = cc }
    spot_one (here e f g) (later {j = j} q) = absurd (omega (arith, e, spot_inside q, instr_some j))
    spot_one (here e f g) (inner q) = absurd (omega (arith, e, inner_inside q))
    spot_one (later {j = j} p) (here e f g) = absurd (omega (arith, e, spot_inside p, instr_some j))
    spot_one (later p) (later q) = spot_one p q
    spot_one (later p) (inner q) = absurd (omega (arith, spot_inside p, inner_inside q, block_some d'))
    spot_one (inner p) (here e f g) = absurd (omega (arith, e, inner_inside p))
    spot_one (inner p) (later q) = absurd (omega (arith, spot_inside q, inner_inside p, block_some d))
    spot_one (inner p) (inner q) = inner_one p q

    -- inside an instruction
    inner_one : {i : ℕ} {a : A} {j : Instr A} {c : Block A} → Inner k d r i a j c → Inner k d' r' i a j c → Same d r d' r'
    inner_one (body p) (body q) = spot_one p q
    inner_one (thens p) (thens q) = spot_one p q
    inner_one (thens p) (elses q) = absurd (omega (arith, spot_inside p, spot_inside q, block_some d))
    inner_one (elses p) (thens q) = absurd (omega (arith, spot_inside p, spot_inside q, block_some d'))
    inner_one (elses p) (elses q) = spot_one p q

-- ---- where code goes on

-- code that remains in a block is what follows the block, or an instruction of it is the first of the code
pub data Goes {A : Type 0} (x : Block A) (i : ℕ) (b c : Block A) : Type 0 where
  out : x ≡ c → Goes x i b c
  goes : (k : ℕ) (a : A) (j : Instr A) (d r : Block A) → Spot k (step a j d) r i b c → x ≡ step a j (d ⊕ r) → Goes x i b c

-- a block and what follows it: its first instruction is the first of the code, if it has one
joined_goes : {A : Type 0} (i : ℕ) (b c : Block A) → Goes (b ⊕ c) i b c
joined_goes i end c = out refl
joined_goes i (step a j b) c = goes i a j b c itself refl

module _ {A : Type 0} where
  -- what goes on inside goes on
  goes_in : {i i' : ℕ} {x b b' c c' : Block A} → ((k : ℕ) (d r : Block A) → Spot k d r i b c → Spot k d r i' b' c')
      → (x ≡ c → Goes x i' b' c') → Goes x i b c → Goes x i' b' c'
  goes_in f g (out e) = g e
  goes_in f g (goes k a j d r p e) = goes k a j d r (f k (step a j d) r p) e

  mutual
    -- what remains at a spot goes on: "After the last instruction of a while body comes the while; after the last of a branch, .."
    pub spot_goes : {k i : ℕ} {d r b c : Block A} → Spot k d r i b c → Goes (d ⊕ r) i b c
    spot_goes {k} {d = d} {r} (here e f g) = rw (e, f, g) (joined_goes k d r)
    spot_goes (later p) = goes_in (λ k d r. later) out (spot_goes p)
    spot_goes (inner {b = b} {c = c} p) = inner_goes b c p refl

    -- from inside an instruction to what follows it
    inner_goes : {k i : ℕ} {a : A} {j : Instr A} {d r x : Block A} (b c : Block A) → Inner k d r i a j x → x ≡ b ⊕ c → Goes (d ⊕ r) i (step a j b) c
    inner_goes {i = i} {a} b c (body {e = e} {b = w} p) f =
        goes_in (λ k d r q. inner (body (rw f at q))) (λ o. goes i a (while e w) b c itself (o ∙ rw f)) (spot_goes p)
    inner_goes {i = i} b c (thens {e = e} {b = y} {f = n} p) f =
        goes_in (λ k d r q. inner (thens (rw f at q)))
        (λ o. rw (o ∙ f) (goes_in (λ k d r. later) out (joined_goes (i + length (instr (if e y n))) b c))) (spot_goes p)
    inner_goes {i = i} b c (elses {e = e} {b = y} {f = n} p) f =
        goes_in (λ k d r q. inner (elses (rw f at q)))
        (λ o. rw (o ∙ f) (goes_in (λ k d r. later) out (joined_goes (i + length (instr (if e y n))) b c))) (spot_goes p)

-- ---- end or instruction, by the byte

module _ {A : Type 0} {t : List ℕ} {k n : ℕ} where
  -- at an instruction the byte is not 0
  pub step_byte : (a : A) (j : Instr A) (b : Block A) → Stands t k (block (step a j b)) n → get_or t k 0 ≡ 0 → ⊥
  step_byte a (assign x e) c s z = omega (arith, first s)
  step_byte a (write y o e) c s z = omega (arith, first s)
  step_byte a (read x y o) c s z = omega (arith, first s)
  step_byte a (while e b) c s z = omega (arith, first s)
  step_byte a (if e b f) c s z = omega (arith, first s)
  step_byte a (call m es) c s z = omega (arith, first s)
  step_byte a (atomic b) c s z = omega (arith, first s)
  step_byte a (select x y) c s z = omega (arith, first s)

  -- where it is 0, the block ends
  pub byte_end : (d : Block A) → Stands t k (block d) n → get_or t k 0 ≡ 0 → d ≡ end
  byte_end end s z = refl
  byte_end (step a j b) s z = absurd (step_byte a j b s z)

  -- where it is not, there is an instruction
  pub byte_step : (d : Block A) → Stands t k (block d) n → (get_or t k 0 ≡ 0 → ⊥) → (a : A) × (j : Instr A) × (b : Block A) × (d ≡ step a j b)
  byte_step end s z = absurd (z (first s))
  byte_step (step a j b) s z = (a, j, b, refl)

-- ---- what a block has, its spots have

-- what a block has, its instructions and the blocks inside have
pub record Inherited {A : Type 0} (P : Block A → Type 0) (Q : Instr A → Type 0) : Type 0 where
  pub first : (a : A) (j : Instr A) (b : Block A) → P (step a j b) → Q j
  pub rest : (a : A) (j : Instr A) (b : Block A) → P (step a j b) → P b
  pub loop : (e : Expr) (b : Block A) → Q (while e b) → P b
  pub yes : (e : Expr) (b f : Block A) → Q (if e b f) → P b
  pub no : (e : Expr) (b f : Block A) → Q (if e b f) → P f

module _ {A : Type 0} {P : Block A → Type 0} {Q : Instr A → Type 0} (h : Inherited P Q) {k : ℕ} {d r : Block A} where
  mutual
    -- a spot has what the block has
    pub spot_has : {i : ℕ} {b c : Block A} → Spot k d r i b c → P b → P d
    spot_has (here e f g) p = subst P f p
    spot_has (later {a = a} {j = j} {b = b} s) p = spot_has s (h.rest a j b p)
    spot_has (inner {a = a} {j = j} {b = b} s) p = inner_has s (h.first a j b p)

    -- inside an instruction
    inner_has : {i : ℕ} {a : A} {j : Instr A} {c : Block A} → Inner k d r i a j c → Q j → P d
    inner_has (body {e = e} {b = b} s) q = spot_has s (h.loop e b q)
    inner_has (thens {e = e} {b = b} {f = f} s) q = spot_has s (h.yes e b f q)
    inner_has (elses {e = e} {b = b} {f = f} s) q = spot_has s (h.no e b f q)

-- expressions that are right
pub exprs_inherited : {A : Type 0} → Inherited {A = A} ExprsRight ExprsRightI
exprs_inherited = record {
  first = λ a j b h. h.0;
  rest = λ a j b h. h.1;
  loop = λ e b h. h.1;
  yes = λ e b f h. h.1;
  no = λ e b f h. h.2;
}

-- at most n deep
pub deep_inherited : {A : Type 0} (n : ℕ) → Inherited {A = A} (λ b. nesting b ≤ n) (λ j. nesting_i j ≤ n)
deep_inherited n = record {
  first = λ a j b h. omega arith;
  rest = λ a j b h. omega arith;
  loop = λ e b h. h;
  yes = λ e b f h. omega arith;
  no = λ e b f h. omega arith;
}

-- names that mean something
pub names_inherited : (p : Program Plain) (X : ℕ) → Inherited (Names p X) (NamesI p X)
names_inherited p X = record {
  first = λ a j b h. h.0;
  rest = λ a j b h. h.1;
  loop = λ e b h. h.1;
  yes = λ e b f h. h.1.0;
  no = λ e b f h. h.1.1;
}

-- instructions that are allowed
pub allowed_inherited : {A : Type 0} (w : Here) → Inherited {A = A} (λ b. allowed w b ≡ true) (λ j. allowed_i w j ≡ true)
allowed_inherited w = record {
  first = λ a j b h. (both_passed (allowed_i w j) (allowed w b) h).0;
  rest = λ a j b h. (both_passed (allowed_i w j) (allowed w b) h).1;
  loop = λ e b h. (both_passed (plainly w) (allowed w b) h).1;
  yes = λ e b f h. (both_passed (allowed w b) (allowed w f) h).0;
  no = λ e b f h. (both_passed (allowed w b) (allowed w f) h).1;
}

-- ---- in a program

module _ {A : Type 0} {t : List ℕ} where
  -- body m stands where it begins
  pub body_stands : (ps : List (Proc A)) (m : ℕ) {i n : ℕ} {q : Proc A} → Stands t i (each block (bodies_of ps)) n → at ps m ≡ is q
      → Stands t (body_at i ps m) (block q.body) (body_at i ps m + length (block q.body))
  body_stands [] m s e = missing e
  body_stands (p ∷ ps) zero {q = q} s e =
      let same : p ≡ q = is_inj e in
      rw (← same) (front (block p.body) (each block (bodies_of ps)) s)
  body_stands (p ∷ ps) (suc m) s e = body_stands ps m (back (block p.body) (each block (bodies_of ps)) s) e

  -- the code at a position stands there
  pub code_stands : {ps : List (Proc A)} {m k n : ℕ} {d r : Block A} → Stands t 0 (each block (bodies_of ps)) n → CodeAt ps m k d r
      → Stands t k (block d) (k + length (block d))
  code_stands {ps} {m} s c = spot_stands c.spot (body_stands ps m s c.found)

-- the bytes and places of labelled bodies are those of the bodies
pub bodies_labels : {A : Type 0} (ps : List (Proc A)) (l : ℕ) → each block (bodies_of (labels l ps)) ≡ each block (bodies_of ps)
bodies_labels [] l = refl
bodies_labels (p ∷ ps) l = rw (block_label p.body l, bodies_labels ps (l + suc (count p.body)))

-- where they begin
pub body_at_labels : {A : Type 0} (ps : List (Proc A)) (l i m : ℕ) → body_at i (labels l ps) m ≡ body_at i ps m
body_at_labels [] l i m = refl
body_at_labels (p ∷ ps) l i zero = refl
body_at_labels (p ∷ ps) l i (suc m) =
    body_at_labels ps (l + suc (count p.body)) (i + length (block (label l p.body))) m
    ∙ ap (λ (b : List ℕ). body_at (i + length b) ps m) (block_label p.body l)

module _ {A : Type 0} where
  -- bodies begin behind the first
  body_at_behind : (ps : List (Proc A)) (i m : ℕ) → i ≤ body_at i ps m
  body_at_behind [] i m = omega arith
  body_at_behind (p ∷ ps) i zero = omega arith
  body_at_behind (p ∷ ps) i (suc m) = omega (arith, body_at_behind ps (i + length (block p.body)) m)

  -- a body ends before a later one begins
  body_before : (ps : List (Proc A)) (i m n : ℕ) {q : Proc A} → m < n → at ps m ≡ is q → body_at i ps m + length (block q.body) ≤ body_at i ps n
  body_before [] i m n h e = missing e
  body_before (p ∷ ps) i m zero h e = absurd (omega arith)
  body_before (p ∷ ps) i zero (suc n) {q} h e =
      let same : p ≡ q = is_inj e in
      rw (← same) (body_at_behind ps (i + length (block p.body)) n)
  body_before (p ∷ ps) i (suc m) (suc n) h e = body_before ps (i + length (block p.body)) m n (omega arith) e

  -- a position is in the body of one procedure
  pub code_proc : {ps : List (Proc A)} {m m' k : ℕ} {d r d' r' : Block A} → CodeAt ps m k d r → CodeAt ps m' k d' r' → m ≡ m'
  code_proc {ps} {m} {m'} {d = d} {d' = d'} c e =
      let p = spot_inside c.spot in
      let q = spot_inside e.spot in
      by_test (ltb m m')
      (λ h. absurd (omega (arith, body_before ps 0 m m' (ltb-true m m' h) c.found, block_some d)))
      (λ h. by_test (ltb m' m)
      (λ j. absurd (omega (arith, body_before ps 0 m' m (ltb-true m' m j) e.found, block_some d')))
      (λ j. omega (arith, ltb-false m m' h, ltb-false m' m j)))

  -- and determines the code that remains
  pub code_one : {ps : List (Proc A)} {m k : ℕ} {d r d' r' : Block A} → CodeAt ps m k d r → CodeAt ps m k d' r' → Same d r d' r'
  code_one {ps} {m} {k} {d' = d'} {r' = r'} c e =
      let same : c.proc ≡ e.proc = is_inj (sym c.found ∙ e.found) in
      spot_one c.spot (subst (λ (q : Proc A). Spot k d' r' (body_at 0 ps m) q.body end) (sym same) e.spot)

-- ---- the code that a frame of procedure m can hold

-- the end of the body, or an instruction with what follows it
pub data Remains {A : Type 0} (ps : List (Proc A)) (m : ℕ) : Block A → Type 0 where
  none : (q : Proc A) → at ps m ≡ is q → Remains ps m end
  some : (k : ℕ) (a : A) (j : Instr A) (d r : Block A) → CodeAt ps m k (step a j d) r → Remains ps m (step a j (d ⊕ r))

-- nothing after a block
pub join_end : {A : Type 0} (b : Block A) → b ⊕ end ≡ b
join_end end = refl
join_end (step a j b) = rw (join_end b)

module _ {A : Type 0} {ps : List (Proc A)} {m : ℕ} where
  -- what stands at a position, with what follows it
  pub remains_at : {k : ℕ} {d r : Block A} → CodeAt ps m k d r → Remains ps m (d ⊕ r)
  remains_at c = cases (spot_goes c.spot)
    where
      cases : {x : Block A} → Goes x (body_at 0 ps m) c.proc.body end → Remains ps m x
      cases (out e) = rw e (none c.proc c.found)
      cases (goes k a j d r p e) = rw e (some k a j d r (record { proc = c.proc; found = c.found; spot = p }))

  -- a procedure's body
  pub remains_body : {q : Proc A} → at ps m ≡ is q → Remains ps m q.body
  remains_body {q} e = rw join_end at (remains_at {d = q.body} {r = end} (record { proc = q; found = e; spot = itself }))

  -- an instruction is left
  pub remains_after : {a : A} {j : Instr A} {c : Block A} → Remains ps m (step a j c) → Remains ps m c
  remains_after (some k a j d r c) = remains_at (record { proc = c.proc; found = c.found; spot = spot_after c.spot })

  -- a loop is entered
  pub remains_loop : {a : A} {e : Expr} {b c : Block A} → Remains ps m (step a (while e b) c) → Remains ps m (b ⊕ step a (while e b) c)
  remains_loop (some k a j d r c) = remains_at (record { proc = c.proc; found = c.found; spot = spot_body c.spot })

  -- the first branch
  pub remains_then : {a : A} {e : Expr} {b f c : Block A} → Remains ps m (step a (if e b f) c) → Remains ps m (b ⊕ c)
  remains_then (some k a j d r c) = remains_at (record { proc = c.proc; found = c.found; spot = spot_then c.spot })

  -- the second
  pub remains_else : {a : A} {e : Expr} {b f c : Block A} → Remains ps m (step a (if e b f) c) → Remains ps m (f ⊕ c)
  remains_else (some k a j d r c) = remains_at (record { proc = c.proc; found = c.found; spot = spot_else c.spot })

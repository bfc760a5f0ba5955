-- The price of a step lies between the least and the most of its instruction, and is both where no if stands in an atomic block.
use Rattle.std.specs.Prelude.{ℕ, zero, suc, ◌+◌, ◌≤◌, ◌≡◌, refl, List, [], ◌∷◌, ◌++◌, Bool, true, false}
use Rattle.std.proofs.Common.{arith, ap₂, ◌∙◌}
use Rattle.value.specs.Maybe.{pick}
use Rattle.value.specs.Try.{has, lacks, ◌⟫◌}
use Rattle.value.specs.Values.{truth}
use Rattle.value.proofs.Laws.Tries.{has_inj, lacking, chain_has}
use Rattle.value.proofs.Laws.Tests.{both_passed, never}
use Rattle.format.specs.Syntax.{Instr, assign, write, read, while, if, call, atomic, select, Block, end, step, ◌⊕◌, Proc}
use Rattle.format.specs.Syntax.{concurrent}
use Rattle.format.specs.Rules.{Here, allowed, allowed_i}
use Rattle.format.proofs.Laws.Joined.{allowed_append}
use Rattle.format.proofs.Laws.Procs.{body_in}
use Rattle.semantics.specs.Memory.{Env, Memory, Event, stored, eval}
use Rattle.semantics.specs.Step.{Stack, Moved}
use Rattle.semantics.specs.Step as Step
use Rattle.semantics.specs.Threads.{Atomic, to_end, first_instr, size}
use Rattle.agreement.specs.Price as P
use Rattle.agreement.specs.Prices.{Prices, only, then, inside, inside_i, step_prices}
use Rattle.agreement.proofs.Laws.Accesses.{indexed, pointed, access}

-- x lies between the least and the most
pub record Within (x : ℕ) (q : Prices) : Type 0 where
  pub low : q.least ≤ x
  pub high : x ≤ q.most

-- the price itself
pub within_only : (x : ℕ) → Within x (only x)
within_only x = record { low = omega arith; high = omega arith }

-- ---- blocks

-- the prices of one block after another
inside_append : (n : ℕ) (b c : Block ℕ) → inside n (b ⊕ c) ≡ then (inside n b) (inside n c)
inside_append n end c = λ i. record { least = zero_least i; most = zero_most i }
  where
    zero_least : (inside n c).least ≡ 0 + (inside n c).least
    zero_least = omega arith

    zero_most : (inside n c).most ≡ 0 + (inside n c).most
    zero_most = omega arith
inside_append n (step a i b) c = ap₂ then refl (inside_append n b c) ∙ (λ j. record { least = least j; most = most j })
  where
    least : (inside_i n i).least + ((inside n b).least + (inside n c).least) ≡ (inside_i n i).least + (inside n b).least + (inside n c).least
    least = omega arith

    most : (inside_i n i).most + ((inside n b).most + (inside n c).most) ≡ (inside_i n i).most + (inside n b).most + (inside n c).most
    most = omega arith

-- inside an atomic block of procedure m
abbrev within : ℕ → Here
within m = record { kind = concurrent; proc = m; inside = true }

module _ (procs : List (Proc ℕ)) (t j m n : ℕ) where
  -- a frame of it
  abbrev running : Env → Block ℕ → Stack ℕ
  running ρ c = record { proc = m; env = ρ; code = c } ∷ []

  -- what a block costs that runs to its end
  block_within : (f : ℕ) (ρ : Env) (c : Block ℕ) (η : Memory) (evs : List Event) (r : Atomic) → allowed (within m) c ≡ true
      → to_end procs t j f (running ρ c) η evs ≡ has r → Within (P.inside procs t j m n f (running ρ c) η) (inside n c)
  block_within zero ρ end η evs r al q = within_only 0
  block_within zero ρ (step a i c) η evs r al q = lacking q
  block_within (suc f) ρ end η evs r al q = within_only 0
  block_within (suc f) ρ (step a i c) η evs r al q =
      let al₂ = both_passed (allowed_i (within m) i) (allowed (within m) c) al in
      let w = chain_has (Step.instr procs t j m ρ a i c [] η) _ q in
      go i (block_within f) al₂.0 al₂.1 w.0 w.1 w.2
    where
      Ih : Type 0
      Ih =
          (ρ : Env) (c : Block ℕ) (η : Memory) (evs : List Event) (r : Atomic) → allowed (within m) c ≡ true
          → to_end procs t j f (running ρ c) η evs ≡ has r → Within (P.inside procs t j m n f (running ρ c) η) (inside n c)

      -- an instruction of one price, and then the rest
      one : (i : Instr ℕ) (ρ' : Env) (η' : Memory) → inside_i n i ≡ only (P.inner procs t j m n i)
          → Within (P.inside procs t j m n f (running ρ' c) η') (inside n c)
          → Within (P.inner procs t j m n i + P.inside procs t j m n f (running ρ' c) η') (inside n (step a i c))
      one i ρ' η' e h = rw e (record { low = omega (arith, h.low); high = omega (arith, h.high) })

      go : (i : Instr ℕ) → Ih → allowed_i (within m) i ≡ true → allowed (within m) c ≡ true → (v : Moved ℕ)
          → Step.instr procs t j m ρ a i c [] η ≡ has v → to_end procs t j f v.stack v.memory (evs ++ v.events) ≡ has r
          → Within
          (elim (Step.instr procs t j m ρ a i c [] η) [ lacks q ↦ 0 | has r ↦ P.inner procs t j m n i + P.inside procs t j m n f r.stack r.memory ])
          (inside n (step a i c))
      go (assign x e) ih al al' v p q =
          let b = chain_has (eval ρ e) _ p in
          rw (p, ← has_inj b.2) (one (assign x e) _ _ refl (ih _ c _ _ r al' (rw (← has_inj b.2) at q)))
      go (write y o e) ih al al' v p q =
          let b = chain_has (eval ρ e) _ p in
          let g = access (indexed ρ o) (pointed ρ y) η _ b.2 in
          rw (p, ← has_inj g.then) (one (write y o e) ρ (stored η g.l g.i b.0) refl (ih ρ c (stored η g.l g.i b.0) _ r al' (rw (← has_inj g.then) at q)))
      go (read x y o) ih al al' v p q =
          let g = access (indexed ρ o) (pointed ρ y) η _ p in
          rw (p, ← has_inj g.then) (one (read x y o) _ _ refl (ih _ c _ _ r al' (rw (← has_inj g.then) at q)))
      go (if e b d) ih al al' v p q =
          let u = chain_has (eval ρ e ⟫ truth) _ p in
          let w = both_passed (allowed (within m) b) (allowed (within m) d) al in
          rw (p, ← has_inj u.2) (branch u.0 w.0 w.1 (rw (← has_inj u.2) at q))
        where
          branch : (k : Bool) → allowed (within m) b ≡ true → allowed (within m) d ≡ true
              → to_end procs t j f (running ρ (pick k b d ⊕ c)) η (evs ++ []) ≡ has r
              → Within (P.inner procs t j m n (if e b d) + P.inside procs t j m n f (running ρ (pick k b d ⊕ c)) η) (inside n (step a (if e b d) c))
          branch true v w q =
              let h = rw (inside_append n b c) at (ih ρ (b ⊕ c) η _ r (allowed_append (within m) b c v al') q) in
              record { low = omega (arith, h.low); high = omega (arith, h.high) }
          branch false v w q =
              let h = rw (inside_append n d c) at (ih ρ (d ⊕ c) η _ r (allowed_append (within m) d c w al') q) in
              record { low = omega (arith, h.low); high = omega (arith, h.high) }
      go (while e b) ih al al' v p q = absurd (never al)
      go (call q es) ih al al' v p z = absurd (never al)
      go (atomic b) ih al al' v p q = absurd (never al)
      go (select x y) ih al al' v p q = absurd (never al)

-- ---- steps

module _ (procs : List (Proc ℕ)) (t m n : ℕ) where
  -- the price of a step that is taken lies between
  pub step_within : (ρ : Env) (a : ℕ) (i : Instr ℕ) (c : Block ℕ) (s : Stack ℕ) (η : Memory) {r : Moved ℕ}
      → allowed_i (body_in concurrent m) i ≡ true → first_instr procs t m ρ a i c s η ≡ has r
      → Within (P.instr_price procs t a m n ρ η i) (step_prices n i)
  step_within ρ a (assign x e) c s η al q = within_only _
  step_within ρ a (write y o e) c s η al q = within_only _
  step_within ρ a (read x y o) c s η al q = within_only _
  step_within ρ a (while e b) c s η al q = within_only _
  step_within ρ a (if e b d) c s η al q = within_only _
  step_within ρ a (call f es) c s η al q = within_only _
  step_within ρ a (atomic b) c s η al q =
      let u = chain_has (to_end procs t a (size b) (record { proc = m; env = ρ; code = b } ∷ []) η []) _ q in
      let h = block_within procs t a m n (size b) ρ b η [] u.0 al u.1 in
      record { low = omega (arith, h.low); high = omega (arith, h.high) }
  step_within ρ a (select x y) c s η al q = lacking q

-- ---- where there is one price

-- no if stands in a block
abbrev mutual
  pub StraightI : Instr ℕ → Type 0
  StraightI (assign x e) = Unit {0}
  StraightI (write y o e) = Unit {0}
  StraightI (read x y o) = Unit {0}
  StraightI (while e b) = Unit {0}
  StraightI (if e b c) = ⊥
  StraightI (call m es) = Unit {0}
  StraightI (atomic b) = Unit {0}
  StraightI (select x y) = Unit {0}

  -- in no instruction of it
  pub Straight : Block ℕ → Type 0
  Straight end = Unit {0}
  Straight (step a i b) = StraightI i × Straight b

-- an instruction with a label that is no atomic block, or one without an if
abbrev pub Single : Instr ℕ → Type 0
Single (assign x e) = Unit {0}
Single (write y o e) = Unit {0}
Single (read x y o) = Unit {0}
Single (while e b) = Unit {0}
Single (if e b c) = Unit {0}
Single (call m es) = Unit {0}
Single (atomic b) = Straight b
Single (select x y) = Unit {0}

module _ (n : ℕ) where
  -- an instruction of such a block has one price
  single_i : (i : Instr ℕ) → StraightI i → (inside_i n i).least ≡ (inside_i n i).most
  single_i (assign x e) h = refl
  single_i (write y o e) h = refl
  single_i (read x y o) h = refl
  single_i (while e b) h = refl
  single_i (if e b c) h = absurd h
  single_i (call m es) h = refl
  single_i (atomic b) h = refl
  single_i (select x y) h = refl

  -- and the block
  straight_single : (b : Block ℕ) → Straight b → (inside n b).least ≡ (inside n b).most
  straight_single end h = refl
  straight_single (step a i b) h = omega (arith, single_i i h.0, straight_single b h.1)

  -- the least and the most are one
  pub single : (i : Instr ℕ) → Single i → (step_prices n i).least ≡ (step_prices n i).most
  single (assign x e) h = refl
  single (write y o e) h = refl
  single (read x y o) h = refl
  single (while e b) h = refl
  single (if e b c) h = refl
  single (call m es) h = refl
  single (atomic b) h = omega (arith, straight_single b h)
  single (select x y) h = refl

-- The price of a step is at most twice the bytes of its instruction, and so at most twice those of the table.
use Rattle.std.specs.Prelude.{ℕ, zero, suc, ◌+◌, ◌*◌, ◌≤◌, ◌<◌, ◌≡◌, refl, List, [], ◌∷◌, ◌++◌, Bool, true, false, length, eqb}
use Rattle.std.proofs.Common.{arith, length-append, eqb-true, ne_eqb}
use Rattle.value.specs.Maybe.{either, pick}
use Rattle.value.specs.Try.{Try, has, lacks, ◌⟫◌}
use Rattle.value.specs.declared.Value.TheVariants.{Whole, Location, Truth}
use Rattle.value.proofs.Laws.Tries.{has_inj, chain_has}
use Rattle.value.proofs.Laws.Tests.{both_passed, by_test, never}
use Rattle.format.specs.Syntax.{Expr, constant, local, one, two}
use Rattle.format.specs.Syntax.{Instr, assign, write, read, while, if, call, atomic, select, Block, end, step, ◌⊕◌, Proc}
use Rattle.format.specs.Syntax.{concurrent}
use Rattle.format.specs.Encode.{expr, instr, block, each}
use Rattle.format.specs.Rules.{Here, allowed, allowed_i}
use Rattle.format.proofs.Laws.Joined.{allowed_append, length_join}
use Rattle.translation.specs.Code.{mentioned, mentions, keep, variables}
use Rattle.semantics.specs.Memory.{Env, bound, Memory, stored, eval}
use Rattle.value.specs.Values.{truth}
use Rattle.semantics.specs.Step.{Moved}
use Rattle.semantics.specs.Step as Step
use Rattle.semantics.specs.Threads.{size}
use Rattle.agreement.specs.Price.{vars, inner, inside, instr_price}
use Rattle.agreement.proofs.Laws.Accesses.{indexed, pointed, access}

-- ---- variables, counted

-- what two lists of expressions mention together is not more than what they mention each
vars_union : (es fs gs : List Expr) → ((x : ℕ) → mentions x es ≡ either (mentions x fs) (mentions x gs)) → (y n : ℕ)
    → length (variables y n es) ≤ length (variables y n fs) + length (variables y n gs)
vars_union es fs gs h y zero = omega arith
vars_union es fs gs h y (suc n) =
    let r : length (variables (suc y) n es) ≤ length (variables (suc y) n fs) + length (variables (suc y) n gs) = vars_union es fs gs h (suc y) n in
    rw (h y) (go (mentions y fs) (mentions y gs) r)
  where
    go : (p q : Bool) → length (variables (suc y) n es) ≤ length (variables (suc y) n fs) + length (variables (suc y) n gs)
        → length (keep (either p q) y (variables (suc y) n es))
        ≤ length (keep p y (variables (suc y) n fs)) + length (keep q y (variables (suc y) n gs))
    go true true r = omega arith
    go true false r = omega arith
    go false true r = omega arith
    go false false r = omega arith

-- nothing is mentioned
vars_none : (es : List Expr) → ((x : ℕ) → mentions x es ≡ false) → (y n : ℕ) → length (variables y n es) ≡ 0
vars_none es h y zero = refl
vars_none es h y (suc n) = rw (h y) (vars_none es h (suc y) n)

-- one variable, and not after it
vars_past : (z y n : ℕ) → z < y → length (variables y n (local z ∷ [])) ≡ 0
vars_past z y zero h = refl
vars_past z y (suc n) h = rw (ne_eqb y z (λ e. omega arith)) (vars_past z (suc y) n (omega arith))

-- it is mentioned once
vars_local : (z y n : ℕ) → length (variables y n (local z ∷ [])) ≤ 1
vars_local z y zero = omega arith
vars_local z y (suc n) =
    by_test (eqb y z)
    (λ e. rw e (omega (arith, vars_past z (suc y) n (past (eqb-true y z e)))))
    (λ e. rw e (vars_local z (suc y) n))
  where
    past : y ≡ z → z < suc y
    past e = omega arith

-- an expression takes one byte more than it has variables, at least
pub expr_vars : (n : ℕ) (e : Expr) → suc (vars n (e ∷ [])) ≤ length (expr e)
expr_vars n (constant (Whole z)) = omega (arith, vars_none (constant (Whole z) ∷ []) (λ x. refl) 0 n)
expr_vars n (constant (Location l)) = omega (arith, vars_none (constant (Location l) ∷ []) (λ x. refl) 0 n)
expr_vars n (constant (Truth true)) = omega (arith, vars_none (constant (Truth true) ∷ []) (λ x. refl) 0 n)
expr_vars n (constant (Truth false)) = omega (arith, vars_none (constant (Truth false) ∷ []) (λ x. refl) 0 n)
expr_vars n (local z) = omega (arith, vars_local z 0 n)
expr_vars n (one o a) =
    omega (arith, vars_union (one o a ∷ []) (a ∷ []) [] (λ x. sides (mentioned x a)) 0 n, vars_none [] (λ x. refl) 0 n, expr_vars n a)
  where
    sides : (p : Bool) → either p false ≡ either (either p false) false
    sides true = refl
    sides false = refl
expr_vars n (two o a b) =
    omega (
      arith,
      length-append (expr a) (expr b),
      vars_union (two o a b ∷ []) (a ∷ []) (b ∷ []) (λ x. sides (mentioned x a) (mentioned x b)) 0 n,
      expr_vars n a,
      expr_vars n b,
    )
  where
    sides : (p q : Bool) → either (either p q) false ≡ either (either p false) (either q false)
    sides true q = refl
    sides false q = refl

-- so do several, each
pub exprs_vars : (n : ℕ) (es : List Expr) → length es + vars n es ≤ length (each expr es)
exprs_vars n [] = omega (arith, vars_none [] (λ x. refl) 0 n)
exprs_vars n (e ∷ es) =
    omega (
      arith,
      length-append (expr e) (each expr es),
      vars_union (e ∷ es) (e ∷ []) es (λ x. sides (mentioned x e) (mentions x es)) 0 n,
      expr_vars n e,
      exprs_vars n es,
    )
  where
    sides : (p q : Bool) → either p q ≡ either (either p false) q
    sides true q = refl
    sides false q = refl

-- ---- an atomic block

-- inside an atomic block of procedure m
abbrev within : ℕ → Here
within m = record { kind = concurrent; proc = m; inside = true }

module _ (procs : List (Proc ℕ)) (t j m n : ℕ) where
  -- what is left of an atomic block costs at most twice its bytes
  inside_cheap : (f : ℕ) (ρ : Env) (c : Block ℕ) (η : Memory) → allowed (within m) c ≡ true
      → inside procs t j m n f (record { proc = m; env = ρ; code = c } ∷ []) η ≤ 2 * length (block c)
  inside_cheap zero ρ c η al = omega arith
  inside_cheap (suc f) ρ end η al = omega arith
  inside_cheap (suc f) ρ (step a i c) η al =
      let al₂ = both_passed (allowed_i (within m) i) (allowed (within m) c) al in
      go i (inside_cheap f) al₂.0 al₂.1 (Step.instr procs t j m ρ a i c [] η) refl
    where
      -- an instruction i, then c
      Ih : Type 0
      Ih =
          (ρ : Env) (c : Block ℕ) (η : Memory) → allowed (within m) c ≡ true
          → inside procs t j m n f (record { proc = m; env = ρ; code = c } ∷ []) η ≤ 2 * length (block c)

      go : (i : Instr ℕ) → Ih → allowed_i (within m) i ≡ true → allowed (within m) c ≡ true → (r : Try (Moved ℕ))
          → Step.instr procs t j m ρ a i c [] η ≡ r
          → ◌≤◌ (elim r [ lacks q ↦ 0 | has r ↦ inner procs t j m n i + inside procs t j m n f r.stack r.memory ]) (2 * length (block (step a i c)))
      go i ih al al' (lacks q) p = omega arith
      go (assign x e) ih al al' (has r) p =
          let b = chain_has (eval ρ e) _ p in
          rw (← has_inj b.2) (omega (arith, expr_vars n e, length-append (0x20 ∷ x ∷ expr e) (block c), ih (bound ρ x b.0) c η al'))
      go (write y o e) ih al al' (has r) p =
          let b = chain_has (eval ρ e) _ p in
          let g = access (indexed ρ o) (pointed ρ y) η _ b.2 in
          rw (← has_inj g.then)
          (omega (
            arith,
            expr_vars n e,
            expr_vars n o,
            length-append (expr o) (expr e),
            length-append (0x21 ∷ y ∷ expr o ++ expr e) (block c),
            ih ρ c (stored η g.l g.i b.0) al',
          ))
      go (read x y o) ih al al' (has r) p =
          let g = access (indexed ρ o) (pointed ρ y) η _ p in
          rw (← has_inj g.then) (omega (arith, expr_vars n o, length-append (0x22 ∷ x ∷ y ∷ expr o) (block c), ih (bound ρ x g.v) c η al'))
      go (if e b d) ih al al' (has r) p =
          let u = chain_has (eval ρ e ⟫ truth) _ p in
          let w = both_passed (allowed (within m) b) (allowed (within m) d) al in
          rw (← has_inj u.2) (branch u.0 w.0 w.1)
        where
          branch : (q : Bool) → allowed (within m) b ≡ true → allowed (within m) d ≡ true
              → 2 * vars n (e ∷ []) + 1 + inside procs t j m n f (record { proc = m; env = ρ; code = pick q b d ⊕ c } ∷ []) η ≤ 2 * length
              (block (step a (if e b d) c))
          branch true v w =
              omega (
                arith,
                expr_vars n e,
                length-append (0x24 ∷ expr e ++ (block b ++ block d)) (block c),
                length-append (expr e) (block b ++ block d),
                length-append (block b) (block d),
                length_join b c,
                ih ρ (b ⊕ c) η (allowed_append (within m) b c v al'),
              )
          branch false v w =
              omega (
                arith,
                expr_vars n e,
                length-append (0x24 ∷ expr e ++ (block b ++ block d)) (block c),
                length-append (expr e) (block b ++ block d),
                length-append (block b) (block d),
                length_join d c,
                ih ρ (d ⊕ c) η (allowed_append (within m) d c w al'),
              )
      go (while e b) ih al al' (has r) p = absurd (never al)
      go (call q es) ih al al' (has r) p = absurd (never al)
      go (atomic b) ih al al' (has r) p = absurd (never al)
      go (select x y) ih al al' (has r) p = absurd (never al)

  -- ---- an instruction

  -- costs at most twice its bytes
  pub instr_cheap : (ρ : Env) (η : Memory) (i : Instr ℕ) → allowed_i (record { kind = concurrent; proc = m; inside = false }) i ≡ true
      → instr_price procs t j m n ρ η i ≤ 2 * length (instr i)
  instr_cheap ρ η (assign x e) al = omega (arith, expr_vars n e)
  instr_cheap ρ η (write y o e) al = omega (arith, expr_vars n e, expr_vars n o, length-append (expr o) (expr e))
  instr_cheap ρ η (read x y o) al = omega (arith, expr_vars n o)
  instr_cheap ρ η (while e b) al = omega (arith, expr_vars n e, length-append (expr e) (block b))
  instr_cheap ρ η (if e b d) al = omega (arith, expr_vars n e, length-append (expr e) (block b ++ block d))
  instr_cheap ρ η (call q es) al = omega (arith, exprs_vars n es)
  instr_cheap ρ η (atomic b) al = omega (arith, inside_cheap (size b) ρ b η al)
  instr_cheap ρ η (select x y) al = omega arith

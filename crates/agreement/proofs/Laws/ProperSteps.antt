-- Rule 5, step by step: a step of the program keeps values proper.
use Rattle.std.specs.Prelude.{ℕ, zero, suc, ◌-◌, ◌<◌, ◌≡◌, refl, List, [], ◌∷◌, ◌++◌, Bool, true, false, length, ltb, eqb}
use Rattle.std.proofs.Common.{arith, sym, ap, ◌∙◌, length-set, ltb-true}
use Rattle.std.proofs.Math.Bool as B
use Rattle.value.specs.Maybe.{is, either, pick}
use Rattle.value.specs.Try.{Try, has, ◌⟫◌, or_lacks}
use Rattle.value.specs.Lists.{at}
use Rattle.value.specs.declared.Value.{Value}
use Rattle.value.proofs.Laws.Tries.{has_inj, lacking, chain_has, provided_has}
use Rattle.value.proofs.Laws.Tests.{both_passed}
use Rattle.format.specs.Syntax.{Expr, Instr, assign, write, read, while, if, call, atomic, select, Block, end, step, ◌⊕◌, Proc}
use Rattle.format.specs.Rules.{takes, in_expr, named, named_i}
use Rattle.format.specs.Rules as Rules
use Rattle.format.proofs.Laws.Joined.{named_append, allowed_append}
use Rattle.semantics.specs.Memory.{Env, bound, eval, evals, Memory, Event}
use Rattle.value.specs.Values.{truth}
use Rattle.value.specs.declared.Reason.TheVariants.{WrongKind}
use Rattle.semantics.specs.Step.{Stack, Moved, instr, runs}
use Rattle.semantics.specs.Threads as P
use Rattle.agreement.proofs.Laws.Accesses.{indexed, pointed, access}
use Rattle.agreement.proofs.Laws.Calling.{lookup_entered}
use Rattle.agreement.proofs.Laws.Proper.{Proper, ProperEnv, ProperMemory, eval_proper, evals_proper, bound_proper, stored_proper}
use Rattle.agreement.proofs.Laws.Frames.{World, FrameSound, fit_named, fit_allowed}
use Rattle.agreement.proofs.Laws.Atomics.{inner}

-- ---- one instruction

-- the locals of each frame are proper
abbrev pub AllProper : ℕ → Stack ℕ → Type 0
AllProper h [] = Unit {0}
AllProper h (f ∷ s) = ProperEnv h f.env × AllProper h s

-- and so is memory, after a step
abbrev pub ProperMoved : ℕ → Moved ℕ → Type 0
ProperMoved h r = AllProper h r.stack × ProperMemory h r.memory

module _ (W : World) (t j m : ℕ) (ρ : Env) (a : ℕ) (c : Block ℕ) (z : Stack ℕ) (η : Memory) (full : length ρ ≡ W.S.L m) (pρ : ProperEnv W.S.h ρ)
    (pz : AllProper W.S.h z) (pη : ProperMemory W.S.h η) where
  -- an expression of the frame's code
  value : (e : Expr) (v : Value) → in_expr (W.S.L m) (length W.source.sizes) e ≡ true → eval ρ e ≡ has v → Proper W.S.h v
  value e v n p = eval_proper W.S.h (W.S.L m) ρ e v (rw (← W.places) n) pρ p

  -- a step of one instruction keeps values proper
  pub proper_instr : (ins : Instr ℕ) → named_i W.source (W.S.L m) ins ≡ true → (r : Moved ℕ) → instr W.source.procs t j m ρ a ins c z η ≡ has r
      → ProperMoved W.S.h r
  proper_instr (assign x e) F r p =
      let b = chain_has (eval ρ e) _ p in
      let n = both_passed (ltb x (W.S.L m)) _ F in
      let low : x < length ρ = rw (full) (ltb-true x (W.S.L m) (n.0)) in
      rw (← has_inj b.2) ((bound_proper W.S.h ρ x b.0 low (value e b.0 n.1 b.1) pρ, pz), pη)
  proper_instr (write y o e) F r p =
      let b = chain_has (eval ρ e) _ p in
      let g = access (indexed ρ o) (pointed ρ y) η _ b.2 in
      let n
      = both_passed (in_expr (W.S.L m) (length W.source.sizes) o) (in_expr (W.S.L m) (length W.source.sizes) e)
      (both_passed (ltb y (W.S.L m)) _ F).1 in
      rw (← has_inj g.then) ((pρ, pz), stored_proper W.S.h η g.l g.i b.0 g.there (value e b.0 n.1 b.1) pη)
  proper_instr (read x y o) F r p =
      let g = access (indexed ρ o) (pointed ρ y) η _ p in
      let n = both_passed (ltb x (W.S.L m)) _ F in
      let low : x < length ρ = rw (full) (ltb-true x (W.S.L m) (n.0)) in
      rw (← has_inj g.then) ((bound_proper W.S.h ρ x g.v low (pη g.l g.i g.v g.there) pρ, pz), pη)
  proper_instr (while e b) F r p = let t = chain_has (eval ρ e ⟫ truth) _ p in rw (← has_inj t.2) ((pρ, pz), pη)
  proper_instr (if e b d) F r p = let t = chain_has (eval ρ e ⟫ truth) _ p in rw (← has_inj t.2) ((pρ, pz), pη)
  proper_instr (call q es) F r p =
      let b₁ = chain_has (evals ρ es) _ p in
      let b₂ = chain_has (or_lacks WrongKind (at W.source.procs q)) _ b₁.2 in
      let b₃ = provided_has (B.not (either (eqb q m) (runs q z))) WrongKind _ b₂.2 in
      let n = both_passed (takes W.source.procs q (length es)) _ F in
      rw (← b₃.1) (
        (
          (λ x v e.
              evals_proper W.S.h (W.S.L m) ρ es b₁.0 (rw (← W.places) n.1) pρ b₁.1 x v
              (lookup_entered b₁.0 (b₂.0.locals - length b₁.0) x e)),
          (pρ, pz),
        ),
        pη,
      )
  proper_instr (atomic b) F r p = lacking p
  proper_instr (select x y) F r p = lacking p

-- ---- an atomic block

-- assignments, reads and writes
pub data Simple : Instr ℕ → Type 0 where
  simple_assign : {x : ℕ} {e : Expr} → Simple (assign x e)
  simple_read : {x y : ℕ} {o : Expr} → Simple (read x y o)
  simple_write : {y : ℕ} {o e : Expr} → Simple (write y o e)

-- a simple instruction goes on with the code after it, and as many locals
simple_shape : (procs : List (Proc ℕ)) (t j m : ℕ) (ρ : Env) (a : ℕ) (c : Block ℕ) (z : Stack ℕ) (η : Memory) (ins : Instr ℕ) → Simple ins
    → (r : Moved ℕ) → instr procs t j m ρ a ins c z η ≡ has r
    → (ρ₁ : Env) × (r.stack ≡ record { proc = m; env = ρ₁; code = c } ∷ z) × (length ρ₁ ≡ length ρ)
simple_shape procs t j m ρ a c z η (assign x e) simple_assign r p =
    let b = chain_has (eval ρ e) _ p in (bound ρ x b.0, ap (λ (o : Moved ℕ). o.stack) (sym (has_inj b.2)), length-set ρ x (is b.0))
simple_shape procs t j m ρ a c z η (read x y o) simple_read r p =
    let g = access (indexed ρ o) (pointed ρ y) η _ p in
    (bound ρ x g.v, ap (λ (o : Moved ℕ). o.stack) (sym (has_inj g.then)), length-set ρ x (is g.v))
simple_shape procs t j m ρ a c z η (write y o e) simple_write r p =
    let b = chain_has (eval ρ e) _ p in
    let g = access (indexed ρ o) (pointed ρ y) η _ b.2 in
    (ρ, ap (λ (o : Moved ℕ). o.stack) (sym (has_inj g.then)), refl)
simple_shape procs t j m ρ a c z η (while _ _) x4 r p = elim x4 [ ]
simple_shape procs t j m ρ a c z η (if _ _ _) x6 r p = elim x6 [ ]
simple_shape procs t j m ρ a c z η (call _ _) x6 r p = elim x6 [ ]
simple_shape procs t j m ρ a c z η (atomic _) x6 r p = elim x6 [ ]
simple_shape procs t j m ρ a c z η (select _ _) x8 r p = elim x8 [ ]

module _ (W : World) (t j m : ℕ) where
  -- a block that is at its end is not blocked
  abbrev block_end : ℕ → Env → Block ℕ → Memory → List Event → Try P.Atomic
  block_end n ρ c η old = P.to_end W.source.procs t j n (record { proc = m; env = ρ; code = c } ∷ []) η old

  -- what an atomic block leaves is proper
  abbrev ProperAtomic : P.Atomic → Type 0
  ProperAtomic A = ProperEnv W.S.h A.env × ProperMemory W.S.h A.memory

  -- code that rules 4 and 5 let pass, with proper locals
  record Block-proper (ρ : Env) (c : Block ℕ) (η : Memory) : Type 0 where
    full : length ρ ≡ W.S.L m
    named : named W.source (W.S.L m) c ≡ true
    allowed : Rules.allowed (inner m) c ≡ true
    env : ProperEnv W.S.h ρ
    memory : ProperMemory W.S.h η

  -- after an assignment, a read or a write of a block
  one_proper : {ρ : Env} {η : Memory} {a : ℕ} {c : Block ℕ} (n : ℕ) (old : List Event) (A : P.Atomic) (ins : Instr ℕ) → Simple ins
      → Block-proper ρ (step a ins c) η
      → ((ρ₁ : Env) (η₁ : Memory) (old : List Event) → Block-proper ρ₁ c η₁ → block_end n ρ₁ c η₁ old ≡ has A → ProperAtomic A)
      → (instr W.source.procs t j m ρ a ins c [] η ⟫ λ r. P.to_end W.source.procs t j n r.stack r.memory (old ++ r.events)) ≡ has A
      → ProperAtomic A
  one_proper {ρ} {η} {a} {c} n old A ins kind B ih e =
      let p = chain_has (instr W.source.procs t j m ρ a ins c [] η) _ e in
      let g = simple_shape W.source.procs t j m ρ a c [] η ins kind p.0 p.1 in
      let nm = both_passed (named_i W.source (W.S.L m) ins) (named W.source (W.S.L m) c) B.named in
      let al = both_passed (Rules.allowed_i (inner m) ins) (Rules.allowed (inner m) c) B.allowed in
      let pr : ProperMoved W.S.h p.0 = proper_instr W t j m ρ a c [] η B.full B.env tt B.memory ins nm.0 p.0 p.1 in
      let pρ₁ : AllProper W.S.h (record { proc = m; env = g.0; code = c } ∷ []) = rw g.1 at pr.0 in
      ih g.0 p.0.memory (old ++ p.0.events) (record { full = g.2 ∙ B.full; named = nm.1; allowed = al.1; env = pρ₁.0; memory = pr.1 })
      (rw g.1 at p.2)

  -- a block keeps values proper
  block_proper : (n : ℕ) (c : Block ℕ) {ρ : Env} {η : Memory} (old : List Event) (A : P.Atomic) → Block-proper ρ c η → block_end n ρ c η old ≡ has A
      → ProperAtomic A
  block_proper zero end old A B e = rw (← has_inj e) (B.env, B.memory)
  block_proper zero (step a ins c) old A B e = lacking e
  block_proper (suc n) end old A B e = rw (← has_inj e) (B.env, B.memory)
  block_proper (suc n) (step a (assign x v) c) old A B e =
      one_proper n old A (assign x v) simple_assign B (λ ρ₁ η₁ old₁ B₁ p. block_proper n c old₁ A B₁ p) e
  block_proper (suc n) (step a (read x y o) c) old A B e =
      one_proper n old A (read x y o) simple_read B (λ ρ₁ η₁ old₁ B₁ p. block_proper n c old₁ A B₁ p) e
  block_proper (suc n) (step a (write y o v) c) old A B e =
      one_proper n old A (write y o v) simple_write B (λ ρ₁ η₁ old₁ B₁ p. block_proper n c old₁ A B₁ p) e
  block_proper (suc n) (step a (if v b d) c) {ρ} {η} old A B e =
      let q = chain_has (instr W.source.procs t j m ρ a (if v b d) c [] η) _ e in
      let u = chain_has (eval ρ v ⟫ truth) _ q.1 in
      let nm = both_passed (named_i W.source (W.S.L m) (if v b d)) (named W.source (W.S.L m) c) B.named in
      let nb
      = both_passed (named W.source (W.S.L m) b) (named W.source (W.S.L m) d)
      (both_passed (Rules.ex W.source (W.S.L m) v) _ nm.0).1 in
      let al = both_passed (Rules.allowed_i (inner m) (if v b d)) (Rules.allowed (inner m) c) B.allowed in
      let ab = both_passed (Rules.allowed (inner m) b) (Rules.allowed (inner m) d) al.0 in
      let e' : block_end n ρ (pick u.0 b d ⊕ c) η (old ++ []) ≡ has A = rw (← has_inj u.2) at q.2 in
      block_proper n (pick u.0 b d ⊕ c) (old ++ []) A (branch u.0 nb.0 nb.1 nm.1 ab.0 ab.1 al.1) e'
    where
      branch : (t : Bool) → named W.source (W.S.L m) b ≡ true → named W.source (W.S.L m) d ≡ true → named W.source (W.S.L m) c ≡ true
          → Rules.allowed (inner m) b ≡ true → Rules.allowed (inner m) d ≡ true → Rules.allowed (inner m) c ≡ true → Block-proper ρ (pick t b d ⊕ c) η
      branch true nb nd nc lb ld lc =
          record {
            full = B.full;
            named = named_append W.source (W.S.L m) b c nb nc;
            allowed = allowed_append (inner m) b c lb lc;
            env = B.env;
            memory = B.memory;
          }
      branch false nb nd nc lb ld lc =
          record {
            full = B.full;
            named = named_append W.source (W.S.L m) d c nd nc;
            allowed = allowed_append (inner m) d c ld lc;
            env = B.env;
            memory = B.memory;
          }
  block_proper (suc n) (step a (while v b) c) old A B e =
      let z : ◌≡◌ {A = Bool} false true = B.allowed in let z' : ◌≡◌ {A = ℕ} 0 1 = cc in absurd (omega arith)
  block_proper (suc n) (step a (call q es) c) old A B e =
      let z : ◌≡◌ {A = Bool} false true = B.allowed in let z' : ◌≡◌ {A = ℕ} 0 1 = cc in absurd (omega arith)
  block_proper (suc n) (step a (atomic b) c) old A B e =
      let z : ◌≡◌ {A = Bool} false true = B.allowed in let z' : ◌≡◌ {A = ℕ} 0 1 = cc in absurd (omega arith)
  block_proper (suc n) (step a (select x y) c) old A B e =
      let z : ◌≡◌ {A = Bool} false true = B.allowed in let z' : ◌≡◌ {A = ℕ} 0 1 = cc in absurd (omega arith)

-- ---- a step of a thread

-- a step of a thread keeps values proper
pub proper_code : (W : World) (t m : ℕ) (ρ : Env) (s : Stack ℕ) (η : Memory) → ProperEnv W.S.h ρ → AllProper W.S.h s
    → ProperMemory W.S.h η → (c : Block ℕ) → FrameSound W m ρ c
    → (r : Moved ℕ) → P.code W.source.procs t c m ρ s η ≡ has r → ProperMoved W.S.h r
proper_code W t m ρ s η pρ ps pη end F r p = rw (← has_inj p) (ps, pη)
proper_code W t m ρ s η pρ ps pη (step a (assign x e) c) F r p =
    proper_instr W t a m ρ a c s η F.fit.full pρ ps pη (assign x e) (fit_named F.fit).0 r p
proper_code W t m ρ s η pρ ps pη (step a (write y o e) c) F r p =
    proper_instr W t a m ρ a c s η F.fit.full pρ ps pη (write y o e) (fit_named F.fit).0 r p
proper_code W t m ρ s η pρ ps pη (step a (read x y o) c) F r p =
    proper_instr W t a m ρ a c s η F.fit.full pρ ps pη (read x y o) (fit_named F.fit).0 r p
proper_code W t m ρ s η pρ ps pη (step a (while e b) c) F r p =
    proper_instr W t a m ρ a c s η F.fit.full pρ ps pη (while e b) (fit_named F.fit).0 r p
proper_code W t m ρ s η pρ ps pη (step a (if e b d) c) F r p =
    proper_instr W t a m ρ a c s η F.fit.full pρ ps pη (if e b d) (fit_named F.fit).0 r p
proper_code W t m ρ s η pρ ps pη (step a (call q es) c) F r p =
    proper_instr W t a m ρ a c s η F.fit.full pρ ps pη (call q es) (fit_named F.fit).0 r p
proper_code W t m ρ s η pρ ps pη (step a (atomic b) c) F r p =
    let u = chain_has (P.to_end W.source.procs t a (P.size b) (record { proc = m; env = ρ; code = b } ∷ []) η []) _ p in
    let g
    = block_proper W t a m (P.size b) b [] u.0
    (record { full = F.fit.full; named = (fit_named F.fit).0; allowed = (fit_allowed F.fit).0; env = pρ; memory = pη }) u.1 in
    rw (← has_inj u.2) ((g.0, ps), g.1)
proper_code W t m ρ s η pρ ps pη (step a (select x y) c) F r p = lacking p

-- A stack is a chain of calls: each frame's procedure is called by the procedure below it. With rule 7, no procedure that
-- runs in a thread is called again. And each instruction stands in the program, so that it is no longer than the table.
use Rattle.std.specs.Prelude.{ℕ, zero, suc, ◌+◌, ◌≤◌, ◌≡◌, List, [], ◌∷◌, ◌++◌, Bool, true, false, eqb, length}
use Rattle.std.proofs.Common.{arith, length-append, eqb-true}
use Rattle.std.proofs.Math.Bool as B
use Rattle.value.specs.Maybe.{is, either, pick}
use Rattle.value.specs.Try.{has, ◌⟫◌, or_lacks}
use Rattle.value.specs.Lists.{at}
use Rattle.value.proofs.Laws.Maybes.{is_inj, missing}
use Rattle.value.proofs.Laws.Tries.{has_inj, lacking, chain_has, provided_has, or_lacks_has}
use Rattle.value.proofs.Laws.Tests.{either_passed, never, by_test}
use Rattle.value.proofs.Laws.Lists.{In, here, in_front, in_back}
use Rattle.format.specs.Syntax.{Expr, Instr, assign, write, read, while, if, call, atomic, select, Block, end, step, ◌⊕◌, Proc}
use Rattle.format.specs.Encode.{expr, instr, block}
use Rattle.format.specs.Rules.{callees, callees_i, callees_of}
use Rattle.format.proofs.Laws.Calls.{Reaches, direct, onward}
use Rattle.format.proofs.Laws.Joined.{in_joined}
use Rattle.semantics.specs.Memory.{Env, eval, evals, Memory}
use Rattle.value.specs.Values.{truth}
use Rattle.value.specs.declared.Reason.TheVariants.{WrongKind}
use Rattle.semantics.specs.Step.{Stack, Moved, runs}
use Rattle.semantics.specs.Threads as P
use Rattle.agreement.proofs.Laws.Accesses.{indexed, pointed, access}

-- ---- code that is part of a procedure

-- each instruction of a block takes at most N bytes
abbrev pub Brief : ℕ → Block ℕ → Type 0
Brief N end = Unit {0}
Brief N (step a i b) = (length (instr i) ≤ N) × Brief N b

-- so do those of a block of at most N bytes
brief_block : (N : ℕ) (b : Block ℕ) → length (block b) ≤ N → Brief N b
brief_block N end h = tt
brief_block N (step a i b) h = (omega (arith, length-append (instr i) (block b)), brief_block N b (omega (arith, length-append (instr i) (block b))))

-- and of one block after another
brief_append : (N : ℕ) (b c : Block ℕ) → Brief N b → Brief N c → Brief N (b ⊕ c)
brief_append N end c h k = k
brief_append N (step a i b) c h k = (h.0, brief_append N b c h.1 k)

module _ (procs : List (Proc ℕ)) (N : ℕ) where
  -- code of procedure m: it calls only what m calls, and each instruction takes at most N bytes
  pub record Part (m : ℕ) (c : Block ℕ) : Type 0 where
    pub calls : (q : ℕ) → In q (callees c) → In q (callees_of procs m)
    pub brief : Brief N c

  -- the rest of such code
  part_rest : {m a : ℕ} {i : Instr ℕ} {c : Block ℕ} → Part m (step a i c) → Part m c
  part_rest {i = i} {c = c} K = record { calls = λ q j. K.calls q (in_back (callees_i i) (callees c) j); brief = K.brief.1 }

  -- a loop's body and the loop again
  part_while : {m a : ℕ} {e : Expr} {b c : Block ℕ} → Part m (step a (while e b) c) → Part m (b ⊕ step a (while e b) c)
  part_while {a = a} {e = e} {b = b} {c = c} K = record {
    calls = λ q i. in_joined b (step a (while e b) c) i (λ j. K.calls q (in_front (callees b) (callees c) j)) (λ j. K.calls q j);
    brief = brief_append N b (step a (while e b) c)
        (brief_block N b (omega (arith, K.brief.0, length-append (0x23 ∷ expr e) (block b)))) K.brief;
  }

  -- a branch and what follows
  part_if : {m a : ℕ} {e : Expr} {b d c : Block ℕ} (t : Bool) → Part m (step a (if e b d) c) → Part m (pick t b d ⊕ c)
  part_if {m = m} {e = e} {b = b} {d = d} {c = c} t K = by t
    where
      small : length (block b) + length (block d) ≤ N
      small = omega (arith, K.brief.0, length-append (0x24 ∷ expr e) (block b ++ block d), length-append (block b) (block d))

      rest : (q : ℕ) → In q (callees c) → In q (callees_of procs m)
      rest q j = K.calls q (in_back (callees b ++ callees d) (callees c) j)

      inner : (q : ℕ) → In q (callees b ++ callees d) → In q (callees_of procs m)
      inner q j = K.calls q (in_front (callees b ++ callees d) (callees c) j)

      by : (t : Bool) → Part m (pick t b d ⊕ c)
      by true = record {
        calls = λ q i. in_joined b c i (λ j. inner q (in_front (callees b) (callees d) j)) (rest q);
        brief = brief_append N b c (brief_block N b (omega (arith, small))) K.brief.1;
      }
      by false = record {
        calls = λ q i. in_joined d c i (λ j. inner q (in_back (callees b) (callees d) j)) (rest q);
        brief = brief_append N d c (brief_block N d (omega (arith, small))) K.brief.1;
      }

  -- a body of at most N bytes
  pub part_body : (m : ℕ) {p : Proc ℕ} → at procs m ≡ is p → length (block p.body) ≤ N → Part m p.body
  part_body m {p} e h = record { calls = called procs m e; brief = brief_block N p.body h }
    where
      called : (ps : List (Proc ℕ)) (m : ℕ) → at ps m ≡ is p → (q : ℕ) → In q (callees p.body) → In q (callees_of ps m)
      called [] m e q i = missing e
      called (o ∷ ps) zero e q i = let s : o ≡ p = is_inj e in rw s i
      called (o ∷ ps) (suc m) e q i = called ps m e q i

  -- ---- chains

  -- the frame below calls procedure m
  abbrev pub Link : ℕ → Stack ℕ → Type 0
  Link m [] = Unit {0}
  Link m (g ∷ s) = In m (callees_of procs g.proc)

  -- each frame has code of its procedure, which the frame below calls
  abbrev pub Linked : Stack ℕ → Type 0
  Linked [] = Unit {0}
  Linked (f ∷ s) = Part f.proc f.code × Link f.proc s × Linked s

  module _ (small : (m : ℕ) (p : Proc ℕ) → at procs m ≡ is p → length (block p.body) ≤ N) (t m : ℕ) (ρ : Env) (s : Stack ℕ) (η : Memory) where
    -- a step of a thread keeps the chain
    pub linked_code : (c : Block ℕ) → Linked (record { proc = m; env = ρ; code = c } ∷ s) → (r : Moved ℕ) → P.code procs t c m ρ s η ≡ has r
        → Linked r.stack
    linked_code end K r p = rw (← has_inj p) K.2
    linked_code (step a (assign x e) c) K r p = let b = chain_has (eval ρ e) _ p in rw (← has_inj b.2) (part_rest K.0, K.1, K.2)
    linked_code (step a (write y o e) c) K r p =
        let b = chain_has (eval ρ e) _ p in
        let g = access (indexed ρ o) (pointed ρ y) η _ b.2 in
        rw (← has_inj g.then) (part_rest K.0, K.1, K.2)
    linked_code (step a (read x y o) c) K r p =
        let g = access (indexed ρ o) (pointed ρ y) η _ p in
        rw (← has_inj g.then) (part_rest K.0, K.1, K.2)
    linked_code (step a (while e b) c) K r p = let u = chain_has (eval ρ e ⟫ truth) _ p in rw (← has_inj u.2) (go u.0, K.1, K.2)
      where
        go : (t : Bool) → Part m (pick t (b ⊕ step a (while e b) c) c)
        go true = part_while K.0
        go false = part_rest K.0
    linked_code (step a (if e b d) c) K r p = let u = chain_has (eval ρ e ⟫ truth) _ p in rw (← has_inj u.2) (part_if u.0 K.0, K.1, K.2)
    linked_code (step a (call q es) c) K r p =
        let b₁ = chain_has (evals ρ es) _ p in
        let b₂ = chain_has (or_lacks WrongKind (at procs q)) _ b₁.2 in
        let b₃ = provided_has (B.not (either (eqb q m) (runs q s))) WrongKind _ b₂.2 in
        let found = or_lacks_has WrongKind (at procs q) b₂.1 in
        rw (← b₃.1) (part_body q found (small q b₂.0 found), K.0.calls q here, (part_rest K.0, K.1, K.2))
    linked_code (step a (atomic b) c) K r p =
        let u = chain_has (P.to_end procs t a (P.size b) (record { proc = m; env = ρ; code = b } ∷ []) η []) _ p in
        rw (← has_inj u.2) (part_rest K.0, K.1, K.2)
    linked_code (step a (select x y) c) K r p = lacking p

-- ---- rule 7

-- one call more at the end
pub reach_on : {ps : List (Proc ℕ)} {m k q : ℕ} → Reaches ps m k → In q (callees_of ps k) → Reaches ps m q
reach_on (direct h) i = onward h (direct i)
reach_on (onward h r) i = onward h (reach_on r i)

module _ (procs : List (Proc ℕ)) (N : ℕ) where
  -- a procedure below the top reaches the top's
  pub reach_top : (m : ℕ) (s : Stack ℕ) (k : ℕ) → Link procs N m s → Linked procs N s → runs k s ≡ true → Reaches procs k m
  reach_top m [] k l c e = absurd (never e)
  reach_top m (g ∷ s) k l c e =
      either_passed (eqb k g.proc) (runs k s) e
      (λ p. rw (eqb-true k g.proc p) (direct l))
      (λ p. reach_on (reach_top g.proc s k c.1 c.2 p) l)

  -- so a procedure of the stack that the top calls reaches itself
  reach_self : (m q : ℕ) (s : Stack ℕ) → In q (callees_of procs m) → Link procs N m s → Linked procs N s → either (eqb q m) (runs q s) ≡ true
      → Reaches procs q q
  reach_self m q s i l c e =
      either_passed (eqb q m) (runs q s) e
      (λ p. let same : q ≡ m = eqb-true q m p in direct (rw (← same) at i))
      (λ p. reach_on (reach_top m s q l c p) i)

  -- where rule 7 lets a program pass, a procedure that the top frame calls does not run in the stack
  pub no_cycle_lem : ((m : ℕ) → Reaches procs m m → ⊥) → (m q : ℕ) (s : Stack ℕ) → In q (callees_of procs m) → Link procs N m s → Linked procs N s
      → either (eqb q m) (runs q s) ≡ false
  no_cycle_lem rule m q s i l c = by_test (either (eqb q m) (runs q s)) (λ e. absurd (rule q (reach_self m q s i l c e))) (λ e. e)

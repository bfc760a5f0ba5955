-- An atomic block in one go is the block step by step.
use Rattle.std.specs.Prelude.{ℕ, zero, suc, ◌+◌, ◌≤◌, ◌≡◌, refl, List, [], ◌∷◌, ◌++◌, true, false}
use Rattle.std.proofs.Common.{arith, sym, ap, ◌∙◌, append-nil, append_assoc}
use Rattle.value.specs.Maybe.{pick}
use Rattle.value.specs.Try.{Try, has, lacks, ◌⟫◌}
use Rattle.value.proofs.Laws.Tries.{chain_same}
use Rattle.value.proofs.Laws.Tests.{both_passed, never}
use Rattle.format.specs.Syntax.{local, Instr, assign, write, read, while, if, call, atomic, select, Block, end, step, ◌⊕◌, Proc}
use Rattle.format.specs.Rules.{allowed, allowed_i}
use Rattle.format.proofs.Laws.Joined.{allowed_append}
use Rattle.semantics.specs.Memory.{Env, bound, eval, index, Memory, cell, stored, Event}
use Rattle.value.specs.Values.{number, place, truth}
use Rattle.semantics.specs.Threads.{Atomic, size_i, size, to_end}
use Rattle.atomic.specs.Acts.{within, act_i, act}

-- links of a chain may be grouped in any way
pub chain_assoc : {A B C : Type 0} (a : Try A) (f : A → Try B) (g : B → Try C) → (a ⟫ f ⟫ g) ≡ (a ⟫ λ x. f x ⟫ g)
chain_assoc (has x) f g = refl
chain_assoc (lacks r) f g = refl

-- how many instructions one block after another can run
size_join : (b c : Block ℕ) → size (b ⊕ c) ≡ size b + size c
size_join end c = omega arith
size_join (step l i b) c = omega (arith, size_join b c)

-- chains that begin alike and go on alike
chain_both : {A B C D : Type 0} (a : Try A) (f : A → Try B) (g : B → Try D) (h : A → Try C) (k : C → Try D)
    → ((x : A) → (f x ⟫ g) ≡ (h x ⟫ k)) → (a ⟫ f ⟫ g) ≡ (a ⟫ h ⟫ k)
chain_both (has x) f g h k e = e x
chain_both (lacks r) f g h k e = refl

-- an instruction can run
size_i_some : (i : Instr ℕ) → 1 ≤ size_i i
size_i_some (assign x e) = omega arith
size_i_some (write y o e) = omega arith
size_i_some (read x y o) = omega arith
size_i_some (while e b) = omega arith
size_i_some (if e b c) = omega arith
size_i_some (call m es) = omega arith
size_i_some (atomic b) = omega arith
size_i_some (select x y) = omega arith

module _ (t label : ℕ) where
  -- one block after another
  pub act_join : (b c : Block ℕ) (a : Atomic) → act t label (b ⊕ c) a ≡ (act t label b a ⟫ act t label c)
  act_join end c a = refl
  act_join (step l i b) c a =
      chain_same (act_i t label i a) (act t label (b ⊕ c)) (λ r. act t label b r ⟫ act t label c) (act_join b c) ∙ sym (chain_assoc (act_i t label i a) (act t label b) (act t label c))

-- what is left of a block
abbrev from : Env → Memory → List Event → Atomic
from ρ η evs = record { env = ρ; memory = η; events = evs }

module _ (procs : List (Proc ℕ)) (t label m : ℕ) where
  -- a block goes step by step to where it goes in one go
  pub acts : (n : ℕ) (c : Block ℕ) → size c ≤ n → allowed (within m) c ≡ true → (ρ : Env) (η : Memory) (evs : List Event)
      → to_end procs t label n (record { proc = m; env = ρ; code = c } ∷ []) η evs ≡ act t label c (from ρ η evs)
  acts zero end h k ρ η evs = refl
  acts zero (step l i c) h k ρ η evs = absurd (omega (arith, size_i_some i))
  acts (suc n) end h k ρ η evs = refl
  acts (suc n) (step l (assign x e) c) h k ρ η evs =
      chain_both (eval ρ e) _ _ _ _ (λ v. rw (append-nil evs) (acts n c (omega arith) k (bound ρ x v) η evs))
  acts (suc n) (step l (write y o e) c) h k ρ η evs =
      chain_both (eval ρ e) _ _ _ _ (λ v.
      chain_both (eval ρ o ⟫ number) _ _ _ _ (λ z.
      chain_both (eval ρ (local y) ⟫ place) _ _ _ _ (λ l.
      chain_both (index z) _ _ _ _ (λ i.
      chain_both (cell η l i) _ _ _ _ (λ _. acts n c (omega arith) k ρ (stored η l i v) _)))))
  acts (suc n) (step l (read x y o) c) h k ρ η evs =
      chain_both (eval ρ o ⟫ number) _ _ _ _ (λ z.
      chain_both (eval ρ (local y) ⟫ place) _ _ _ _ (λ l.
      chain_both (index z) _ _ _ _ (λ i.
      chain_both (cell η l i) _ _ _ _ (λ v. acts n c (omega arith) k (bound ρ x v) η _))))
  acts (suc n) (step l (if e b d) c) h k ρ η evs =
      let ok = both_passed (allowed_i (within m) (if e b d)) (allowed (within m) c) k in
      let two = both_passed (allowed (within m) b) (allowed (within m) d) ok.0 in
      chain_both (eval ρ e ⟫ truth) _ _ _ _ (λ q. rw (append-nil evs) (elim q as (λ q.
      to_end procs t label n (record { proc = m; env = ρ; code = pick q b d ⊕ c } ∷ []) η evs
      ≡ (elim q as (λ _. Try Atomic) [ true ↦ act t label b (from ρ η evs) | false ↦ act t label d (from ρ η evs) ] ⟫ act t label c)) [
        | true ↦
            acts n (b ⊕ c) (omega (arith, size_join b c)) (allowed_append (within m) b c two.0 ok.1) ρ η evs ∙ act_join t label b c (from ρ η evs)
        | false ↦
            acts n (d ⊕ c) (omega (arith, size_join d c)) (allowed_append (within m) d c two.1 ok.1) ρ η evs ∙ act_join t label d c (from ρ η evs)
      ]))
  acts (suc n) (step l (while e b) c) h k ρ η evs = absurd (never k)
  acts (suc n) (step l (call q es) c) h k ρ η evs = absurd (never k)
  acts (suc n) (step l (atomic b) c) h k ρ η evs = absurd (never k)
  acts (suc n) (step l (select x y) c) h k ρ η evs = absurd (never k)

-- ---- events that were before

-- after these events
abbrev pub later : List Event → Atomic → Atomic
later evs a = record { env = a.env; memory = a.memory; events = evs ++ a.events }

module _ (t label : ℕ) (evs : List Event) where
  -- the chains of an instruction
  abbrev Later : Try Atomic → Try Atomic
  Later m = m ⟫ λ r. has (later evs r)

  -- link by link
  link : {A : Type 0} (m : Try A) (f g : A → Try Atomic) → ((x : A) → f x ≡ Later (g x)) → (m ⟫ f) ≡ Later (m ⟫ g)
  link (has x) f g h = h x
  link (lacks r) f g h = refl

  mutual
    -- an instruction adds its own
    later_i : (i : Instr ℕ) (a : Atomic) → act_i t label i (later evs a) ≡ Later (act_i t label i a)
    later_i (assign x e) a = link (eval a.env e) _ _ (λ v. refl)
    later_i (write y o e) a =
        link (eval a.env e) _ _ λ v.
        link (eval a.env o ⟫ number) _ _ λ z.
        link (eval a.env (local y) ⟫ place) _ _ λ l.
        link (index z) _ _ λ i.
        link (cell a.memory l i) _ _ λ u.
        rw (append_assoc evs a.events _)
    later_i (read x y o) a =
        link (eval a.env o ⟫ number) _ _ λ z.
        link (eval a.env (local y) ⟫ place) _ _ λ l.
        link (index z) _ _ λ i.
        link (cell a.memory l i) _ _ λ u.
        rw (append_assoc evs a.events _)
    later_i (if e b d) a = link (eval a.env e ⟫ truth) _ _ λ q. elim q as (λ q.
        elim q as (λ _. Try Atomic) [ true ↦ act t label b (later evs a) | false ↦ act t label d (later evs a) ]
        ≡ Later (elim q as (λ _. Try Atomic) [ true ↦ act t label b a | false ↦ act t label d a ])) [ true ↦ act_later b a | false ↦ act_later d a ]
    later_i (while e b) a = refl
    later_i (call m es) a = refl
    later_i (atomic b) a = refl
    later_i (select x y) a = refl

    -- a block does
    pub act_later : (b : Block ℕ) (a : Atomic) → act t label b (later evs a) ≡ Later (act t label b a)
    act_later end a = refl
    act_later (step l i b) a =
        ap (λ m. m ⟫ act t label b) (later_i i a)
        ∙ chain_assoc (act_i t label i a) _ _
        ∙ chain_same (act_i t label i a) _ _ (act_later b)
        ∙ sym (chain_assoc (act_i t label i a) (act t label b) _)

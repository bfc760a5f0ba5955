-- An atomic block without labels in its events.
use Prim.Native.Nat.{ℕ}
use mathlib.Core.Path.{◌≡◌, refl, sym, ap, ◌∙◌}
use mathlib.Core.List.{map, map-append}
use mathlib.Core.Bool.{true, false}
use Rattle.value.specs.Try.{Try, has, lacks, ◌⟫◌}
use Rattle.value.specs.Values.{number, place, truth}
use Rattle.value.proofs.Laws.Tries.{chain_same}
use Rattle.format.specs.Syntax.{local, Instr, assign, write, read, while, if, call, atomic, select, Block, end, step}
use Rattle.semantics.specs.Memory.{eval, index, cell}
use Rattle.semantics.specs.Threads.{Atomic}
use Rattle.semantics.specs.Calls.{unlabelled}
use Rattle.atomic.specs.Acts.{act_i, act}
use Rattle.atomic.specs.Laws.Acting.{chain_assoc}

-- what it leaves, with those events
abbrev pub without : Atomic → Atomic
without a = record { env = a.env; memory = a.memory; events = map unlabelled a.events }

module _ (t label : ℕ) where
  -- a chain's end
  abbrev Without : Try Atomic → Try Atomic
  Without m = m ⟫ λ r. has (without r)

  -- link by link
  link : {A : Type 0} (m : Try A) (f g : A → Try Atomic) → ((x : A) → f x ≡ Without (g x)) → (m ⟫ f) ≡ Without (m ⟫ g)
  link (has x) f g h = h x
  link (lacks r) f g h = refl

  mutual
    -- an instruction
    without_i : (i : Instr ℕ) (a : Atomic) → act_i t 0 i (without a) ≡ Without (act_i t label i a)
    without_i (assign x e) a = link (eval a.env e) _ _ (λ v. refl)
    without_i (write y o e) a =
        link (eval a.env e) _ _ λ v.
        link (eval a.env o ⟫ number) _ _ λ z.
        link (eval a.env (local y) ⟫ place) _ _ λ l.
        link (index z) _ _ λ i.
        link (cell a.memory l i) _ _ λ u.
        rw (map-append unlabelled a.events _)
    without_i (read x y o) a =
        link (eval a.env o ⟫ number) _ _ λ z.
        link (eval a.env (local y) ⟫ place) _ _ λ l.
        link (index z) _ _ λ i.
        link (cell a.memory l i) _ _ λ u.
        rw (map-append unlabelled a.events _)
    without_i (if e b d) a = link (eval a.env e ⟫ truth) _ _ λ q. elim q as (λ q.
        elim q as (λ _. Try Atomic) [ true ↦ act t 0 b (without a) | false ↦ act t 0 d (without a) ]
        ≡ Without (elim q as (λ _. Try Atomic) [ true ↦ act t label b a | false ↦ act t label d a ])) [ true ↦ act_without b a | false ↦ act_without d a ]
    without_i (while e b) a = refl
    without_i (call m es) a = refl
    without_i (atomic b) a = refl
    without_i (select x y) a = refl

    -- a block
    pub act_without : (b : Block ℕ) (a : Atomic) → act t 0 b (without a) ≡ Without (act t label b a)
    act_without end a = refl
    act_without (step l i b) a =
        ap (λ m. m ⟫ act t 0 b) (without_i i a)
        ∙ chain_assoc (act_i t label i a) _ _
        ∙ chain_same (act_i t label i a) _ _ (act_without b)
        ∙ sym (chain_assoc (act_i t label i a) (act t label b) _)

-- Where a decided step leads: the code that remains after it, its label, and its procedure.
use Rattle.std.specs.Prelude.{ℕ, ◌≡◌, refl, List, Bool, true, false, length}
use Rattle.std.proofs.Common.{sym, subst, ◌∙◌}
use Rattle.value.specs.Maybe.{is}
use Rattle.value.specs.Try.{has, ◌⟫◌}
use Rattle.value.specs.Lists.{at, all}
use Rattle.value.specs.declared.Value.{Value}
use Rattle.value.proofs.Laws.Maybes.{is_inj, missing}
use Rattle.value.proofs.Laws.Tests.{both_passed}
use Rattle.value.proofs.Laws.Lists.{In, here}
use Rattle.format.specs.Syntax.{local, Instr, assign, write, read, while, if, call, atomic, select, Block, step, Proc, Program, Plain}
use Rattle.format.specs.Labels.{labelled, first, ends_of}
use Rattle.labels.specs.LabelMap as Map
use Rattle.format.specs.Rules.{allowed_i, named_i, takes, callees_i, callees_of}
use Rattle.format.specs.Rules as Rules
use Rattle.labels.specs.Laws.LabelMap.{loop_next, then_next, else_other}
use Rattle.format.proofs.Laws.Procs.{takes_at}
use Rattle.format.proofs.Laws.Names.{takes?}
use Rattle.labels.specs.Laws.Spots.{Remains, remains_after, remains_loop, remains_then, remains_else}
use Rattle.decide.specs.declared.step.Step.{Step}
use Rattle.decide.specs.declared.step.Step.TheVariants as S
use Rattle.semantics.specs.Memory.{Env, eval, evals, index, Memory, cell}
use Rattle.value.specs.Values.{number, place, truth}
use Rattle.decide.specs.Decided.{Act, act_of, args_in, branch, decided}
use Rattle.atomic.specs.Laws.Fitting.{through}
use Rattle.decide.specs.Laws.Deciding.{evals_length}

-- the label of the code that a test leads to
abbrev pub label_after : Bool → ℕ → Block ℕ → ℕ
label_after true k c = Map.next k c
label_after false k c = Map.other k c

-- a call of procedure n with these arguments
pub record Called (p : Program Plain) (m : ℕ) (ρ : Env) (i : Instr ℕ) (n : ℕ) : Type 0 where
  pub proc : Proc ℕ
  pub found : at (labelled p).procs n ≡ is proc
  pub calls : In n (callees_of (labelled p).procs m)
  pub values : List Value
  pub args : evals ρ (args_in i) ≡ has values
  pub params : length values ≡ proc.params

module _ (p : Program Plain) (m : ℕ) (ρ : Env) (a : ℕ) (i : Instr ℕ) (c : Block ℕ) where
  -- the label of what follows is the next one
  abbrev pub Next : Type 0
  Next = first (ends_of p m) c ≡ Map.next (ends_of p m) (step a i c)

  -- where a step of instruction i with tag a leads, first in code of procedure m and before c
  abbrev pub Leads : Step → Type 0
  Leads (S.Assign x v j) = Next
  Leads (S.Read x l k v j) = Next
  Leads (S.Write l k n v j) = Next
  Leads (S.Test q j) = first (ends_of p m) (branch q a i c) ≡ label_after q (ends_of p m) (step a i c)
  Leads (S.Call n j) = Next × Called p m ρ i n
  Leads S.Return = ⊥
  Leads (S.Select n e j) = ⊥
  Leads (S.Blocked r) = Unit {0}

module _ (p : Program Plain) (m : ℕ) (ρ : Env) (η : Memory) (a : ℕ) (c : Block ℕ) where
  -- a decided step leads there
  pub leads : (i : Instr ℕ) (act : Act) (j X : ℕ) → act_of i ≡ is act → named_i (labelled p) X i ≡ true
      → ((q : ℕ) → In q (callees_i i) → In q (callees_of (labelled p).procs m)) → Leads p m ρ a i c (decided ρ η act j)
  leads (assign x e) act j X f n q =
      let P : Step → Type 0 = Leads p m ρ a (assign x e) c in
      subst (λ act. P (decided ρ η act j)) (is_inj f) (through P (eval ρ e) _ (λ _ _. tt) (λ v _. refl))
  leads (write y o e) act j X f n q =
      let P : Step → Type 0 = Leads p m ρ a (write y o e) c in
      subst (λ act. P (decided ρ η act j)) (is_inj f)
      (through P (eval ρ e) _ (λ _ _. tt) λ v _.
      through P (eval ρ o ⟫ number) _ (λ _ _. tt) λ z _.
      through P (eval ρ (local y) ⟫ place) _ (λ _ _. tt) λ l _.
      through P (index z) _ (λ _ _. tt) λ i _.
      through P (cell η l i) _ (λ _ _. tt) λ u _. refl)
  leads (read x y o) act j X f n q =
      let P : Step → Type 0 = Leads p m ρ a (read x y o) c in
      subst (λ act. P (decided ρ η act j)) (is_inj f)
      (through P (eval ρ o ⟫ number) _ (λ _ _. tt) λ z _.
      through P (eval ρ (local y) ⟫ place) _ (λ _ _. tt) λ l _.
      through P (index z) _ (λ _ _. tt) λ i _.
      through P (cell η l i) _ (λ _ _. tt) λ u _. refl)
  leads (while e b) act j X f n q =
      let P : Step → Type 0 = Leads p m ρ a (while e b) c in
      subst (λ act. P (decided ρ η act j)) (is_inj f)
      (through P (eval ρ e ⟫ truth) _ (λ _ _. tt) λ v _.
      elim v as (λ v. P (S.Test v j)) [ true ↦ loop_next (ends_of p m) a e b c | false ↦ refl ])
  leads (if e b d) act j X f n q =
      let P : Step → Type 0 = Leads p m ρ a (if e b d) c in
      subst (λ act. P (decided ρ η act j)) (is_inj f)
      (through P (eval ρ e ⟫ truth) _ (λ _ _. tt) λ v _.
      elim v as (λ v. P (S.Test v j)) [ true ↦ then_next (ends_of p m) a e b d c | false ↦ else_other (ends_of p m) a e b d c ])
  leads (call r es) act j X f n q =
      let P : Step → Type 0 = Leads p m ρ a (call r es) c in
      let names = both_passed (takes (labelled p).procs r (length es)) (all (Rules.ex (labelled p) X) es) n in
      let callee = takes_at (labelled p).procs r (length es) ((takes? (labelled p).procs r (length es)).so names.0) in
      subst (λ act. P (decided ρ η act j)) (is_inj f)
      (through P (evals ρ es) _ (λ _ _. tt) λ vs w. (
        refl,
        record {
          proc = callee.0;
          found = callee.1;
          calls = q r here;
          values = vs;
          args = w;
          params = evals_length ρ es w ∙ sym callee.2;
        },
      ))
  leads (atomic b) act j X f n q = missing f
  leads (select x y) act j X f n q = missing f

-- the code after a test remains
pub remains_branch : {ps : List (Proc ℕ)} {m a : ℕ} {c : Block ℕ} (q : Bool) (i : Instr ℕ) → Remains ps m (step a i c) → Remains ps m (branch q a i c)
remains_branch true (while e b) r = remains_loop r
remains_branch false (while e b) r = remains_after r
remains_branch true (if e b d) r = remains_then r
remains_branch false (if e b d) r = remains_else r
remains_branch q (assign x e) r = remains_after r
remains_branch q (write y o e) r = remains_after r
remains_branch q (read x y o) r = remains_after r
remains_branch q (call n es) r = remains_after r
remains_branch q (atomic b) r = remains_after r
remains_branch q (select x y) r = remains_after r

-- The run of the definition of the sequential machine: how it ends and goes on, and a step that blocks.
use Prim.Native.Nat.{ℕ, zero, suc, ◌+◌, ◌-◌, ◌<◌}
use native.Mathlib.Omega.{arith}
use mathlib.Core.Path.{◌≡◌, refl, sym, ap, ◌∙◌}
use mathlib.Core.List.{List, [], ◌∷◌}
use Rattle.value.specs.Maybe.{is}
use Rattle.value.specs.Try.{Try, has, lacks, ◌⟫◌}
use Rattle.value.specs.declared.Reason.{Reason}
use Rattle.value.proofs.Laws.Maybes.{missing}
use Rattle.value.specs.declared.Value.{Value}
use Rattle.format.specs.Syntax.{Instr, assign, write, read, while, if, call, atomic, select, Block, end, step, ◌⊕◌, Proc, Program, Plain}
use Rattle.semantics.specs.Memory.{Env, Memory, cell, Event}
use Rattle.semantics.specs.Step.{Frame, Stack, Moved}
use Rattle.semantics.specs.Step as F
use Rattle.semantics.specs.Threads.{End, finished, blocked, spent}
use Rattle.semantics.specs.Copy as C
use Rattle.decide.specs.declared.step.Step.{Step}
use Rattle.decide.specs.declared.step.Step.TheVariants.{Return, Blocked}
use Rattle.decide.specs.Decided.{Act, act_of, act_end, carried}
use Rattle.sequential.specs.Sequential.{Decision, leaves, acts, selects}
use Rattle.decide.specs.Laws.Deciding.{does, selected_by}
use Rattle.decide.specs.Laws.Deciding as Deciding
use Rattle.sequential.proofs.Nexts.{next_none}

-- ---- the run of the definition

module _ (h : ℕ) (procs : List (Proc Plain)) where
  -- no frame is left: "finished" comes first
  pub run_none : (n k : ℕ) (c : C.Config) → c.stack ≡ [] → C.run h procs n k c ≡ record { how = finished; steps = k; config = c }
  run_none zero k c e = rw (next_none h procs c e)
  run_none (suc n) k c e = rw (next_none h procs c e, C.run)

  -- how a step that blocks, or not, is judged at the budget
  moved_spent : (ts : List ℕ) (t : ℕ) (evs : List Event) (r : Try (Moved Plain)) → C.at_budget (C.moved h ts t evs r) ≡ spent
  moved_spent ts t evs (lacks r) = refl
  moved_spent ts t evs (has r) = refl

  selected_spent : (a : ℕ) (η : Memory) (f : Frame Plain) (s : Stack Plain) (t : ℕ) (ts : List ℕ) (evs : List Event) (v : Try Value)
      → C.at_budget (C.selected a η f s t ts evs v) ≡ spent
  selected_spent a η f s t ts evs (lacks r) = refl
  selected_spent a η f s t ts evs (has v) = refl

  code_spent : (b : Block Plain) (f : Frame Plain) (s : Stack Plain) (η : Memory) (ts : List ℕ) (t : ℕ) (evs : List Event)
      → C.at_budget (C.code h procs b f.proc f.env s η ts t evs) ≡ spent
  code_spent end f s η ts t evs = refl
  code_spent (step a (assign x e) b) f s η ts t evs = moved_spent ts t evs (F.instr procs t f.proc f.proc f.env tt (assign x e) b s η)
  code_spent (step a (write y o e) b) f s η ts t evs = moved_spent ts t evs (F.instr procs t f.proc f.proc f.env tt (write y o e) b s η)
  code_spent (step a (read x y o) b) f s η ts t evs = moved_spent ts t evs (F.instr procs t f.proc f.proc f.env tt (read x y o) b s η)
  code_spent (step a (while e w) b) f s η ts t evs = moved_spent ts t evs (F.instr procs t f.proc f.proc f.env tt (while e w) b s η)
  code_spent (step a (if e y n) b) f s η ts t evs = moved_spent ts t evs (F.instr procs t f.proc f.proc f.env tt (if e y n) b s η)
  code_spent (step a (call m es) b) f s η ts t evs = moved_spent ts t evs (F.instr procs t f.proc f.proc f.env tt (call m es) b s η)
  code_spent (step a (atomic w) b) f s η ts t evs = refl
  code_spent (step a (select x y) b) f s η [] t evs = refl
  code_spent (step a (select x y) b) f s η (u ∷ ts) t evs =
      selected_spent x η (record { proc = f.proc; env = f.env; code = b }) s u ts evs (cell η y u ⟫ C.running)

  -- "at its budget"
  pub run_spent : (n k : ℕ) (c : C.Config) {f : Frame Plain} {s : Stack Plain} → c.stack ≡ f ∷ s → n ≡ 0
      → C.run h procs n k c ≡ record { how = spent; steps = k; config = c }
  run_spent n k c {f} {s} e z =
      let judged : C.at_budget (C.next h procs c) ≡ spent = rw e (code_spent f.code f s c.memory c.todo c.last c.events) in
      rw z (ap (λ (how : End). record { how = how; steps = k; config = c }) judged)

  -- it ends here
  pub run_ended : (n k : ℕ) (c : C.Config) {how : End} → C.next h procs c ≡ C.ended how → 0 < n
      → C.run h procs n k c ≡ record { how = how; steps = k; config = c }
  run_ended zero k c e l = absurd (omega arith)
  run_ended (suc n) k c e l = rw (e, C.run)

  -- it goes on
  pub run_goes : (n k : ℕ) (c d : C.Config) → C.next h procs c ≡ C.goes d → 0 < n → C.run h procs n k c ≡ C.run h procs (n - 1) (k + 1) d
  run_goes zero k c d e l = absurd (omega arith)
  run_goes (suc n) k c d e l =
      let less : suc n - 1 ≡ n = omega arith in
      let more : k + 1 ≡ suc k = omega arith in
      rw (less, more) (rw (e, C.run))

-- ---- a step that blocks

-- what asks something is a step of figure 1
one_acts : (h : ℕ) (procs : List (Proc Plain)) (m : ℕ) (ρ : Env) (i : Instr Plain) (b : Block Plain) (s : Stack Plain) (η : Memory)
    (ts : List ℕ) (t : ℕ) (evs : List Event) {a : Act} → act_of i ≡ is a
    → C.one h procs m ρ i b s η ts t evs ≡ C.moved h ts t evs (F.instr procs t m m ρ tt i b s η)
one_acts h procs m ρ (assign x e) b s η ts t evs q = refl
one_acts h procs m ρ (write y o e) b s η ts t evs q = refl
one_acts h procs m ρ (read x y o) b s η ts t evs q = refl
one_acts h procs m ρ (while e w) b s η ts t evs q = refl
one_acts h procs m ρ (if e w n) b s η ts t evs q = refl
one_acts h procs m ρ (call n es) b s η ts t evs q = refl
one_acts h procs m ρ (atomic w) b s η ts t evs q = missing q
one_acts h procs m ρ (select x y) b s η ts t evs q = missing q

-- a return does not block
return_goes : {G : Type 0} {y : Reason} → Return ≡ Blocked y → G
return_goes e = let z : ◌≡◌ {A = ℕ} 0 1 = cc in absurd (omega arith)

-- "a missing value, a wrong kind or an index outside the size blocks"
pub next_blocked : (h : ℕ) {p : Program Plain} {c : C.Config} {f : Frame Plain} {s : Stack Plain} {k : ℕ} {x : Step} {y : Reason} → c.stack ≡ f ∷ s
    → Decision p c f k x → x ≡ Blocked y → C.next h p.procs c ≡ C.ended (blocked y)
next_blocked h e (leaves q w) z = return_goes (sym w ∙ z)
next_blocked h {p} {c} {f} {s} {k} {y = y} e (acts i d r a o q w u) z =
    let b : Block Plain = d ⊕ r in
    let none : F.instr p.procs c.last f.proc f.proc f.env tt i b s c.memory ≡ lacks y =
    does p.procs c.last f.proc f.proc f.env tt b s c.memory i (act_end k i) a w
    ∙ ap (carried p.procs c.last f.proc f.proc f.env tt i b s c.memory) (sym u ∙ z)
    in
    rw (e, q)
    (one_acts h p.procs f.proc f.env i b s c.memory c.todo c.last c.events w
    ∙ ap (C.moved h c.todo c.last c.events) none)
next_blocked h {p} {c} {f} {s} {k} e (selects a b t ts d r o q w u) z =
    rw (e, q, w)
    (Deciding.selects a b c.memory (record { proc = f.proc; env = f.env; code = d ⊕ r }) s t ts c.events (act_end {A = Plain} k (select a b))
    ∙ ap (selected_by a c.memory (record { proc = f.proc; env = f.env; code = d ⊕ r }) s ts c.events) (sym u ∙ z))

-- Both machines keep the shape of memory: the size of each location.
use Rattle.std.specs.Prelude.{ℕ, zero, suc, ◌≡◌, refl, List, [], ◌∷◌, ◌++◌, false, pos}
use Rattle.std.proofs.Common.{sym, ◌∙◌, ap}
use Rattle.value.specs.Try.{Try, has, lacks, or_lacks}
use Rattle.value.specs.declared.Reason.TheVariants.{FinishedThread}
use Rattle.value.specs.Lists.{at}
use Rattle.value.specs.declared.Value.TheVariants.{Whole}
use Rattle.value.proofs.Laws.Tries.{has_inj, lacking, chain_has}
use Rattle.value.proofs.Laws.Tests.{by_test}
use Rattle.format.specs.Syntax.{Instr, assign, write, read, while, if, call, atomic, select, Block, end, step, Proc, Program, Plain}
use Rattle.semantics.specs.Memory.{Env, Memory, Event}
use Rattle.semantics.specs.Step.{Stack, Moved, instr}
use Rattle.semantics.specs.Threads as P
use Rattle.semantics.specs.Copy as C
use Rattle.semantics.proofs.Laws.Cells.{shape, shape_stored}
use Rattle.semantics.proofs.Laws.Figure1.{Rule, assigns, writes, reads, while_true, while_false, if_true, if_false, calls, rules_exactly}
use Rattle.semantics.proofs.Laws.Figure1.{Figure1, by_rule, returns}
use Rattle.semantics.proofs.Laws.Figure2.{finished_blocks}
use Rattle.semantics.proofs.Laws.Judged.{Goes, by_figure, selects, goes_exactly, then_ends, then_goes}
use Rattle.semantics.proofs.Laws.Ends.{finished_run, used_run, blocked_run, step_run}

-- ---- figure 1

module _ {A : Type 0} (procs : List (Proc A)) (t j : ℕ) where
  -- a rule keeps the shape
  rule_shape : {m : ℕ} {ρ : Env} {a : A} {c : Block A} {s : Stack A} {η : Memory} {i : Instr A} {r : Moved A} → Rule procs t j m ρ a c s η i r
      → shape r.memory ≡ shape η
  rule_shape (assigns e) = refl
  rule_shape {η = η} (writes {v = v} {i = i} {l = l} e o y n h) = shape_stored η l i v
  rule_shape (reads o y v) = refl
  rule_shape (while_true e) = refl
  rule_shape (while_false e) = refl
  rule_shape (if_true e) = refl
  rule_shape (if_false e) = refl
  rule_shape (calls p h free) = refl

  -- so does an instruction
  instr_shape : (m : ℕ) (ρ : Env) (a : A) (c : Block A) (s : Stack A) (η : Memory) (i : Instr A) (r : Moved A) → instr procs t j m ρ a i c s η ≡ has r
      → shape r.memory ≡ shape η
  instr_shape m ρ a c s η i r p = rule_shape ((rules_exactly procs t j m ρ a c s η i r).0 p)

  -- and a step of a stack
  figure_shape : {s : Stack A} {η : Memory} {r : Moved A} → Figure1 procs t j s η r → shape r.memory ≡ shape η
  figure_shape (by_rule h) = rule_shape h
  figure_shape returns = refl

-- ---- the concurrent machine

module _ (procs : List (Proc ℕ)) (t j : ℕ) where
  -- a whole atomic block
  to_end_shape : (n : ℕ) (z : Stack ℕ) (η : Memory) (evs : List Event) (r : P.Atomic) → P.to_end procs t j n z η evs ≡ has r → shape r.memory ≡ shape η
  to_end_shape zero [] η evs r p = lacking p
  to_end_shape zero (f ∷ s) η evs r p = by f.code p
    where
      by : (c : Block ℕ) → P.to_end procs t j zero (record { proc = f.proc; env = f.env; code = c } ∷ s) η evs ≡ has r → shape r.memory ≡ shape η
      by end p = rw (← has_inj p) refl
      by (step a i c) p = lacking p
  to_end_shape (suc n) [] η evs r p = lacking p
  to_end_shape (suc n) (f ∷ s) η evs r p = by (to_end_shape n) f.code p
    where
      by : ((z : Stack ℕ) (η : Memory) (evs : List Event) (r : P.Atomic) → P.to_end procs t j n z η evs ≡ has r → shape r.memory ≡ shape η)
          → (c : Block ℕ) → P.to_end procs t j (suc n) (record { proc = f.proc; env = f.env; code = c } ∷ s) η evs ≡ has r
          → shape r.memory ≡ shape η
      by ih end p = rw (← has_inj p) refl
      by ih (step a i c) p =
          let b = chain_has (instr procs t j f.proc f.env a i c s η) _ p in
          ih b.0.stack b.0.memory (evs ++ b.0.events) r b.2 ∙ instr_shape procs t j f.proc f.env a c s η i b.0 b.1

module _ (procs : List (Proc ℕ)) (t : ℕ) where
  -- a step of a thread
  pub thread_shape : (s : Stack ℕ) (η : Memory) (r : Moved ℕ) → P.thread procs t s η ≡ has r → shape r.memory ≡ shape η
  thread_shape [] η r p = lacking (sym (finished_blocks procs t η) ∙ p)
  thread_shape (f ∷ s) η r p = by f.code p
    where
      by : (c : Block ℕ) → P.code procs t c f.proc f.env s η ≡ has r → shape r.memory ≡ shape η
      by end p = rw (← has_inj p) refl
      by (step a (assign x e) c) p = instr_shape procs t a f.proc f.env a c s η (assign x e) r p
      by (step a (write y o e) c) p = instr_shape procs t a f.proc f.env a c s η (write y o e) r p
      by (step a (read x y o) c) p = instr_shape procs t a f.proc f.env a c s η (read x y o) r p
      by (step a (while e b) c) p = instr_shape procs t a f.proc f.env a c s η (while e b) r p
      by (step a (if e b d) c) p = instr_shape procs t a f.proc f.env a c s η (if e b d) r p
      by (step a (call q es) c) p = instr_shape procs t a f.proc f.env a c s η (call q es) r p
      by (step a (atomic b) c) p =
          let u = chain_has (P.to_end procs t a (P.size b) (record { proc = f.proc; env = f.env; code = b } ∷ []) η []) _ p in
          rw (← has_inj u.2) (to_end_shape procs t a (P.size b) (record { proc = f.proc; env = f.env; code = b } ∷ []) η [] u.0 u.1)
      by (step a (select x y) c) p = lacking p

-- a run keeps the shape
pub run_shape : (p : Program ℕ) (ts : List ℕ) (st : P.State) (k : ℕ) (evs : List Event)
    → shape (P.run p ts st k evs).state.memory ≡ shape st.memory
run_shape p [] st k evs = by_test (P.done st.threads) (λ e. rw (finished_run p [] st k evs e) refl) (λ e. rw (used_run p st k evs e) refl)
run_shape p (t ∷ ts) st k evs =
    by_test (P.done st.threads) (λ e. rw (finished_run p (t ∷ ts) st k evs e) refl) (λ e. by (run_shape p ts) e (P.thread_step p t st) refl)
  where
    by : ((st : P.State) (k : ℕ) (evs : List Event) → shape (P.run p ts st k evs).state.memory ≡ shape st.memory) → P.done st.threads ≡ false
        → (r : Try P.Step) → P.thread_step p t st ≡ r → shape (P.run p (t ∷ ts) st k evs).state.memory ≡ shape st.memory
    by ih e (lacks r) q = rw (blocked_run p t ts st k evs e q) refl
    by ih e (has r) q =
        let b = chain_has (or_lacks FinishedThread (at st.threads t)) _ q in
        let d = chain_has (P.thread p.procs t b.0 st.memory) _ b.2 in
        let same : r.state.memory ≡ d.0.memory = ap (λ (r : P.Step). r.state.memory) (sym (has_inj d.2)) in
        rw (step_run p t ts st k evs r e q)
        (ih r.state (suc k) (evs ++ r.events) ∙ rw same (thread_shape p.procs t b.0 st.memory d.0 d.1))

-- ---- the sequential machine

module _ (h : ℕ) (procs : List (Proc Plain)) where
  -- a step keeps the shape
  step_shape : (c : C.Config) {d : C.Config} → Goes h procs c d → shape d.memory ≡ shape c.memory
  step_shape c (by_figure f) = figure_shape procs c.last _ f
  step_shape c (selects {a = a} {t = t} e f r) = shape_stored c.memory a 0 (Whole (pos t))

  -- a run keeps the shape
  pub copy_shape : (n k : ℕ) (c : C.Config) → shape (C.run h procs n k c).config.memory ≡ shape c.memory
  copy_shape zero k c = refl
  copy_shape (suc n) k c = by (copy_shape n) (C.next h procs c) refl
    where
      by : ((k : ℕ) (c : C.Config) → shape (C.run h procs n k c).config.memory ≡ shape c.memory)
          → (x : C.Next) → C.next h procs c ≡ x → shape (C.run h procs (suc n) k c).config.memory ≡ shape c.memory
      by ih (C.ended how) e = rw (then_ends h procs c n k e) refl
      by ih (C.goes d) e = rw (then_goes h procs c n k e) (ih (suc k) d ∙ step_shape c ((goes_exactly h procs c d).0 e))

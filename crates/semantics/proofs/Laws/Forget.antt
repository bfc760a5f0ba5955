-- Forgetting the reason gives back the machines that document 01 has, over today's evaluator: the same steps and runs, and ends that differ in the
-- reason alone. That evaluator is document 01's but for `and` (request #103): Kept says where.
use Rattle.std.specs.Prelude.{ℕ, zero, suc, ◌≡◌, refl, List, [], ◌∷◌, ◌++◌, false, pos, negsuc, eqb}
use Rattle.std.proofs.Common.{sym, ap, ◌∙◌}
use Rattle.std.proofs.Math.Bool as B
use Rattle.value.specs.Maybe.{Maybe, is, nothing, ◌>>=◌, either}
use Rattle.value.specs.Try.{Try, has, lacks, ◌⟫◌, or_lacks}
use Rattle.value.specs.Lists.{at}
use Rattle.value.specs.Values.{number, place, truth}
use Rattle.value.specs.declared.Value.{Value}
use Rattle.value.specs.declared.Value.TheVariants.{Whole, Location, Truth}
use Rattle.value.specs.declared.Reason.{Reason}
use Rattle.value.specs.declared.Reason.TheVariants.{WrongKind, IndexOutside, FinishedThread}
use Rattle.value.proofs.Laws.Tries.{forget, forget_chain}
use Rattle.value.proofs.Laws.Tests.{by_test}
use Rattle.value.proofs.Laws.Forget.{forget_provided, forget_or_lacks, forget_place, forget_truth}
use Rattle.value.proofs.Laws.Bare as BareValues
use Rattle.format.specs.Syntax.{Expr, local, Instr, assign, write, read, while, if, call, atomic, select, Block, end, step, Proc}
use Rattle.format.specs.Syntax.{Program, Plain}
use Rattle.semantics.specs.Memory.{Env, lookup, eval, evals, index, Memory, cell, Event}
use Rattle.semantics.specs.Step.{Frame, Stack, Moved, runs, instr}
use Rattle.semantics.specs.Threads.{State, done, size, to_end, first_instr, code, thread, thread_step, End, finished, used, spent, blocked}
use Rattle.semantics.specs.Threads as P
use Rattle.semantics.specs.Copy as C
use Rattle.semantics.proofs.Laws.Bare as Bare

-- ---- expressions

-- today's evaluator, without its reasons
abbrev pub now : Bare.Evaluator
now ρ e = forget (eval ρ e)

-- SEVERAL EXPRESSIONS
pub forget_evals : (ρ : Env) (es : List Expr) → forget (evals ρ es) ≡ Bare.evals now ρ es
forget_evals ρ [] = refl
forget_evals ρ (e ∷ es) =
    forget_chain (eval ρ e) _ (now ρ e) _ refl (λ v.
    forget_chain (evals ρ es) _ (Bare.evals now ρ es) _ (forget_evals ρ es) (λ vs. refl))

-- a test
forget_test : (ρ : Env) (e : Expr) → forget (eval ρ e ⟫ truth) ≡ (now ρ e >>= BareValues.truth)
forget_test ρ e = forget_chain (eval ρ e) _ (now ρ e) _ refl forget_truth

-- what goes on to a reason, wherever it goes, is nothing
forget_lacks : {A B : Type 0} (x : Try A) {f : A → Try B} {r : Reason} → ((a : A) → f a ≡ lacks r) → forget (x ⟫ f) ≡ nothing
forget_lacks (has a) h = rw (h a)
forget_lacks (lacks q) h = refl

-- a cell
forget_cell : (η : Memory) (l i : ℕ) → forget (cell η l i) ≡ Bare.cell η l i
forget_cell η l i = forget_or_lacks IndexOutside (at η l >>= λ row. at row i)

-- ---- instructions

module _ (ρ : Env) (η : Memory) (y : ℕ) (o : Expr) where
  -- a pointer
  forget_pointer : forget (eval ρ (local y) ⟫ place) ≡ (lookup ρ y >>= BareValues.place)
  forget_pointer = forget_chain (eval ρ (local y)) _ (lookup ρ y) _ (forget_or_lacks WrongKind (lookup ρ y)) forget_place

  -- what is made of the cell y[o]: document 01 asks for the index before the pointer, which is seen in the reason alone
  forget_reached : {B : Type 0} (f : ℕ → ℕ → Value → B)
      → forget (eval ρ o ⟫ number ⟫ λ z. eval ρ (local y) ⟫ place ⟫ λ l. index z ⟫ λ i. cell η l i ⟫ λ v. has (f l i v))
      ≡ (now ρ o >>= Bare.index >>= λ i. lookup ρ y >>= BareValues.place >>= λ l. Bare.cell η l i >>= λ v. is (f l i v))
  forget_reached f = on (eval ρ o) (now ρ o) refl
    where
      on : (x : Try Value) (m : Maybe Value) → forget x ≡ m
          → forget (x ⟫ number ⟫ λ z. eval ρ (local y) ⟫ place ⟫ λ l. index z ⟫ λ i. cell η l i ⟫ λ v. has (f l i v))
          ≡ (m >>= Bare.index >>= λ i. lookup ρ y >>= BareValues.place >>= λ l. Bare.cell η l i >>= λ v. is (f l i v))
      on (lacks r) m e = rw (← e) refl
      on (has (Whole (pos i))) m e = rw (← e)
          (forget_chain (eval ρ (local y) ⟫ place) _ (lookup ρ y >>= BareValues.place) _ forget_pointer (λ l.
          forget_chain (cell η l i) _ (Bare.cell η l i) _ (forget_cell η l i) (λ v. refl)))
      on (has (Whole (negsuc n))) m e = rw (← e) (forget_lacks (eval ρ (local y) ⟫ place) (λ l. refl))
      on (has (Location l)) m e = rw (← e) refl
      on (has (Truth b)) m e = rw (← e) refl

module _ {A : Type 0} (procs : List (Proc A)) (t j : ℕ) where
  -- AN INSTRUCTION, WITHOUT ITS REASON
  pub forget_instr : (m : ℕ) (ρ : Env) (a : A) (i : Instr A) (c : Block A) (s : Stack A) (η : Memory)
      → forget (instr procs t j m ρ a i c s η) ≡ Bare.instr now procs t j m ρ a i c s η
  forget_instr m ρ a (assign x e) c s η = forget_chain (eval ρ e) _ (now ρ e) _ refl (λ v. refl)
  forget_instr m ρ a (write y o e) c s η =
      forget_chain (eval ρ e) _ (now ρ e) _ refl (λ v. forget_reached ρ η y o _)
  forget_instr m ρ a (read x y o) c s η = forget_reached ρ η y o _
  forget_instr m ρ a (while e b) c s η =
      forget_chain (eval ρ e ⟫ truth) _ (now ρ e >>= BareValues.truth) _ (forget_test ρ e) (λ q. refl)
  forget_instr m ρ a (if e b d) c s η =
      forget_chain (eval ρ e ⟫ truth) _ (now ρ e >>= BareValues.truth) _ (forget_test ρ e) (λ q. refl)
  forget_instr m ρ a (call n es) c s η =
      forget_chain (evals ρ es) _ (Bare.evals now ρ es) _ (forget_evals ρ es) (λ vs.
      forget_chain (or_lacks WrongKind (at procs n)) _ (at procs n) _ (forget_or_lacks WrongKind (at procs n)) (λ p.
      forget_provided (B.not (either (eqb n m) (runs n s))) WrongKind _))
  forget_instr m ρ a (atomic b) c s η = refl
  forget_instr m ρ a (select x y) c s η = refl

-- ---- the concurrent machine

module _ (procs : List (Proc ℕ)) (t j : ℕ) where
  -- an atomic block
  forget_to_end : (n : ℕ) (z : Stack ℕ) (η : Memory) (evs : List Event) → forget (to_end procs t j n z η evs) ≡ Bare.to_end now procs t j n z η evs
  forget_to_end zero [] η evs = refl
  forget_to_end zero (f ∷ s) η evs = by f.code
    where
      by : (c : Block ℕ)
          → forget (to_end procs t j zero (record { proc = f.proc; env = f.env; code = c } ∷ s) η evs)
          ≡ Bare.to_end now procs t j zero (record { proc = f.proc; env = f.env; code = c } ∷ s) η evs
      by end = refl
      by (step a i c) = refl
  forget_to_end (suc n) [] η evs = refl
  forget_to_end (suc n) (f ∷ s) η evs = by (forget_to_end n) f.code
    where
      by : ((z : Stack ℕ) (η : Memory) (evs : List Event) → forget (to_end procs t j n z η evs) ≡ Bare.to_end now procs t j n z η evs) → (c : Block ℕ)
          → forget (to_end procs t j (suc n) (record { proc = f.proc; env = f.env; code = c } ∷ s) η evs)
          ≡ Bare.to_end now procs t j (suc n) (record { proc = f.proc; env = f.env; code = c } ∷ s) η evs
      by ih end = refl
      by ih (step a i c) =
          forget_chain (instr procs t j f.proc f.env a i c s η) _ (Bare.instr now procs t j f.proc f.env a i c s η) _
          (forget_instr procs t j f.proc f.env a i c s η) (λ r. ih r.stack r.memory (evs ++ r.events))

module _ (procs : List (Proc ℕ)) (t : ℕ) where
  -- a thread's first instruction
  forget_first : (m : ℕ) (ρ : Env) (a : ℕ) (i : Instr ℕ) (c : Block ℕ) (s : Stack ℕ) (η : Memory)
      → forget (first_instr procs t m ρ a i c s η) ≡ Bare.first_instr now procs t m ρ a i c s η
  forget_first m ρ a (assign x e) c s η = forget_instr procs t a m ρ a (assign x e) c s η
  forget_first m ρ a (write y o e) c s η = forget_instr procs t a m ρ a (write y o e) c s η
  forget_first m ρ a (read x y o) c s η = forget_instr procs t a m ρ a (read x y o) c s η
  forget_first m ρ a (while e b) c s η = forget_instr procs t a m ρ a (while e b) c s η
  forget_first m ρ a (if e b d) c s η = forget_instr procs t a m ρ a (if e b d) c s η
  forget_first m ρ a (call n es) c s η = forget_instr procs t a m ρ a (call n es) c s η
  forget_first m ρ a (atomic b) c s η =
      let f : Frame ℕ = record { proc = m; env = ρ; code = b } in
      forget_chain (to_end procs t a (size b) (f ∷ []) η []) _ (Bare.to_end now procs t a (size b) (f ∷ []) η []) _
      (forget_to_end procs t a (size b) (f ∷ []) η []) (λ r. refl)
  forget_first m ρ a (select x y) c s η = refl

  -- A STEP OF A THREAD, WITHOUT ITS REASON
  pub forget_thread : (s : Stack ℕ) (η : Memory) → forget (thread procs t s η) ≡ Bare.thread now procs t s η
  forget_thread [] η = refl
  forget_thread (f ∷ s) η = by f.code
    where
      by : (c : Block ℕ) → forget (code procs t c f.proc f.env s η) ≡ Bare.code now procs t c f.proc f.env s η
      by end = refl
      by (step a i c) = forget_first f.proc f.env a i c s η

-- OF THE THREAD THAT IS CHOSEN
pub forget_step : (p : Program ℕ) (t : ℕ) (σ : State) → forget (thread_step p t σ) ≡ Bare.thread_step now p t σ
forget_step p t σ =
    forget_chain (or_lacks FinishedThread (at σ.threads t)) _ (at σ.threads t) _ (forget_or_lacks FinishedThread (at σ.threads t)) (λ s.
    forget_chain (thread p.procs t s σ.memory) _ (Bare.thread now p.procs t s σ.memory) _
    (forget_thread p.procs t s σ.memory) (λ r. refl))

-- an end, without its reason
abbrev pub bare_end : End → Bare.End
bare_end finished = Bare.finished
bare_end used = Bare.used
bare_end spent = Bare.spent
bare_end (blocked r) = Bare.blocked

-- a run, without the reason of its end
abbrev pub bare_ran : P.Ran → Bare.Ran
bare_ran r = record { how = bare_end r.how; steps = r.steps; unused = r.unused; state = r.state; events = r.events }

-- THE CONCURRENT RUN, WITHOUT ITS REASON: the same steps, unused entries, state and events
pub forget_run : (p : Program ℕ) (ts : List ℕ) (σ : State) (k : ℕ) (evs : List Event) → bare_ran (P.run p ts σ k evs) ≡ Bare.run now p ts σ k evs
forget_run p [] σ k evs =
    by_test (done σ.threads) (λ e. rw (e, P.run, Bare.run)) (λ e. rw (e, P.run, Bare.run))
forget_run p (t ∷ ts) σ k evs =
    by_test (done σ.threads) (λ e. rw (e, P.run, Bare.run)) (λ e. on (forget_run p ts) e (thread_step p t σ) refl)
  where
    on : ((σ : State) (k : ℕ) (evs : List Event) → bare_ran (P.run p ts σ k evs) ≡ Bare.run now p ts σ k evs) → done σ.threads ≡ false
        → (x : Try P.Step) → thread_step p t σ ≡ x → bare_ran (P.run p (t ∷ ts) σ k evs) ≡ Bare.run now p (t ∷ ts) σ k evs
    on ih e (lacks r) f =
        let none : Bare.thread_step now p t σ ≡ nothing = sym (forget_step p t σ) ∙ ap forget f in
        rw (e, f, none, P.run, Bare.run)
    on ih e (has r) f =
        let same : Bare.thread_step now p t σ ≡ is r = sym (forget_step p t σ) ∙ ap forget f in
        rw (e, f, same, P.run, Bare.run) (ih r.state (suc k) (evs ++ r.events))

-- ---- the sequential machine

-- what comes next, without its reason
abbrev pub bare_next : C.Next → Bare.Next
bare_next (C.ended how) = Bare.ended (bare_end how)
bare_next (C.goes c) = Bare.goes c

module _ (h : ℕ) (procs : List (Proc Plain)) where
  -- a step of figure 1
  forget_moved : (m : ℕ) (ρ : Env) (i : Instr Plain) (c : Block Plain) (s : Stack Plain) (η : Memory) (ts : List ℕ) (t : ℕ) (evs : List Event)
      → bare_next (C.moved h ts t evs (instr procs t m m ρ tt i c s η)) ≡ Bare.moved h ts t evs (Bare.instr now procs t m m ρ tt i c s η)
  forget_moved m ρ i c s η ts t evs = on (instr procs t m m ρ tt i c s η) (Bare.instr now procs t m m ρ tt i c s η) (forget_instr procs t m m ρ tt i c s η)
    where
      on : (x : Try (Moved Plain)) (y : Maybe (Moved Plain)) → forget x ≡ y → bare_next (C.moved h ts t evs x) ≡ Bare.moved h ts t evs y
      on (has r) y e = rw (← e) refl
      on (lacks r) y e = rw (← e) refl

  -- select
  forget_selected : (a : ℕ) (η : Memory) (f : Frame Plain) (s : Stack Plain) (t : ℕ) (ts : List ℕ) (evs : List Event)
      (x : Try Value) (y : Maybe Value) → forget x ≡ y → bare_next (C.selected a η f s t ts evs (x ⟫ C.running)) ≡ Bare.selected a η f s t ts evs y
  forget_selected a η f s t ts evs (lacks r) y e = rw (← e) refl
  forget_selected a η f s t ts evs (has (Whole (pos zero))) y e = rw (← e) refl
  forget_selected a η f s t ts evs (has (Whole (pos (suc n)))) y e = rw (← e) refl
  forget_selected a η f s t ts evs (has (Whole (negsuc n))) y e = rw (← e) refl
  forget_selected a η f s t ts evs (has (Location l)) y e = rw (← e) refl
  forget_selected a η f s t ts evs (has (Truth b)) y e = rw (← e) refl

  -- an instruction
  forget_copy_one : (m : ℕ) (ρ : Env) (i : Instr Plain) (c : Block Plain) (s : Stack Plain) (η : Memory) (ts : List ℕ) (t : ℕ) (evs : List Event)
      → bare_next (C.one h procs m ρ i c s η ts t evs) ≡ Bare.copy_one now h procs m ρ i c s η ts t evs
  forget_copy_one m ρ (assign x e) c s η ts t evs = forget_moved m ρ (assign x e) c s η ts t evs
  forget_copy_one m ρ (write y o e) c s η ts t evs = forget_moved m ρ (write y o e) c s η ts t evs
  forget_copy_one m ρ (read x y o) c s η ts t evs = forget_moved m ρ (read x y o) c s η ts t evs
  forget_copy_one m ρ (while e b) c s η ts t evs = forget_moved m ρ (while e b) c s η ts t evs
  forget_copy_one m ρ (if e b d) c s η ts t evs = forget_moved m ρ (if e b d) c s η ts t evs
  forget_copy_one m ρ (call n es) c s η ts t evs = forget_moved m ρ (call n es) c s η ts t evs
  forget_copy_one m ρ (atomic b) c s η ts t evs = refl
  forget_copy_one m ρ (select a b) c s η [] t evs = refl
  forget_copy_one m ρ (select a b) c s η (u ∷ ts) t evs =
      forget_selected a η (record { proc = m; env = ρ; code = c }) s u ts evs (cell η b u) (Bare.cell η b u) (forget_cell η b u)

  -- A STEP OF THE SEQUENTIAL MACHINE, OR ITS END, WITHOUT THE REASON
  pub forget_next : (c : C.Config) → bare_next (C.next h procs c) ≡ Bare.next now h procs c
  forget_next c = on c.stack
    where
      by : (b : Block Plain) (m : ℕ) (ρ : Env) (s : Stack Plain)
          → bare_next (C.code h procs b m ρ s c.memory c.todo c.last c.events)
          ≡ Bare.copy_code now h procs b m ρ s c.memory c.todo c.last c.events
      by end m ρ s = refl
      by (step a i k) m ρ s = forget_copy_one m ρ i k s c.memory c.todo c.last c.events

      on : (s : Stack Plain)
          → bare_next (C.stack h procs s c.memory c.todo c.last c.events)
          ≡ Bare.stack now h procs s c.memory c.todo c.last c.events
      on [] = refl
      on (f ∷ s) = by f.code f.proc f.env s

  -- a run, without the reason of its end
  abbrev pub bare_copy : C.Ran → Bare.CopyRan
  bare_copy r = record { how = bare_end r.how; steps = r.steps; config = r.config }

  -- THE SEQUENTIAL RUN, WITHOUT ITS REASON: the same steps, memory, entries and events
  pub forget_copy : (n k : ℕ) (c : C.Config) → bare_copy (C.run h procs n k c) ≡ Bare.copy_run now h procs n k c
  forget_copy zero k c = on (C.next h procs c) refl
    where
      budget : (x : C.Next) → bare_end (C.at_budget x) ≡ Bare.at_budget (bare_next x)
      budget (C.ended finished) = refl
      budget (C.ended used) = refl
      budget (C.ended spent) = refl
      budget (C.ended (blocked r)) = refl
      budget (C.goes d) = refl

      on : (x : C.Next) → C.next h procs c ≡ x → bare_copy (C.run h procs zero k c) ≡ Bare.copy_run now h procs zero k c
      on x e = rw (e, ← forget_next c, e) (ap (λ (q : Bare.End). record { how = q; steps = k; config = c }) (budget x))
  forget_copy (suc n) k c = on (forget_copy n) (C.next h procs c) refl
    where
      on : ((k : ℕ) (c : C.Config) → bare_copy (C.run h procs n k c) ≡ Bare.copy_run now h procs n k c) → (x : C.Next) → C.next h procs c ≡ x
          → bare_copy (C.run h procs (suc n) k c) ≡ Bare.copy_run now h procs (suc n) k c
      on ih (C.ended how) e =
          let same : Bare.next now h procs c ≡ Bare.ended (bare_end how) = sym (forget_next c) ∙ ap bare_next e in
          rw (e, same, C.run, Bare.copy_run)
      on ih (C.goes d) e =
          let same : Bare.next now h procs c ≡ Bare.goes d = sym (forget_next c) ∙ ap bare_next e in
          rw (e, same, C.run, Bare.copy_run) (ih (suc k) d)

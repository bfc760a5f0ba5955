-- Request #103 beside document 01's "and (both sides are evaluated)": what had a value has it still, an expression differs only at an `and` that is cut
-- short, and a run that did not block is the same run.
use Rattle.std.specs.Prelude.{ℕ, zero, suc, ◌≡◌, refl, List, [], ◌∷◌, ◌++◌, Bool, false}
use Rattle.std.proofs.Common.{arith, sym, ap, ◌∙◌}
use Rattle.value.specs.Maybe.{Maybe, is, nothing, ◌>>=◌}
use Rattle.value.specs.Try.{Try, has, lacks}
use Rattle.value.specs.Lists.{at}
use Rattle.value.specs.Values.{One, Two, and, apply₁, apply₂}
use Rattle.value.specs.declared.Value.{Value}
use Rattle.value.specs.declared.Value.TheVariants.{Whole, Location, Truth}
use Rattle.value.proofs.Laws.Maybes.{is_inj, missing, bind_is}
use Rattle.value.proofs.Laws.Tries.{forget, forget_is}
use Rattle.value.proofs.Laws.Tests.{by_test}
use Rattle.value.proofs.Laws.Forget.{forget_two, forget_one}
use Rattle.value.proofs.Laws.Bare as BareValues
use Rattle.format.specs.Syntax.{Expr, constant, local, one, two, Instr, assign, write, read, while, if, call, atomic, select, Block, end, step, Proc}
use Rattle.format.specs.Syntax.{Program, Plain}
use Rattle.semantics.specs.Memory.{Env, eval, Memory, Event}
use Rattle.semantics.specs.Step.{Frame, Stack, Moved}
use Rattle.semantics.specs.Threads.{State, done, size, Atomic, Step}
use Rattle.semantics.specs.Threads as P
use Rattle.semantics.specs.Copy.{Config}
use Rattle.semantics.specs.Copy as C
use Rattle.semantics.proofs.Laws.Figure1.{Has, itself, set, of_one, of_two, not_right, eval_exactly}
use Rattle.semantics.proofs.Laws.Bare as Bare
use Rattle.semantics.proofs.Laws.Forget.{now, bare_ran, forget_run, bare_copy, forget_copy}

-- ---- expressions

-- what has a value by document 01 has it
kept : (ρ : Env) (e : Expr) {v : Value} → Bare.eval ρ e ≡ is v → Has ρ e v
kept ρ (constant u) h = rw (is_inj h) itself
kept ρ (local x) h = set h
kept ρ (one o a) h =
    let p = bind_is (Bare.eval ρ a) _ h in
    of_one (kept ρ a p.1) (forget_is (apply₁ o p.0) (forget_one o p.0 ∙ p.2))
kept ρ (two o a b) h =
    let p = bind_is (Bare.eval ρ a) _ h in
    let q = bind_is (Bare.eval ρ b) _ p.2 in
    of_two (kept ρ a p.1) (kept ρ b q.1) (forget_is (apply₂ o p.0 q.0) (forget_two o p.0 q.0 ∙ q.2))

-- one evaluator has every value that another has
abbrev pub Extends : Bare.Evaluator → Bare.Evaluator → Type 0
Extends f g = (ρ : Env) (e : Expr) (v : Value) → f ρ e ≡ is v → g ρ e ≡ is v

-- EACH VALUE OF DOCUMENT 01 IS KEPT.
pub values_kept : Extends Bare.eval now
values_kept ρ e v h = ap forget ((eval_exactly ρ e v).1 (kept ρ e h))

-- an `and` is cut short: by document 01 its left side is false and its right side is no truth value
pub data Cut (ρ : Env) : Expr → Type 0 where
  here : {a b : Expr} → Bare.eval ρ a ≡ is (Truth false) → ((q : Bool) → Bare.eval ρ b ≡ is (Truth q) → ⊥) → Cut ρ (two and a b)
  inside : {o : One} {a : Expr} → Cut ρ a → Cut ρ (one o a)
  on_left : {o : Two} {a b : Expr} → Cut ρ a → Cut ρ (two o a b)
  on_right : {o : Two} {a b : Expr} → Cut ρ b → Cut ρ (two o a b)

-- a false left side, and nothing is cut short
was_false : (ρ : Env) (a b : Expr) → Bare.eval ρ a ≡ is (Truth false) → (Cut ρ (two and a b) → ⊥) → Bare.eval ρ (two and a b) ≡ is (Truth false)
was_false ρ a b l n = rw l (on (Bare.eval ρ b) refl)
  where
    on : (m : Maybe Value) → Bare.eval ρ b ≡ m → (m >>= λ v. BareValues.apply₂ and (Truth false) v) ≡ is (Truth false)
    on (is (Truth q)) e = refl
    on (is (Whole z)) e = absurd (n (here l (λ q f. let no : Whole z ≡ Truth q = cc in let k : ◌≡◌ {A = ℕ} 0 1 = cc in omega arith)))
    on (is (Location x)) e = absurd (n (here l (λ q f. let no : Location x ≡ Truth q = cc in let k : ◌≡◌ {A = ℕ} 0 1 = cc in omega arith)))
    on nothing e = absurd (n (here l (λ q f. missing (sym e ∙ f))))

-- a value was one by document 01, if nothing is cut short
was : {ρ : Env} {e : Expr} {v : Value} → Has ρ e v → (Cut ρ e → ⊥) → Bare.eval ρ e ≡ is v
was itself n = refl
was (set h) n = h
was (of_one {o = o} {u = u} h e) n = rw (was h (λ c. n (inside c))) (sym (forget_one o u) ∙ ap forget e)
was (of_two {o = o} {u = u} {w = w} h k e) n =
    rw (was h (λ c. n (on_left c)), was k (λ c. n (on_right c))) (sym (forget_two o u w) ∙ ap forget e)
was {ρ} (not_right {a = a} {b = b} h) n = was_false ρ a b (was h (λ c. n (on_left c))) n

-- AN EXPRESSION IS EVALUATED AS BY DOCUMENT 01, UNLESS AN `and` IN IT IS CUT SHORT.
pub values_same : (ρ : Env) (e : Expr) → (Cut ρ e → ⊥) → now ρ e ≡ Bare.eval ρ e
values_same ρ e n = on (eval ρ e) refl
  where
    none : (m : Maybe Value) → Bare.eval ρ e ≡ m → now ρ e ≡ nothing → nothing ≡ m
    none (is v) f g = missing (sym g ∙ values_kept ρ e v f)
    none nothing f g = refl

    on : (x : Try Value) → eval ρ e ≡ x → forget x ≡ Bare.eval ρ e
    on (has v) f = sym (was ((eval_exactly ρ e v).0 f) n)
    on (lacks r) f = none (Bare.eval ρ e) refl (ap forget f)

-- ---- steps, of an evaluator and of one that extends it

module _ (f g : Bare.Evaluator) (more : Extends f g) where
  -- several expressions
  evals_kept : (ρ : Env) (es : List Expr) {vs : List Value} → Bare.evals f ρ es ≡ is vs → Bare.evals g ρ es ≡ is vs
  evals_kept ρ [] h = h
  evals_kept ρ (e ∷ es) h =
      let p = bind_is (f ρ e) _ h in
      let q = bind_is (Bare.evals f ρ es) _ p.2 in
      rw (more ρ e p.0 p.1, evals_kept ρ es q.1) q.2

  -- an instruction
  instr_kept : {A : Type 0} (procs : List (Proc A)) (t j m : ℕ) (ρ : Env) (a : A) (i : Instr A) (c : Block A) (s : Stack A) (η : Memory) {r : Moved A}
      → Bare.instr f procs t j m ρ a i c s η ≡ is r → Bare.instr g procs t j m ρ a i c s η ≡ is r
  instr_kept procs t j m ρ a (assign x e) c s η h = let p = bind_is (f ρ e) _ h in rw (more ρ e p.0 p.1) p.2
  instr_kept procs t j m ρ a (write y o e) c s η h =
      let p = bind_is (f ρ e) _ h in
      let q = bind_is (f ρ o >>= Bare.index) _ p.2 in
      let w = bind_is (f ρ o) _ q.1 in
      rw (more ρ e p.0 p.1, more ρ o w.0 w.1, w.2) q.2
  instr_kept procs t j m ρ a (read x y o) c s η h =
      let q = bind_is (f ρ o >>= Bare.index) _ h in
      let w = bind_is (f ρ o) _ q.1 in
      rw (more ρ o w.0 w.1, w.2) q.2
  instr_kept procs t j m ρ a (while e b) c s η h =
      let q = bind_is (f ρ e >>= BareValues.truth) _ h in
      let w = bind_is (f ρ e) _ q.1 in
      rw (more ρ e w.0 w.1, w.2) q.2
  instr_kept procs t j m ρ a (if e b d) c s η h =
      let q = bind_is (f ρ e >>= BareValues.truth) _ h in
      let w = bind_is (f ρ e) _ q.1 in
      rw (more ρ e w.0 w.1, w.2) q.2
  instr_kept procs t j m ρ a (call n es) c s η h = let p = bind_is (Bare.evals f ρ es) _ h in rw (evals_kept ρ es p.1) p.2
  instr_kept procs t j m ρ a (atomic b) c s η h = missing h
  instr_kept procs t j m ρ a (select x y) c s η h = missing h

  -- ---- the concurrent machine

  module _ (procs : List (Proc ℕ)) (t j : ℕ) where
    -- an atomic block
    end_kept : (n : ℕ) (z : Stack ℕ) (η : Memory) (evs : List Event) {r : Atomic} → Bare.to_end f procs t j n z η evs ≡ is r
        → Bare.to_end g procs t j n z η evs ≡ is r
    end_kept zero [] η evs h = h
    end_kept zero (x ∷ s) η evs h = h
    end_kept (suc n) [] η evs h = h
    end_kept (suc n) (x ∷ s) η evs h = by (λ z η evs r h. end_kept n z η evs {r = r} h) x.code h
      where
        by : ((z : Stack ℕ) (η : Memory) (evs : List Event) (r : Atomic) → Bare.to_end f procs t j n z η evs ≡ is r → Bare.to_end g procs t j n z η evs ≡ is r)
            → (c : Block ℕ) {r : Atomic} → Bare.to_end f procs t j (suc n) (record { proc = x.proc; env = x.env; code = c } ∷ s) η evs ≡ is r
            → Bare.to_end g procs t j (suc n) (record { proc = x.proc; env = x.env; code = c } ∷ s) η evs ≡ is r
        by ih end h = h
        by ih (step a i c) h =
            let p = bind_is (Bare.instr f procs t j x.proc x.env a i c s η) _ h in
            rw (instr_kept procs t j x.proc x.env a i c s η p.1) (ih _ _ _ _ p.2)

  module _ (procs : List (Proc ℕ)) (t : ℕ) where
    -- a thread's first instruction
    first_kept : (m : ℕ) (ρ : Env) (a : ℕ) (i : Instr ℕ) (c : Block ℕ) (s : Stack ℕ) (η : Memory) {r : Moved ℕ}
        → Bare.first_instr f procs t m ρ a i c s η ≡ is r → Bare.first_instr g procs t m ρ a i c s η ≡ is r
    first_kept m ρ a (assign x e) c s η h = instr_kept procs t a m ρ a (assign x e) c s η h
    first_kept m ρ a (write y o e) c s η h = instr_kept procs t a m ρ a (write y o e) c s η h
    first_kept m ρ a (read x y o) c s η h = instr_kept procs t a m ρ a (read x y o) c s η h
    first_kept m ρ a (while e b) c s η h = instr_kept procs t a m ρ a (while e b) c s η h
    first_kept m ρ a (if e b d) c s η h = instr_kept procs t a m ρ a (if e b d) c s η h
    first_kept m ρ a (call n es) c s η h = instr_kept procs t a m ρ a (call n es) c s η h
    first_kept m ρ a (atomic b) c s η h =
        let x : Frame ℕ = record { proc = m; env = ρ; code = b } in
        let p = bind_is (Bare.to_end f procs t a (size b) (x ∷ []) η []) _ h in
        rw (end_kept procs t a (size b) (x ∷ []) η [] p.1) p.2
    first_kept m ρ a (select x y) c s η h = h

    -- a step of a thread
    thread_kept : (s : Stack ℕ) (η : Memory) {r : Moved ℕ} → Bare.thread f procs t s η ≡ is r → Bare.thread g procs t s η ≡ is r
    thread_kept [] η h = h
    thread_kept (x ∷ s) η h = by x.code h
      where
        by : (c : Block ℕ) {r : Moved ℕ} → Bare.code f procs t c x.proc x.env s η ≡ is r → Bare.code g procs t c x.proc x.env s η ≡ is r
        by end h = h
        by (step a i c) h = first_kept x.proc x.env a i c s η h

  -- of the thread that is chosen
  step_kept : (p : Program ℕ) (t : ℕ) (σ : State) {r : Step} → Bare.thread_step f p t σ ≡ is r → Bare.thread_step g p t σ ≡ is r
  step_kept p t σ h =
      let s = bind_is (at σ.threads t) _ h in
      let q = bind_is (Bare.thread f p.procs t s.0 σ.memory) _ s.2 in
      rw (s.1, thread_kept p.procs t s.0 σ.memory q.1) q.2

  -- a run that does not block
  run_kept : (p : Program ℕ) (ts : List ℕ) (σ : State) (k : ℕ) (evs : List Event) → ((Bare.run f p ts σ k evs).how ≡ Bare.blocked → ⊥)
      → Bare.run g p ts σ k evs ≡ Bare.run f p ts σ k evs
  run_kept p [] σ k evs n = refl
  run_kept p (t ∷ ts) σ k evs n =
      by_test (done σ.threads) (λ e. rw (e, Bare.run)) (λ e. on (run_kept p ts) e (Bare.thread_step f p t σ) refl n)
    where
      on : ((σ : State) (k : ℕ) (evs : List Event) → ((Bare.run f p ts σ k evs).how ≡ Bare.blocked → ⊥) → Bare.run g p ts σ k evs ≡ Bare.run f p ts σ k evs)
          → done σ.threads ≡ false → (x : Maybe Step) → Bare.thread_step f p t σ ≡ x → ((Bare.run f p (t ∷ ts) σ k evs).how ≡ Bare.blocked → ⊥)
          → Bare.run g p (t ∷ ts) σ k evs ≡ Bare.run f p (t ∷ ts) σ k evs
      on ih e nothing q n = absurd (n (rw (e, q, Bare.run)))
      on ih e (is r) q n =
          rw (e, q, step_kept p t σ q, Bare.run) (ih r.state (suc k) (evs ++ r.events) (λ b. n (rw (e, q, Bare.run) b)))

  -- ---- the sequential machine

  module _ (h : ℕ) (procs : List (Proc Plain)) where
    -- a step of figure 1
    moved_kept : (m : ℕ) (ρ : Env) (i : Instr Plain) (c : Block Plain) (s : Stack Plain) (η : Memory) (ts : List ℕ) (t : ℕ) (evs : List Event)
        → (Bare.moved h ts t evs (Bare.instr f procs t m m ρ tt i c s η) ≡ Bare.ended Bare.blocked → ⊥)
        → Bare.moved h ts t evs (Bare.instr g procs t m m ρ tt i c s η) ≡ Bare.moved h ts t evs (Bare.instr f procs t m m ρ tt i c s η)
    moved_kept m ρ i c s η ts t evs n = on (Bare.instr f procs t m m ρ tt i c s η) refl n
      where
        on : (x : Maybe (Moved Plain)) → Bare.instr f procs t m m ρ tt i c s η ≡ x → (Bare.moved h ts t evs x ≡ Bare.ended Bare.blocked → ⊥)
            → Bare.moved h ts t evs (Bare.instr g procs t m m ρ tt i c s η) ≡ Bare.moved h ts t evs (Bare.instr f procs t m m ρ tt i c s η)
        on nothing e n = absurd (n refl)
        on (is r) e n = rw (e, instr_kept procs t m m ρ tt i c s η e)

    -- an instruction
    one_kept : (m : ℕ) (ρ : Env) (i : Instr Plain) (c : Block Plain) (s : Stack Plain) (η : Memory) (ts : List ℕ) (t : ℕ) (evs : List Event)
        → (Bare.copy_one f h procs m ρ i c s η ts t evs ≡ Bare.ended Bare.blocked → ⊥)
        → Bare.copy_one g h procs m ρ i c s η ts t evs ≡ Bare.copy_one f h procs m ρ i c s η ts t evs
    one_kept m ρ (assign x e) c s η ts t evs n = moved_kept m ρ (assign x e) c s η ts t evs n
    one_kept m ρ (write y o e) c s η ts t evs n = moved_kept m ρ (write y o e) c s η ts t evs n
    one_kept m ρ (read x y o) c s η ts t evs n = moved_kept m ρ (read x y o) c s η ts t evs n
    one_kept m ρ (while e b) c s η ts t evs n = moved_kept m ρ (while e b) c s η ts t evs n
    one_kept m ρ (if e b d) c s η ts t evs n = moved_kept m ρ (if e b d) c s η ts t evs n
    one_kept m ρ (call k es) c s η ts t evs n = moved_kept m ρ (call k es) c s η ts t evs n
    one_kept m ρ (atomic b) c s η ts t evs n = refl
    one_kept m ρ (select a b) c s η ts t evs n = refl

    -- a step, or how the run ends
    next_kept : (c : Config) → (Bare.next f h procs c ≡ Bare.ended Bare.blocked → ⊥) → Bare.next g h procs c ≡ Bare.next f h procs c
    next_kept c n = on c.stack n
      where
        by : (b : Block Plain) (m : ℕ) (ρ : Env) (s : Stack Plain)
            → (Bare.copy_code f h procs b m ρ s c.memory c.todo c.last c.events ≡ Bare.ended Bare.blocked → ⊥)
            → Bare.copy_code g h procs b m ρ s c.memory c.todo c.last c.events
            ≡ Bare.copy_code f h procs b m ρ s c.memory c.todo c.last c.events
        by end m ρ s n = refl
        by (step a i k) m ρ s n = one_kept m ρ i k s c.memory c.todo c.last c.events n

        on : (s : Stack Plain) → (Bare.stack f h procs s c.memory c.todo c.last c.events ≡ Bare.ended Bare.blocked → ⊥)
            → Bare.stack g h procs s c.memory c.todo c.last c.events ≡ Bare.stack f h procs s c.memory c.todo c.last c.events
        on [] n = refl
        on (x ∷ s) n = by x.code x.proc x.env s n

    -- a step is at its budget if that is used up, whether it blocks or not
    both_budgets : (x y : Maybe (Moved Plain)) (ts : List ℕ) (t : ℕ) (evs : List Event)
        → Bare.at_budget (Bare.moved h ts t evs x) ≡ Bare.at_budget (Bare.moved h ts t evs y)
    both_budgets nothing nothing ts t evs = refl
    both_budgets nothing (is r) ts t evs = refl
    both_budgets (is r) nothing ts t evs = refl
    both_budgets (is q) (is r) ts t evs = refl

    -- so the evaluator does not matter there
    one_budget : (m : ℕ) (ρ : Env) (i : Instr Plain) (c : Block Plain) (s : Stack Plain) (η : Memory) (ts : List ℕ) (t : ℕ) (evs : List Event)
        → Bare.at_budget (Bare.copy_one g h procs m ρ i c s η ts t evs) ≡ Bare.at_budget (Bare.copy_one f h procs m ρ i c s η ts t evs)
    one_budget m ρ (assign x e) c s η ts t evs = both_budgets (Bare.instr g procs t m m ρ tt (assign x e) c s η) (Bare.instr f procs t m m ρ tt (assign x e) c s η) ts t evs
    one_budget m ρ (write y o e) c s η ts t evs = both_budgets (Bare.instr g procs t m m ρ tt (write y o e) c s η) (Bare.instr f procs t m m ρ tt (write y o e) c s η) ts t evs
    one_budget m ρ (read x y o) c s η ts t evs = both_budgets (Bare.instr g procs t m m ρ tt (read x y o) c s η) (Bare.instr f procs t m m ρ tt (read x y o) c s η) ts t evs
    one_budget m ρ (while e b) c s η ts t evs = both_budgets (Bare.instr g procs t m m ρ tt (while e b) c s η) (Bare.instr f procs t m m ρ tt (while e b) c s η) ts t evs
    one_budget m ρ (if e b d) c s η ts t evs = both_budgets (Bare.instr g procs t m m ρ tt (if e b d) c s η) (Bare.instr f procs t m m ρ tt (if e b d) c s η) ts t evs
    one_budget m ρ (call n es) c s η ts t evs = both_budgets (Bare.instr g procs t m m ρ tt (call n es) c s η) (Bare.instr f procs t m m ρ tt (call n es) c s η) ts t evs
    one_budget m ρ (atomic b) c s η ts t evs = refl
    one_budget m ρ (select a b) c s η ts t evs = refl

    -- how a run ends at its budget
    budget_kept : (c : Config) → Bare.at_budget (Bare.next g h procs c) ≡ Bare.at_budget (Bare.next f h procs c)
    budget_kept c = on c.stack
      where
        by : (b : Block Plain) (m : ℕ) (ρ : Env) (s : Stack Plain)
            → Bare.at_budget (Bare.copy_code g h procs b m ρ s c.memory c.todo c.last c.events)
            ≡ Bare.at_budget (Bare.copy_code f h procs b m ρ s c.memory c.todo c.last c.events)
        by end m ρ s = refl
        by (step a i k) m ρ s = one_budget m ρ i k s c.memory c.todo c.last c.events

        on : (s : Stack Plain) → Bare.at_budget (Bare.stack g h procs s c.memory c.todo c.last c.events)
            ≡ Bare.at_budget (Bare.stack f h procs s c.memory c.todo c.last c.events)
        on [] = refl
        on (x ∷ s) = by x.code x.proc x.env s

    -- a run that does not block
    copy_kept : (n k : ℕ) (c : Config) → ((Bare.copy_run f h procs n k c).how ≡ Bare.blocked → ⊥)
        → Bare.copy_run g h procs n k c ≡ Bare.copy_run f h procs n k c
    copy_kept zero k c u = ap (λ (q : Bare.End). record { how = q; steps = k; config = c }) (budget_kept c)
    copy_kept (suc n) k c u = on (copy_kept n) (next_kept c (λ b. u (rw (b, Bare.copy_run)))) (Bare.next f h procs c) refl u
      where
        on : ((k : ℕ) (c : Config) → ((Bare.copy_run f h procs n k c).how ≡ Bare.blocked → ⊥) → Bare.copy_run g h procs n k c ≡ Bare.copy_run f h procs n k c)
            → Bare.next g h procs c ≡ Bare.next f h procs c → (x : Bare.Next) → Bare.next f h procs c ≡ x
            → ((Bare.copy_run f h procs (suc n) k c).how ≡ Bare.blocked → ⊥) → Bare.copy_run g h procs (suc n) k c ≡ Bare.copy_run f h procs (suc n) k c
        on ih same (Bare.ended how) e u =
            let now : Bare.next g h procs c ≡ Bare.ended how = same ∙ e in
            rw (e, now, Bare.copy_run)
        on ih same (Bare.goes d) e u =
            let now : Bare.next g h procs c ≡ Bare.goes d = same ∙ e in
            rw (e, now, Bare.copy_run) (ih (suc k) d (λ b. u (rw (e, Bare.copy_run) b)))

-- ---- whole runs

-- A CONCURRENT RUN THAT DOES NOT BLOCK BY DOCUMENT 01 IS THE SAME RUN.
pub runs_kept : (p : Program ℕ) (ts : List ℕ) (σ : State) (k : ℕ) (evs : List Event) → ((Bare.run Bare.eval p ts σ k evs).how ≡ Bare.blocked → ⊥)
    → bare_ran (P.run p ts σ k evs) ≡ Bare.run Bare.eval p ts σ k evs
runs_kept p ts σ k evs n = forget_run p ts σ k evs ∙ run_kept Bare.eval now values_kept p ts σ k evs n

-- AND SO IS A SEQUENTIAL ONE.
pub copies_kept : (h : ℕ) (procs : List (Proc Plain)) (n k : ℕ) (c : Config) → ((Bare.copy_run Bare.eval h procs n k c).how ≡ Bare.blocked → ⊥)
    → bare_copy h procs (C.run h procs n k c) ≡ Bare.copy_run Bare.eval h procs n k c
copies_kept h procs n k c u = forget_copy h procs n k c ∙ copy_kept Bare.eval now values_kept h procs n k c u

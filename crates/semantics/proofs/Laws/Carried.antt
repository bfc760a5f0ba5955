-- Events carry their label: request #105.
use Rattle.std.specs.Prelude.{ℕ, ◌≡◌, refl, List, [], ◌∷◌, ◌++◌, ltb}
use Rattle.std.proofs.Common.{sym, ap, ◌∙◌, append-nil}
use Rattle.value.specs.Maybe.{is}
use Rattle.value.specs.Try.{has}
use Rattle.value.specs.Lists.{at}
use Rattle.value.proofs.Laws.Lists.{Each, each_append}
use Rattle.value.proofs.Laws.Tests.{by_test}
use Rattle.value.proofs.Laws.Maybes.{is_inj}
use Rattle.format.specs.Syntax.{Instr, atomic, Block, step, Proc, Program, Plain}
use Rattle.semantics.specs.Memory.{Env, Memory, Event}
use Rattle.semantics.specs.Step.{Stack, Moved}
use Rattle.semantics.specs.Threads.{State, Step, thread_step, label_of}
use Rattle.semantics.specs.Copy.{Config, goes, next}
use Rattle.semantics.proofs.Laws.Figure1.{Rule, assigns, writes, reads, while_true, while_false, if_true, if_false, calls}
use Rattle.semantics.proofs.Laws.Figure1.{context, Figure1, by_rule, returns}
use Rattle.semantics.proofs.Laws.Figure2.{Runs, stays, Allowed, Figure2, seq, whole, figure_2}
use Rattle.semantics.proofs.Laws.Figure2 as F
use Rattle.semantics.proofs.Laws.Judged.{below, Goes, by_figure, selects, procedure_of, goes_exactly}

-- an event of thread t at label j
pub record Of (t j : ℕ) (e : Event) : Type 0 where
  pub thread : e.thread ≡ t
  pub label : e.label ≡ j

module _ {A : Type 0} {procs : List (Proc A)} {t j : ℕ} where
  -- a rule of figure 1
  rule_of : {m : ℕ} {ρ : Env} {a : A} {c : Block A} {s : Stack A} {η : Memory} {i : Instr A} {r : Moved A} → Rule procs t j m ρ a c s η i r
      → Each (Of t j) r.events
  rule_of (assigns e) = tt
  rule_of (writes v o y n l) = (record { thread = refl; label = refl }, tt)
  rule_of (reads o y v) = (record { thread = refl; label = refl }, tt)
  rule_of (while_true e) = tt
  rule_of (while_false e) = tt
  rule_of (if_true e) = tt
  rule_of (if_false e) = tt
  rule_of (calls p h free) = tt

  -- a step of figure 1
  figure_of : {s : Stack A} {η : Memory} {r : Moved A} → Figure1 procs t j s η r → Each (Of t j) r.events
  figure_of (by_rule h) = rule_of h
  figure_of returns = tt

-- several steps
runs_of : {procs : List (Proc ℕ)} {t j : ℕ} {s s' : Stack ℕ} {η η' : Memory} {evs : List Event} → Runs procs t j s η s' η' evs → Each (Of t j) evs
runs_of stays = tt
runs_of {t = t} {j = j} (F.goes {r = r} {evs = evs} f rest) = each_append (Of t j) r.events evs (figure_of f) (runs_of rest)

-- THE PROGRAM: "the last two being the label of the step; inside an atomic block it is the block's label". Each event of a step has its thread,
-- and the label that the thread is at.
pub step_carries : (p : Program ℕ) (t : ℕ) (σ : State) (s : Stack ℕ) (r : Step) → Allowed σ t → at σ.threads t ≡ is s → thread_step p t σ ≡ has r
    → Each (Of t (label_of p s)) r.events
step_carries p t σ s r ok e h = on ((figure_2 p t σ r ok).0 h)
  where
    on : {r : Step} → Figure2 p t σ r → Each (Of t (label_of p s)) r.events
    on (seq {s = z} f g) = let same : z ≡ s = is_inj (sym f ∙ e) in rw same at (figure_of g)
    on (whole {m = m} {ρ = ρ} {a = a} {b = b} {c = c} {s = z} f g) =
        let same : context m ρ (step a (atomic b) c) ∷ z ≡ s = is_inj (sym f ∙ e) in
        let there : a ≡ label_of p s = ap (label_of p) same in
        rw there at (runs_of g)

-- of the locations below h
each_below : (P : Event → Type 0) (h : ℕ) (es : List Event) → Each P es → Each P (below h es)
each_below P h [] k = tt
each_below P h (e ∷ es) k =
    by_test (ltb e.place h) (λ b. rw b (k.0, each_below P h es k.1)) (λ b. rw b (each_below P h es k.1))

-- what a step of the copy adds: events of the thread last selected, with the number of the procedure
pub record Carries (c d : Config) : Type 0 where
  pub new : List Event
  pub events : d.events ≡ c.events ++ new
  pub each : Each (Of c.last (procedure_of c.stack)) new

-- THE SEQUENTIAL MACHINE "writes the number of the procedure it is in, which for procedure 0 is 0".
pub next_carries : (h : ℕ) (procs : List (Proc Plain)) (c d : Config) → next h procs c ≡ goes d → Carries c d
next_carries h procs c d e = on ((goes_exactly h procs c d).0 e)
  where
    on : {d : Config} → Goes h procs c d → Carries c d
    on (by_figure {r = r} f) = record { new = below h r.events; events = refl; each = each_below _ h r.events (figure_of f) }
    on (selects e f k) = record { new = []; events = sym (append-nil c.events); each = tt }

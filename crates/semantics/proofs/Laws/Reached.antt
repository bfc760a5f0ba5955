-- Wherever a run of a sound program is, rule 4 holds of the code that remains: so figure 2 applies to each of its steps.
use Rattle.std.specs.Prelude.{ℕ, zero, suc, ◌≡◌, refl, ◌↔◌, List, [], ◌∷◌, true, set}
use Rattle.std.proofs.Common.{sym, ap, ◌∙◌}
use Rattle.value.specs.Maybe.{Maybe, is, nothing}
use Rattle.value.specs.Lists.{at}
use Rattle.value.proofs.Laws.Maybes.{is_inj, missing, bind_is}
use Rattle.value.proofs.Laws.Tries.{forget, forget_is}
use Rattle.value.specs.Try.{has, lacks}
use Rattle.value.specs.declared.Reason.{Reason}
use Rattle.value.proofs.Laws.Tests.{both_passed}
use Rattle.value.proofs.Laws.Lists.{Each, each_at}
use Rattle.format.specs.Syntax.{Instr, while, if, atomic, Block, step, Proc, Program, Plain, concurrent}
use Rattle.format.specs.Labels.{label, labels, labelled}
use Rattle.format.specs.Rules.{allowed, allowed_i}
use Rattle.format.proofs.Laws.Joined.{allowed_append}
use Rattle.format.proofs.Laws.Labelled.{allowed_label}
use Rattle.format.proofs.Laws.Procs.{body_in, proc_sound}
use Rattle.format.proofs.Laws.Sound.{Sound}
use Rattle.semantics.specs.Memory.{Env, Memory}
use Rattle.semantics.specs.Step.{Frame, Stack, Moved}
use Rattle.semantics.specs.Threads.{State, begun, starts, Step, thread_step}
use Rattle.semantics.proofs.Laws.Figure1.{Rule, assigns, writes, reads, while_true, while_false, if_true, if_false, calls}
use Rattle.semantics.proofs.Laws.Figure1.{Figure1, by_rule, returns}
use Rattle.semantics.proofs.Laws.Figure2.{Figure2, seq, whole, Allowed, figure_2}
use Rattle.semantics.proofs.Laws.Stops.{Stops, stops_exactly}
use Rattle.semantics.proofs.Laws.After.{Point, onward, after}

-- rule 4 of a frame's code, and of a stack's
abbrev Right : Stack ℕ → Type 0
Right s = Each (λ (f : Frame ℕ). allowed (body_in concurrent f.proc) f.code ≡ true) s

-- of all stacks but one
pub each_set : {A : Type 0} (P : A → Type 0) (xs : List A) (i : ℕ) (y : A) → Each P xs → P y → Each P (set xs i y)
each_set P [] i y h k = tt
each_set P (x ∷ xs) zero y h k = (k, h.1)
each_set P (x ∷ xs) (suc i) y h k = (h.0, each_set P xs i y h.1 k)

module _ (procs : List (Proc ℕ)) (bodies : (n : ℕ) (q : Proc ℕ) → at procs n ≡ is q → allowed (body_in concurrent n) q.body ≡ true) where
  -- a rule of figure 1 keeps it
  rule_right : {t j m : ℕ} {ρ : Env} {a : ℕ} {c : Block ℕ} {s : Stack ℕ} {η : Memory} {i : Instr ℕ} {r : Moved ℕ} → Rule procs t j m ρ a c s η i r
      → allowed (body_in concurrent m) (step a i c) ≡ true → Right s → Right r.stack
  rule_right (assigns e) h k = (h, k)
  rule_right (writes v o y n l) h k = (h, k)
  rule_right (reads o y v) h k = (h, k)
  rule_right {m = m} {a = a} {c = c} (while_true {e = e} {b = b} g) h k =
      let p = both_passed (allowed (body_in concurrent m) b) (allowed (body_in concurrent m) c) h in
      (allowed_append (body_in concurrent m) b (step a (while e b) c) p.0 h, k)
  rule_right {m = m} {c = c} (while_false {b = b} g) h k = ((both_passed (allowed (body_in concurrent m) b) (allowed (body_in concurrent m) c) h).1, k)
  rule_right {m = m} {a = a} {c = c} (if_true {e = e} {b = b} {d = d} g) h k =
      let p = both_passed (allowed_i (body_in concurrent m) (if e b d)) (allowed (body_in concurrent m) c) h in
      let two = both_passed (allowed (body_in concurrent m) b) (allowed (body_in concurrent m) d) p.0 in
      (allowed_append (body_in concurrent m) b c two.0 p.1, k)
  rule_right {m = m} {a = a} {c = c} (if_false {e = e} {b = b} {d = d} g) h k =
      let p = both_passed (allowed_i (body_in concurrent m) (if e b d)) (allowed (body_in concurrent m) c) h in
      let two = both_passed (allowed (body_in concurrent m) b) (allowed (body_in concurrent m) d) p.0 in
      (allowed_append (body_in concurrent m) d c two.1 p.1, k)
  rule_right (calls {n = n} {p = p} e h free) g k = (bodies n p e, (g, k))

  -- so does a step of figure 2
  turn_right : {p : Program ℕ} {t : ℕ} {σ : State} {r : Step} → p.procs ≡ procs → Figure2 p t σ r → Each Right σ.threads
      → Each Right r.state.threads
  turn_right {t = t} {σ = σ} same (seq {s = s} {r = r} e f) h =
      each_set Right σ.threads t r.stack h (figure_right (rw same at f) (each_at Right σ.threads t h e))
    where
      figure_right : {j : ℕ} {s : Stack ℕ} {η : Memory} {r : Moved ℕ} → Figure1 procs t j s η r → Right s → Right r.stack
      figure_right (by_rule g) k = rule_right g k.0 k.1
      figure_right returns k = k.1
  turn_right {t = t} {σ = σ} same (whole {m = m} {a = a} {b = b} {c = c} {s = s} e runs) h =
      let k = each_at Right σ.threads t h e in
      each_set Right σ.threads t _ h ((both_passed (allowed_i (body_in concurrent m) (atomic b)) (allowed (body_in concurrent m) c) k.0).1, k.1)

  -- an atomic block that comes next is as rule 4 says
  next_allowed : (σ : State) (t : ℕ) → Each Right σ.threads → Allowed σ t
  next_allowed σ t h m ρ a b c s e =
      (both_passed (allowed_i (body_in concurrent m) (atomic b)) (allowed (body_in concurrent m) c) (each_at Right σ.threads t h e).0).0

  -- each main begins so
  starts_right : (ms : List ℕ) → Each Right (starts procs ms)
  starts_right [] = tt
  starts_right (m ∷ ms) = (on (at procs m) refl, starts_right ms)
    where
      on : (q : Maybe (Proc ℕ)) → at procs m ≡ q → Right (begun m q)
      on (is q) e = (bodies m q e, tt)
      on nothing e = tt

-- the body of a labelled procedure is a body, labelled
labelled_body : (ps : List (Proc Plain)) (l m : ℕ) {q : Proc ℕ} → at (labels l ps) m ≡ is q
    → (o : Proc Plain) × (k : ℕ) × (at ps m ≡ is o) × (q.body ≡ label k o.body)
labelled_body [] l m e = missing e
labelled_body (p ∷ ps) l zero e = (p, l, refl, ap (λ (q : Proc ℕ). q.body) (sym (is_inj e)))
labelled_body (p ∷ ps) l (suc m) e = labelled_body ps _ m e

module _ {p : Program Plain} (sound : Sound concurrent p) where
  -- rule 4 of a labelled procedure
  bodies_right_lem : (n : ℕ) (q : Proc ℕ) → at (labelled p).procs n ≡ is q → allowed (body_in concurrent n) q.body ≡ true
  bodies_right_lem n q e =
      let o = labelled_body p.procs 1 n e in
      rw o.3 (allowed_label p o.0.body o.1 (body_in concurrent n) ∙ (proc_sound sound n o.0 o.2).allowed)

  -- after k steps
  after_right : (ts : List ℕ) (k : ℕ) {σ : Point} → after (labelled p) ts k ≡ is σ → Each Right σ.state.threads
  after_right ts zero e = rw (← is_inj e) (starts_right (labelled p).procs bodies_right_lem p.mains)
  after_right ts (suc k) e =
      let b = bind_is (after (labelled p) ts k) _ e in
      on b.0 (after_right ts k b.1) (at ts k) b.2
    where
      on : (σ : Point) → Each Right σ.state.threads → (t : Maybe ℕ) {σ' : Point} → onward (labelled p) t σ ≡ is σ'
          → Each Right σ'.state.threads
      on σ h nothing f = missing f
      on σ h (is t) f =
          let r = bind_is (forget (thread_step (labelled p) t σ.state)) _ f in
          let ok = next_allowed (labelled p).procs bodies_right_lem σ.state t h in
          rw (← is_inj r.2)
          (turn_right (labelled p).procs bodies_right_lem refl ((figure_2 (labelled p) t σ.state r.0 ok).0 (forget_is _ r.1)) h)

  -- an atomic block that comes next there is as rule 4 says
  pub after_allowed : (ts : List ℕ) (k : ℕ) {σ : Point} → after (labelled p) ts k ≡ is σ → (t : ℕ) → Allowed σ.state t
  after_allowed ts k {σ} e t = next_allowed (labelled p).procs bodies_right_lem σ.state t (after_right ts k e)

  -- THE STEPS OF A SOUND PROGRAM'S RUN ARE EXACTLY THOSE OF FIGURE 2.
  pub run_by_figure_2 : (ts : List ℕ) (k : ℕ) {σ : Point} → after (labelled p) ts k ≡ is σ → (t : ℕ) (r : Step)
      → (thread_step (labelled p) t σ.state ≡ has r) ↔ Figure2 (labelled p) t σ.state r
  run_by_figure_2 ts k {σ} e t r = figure_2 (labelled p) t σ.state r (after_allowed ts k e t)

  -- AND THEY BLOCK EXACTLY AS FIGURE 2 HAS NO STEP, FOR THESE REASONS.
  pub run_stops : (ts : List ℕ) (k : ℕ) {σ : Point} → after (labelled p) ts k ≡ is σ → (t : ℕ) (r : Reason)
      → (thread_step (labelled p) t σ.state ≡ lacks r) ↔ Stops (labelled p) t σ.state r
  run_stops ts k {σ} e t r = stops_exactly (labelled p) t σ.state r (after_allowed ts k e t)

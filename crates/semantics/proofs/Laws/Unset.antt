-- Rule 8 of runs: wherever a run of an accepted program is, each local that the next instruction mentions for its value is set. So no run shows the
-- reason that Memory gives for a local that is not set.
use Rattle.std.specs.Prelude.{ℕ, zero, suc, ◌+◌, ◌≤◌, ◌<◌, ◌≡◌, refl, List, [], ◌∷◌, true, false, length, pos, ltb, eqb}
use Rattle.std.proofs.Common.{arith, sym, ap, ◌∙◌, length-set, get_or-set_same, get_or-set_other, ltb-true, eqb-true}
use Rattle.std.proofs.Math.Decide.{ℕ_discrete}
use Rattle.value.specs.Maybe.{Maybe, is, nothing, ◌>>=◌, there, both}
use Rattle.value.specs.Try.{has}
use Rattle.value.specs.Lists.{at, all}
use Rattle.value.specs.declared.Value.{Value}
use Rattle.value.specs.declared.Value.TheVariants.{Whole}
use Rattle.value.proofs.Laws.Maybes.{is_inj, missing, bind_is, when_is}
use Rattle.value.proofs.Laws.Tries.{has_inj, forget, forget_is}
use Rattle.value.proofs.Laws.Tests.{never, both_passed, either_passed}
use Rattle.value.proofs.Laws.Lists.{Each, each_at, at_get_d}
use Rattle.format.specs.Syntax.{Expr, Instr, while, atomic, select, Block, end, step, ◌⊕◌, Proc, Program, Plain}
use Rattle.format.specs.Syntax.{concurrent, sequential}
use Rattle.format.specs.Labels.{labels, labelled}
use Rattle.format.specs.Rules.{Known, with, known, after_i, after, takes, ex, named_i, named, allowed_i, allowed}
use Rattle.format.proofs.Laws.Joined.{named_append}
use Rattle.format.proofs.Laws.Labelled.{named_label, after_label}
use Rattle.format.proofs.Laws.Names.{Takes, names?}
use Rattle.format.proofs.Laws.Procs.{takes_at, takes_params, ProcSound, proc_sound}
use Rattle.format.proofs.Laws.Sets.{◌⊆◌, after_more, after_grows, after_append}
use Rattle.format.proofs.Laws.SetFirst.{ReadsSetI, reads_set?}
use Rattle.format.proofs.Laws.Sound.{Sound}
use Rattle.semantics.specs.Memory.{Env, lookup, bound, Memory, Event}
use Rattle.semantics.specs.Step.{Frame, Stack, Moved, entered, frame}
use Rattle.semantics.specs.Threads.{State, starts, size_i, size, Step, thread_step}
use Rattle.semantics.specs.Copy as C
use Rattle.semantics.specs.Calls.{sequential_run}
use Rattle.semantics.proofs.Laws.Figure1.{Have, none, more, context, entered_so}
use Rattle.semantics.proofs.Laws.Figure1.{Rule, assigns, writes, reads, while_true, while_false, if_true, if_false, calls}
use Rattle.semantics.proofs.Laws.Figure1.{rules_exactly, Figure1, by_rule, returns, figure_1}
use Rattle.semantics.proofs.Laws.Figure2.{Runs, stays, goes, Figure2, seq, whole, inside, Allowed, Left, left, from_none}
use Rattle.semantics.proofs.Laws.Judged.{Goes, by_figure, selects, goes_exactly, then_ends, then_goes}
use Rattle.semantics.proofs.Laws.After.{Point}
use Rattle.semantics.proofs.Laws.After as A
use Rattle.semantics.proofs.Laws.Reached.{each_set, after_allowed, run_by_figure_2}

-- what is set in ρ
abbrev pub set_in : Env → Known
set_in ρ = λ x. there (lookup ρ x)

-- a local that is bound is set, and the others stay so
set_bound : (ρ : Env) (x : ℕ) (v : Value) → x < length ρ → with (set_in ρ) x ⊆ set_in (bound ρ x v)
set_bound ρ x v below y e = elim (ℕ_discrete y x) [
  | yes p ↦ rw (p, get_or-set_same ρ x (is v) nothing below) refl
  | no ne ↦ either_passed (eqb x y) (there (lookup ρ y)) e
      (λ t. absurd (ne (sym (eqb-true x y t))))
      (λ k. rw (get_or-set_other ρ x y (is v) nothing ne) k)
]

-- what both branches set, each sets
in_both : (u w : Known) {z : Known} → is (λ x. both (u x) (w x)) ≡ is z → (z ⊆ u) × (z ⊆ w)
in_both u w e = rw (← is_inj e) (λ x h. (both_passed (u x) (w x) h).0, λ x h. (both_passed (u x) (w x) h).1)

-- as many values as arguments
have_length : {ρ : Env} {es : List Expr} {vs : List Value} → Have ρ es vs → length vs ≡ length es
have_length none = refl
have_length (more e h) = omega (arith, have_length h)

-- "parameters are set at entry"
set_entered : {A : Type 0} (n : ℕ) (p : Proc A) (vs : List Value) → length vs ≡ p.params → (λ x. ltb x p.params) ⊆ set_in (entered n p vs).env
set_entered n p vs h x e =
    let below : x < p.params = ltb-true x p.params e in
    let d : Value = Whole (pos 0) in
    rw ((entered_so n p vs).locals x, at_get_d vs x d (omega arith)) refl

-- rules 3, 5 and 8 of a procedure
pub record Right {A : Type 0} (P : Program A) (q : Proc A) : Type 0 where
  pub params : q.params ≤ q.locals
  pub named : named P q.locals q.body ≡ true
  pub sets : (u : Known) × (after (λ x. ltb x q.params) q.body ≡ is u)

module _ {A : Type 0} (P : Program A) (right : (m : ℕ) (q : Proc A) → at P.procs m ≡ is q → Right P q) where
  -- the code of a frame reads what is set there, or what it sets before, and sets all of v
  record Fit (v : Known) (f : Frame A) : Type 0 where
    proc : Proc A
    known : at P.procs f.proc ≡ is proc
    full : length f.env ≡ proc.locals
    named : named P proc.locals f.code ≡ true
    left : Known
    then : after (set_in f.env) f.code ≡ is left
    sets : v ⊆ left

  -- a step of a frame above s: it goes on, or calls
  data Moves (v : Known) (s : Stack A) : Stack A → Type 0 where
    goes_on : {f : Frame A} → Fit v f → Moves v s (f ∷ s)
    calls_on_lem : {f g : Frame A} → Fit (λ x. false) g → Fit v f → Moves v s (g ∷ f ∷ s)

  module _ {v : Known} {m : ℕ} {ρ : Env} {a : A} {i : Instr A} {c : Block A} (F : Fit v (context m ρ (step a i c))) where
    -- names of the first instruction, and of the rest
    parts : (named_i P F.proc.locals i ≡ true) × (named P F.proc.locals c ≡ true)
    parts = both_passed (named_i P F.proc.locals i) (named P F.proc.locals c) F.named

    -- what the first instruction leaves set
    first : (u : Known) × (after_i (set_in ρ) i ≡ is u) × (after u c ≡ is F.left)
    first = bind_is (after_i (set_in ρ) i) (λ u. after u c) F.then

    -- other code, and other locals in which s is set
    fit_on : (ρ' : Env) (c' : Block A) (s u : Known) → length ρ' ≡ length ρ → named P F.proc.locals c' ≡ true → after s c' ≡ is u → v ⊆ u
        → s ⊆ set_in ρ' → Fit v (context m ρ' c')
    fit_on ρ' c' s u same names e sets less =
        let more = after_more c' s (set_in ρ') less u e in
        record {
          proc = F.proc;
          known = F.known;
          full = same ∙ F.full;
          named = names;
          left = more.0;
          then = more.1;
          sets = λ x h. more.2 x (sets x h);
        }

    -- the rest
    fit_next : (ρ' : Env) → length ρ' ≡ length ρ → first.0 ⊆ set_in ρ' → Fit v (context m ρ' c)
    fit_next ρ' same less = fit_on ρ' c first.0 F.left same parts.1 first.2 F.sets less

    -- a block in front of what follows it
    fit_front : (b d : Block A) (u w z : Known) → named P F.proc.locals b ≡ true → named P F.proc.locals d ≡ true
        → after (set_in ρ) b ≡ is u → w ⊆ u → after w d ≡ is z → v ⊆ z → Fit v (context m ρ (b ⊕ d))
    fit_front b d u w z nb nd e less f sets =
        let more = after_more d w u less z f in
        fit_on ρ (b ⊕ d) (set_in ρ) more.0 refl (named_append P F.proc.locals b d nb nd) (after_append b d (set_in ρ) u e more.1)
        (λ x h. more.2 x (sets x h)) (λ x h. h)

  -- a rule of figure 1 keeps it
  fit_rule : {t j : ℕ} {v : Known} {m : ℕ} {ρ : Env} {a : A} {c : Block A} {s : Stack A} {η : Memory} {i : Instr A} {r : Moved A}
      → Rule P.procs t j m ρ a c s η i r → Fit v (context m ρ (step a i c)) → Moves v s r.stack
  fit_rule {ρ = ρ} (assigns {x = x} {e = e} {v = w} h) F =
      let q = when_is (known (set_in ρ) e) (is (with (set_in ρ) x)) (first F).1 in
      let n = both_passed (ltb x F.proc.locals) (ex P F.proc.locals e) (parts F).0 in
      let below : x < length ρ = omega (arith, ltb-true x F.proc.locals n.0, F.full) in
      goes_on (fit_next F (bound ρ x w) (length-set ρ x (is w)) (rw (← is_inj q.1) (set_bound ρ x w below)))
  fit_rule {ρ = ρ} (writes {y = y} {o = o} {e = e} h k l n z) F =
      let q = when_is (both (set_in ρ y) (both (known (set_in ρ) o) (known (set_in ρ) e))) (is (set_in ρ)) (first F).1 in
      goes_on (fit_next F ρ refl (rw (← is_inj q.1) (λ x h. h)))
  fit_rule {ρ = ρ} (reads {x = x} {y = y} {o = o} {v = w} h k z) F =
      let q = when_is (both (set_in ρ y) (known (set_in ρ) o)) (is (with (set_in ρ) x)) (first F).1 in
      let n = both_passed (ltb x F.proc.locals) (both (ltb y F.proc.locals) (ex P F.proc.locals o)) (parts F).0 in
      let below : x < length ρ = omega (arith, ltb-true x F.proc.locals n.0, F.full) in
      goes_on (fit_next F (bound ρ x w) (length-set ρ x (is w)) (rw (← is_inj q.1) (set_bound ρ x w below)))
  fit_rule {ρ = ρ} {a = a} {c = c} (while_true {e = e} {b = b} h) F =
      let q = when_is (known (set_in ρ) e) (after (set_in ρ) b >>= λ _. is (set_in ρ)) (first F).1 in
      let p = bind_is (after (set_in ρ) b) (λ _. is (set_in ρ)) q.1 in
      let n = both_passed (ex P F.proc.locals e) (named P F.proc.locals b) (parts F).0 in
      goes_on (fit_front F b (step a (while e b) c) p.0 (set_in ρ) F.left n.1 F.named p.1 (after_grows b (set_in ρ) p.0 p.1)
      F.then F.sets)
  fit_rule {ρ = ρ} (while_false {e = e} {b = b} h) F =
      let q = when_is (known (set_in ρ) e) (after (set_in ρ) b >>= λ _. is (set_in ρ)) (first F).1 in
      let p = bind_is (after (set_in ρ) b) (λ _. is (set_in ρ)) q.1 in
      goes_on (fit_next F ρ refl (rw (← is_inj p.2) (λ x h. h)))
  fit_rule {v = v} {m = m} {ρ = ρ} {c = c} {s = s} (if_true {e = e} {b = b} {d = d} h) F =
      let q = when_is (known (set_in ρ) e) (after (set_in ρ) b >>= λ u. after (set_in ρ) d >>= λ w. is (λ x. both (u x) (w x))) (first F).1 in
      let p = bind_is (after (set_in ρ) b) (λ u. after (set_in ρ) d >>= λ w. is (λ x. both (u x) (w x))) q.1 in
      let o = bind_is (after (set_in ρ) d) (λ w. is (λ x. both (p.0 x) (w x))) p.2 in
      let n = both_passed (ex P F.proc.locals e) (both (named P F.proc.locals b) (named P F.proc.locals d)) (parts F).0 in
      let two = both_passed (named P F.proc.locals b) (named P F.proc.locals d) n.1 in
      goes_on (fit_front F b c p.0 (first F).0 F.left two.0 (parts F).1 p.1
      (in_both p.0 o.0 o.2).0 (first F).2 F.sets)
  fit_rule {ρ = ρ} {c = c} (if_false {e = e} {b = b} {d = d} h) F =
      let q = when_is (known (set_in ρ) e) (after (set_in ρ) b >>= λ u. after (set_in ρ) d >>= λ w. is (λ x. both (u x) (w x))) (first F).1 in
      let p = bind_is (after (set_in ρ) b) (λ u. after (set_in ρ) d >>= λ w. is (λ x. both (u x) (w x))) q.1 in
      let o = bind_is (after (set_in ρ) d) (λ w. is (λ x. both (p.0 x) (w x))) p.2 in
      let n = both_passed (ex P F.proc.locals e) (both (named P F.proc.locals b) (named P F.proc.locals d)) (parts F).0 in
      let two = both_passed (named P F.proc.locals b) (named P F.proc.locals d) n.1 in
      goes_on (fit_front F d c o.0 (first F).0 F.left two.1 (parts F).1 o.1
      (in_both p.0 o.0 o.2).1 (first F).2 F.sets)
  fit_rule {ρ = ρ} (calls {n = n} {es = es} {vs = vs} {p = p} e h free) F =
      let q = when_is (all (known (set_in ρ)) es) (is (set_in ρ)) (first F).1 in
      let k = both_passed (takes P.procs n (length es)) (all (ex P F.proc.locals) es) (parts F).0 in
      let count : p.params ≡ length es = takes_params P.procs n (length es) k.0 e in
      let rule : Right P p = right n p e in
      let begun = after_more p.body (λ x. ltb x p.params) (set_in (entered n p vs).env)
      (set_entered n p vs (omega (arith, have_length h))) rule.sets.0 rule.sets.1 in
      calls_on_lem
      (record {
        proc = p;
        known = e;
        full = (entered_so n p vs).count (omega (arith, have_length h, rule.params));
        named = rule.named;
        left = begun.0;
        then = begun.1;
        sets = λ x no. absurd (never no);
      })
      (fit_next F ρ refl (rw (← is_inj q.1) (λ x h. h)))

  -- no more is asked for
  abbrev Fits : Stack A → Type 0
  Fits s = Each (Fit (λ x. false)) s

  -- a step of a stack keeps it
  fit_figure : {t j : ℕ} {s : Stack A} {η : Memory} {r : Moved A} → Figure1 P.procs t j s η r → Fits s → Fits r.stack
  fit_figure (by_rule h) k = on (fit_rule h k.0) k.1
    where
      on : {s z : Stack A} → Moves (λ x. false) s z → Fits s → Fits z
      on (goes_on f) k = (f, k)
      on (calls_on_lem g f) k = (g, (f, k))
  fit_figure returns k = k.1

  -- a procedure without parameters, where it begins
  fit_begins : (m : ℕ) (q : Proc A) → at P.procs m ≡ is q → q.params ≡ 0 → Fits (entered m q [] ∷ [])
  fit_begins m q e empty =
      let rule : Right P q = right m q e in
      let begun = after_more q.body (λ x. ltb x q.params) (set_in (entered m q []).env) (set_entered m q [] (sym empty))
      rule.sets.0 rule.sets.1 in (
        record {
          proc = q;
          known = e;
          full = (entered_so m q []).count (omega arith);
          named = rule.named;
          left = begun.0;
          then = begun.1;
          sets = λ x no. absurd (never no);
        },
        tt,
      )

  -- each local that its first instruction mentions for its value is set
  fit_reads : {v : Known} {m : ℕ} {ρ : Env} {a : A} {i : Instr A} {c : Block A} → Fit v (context m ρ (step a i c)) → ReadsSetI (set_in ρ) i
  fit_reads {ρ = ρ} {a = a} {i = i} {c = c} F = ((reads_set? (step a i c) (set_in ρ)).so (rw F.then)).0

-- ---- the concurrent machine

module _ (P : Program ℕ) (right : (m : ℕ) (q : Proc ℕ) → at P.procs m ≡ is q → Right P q) (t : ℕ) where
  -- one frame that goes on is that frame
  alone : {v : Known} {z : Stack ℕ} {f : Frame ℕ} → Moves P right v [] z → z ≡ f ∷ [] → Fit P right v f
  alone {f = f} (goes_on {f = g} G) e = let same : g ≡ f = cc in rw same at G
  alone (calls_on_lem G H) e = let no : ◌≡◌ {A = ℕ} 0 1 = cc in absurd (omega arith)

  -- steps inside an atomic block keep what it is to set
  fit_runs : {j : ℕ} {s s' : Stack ℕ} {η η' : Memory} {new : List Event} → Runs P.procs t j s η s' η' new
      → (v : Known) (m : ℕ) (ρ ρ' : Env) (b c' : Block ℕ) → s ≡ context m ρ b ∷ [] → s' ≡ context m ρ' c' ∷ []
      → allowed (inside m) b ≡ true → Fit P right v (context m ρ b) → Fit P right v (context m ρ' c')
  fit_runs stays v m ρ ρ' b c' e e' k F = let same : context m ρ b ≡ context m ρ' c' = cc in rw same at F
  fit_runs {j} (goes {s' = s'} {η = η} {r = q} f rest) v m ρ ρ' b c' e e' k F =
      by b (λ ρ b e k F. fit_runs rest v m ρ ρ' b c' e e' k F) ((figure_1 P.procs t j m ρ b [] η q).1 (rw e at f)) k F
    where
      Later : Type 0
      Later = (ρ : Env) (b : Block ℕ) → q.stack ≡ context m ρ b ∷ [] → allowed (inside m) b ≡ true → Fit P right v (context m ρ b)
          → Fit P right v (context m ρ' c')

      by : (b : Block ℕ) → Later → frame P.procs t j b m ρ [] η ≡ has q → allowed (inside m) b ≡ true → Fit P right v (context m ρ b)
          → Fit P right v (context m ρ' c')
      by end ih g k F =
          let none : q.stack ≡ [] = ap (λ (r : Moved ℕ). r.stack) (sym (has_inj g)) in
          let no : s' ≡ [] = from_none P.procs t j rest none in
          let z : ◌≡◌ {A = ℕ} 0 1 = cc in
          absurd (omega arith)
      by (step a i c) ih g k F =
          let ok = both_passed (allowed_i (inside m) i) (allowed (inside m) c) k in
          let rule : Rule P.procs t j m ρ a c [] η i q = (rules_exactly P.procs t j m ρ a c [] η i q).0 g in
          let l : Left m (size_i i + size c) q = left P.procs t j rule ok.0 ok.1 in
          ih l.env l.code l.same l.right (alone (fit_rule P right rule F) l.same)

  -- a step of figure 2 keeps it, of every thread
  fit_turn : {σ : State} {r : Step} → Allowed σ t → Figure2 P t σ r → Each (Fits P right) σ.threads → Each (Fits P right) r.state.threads
  fit_turn {σ} ok (seq {s = s} {r = r} e f) h =
      each_set (Fits P right) σ.threads t r.stack h (fit_figure P right f (each_at (Fits P right) σ.threads t h e))
  fit_turn {σ} ok (whole {m = m} {ρ = ρ} {ρ' = ρ'} {a = a} {b = b} {c = c} {s = s} e runs) h =
      let k = each_at (Fits P right) σ.threads t h e in
      each_set (Fits P right) σ.threads t _ h (after_block k.0, k.1)
    where
      after_block : Fit P right (λ x. false) (context m ρ (step a (atomic b) c)) → Fit P right (λ x. false) (context m ρ' c)
      after_block F =
          let u : Known = (first P right F).0 in
          let begun : Fit P right u (context m ρ b) = record {
            proc = F.proc;
            known = F.known;
            full = F.full;
            named = (parts P right F).0;
            left = u;
            then = (first P right F).1;
            sets = λ x h. h;
          } in
          let G : Fit P right u (context m ρ' end) = fit_runs runs u m ρ ρ' b end refl refl (ok m ρ a b c s e) begun in
          let one : G.proc ≡ F.proc = is_inj (sym G.known ∙ F.known) in
          let same : length ρ' ≡ length ρ = G.full ∙ ap (λ (q : Proc ℕ). q.locals) one ∙ sym F.full in
          fit_next P right F ρ' same (rw (← is_inj G.then) at G.sets)

module _ {p : Program Plain} (sound : Sound concurrent p) where
  -- a procedure of the labelled program
  labelled_right : (m : ℕ) (q : Proc ℕ) → at (labelled p).procs m ≡ is q → Right (labelled p) q
  labelled_right n q e = on p.procs 1 n e (λ o f. proc_sound sound n o f)
    where
      on : (ps : List (Proc Plain)) (l m : ℕ) → at (labels l ps) m ≡ is q → ((o : Proc Plain) → at ps m ≡ is o → ProcSound concurrent p n o)
          → Right (labelled p) q
      on [] l m e f = missing e
      on (o ∷ ps) l zero e f =
          let F = f o refl in
          rw (← is_inj e)
          (record {
            params = F.params;
            named = named_label p o.body l o.locals ∙ (names? p o.locals o.body).of F.named;
            sets = (F.sets.0, after_label p o.body l (λ x. ltb x o.params) ∙ F.sets.1);
          })
      on (o ∷ ps) l (suc m) e f = on ps _ m e f

  -- each main begins so
  starts_fit : (ms : List ℕ) → Each (λ m. Takes p.procs m 0) ms → Each (Fits (labelled p) labelled_right) (starts (labelled p).procs ms)
  starts_fit [] h = tt
  starts_fit (m ∷ ms) h = (
    let o = takes_at (labels 1 p.procs) m 0 (takes_labelled p.procs 1 m h.0) in
        rw o.1 (fit_begins (labelled p) labelled_right m o.0 o.1 o.2),
    starts_fit ms h.1,
  )
    where
      takes_labelled : (ps : List (Proc Plain)) (l m : ℕ) → Takes ps m 0 → Takes (labels l ps) m 0
      takes_labelled [] l m h = h
      takes_labelled (q ∷ ps) l zero h = h
      takes_labelled (q ∷ ps) l (suc m) h = takes_labelled ps _ m h

  -- after k steps
  after_fit : (ts : List ℕ) (k : ℕ) {σ : Point} → A.after (labelled p) ts k ≡ is σ → Each (Fits (labelled p) labelled_right) σ.state.threads
  after_fit ts zero e = rw (← is_inj e) (starts_fit p.mains sound.mains)
  after_fit ts (suc k) e =
      let b = bind_is (A.after (labelled p) ts k) _ e in
      on b.0 b.1 (after_fit ts k b.1) (at ts k) b.2
    where
      on : (σ : Point) → A.after (labelled p) ts k ≡ is σ → Each (Fits (labelled p) labelled_right) σ.state.threads → (t : Maybe ℕ) {σ' : Point}
          → A.onward (labelled p) t σ ≡ is σ' → Each (Fits (labelled p) labelled_right) σ'.state.threads
      on σ e h nothing f = missing f
      on σ e h (is t) f =
          let r = bind_is (forget (thread_step (labelled p) t σ.state)) _ f in
          rw (← is_inj r.2)
          (fit_turn (labelled p) labelled_right t (after_allowed sound ts k e t) ((run_by_figure_2 sound ts k e t r.0).0 (forget_is _ r.1)) h)

  -- WHEREVER A RUN OF A SOUND PROGRAM IS, EACH LOCAL THAT A THREAD'S NEXT INSTRUCTION MENTIONS FOR ITS VALUE IS SET.
  pub never_unset : (ts : List ℕ) (k : ℕ) {σ : Point} → A.after (labelled p) ts k ≡ is σ
      → (t m : ℕ) (ρ : Env) (a : ℕ) (i : Instr ℕ) (c : Block ℕ) (s : Stack ℕ) → at σ.state.threads t ≡ is (context m ρ (step a i c) ∷ s)
      → ReadsSetI (set_in ρ) i
  never_unset ts k {σ} e t m ρ a i c s f =
      fit_reads (labelled p) labelled_right (each_at (Fits (labelled p) labelled_right) σ.state.threads t (after_fit ts k e) f).0

-- ---- the sequential machine

module _ {p : Program Plain} (sound : Sound sequential p) (h : ℕ) where
  -- a procedure
  plain_right : (m : ℕ) (q : Proc Plain) → at p.procs m ≡ is q → Right p q
  plain_right m q e =
      let F = proc_sound sound m q e in
      record { params = F.params; named = (names? p q.locals q.body).of F.named; sets = F.sets }

  -- a step keeps it
  goes_fit : (c : C.Config) {d : C.Config} → Goes h p.procs c d → Fits p plain_right c.stack → Fits p plain_right d.stack
  goes_fit c (by_figure f) k = fit_figure p plain_right f k
  goes_fit c (selects {m = m} {ρ = ρ} {a = a} {b = b} {k = k} {s = s} e f r) g =
      let j : Fits p plain_right (context m ρ (step tt (select a b) k) ∷ s) = rw e at g in
      (fit_next p plain_right j.0 ρ refl (rw (← is_inj (first p plain_right j.0).1) (λ x h. h)), j.1)

  -- so does a run
  run_fit : (n k : ℕ) (c : C.Config) → Fits p plain_right c.stack → Fits p plain_right (C.run h p.procs n k c).config.stack
  run_fit zero k c f = f
  run_fit (suc n) k c f = by (run_fit n) (C.next h p.procs c) refl
    where
      by : ((k : ℕ) (c : C.Config) → Fits p plain_right c.stack → Fits p plain_right (C.run h p.procs n k c).config.stack)
          → (x : C.Next) → C.next h p.procs c ≡ x → Fits p plain_right (C.run h p.procs (suc n) k c).config.stack
      by ih (C.ended how) e = rw (then_ends h p.procs c n k e) f
      by ih (C.goes d) e = rw (then_goes h p.procs c n k e) (ih (suc k) d (goes_fit c ((goes_exactly h p.procs c d).0 e) f))

  -- SO IT IS OF A SEQUENTIAL RUN, AFTER AS MANY STEPS AS ONE LIKES.
  pub copy_never_unset : (n : ℕ) (ts : List ℕ) (m : ℕ) (ρ : Env) (i : Instr Plain) (c : Block Plain) (s : Stack Plain)
      → (sequential_run n h p ts).config.stack ≡ context m ρ (step tt i c) ∷ s → ReadsSetI (set_in ρ) i
  copy_never_unset n ts m ρ i c s e = fit_reads p plain_right (rw e at (run_fit n 0 (C.start p ts) begins)).0
    where
      begins : Fits p plain_right (C.start p ts).stack
      begins =
          let o = takes_at p.procs 0 0 sound.mains.0 in
          on p.procs o.0 o.1 (fit_begins p plain_right 0 o.0 o.1 o.2)
        where
          on : (ps : List (Proc Plain)) (q : Proc Plain) → at ps 0 ≡ is q → Fits p plain_right (entered 0 q [] ∷ [])
              → Fits p plain_right (C.start (record { procs = ps; sizes = p.sizes; mains = p.mains }) ts).stack
          on [] q e h = missing e
          on (o ∷ ps) q e h = let same : o ≡ q = cc in rw same h

-- A step of a thread, and the run of the copy's procedure for its label: forward simulation, instruction by instruction.
use Rattle.std.specs.Prelude.{ℕ, suc, ◌+◌, ◌*◌, ◌-◌, ◌≤◌, ◌<◌, ◌≡◌, refl, ◌≢◌, List, [], ◌∷◌, ◌++◌, map, Bool, true, false, length, get_or, replicate, take, pos, ltb, eqb}
use Rattle.std.proofs.Common.{arith, sym, ◌∙◌, append-nil, ltb-true}
use Rattle.std.proofs.Math.Bool as B
use Rattle.std.proofs.lemmas.Bool.{not-true}
use Rattle.value.specs.Maybe.{is, nothing, both, either, pick}
use Rattle.value.specs.Try.{has, ◌⟫◌, or_lacks}
use Rattle.value.specs.Lists.{all, at}
use Rattle.value.specs.declared.Value.{Value}
use Rattle.value.specs.declared.Value.TheVariants.{Whole}
use Rattle.value.proofs.Laws.Maybes.{when_is, is_inj}
use Rattle.value.proofs.Laws.Tries.{has_inj, chain_has, provided_has, or_lacks_has}
use Rattle.value.proofs.Laws.Tests.{either_false, both_passed}
use Rattle.value.proofs.Laws.Lists.{at_get_d}
use Rattle.format.specs.Syntax.{Expr, Instr, assign, write, read, while, if, call, Block, end, step, ◌⊕◌, Proc, Plain}
use Rattle.format.specs.Labels.{first}
use Rattle.format.specs.Rules.{Here, known, takes}
use Rattle.format.specs.Rules as Rules
use Rattle.format.proofs.Laws.Procs.{takes_params}
use Rattle.format.proofs.Laws.Joined.{first_append}
use Rattle.translation.specs.Code.{mentioned, pc, inside_i, code, returns}
use Rattle.translation.specs.Translate.{simulating}
use Rattle.translation.proofs.Laws.Exprs.{known_mentioned, known_mentions}
use Rattle.semantics.specs.Memory.{Env, bound, eval, evals, Memory, cell, stored, Event}
use Rattle.value.specs.Values.{truth}
use Rattle.value.specs.declared.Reason.TheVariants.{WrongKind}
use Rattle.semantics.specs.Step.{Stack, Moved, instr, runs}
use Rattle.semantics.specs.Copy.{Config}
use Rattle.semantics.proofs.Laws.Cells.{cell_stored, cell_of_take, shape}
use Rattle.agreement.specs.Price.{vars, inner}
use Rattle.agreement.proofs.Laws.Accesses.{indexed, pointed, access}
use Rattle.agreement.proofs.Laws.Runs.{config}
use Rattle.agreement.proofs.Laws.Columns.{number, AllKept}
use Rattle.agreement.proofs.Laws.Reps.{Setting, label_by, column, Rep, pct_there, rep_home, rep_shared, rep_pct}
use Rattle.agreement.proofs.Laws.Instrs.{Known, Ready, run_assigns, run_reads, run_writes, run_tests, run_pc, run_returns}
use Rattle.agreement.proofs.Laws.Calling.{length_entered, entered_lookup, passed, rep_call, run_calls, length_evals}
use Rattle.agreement.proofs.Laws.Frames.{World, Entry, FrameSound, StackSound, Chained, Set, Fit}
use Rattle.agreement.proofs.Laws.Frames.{fit_first, fit_named, sound_next, sound_while, sound_past}
use Rattle.agreement.proofs.Laws.Frames.{sound_if, set_bound}

-- after a step of thread i, from copy memory η', to the stack s and the program's memory η
module _ (W : World) (i : ℕ) (η' : Memory) where
  -- the copy's memory η'' after a step of thread i, which left the stack s and the memory η
  pub record After (s : Stack ℕ) (η η'' : Memory) : Type 0 where
    pub shared : take W.S.h η'' ≡ η
    pub shaped : shape η'' ≡ W.S.Z
    pub label : cell η'' W.S.G.pct i ≡ number (label_by W.S.ends s)
    pub kept : AllKept W.S.G W.S.N W.S.L (label_by W.S.ends) (column η'' i) s
    pub others : (l j : ℕ) → j ≢ i → W.S.h ≤ l → cell η'' l j ≡ cell η' l j

  -- the copy's procedure of label l, of procedure m, does the step
  pub record Stepped (m l n : ℕ) (r : Moved ℕ) : Type 0 where
    pub memory' : Memory
    pub after : After r.stack r.memory memory'
    pub sound : StackSound W r.stack
    pub body : Block Plain
    pub found : at W.procs l ≡ is (simulating (W.S.L m) body)
    pub runs : (K : Stack Plain) (ts : List ℕ) (evs : List Event)
        → Ready W.S W.procs (λ c. c ≡ config K memory' ts i (evs ++ r.events)) l i K ts i m (suc n) body η' evs

-- the variables of an expression, of a sound frame
pub known_one : (s : Rules.Known) (ρ : Env) (e : Expr) → Set s ρ → known s e ≡ true → Known (e ∷ []) ρ
known_one s ρ e g k x m = g x (known_mentioned s e k x (sym (either_false (mentioned x e)) ∙ m))

-- a frame of a procedure that is entered is sound
pub called : {W : World} (q : ℕ) (p : Proc ℕ) (found : at W.source.procs q ≡ is p) (vs : List Value) → length vs ≡ p.params
    → FrameSound W q (map is vs ++ replicate (p.locals - length vs) nothing) p.body
called {W} q p found vs same =
    let E : Entry W.S W.source W.procs W.begin q p = W.entries q p found in
    record {
      proc = (p, found);
      coded = E.coded;
      fit = record {
        full = length_entered vs p.locals (omega (arith, E.params)) ∙ sym E.size;
        named = E.named;
        allowed = E.allowed;
        known = λ x. ltb x p.params;
        then = E.sets;
        set = λ x e.
            let low : x < length vs = rw same (ltb-true x p.params (e)) in
            let d : Value = Whole (pos 0) in
            (get_or vs x d, entered_lookup vs _ x (at_get_d vs x d low));
      };
    }

module _ {W : World} {i : ℕ} {η₀ η' : Memory} {m : ℕ} {s : Stack ℕ} {ρ : Env} {η : Memory} where
  -- pct is set last, to the label of the code c that comes next
  pub after_pc : (c : Block ℕ) → Rep W.S i η₀ m s ρ η η'
      → After W i η₀ (record { proc = m; env = ρ; code = c } ∷ s) η (stored η' W.S.G.pct i (Whole (pos (first (W.S.ends m) c))))
  after_pc c R =
      let R' : Rep W.S i η₀ m s ρ η (stored η' W.S.G.pct i (Whole (pos (first (W.S.ends m) c)))) = rep_pct R _ in
      record {
        shared = R'.shared;
        shaped = R'.shaped;
        label = cell_stored η' W.S.G.pct i _ (pct_there R).1;
        kept = (R'.top, R'.below);
        others = R'.others;
      }

-- ---- assign, read and write: the same inside an atomic block and outside

module _ (W : World) (i j : ℕ) (η₀ : Memory) (m : ℕ) (s z : Stack ℕ) (η' : Memory) (ins : Instr ℕ) (c : Block ℕ) (u : Rules.Known) where
  -- at label j, the instruction leads to locals ρ₁, with u known, and the copy's code for it in procedure j, before Y, to memory η₁'
  pub record Simply (r : Moved ℕ) : Type 1 where
    pub ρ₁ : Env
    pub η₁' : Memory
    pub stack : r.stack ≡ record { proc = m; env = ρ₁; code = c } ∷ z
    pub rep : Rep W.S i η₀ m s ρ₁ r.memory η₁'
    pub set : Set u ρ₁
    pub runs : (Q : Config → Type 0) (K : Stack Plain) (ts : List ℕ) (evs : List Event) (n : ℕ) (Y : Block Plain)
        → Ready W.S W.procs Q j i K ts i m n Y η₁' (evs ++ r.events)
        → Ready W.S W.procs Q j i K ts i m (inner W.source.procs i j m (W.S.L m) ins + n) (inside_i W.S.G m (W.S.L m) ins Y) η' evs

-- a number of steps said in another way
pub ready_steps : {S : Setting} {procs : List (Proc Plain)} {Q : Config → Type 0} {l i : ℕ} {K : Stack Plain} {ts : List ℕ}
    {t m n k : ℕ} {c : Block Plain}
    {η : Memory} {evs : List Event}
    → n ≡ k → Ready S procs Q l i K ts t m n c η evs → Ready S procs Q l i K ts t m k c η evs
ready_steps e k = rw e at k

module _ {W : World} {w : Here} {i j : ℕ} {η₀ η' : Memory} {m : ℕ} {s : Stack ℕ} {ρ : Env} {η : Memory} {a : ℕ} {c : Block ℕ}
    (R : Rep W.S i η₀ m s ρ η η')
    (z : Stack ℕ) where
  -- an assignment
  pub simply_assign : (x : ℕ) (e : Expr) (F : Fit W w m ρ (step a (assign x e) c)) (r : Moved ℕ)
      → instr W.source.procs i j m ρ a (assign x e) c z η ≡ has r → Simply W i j η₀ m s z η' (assign x e) c (fit_first F).0 r
  simply_assign x e F r p =
      let b = chain_has (eval ρ e) _ p in
      let v : Value = b.0 in
      let q = when_is (known F.known e) _ (fit_first F).1 in
      let small : x < W.S.L m = ltb-true x (W.S.L m) ((both_passed (ltb x (W.S.L m)) _ (fit_named F).0).0) in
      let small' : x < length ρ = rw R.top.full small in
      rw (← has_inj b.2) (record {
        ρ₁ = bound ρ x v;
        η₁' = stored η' (W.S.G.home m x) i v;
        stack = refl;
        rep = rep_home R x v small;
        set = rw (← is_inj q.1) (set_bound F.known ρ x v small' F.set);
        runs =
            λ Q K ts evs n Y k.
            ready_steps (omega arith) (run_assigns R x e v small (known_one F.known ρ e F.set q.0) b.1 (rw (append-nil evs) at k));
      })

  -- a read
  pub simply_read : (x y : ℕ) (o : Expr) (F : Fit W w m ρ (step a (read x y o) c)) (r : Moved ℕ)
      → instr W.source.procs i j m ρ a (read x y o) c z η ≡ has r → Simply W i j η₀ m s z η' (read x y o) c (fit_first F).0 r
  simply_read x y o F r p =
      let g = access (indexed ρ o) (pointed ρ y) η _ p in
      let v : Value = g.v in
      let q = when_is (both (F.known y) (known F.known o)) _ (fit_first F).1 in
      let q' = both_passed (F.known y) (known F.known o) q.0 in
      let small : x < W.S.L m = ltb-true x (W.S.L m) ((both_passed (ltb x (W.S.L m)) _ (fit_named F).0).0) in
      let small' : x < length ρ = rw R.top.full small in
      rw (← has_inj g.then) (record {
        ρ₁ = bound ρ x v;
        η₁' = stored η' (W.S.G.home m x) i v;
        stack = refl;
        rep = rep_home R x v small;
        set = rw (← is_inj q.1) (set_bound F.known ρ x v small' F.set);
        runs = λ Q K ts evs n Y k. ready_steps (omega arith)
            (run_reads R x y o g.i g.l v small (known_one F.known ρ o F.set q'.1) (F.set y q'.0).1 g.index g.pointer g.there k);
      })

  -- a write
  pub simply_write : (y : ℕ) (o e : Expr) (F : Fit W w m ρ (step a (write y o e) c)) (r : Moved ℕ)
      → instr W.source.procs i j m ρ a (write y o e) c z η ≡ has r → Simply W i j η₀ m s z η' (write y o e) c (fit_first F).0 r
  simply_write y o e F r p =
      let b = chain_has (eval ρ e) _ p in
      let g = access (indexed ρ o) (pointed ρ y) η _ b.2 in
      let v : Value = b.0 in
      let q = when_is (both (F.known y) (both (known F.known o) (known F.known e))) _ (fit_first F).1 in
      let q' = both_passed (F.known y) (both (known F.known o) (known F.known e)) q.0 in
      let q'' = both_passed (known F.known o) (known F.known e) q'.1 in
      let low : g.l < W.S.h = (cell_of_take W.S.h η' g.l g.i {v = g.v} (rw R.shared g.there)).0 in
      rw (← has_inj g.then) (record {
        ρ₁ = ρ;
        η₁' = stored η' g.l g.i v;
        stack = refl;
        rep = rep_shared R g.l g.i v low;
        set = rw (← is_inj q.1) F.set;
        runs = λ Q K ts evs n Y k. ready_steps (omega arith)
            (run_writes R y o e g.i g.l v (known_one F.known ρ e F.set q''.1)
            (known_one F.known ρ o F.set q''.0) (F.set y q'.0).1
            b.1 g.index g.pointer g.there k);
      })

-- outside an atomic block such an instruction is followed by pc
pub step_simply : {W : World} {i : ℕ} {η' : Memory} {m : ℕ} {s : Stack ℕ} {ρ : Env} {η : Memory} {a : ℕ} {ins : Instr ℕ} {c : Block ℕ}
    → Rep W.S i η' m s ρ η η' → StackSound W s → (F : FrameSound W m ρ (step a ins c)) (r : Moved ℕ)
    → at W.procs a ≡ is (simulating (W.S.L m) (inside_i W.S.G m (W.S.L m) ins (pc W.S.G m (W.S.L m) (first (W.S.ends m) c))))
    → Simply W i a η' m s s η' ins c (fit_first F.fit).0 r → Stepped W i η' m a (inner W.source.procs i a m (W.S.L m) ins + 2) r
step_simply {W} {i} {η'} {m} {s} {ρ} {η} {a} {ins} {c} R below F r found y =
    let k : ℕ = first (W.S.ends m) c in
    record {
      memory' = stored y.η₁' W.S.G.pct i (Whole (pos k));
      after = rw y.stack (after_pc c y.rep);
      sound = rw y.stack (sound_next F y.ρ₁ (y.rep.top.full ∙ sym R.top.full) y.set, below);
      body = inside_i W.S.G m (W.S.L m) ins (pc W.S.G m (W.S.L m) k);
      found = found;
      runs =
          λ K ts evs.
          ready_steps (omega arith)
          (y.runs (λ d. d ≡ config K (stored y.η₁' W.S.G.pct i (Whole (pos k))) ts i (evs ++ r.events)) K ts evs 3
          (pc W.S.G m (W.S.L m) k)
          (run_pc y.rep k refl));
    }

-- ---- tests, calls and returns

module _ {W : World} {i : ℕ} {η' : Memory} {m : ℕ} {s : Stack ℕ} {ρ : Env} {η : Memory} {a : ℕ} {c : Block ℕ} (R : Rep W.S i η' m s ρ η η')
    (below : StackSound W s) where
  -- the test of a loop
  pub step_while : (e : Expr) (b : Block ℕ) → FrameSound W m ρ (step a (while e b) c)
      → (r : Moved ℕ) → instr W.source.procs i a m ρ a (while e b) c s η ≡ has r → Stepped W i η' m a (2 * vars (W.S.L m) (e ∷ []) + 3) r
  step_while e b F r p =
      let t = chain_has (eval ρ e ⟫ truth) _ p in
      let q = when_is (known F.fit.known e) _ (fit_first F.fit).1 in
      rw (← has_inj t.2) (record {
        memory' = stored η' W.S.G.pct i (Whole (pos (pick t.0 (first a b) (first (W.S.ends m) c))));
        after = rw (goal t.0) (after_pc (pick t.0 (b ⊕ step a (while e b) c) c) R);
        sound = (next t.0, below);
        body = code W.S.G m (W.S.L m) W.begin a (while e b) (first (W.S.ends m) c);
        found = F.coded.0;
        runs = λ K ts evs. ready_steps (omega arith)
            (run_tests R e t.0 (first a b) (first (W.S.ends m) c) (known_one F.fit.known ρ e F.fit.set q.0)
            t.1 (rw (append-nil evs)));
      })
    where
      goal : (t : Bool) → pick t (first a b) (first (W.S.ends m) c) ≡ first (W.S.ends m) (pick t (b ⊕ step a (while e b) c) c)
      goal true = sym (first_append (W.S.ends m) b (step a (while e b) c))
      goal false = refl

      next : (t : Bool) → FrameSound W m ρ (pick t (b ⊕ step a (while e b) c) c)
      next true = sound_while F
      next false = sound_past F

  -- the test of an if
  pub step_if : (e : Expr) (b d : Block ℕ) → FrameSound W m ρ (step a (if e b d) c)
      → (r : Moved ℕ) → instr W.source.procs i a m ρ a (if e b d) c s η ≡ has r → Stepped W i η' m a (2 * vars (W.S.L m) (e ∷ []) + 3) r
  step_if e b d F r p =
      let t = chain_has (eval ρ e ⟫ truth) _ p in
      let q = when_is (known F.fit.known e) _ (fit_first F.fit).1 in
      rw (← has_inj t.2) (record {
        memory' = stored η' W.S.G.pct i (Whole (pos (pick t.0 (first (first (W.S.ends m) c) b) (first (first (W.S.ends m) c) d))));
        after = rw (goal t.0) (after_pc (pick t.0 b d ⊕ c) R);
        sound = (sound_if t.0 F, below);
        body = code W.S.G m (W.S.L m) W.begin a (if e b d) (first (W.S.ends m) c);
        found = F.coded.0;
        runs = λ K ts evs. ready_steps (omega arith)
            (run_tests R e t.0 (first (first (W.S.ends m) c) b) (first (first (W.S.ends m) c) d)
            (known_one F.fit.known ρ e F.fit.set q.0)
            t.1 (rw (append-nil evs)));
      })
    where
      goal : (t : Bool) → pick t (first (first (W.S.ends m) c) b) (first (first (W.S.ends m) c) d) ≡ first (W.S.ends m) (pick t b d ⊕ c)
      goal true = sym (first_append (W.S.ends m) b c)
      goal false = sym (first_append (W.S.ends m) d c)

  -- a call
  pub step_call : (q : ℕ) (es : List Expr) → FrameSound W m ρ (step a (call q es) c) → Chained W m (step a (call q es) c) s
      → (r : Moved ℕ) → instr W.source.procs i a m ρ a (call q es) c s η ≡ has r → Stepped W i η' m a (2 * vars (W.S.L m) es + 2 * length es + 4) r
  step_call q es F on r p =
      let b₁ = chain_has (evals ρ es) _ p in
      let b₂ = chain_has (or_lacks WrongKind (at W.source.procs q)) _ b₁.2 in
      let b₃ = provided_has (B.not (either (eqb q m) (runs q s))) WrongKind _ b₂.2 in
      let there : at W.source.procs q ≡ is b₂.0 = or_lacks_has WrongKind (at W.source.procs q) b₂.1 in
      let vs : List Value = b₁.0 in
      let callee : Proc ℕ = b₂.0 in
      let E : Entry W.S W.source W.procs W.begin q callee = W.entries q callee there in
      let new : either (eqb q m) (runs q s) ≡ false = not-true _ b₃.0 in
      let k = when_is (all (known F.fit.known) es) _ (fit_first F.fit).1 in
      let count : callee.params ≡ length es
      = takes_params W.source.procs q (length es) (both_passed (takes W.source.procs q (length es)) _ (fit_named F.fit).0).0 there in
      let same : length vs ≡ length es = length_evals ρ es b₁.1 in
      let fits : length vs ≤ W.S.L q = omega (arith, E.params, E.size) in
      let R₁ = rep_call q E.in_n new (on a q es c refl) R vs c fits in
      rw (← b₃.1) (record {
        memory' =
            stored (stored (passed W.S i q η' 0 vs) (W.S.G.from q) i (Whole (pos (first (W.S.ends m) c)))) W.S.G.pct i
            (Whole (pos (W.begin q)));
        after = rw (E.begins, ← E.size) (after_pc callee.body R₁);
        sound = (called q callee there vs (omega arith), (sound_next F ρ refl (rw (← is_inj k.1) F.fit.set), below));
        body = code W.S.G m (W.S.L m) W.begin a (call q es) (first (W.S.ends m) c);
        found = F.coded.0;
        runs = λ K ts evs. ready_steps (omega arith)
            (run_calls q E.in_n new (on a q es c refl) R es vs (W.begin q) (first (W.S.ends m) c)
            (λ x e. F.fit.set x (known_mentions F.fit.known es k.0 x e))
            b₁.1 (omega arith) same
            (rw (append-nil evs)));
      })

module _ {W : World} {i : ℕ} {η' : Memory} {m : ℕ} {s : Stack ℕ} {ρ : Env} {η : Memory} (R : Rep W.S i η' m s ρ η η')
    (below : StackSound W s) where
  -- the end of a procedure
  pub step_end : FrameSound W m ρ end → Stepped W i η' m (W.S.ends m) 4 (record { stack = s; memory = η; events = [] })
  step_end F =
      let E : Entry W.S W.source W.procs W.begin m F.proc.0 = W.entries m F.proc.0 F.proc.1 in
      let R₁ = rep_pct R (Whole (pos (label_by W.S.ends s))) in
      record {
        memory' = stored η' W.S.G.pct i (Whole (pos (label_by W.S.ends s)));
        after = record {
          shared = R₁.shared;
          shaped = R₁.shaped;
          label = cell_stored η' W.S.G.pct i _ (pct_there R).1;
          kept = R₁.below;
          others = R₁.others;
        };
        sound = below;
        body = returns W.S.G m (W.S.L m);
        found = E.last;
        runs = λ K ts evs. run_returns R (label_by W.S.ends s) R.top.back (rw (append-nil evs));
      }

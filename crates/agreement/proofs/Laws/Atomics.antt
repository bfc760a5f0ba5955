-- An atomic block, and the run of the copy's procedure for it.
use Rattle.std.specs.Prelude.{ℕ, zero, suc, ◌+◌, ◌≡◌, refl, List, [], ◌∷◌, ◌++◌, Bool, true, false, pos}
use Rattle.std.proofs.Common.{arith, ◌∙◌, append-nil, append_assoc}
use Rattle.std.proofs.Math.Path.{sym}
use Rattle.value.specs.Maybe.{pick}
use Rattle.value.specs.Try.{Try, has, ◌⟫◌}
use Rattle.value.specs.declared.Value.TheVariants.{Whole}
use Rattle.value.proofs.Laws.Maybes.{when_is, is_inj}
use Rattle.value.proofs.Laws.Tries.{has_inj, lacking, chain_has}
use Rattle.value.proofs.Laws.Tests.{never}
use Rattle.format.specs.Syntax.{Expr, Instr, assign, write, read, while, if, call, atomic, select, Block, end, step, ◌⊕◌, Plain, concurrent}
use Rattle.format.specs.Labels.{first}
use Rattle.format.specs.Rules.{Here, known, allowed, named}
use Rattle.format.specs.Rules as Rules
use Rattle.translation.specs.Layout.{Layout}
use Rattle.translation.specs.Code.{load_all, variables, inside, inside_i, pc, code}
use Rattle.semantics.specs.Memory.{Env, eval, Memory, stored, Event}
use Rattle.value.specs.Values.{truth}
use Rattle.semantics.specs.Step.{Stack, Moved, instr}
use Rattle.semantics.specs.Threads.{Atomic, to_end, size, first_instr}
use Rattle.semantics.specs.Copy.{Config}
use Rattle.agreement.specs.Price as Price
use Rattle.agreement.proofs.Laws.Runs.{config}
use Rattle.agreement.proofs.Laws.Reps.{Rep}
use Rattle.agreement.proofs.Laws.Instrs.{Ready, run_choice, run_pc}
use Rattle.agreement.proofs.Laws.Frames.{World, plain, Fit, FrameSound, StackSound, Set}
use Rattle.agreement.proofs.Laws.Frames.{fit_first, fit_named, fit_allowed, fit_next, fit_if, sound_next}
use Rattle.agreement.proofs.Laws.Steps.{Simply, simply_assign, simply_read, simply_write, Stepped, after_pc, known_one, ready_steps}

-- inside an atomic block of procedure m
abbrev pub inner : ℕ → Here
inner m = record { kind = concurrent; proc = m; inside = true }

-- ---- code inside a block, before other code

module _ (G : Layout) (m n : ℕ) where
  -- loads before one block after another
  load_all_tail : (xs : List ℕ) (c y : Block Plain) → load_all G m n xs c ⊕ y ≡ load_all G m n xs (c ⊕ y)
  load_all_tail [] c y = refl
  load_all_tail (x ∷ xs) c y = rw (load_all_tail xs c y)

  -- the code of an instruction inside an atomic block, before one block after another
  inside_i_tail : (i : Instr ℕ) (c y : Block Plain) → inside_i G m n i c ⊕ y ≡ inside_i G m n i (c ⊕ y)
  inside_i_tail (assign x e) c y = load_all_tail (variables 0 n (e ∷ [])) _ y
  inside_i_tail (write a o e) c y = load_all_tail (variables 0 n (e ∷ [])) _ y ∙ rw (load_all_tail (variables 0 n (o ∷ [])) _ y)
  inside_i_tail (read x a o) c y = load_all_tail (variables 0 n (o ∷ [])) _ y
  inside_i_tail (while e b) c y = refl
  inside_i_tail (if e b d) c y = load_all_tail (variables 0 n (e ∷ [])) _ y
  inside_i_tail (call q es) c y = refl
  inside_i_tail (atomic b) c y = refl
  inside_i_tail (select a b) c y = refl

  -- and of a block
  inside_tail : (b : Block ℕ) (c y : Block Plain) → inside G m n b c ⊕ y ≡ inside G m n b (c ⊕ y)
  inside_tail end c y = refl
  inside_tail (step a i b) c y = inside_i_tail i (inside G m n b c) y ∙ rw (inside_tail b c y)

  -- the code of one block after another
  inside_append : (b c : Block ℕ) (y : Block Plain) → inside G m n (b ⊕ c) y ≡ inside G m n b (inside G m n c y)
  inside_append end c y = refl
  inside_append (step a i b) c y = rw (inside_append b c y)

  -- a branch and what follows it
  pub branch_tail : (t : Bool) (b d c : Block ℕ) (y : Block Plain)
      → pick t (inside G m n b end) (inside G m n d end) ⊕ inside G m n c y ≡ inside G m n (pick t b d ⊕ c) y
  branch_tail true b d c y = inside_tail b end (inside G m n c y) ∙ sym (inside_append b c y)
  branch_tail false b d c y = inside_tail d end (inside G m n c y) ∙ sym (inside_append d c y)

-- ---- the block as it runs

module _ (W : World) (i j : ℕ) (η₀ : Memory) (m : ℕ) (s : Stack ℕ) where
  -- code c of the block of label j, from locals ρ, to the end that A tells
  pub record Ran (η' : Memory) (c : Block ℕ) (u : Rules.Known) (evs : List Event) (n : ℕ) (A : Atomic) : Type 1 where
    pub η₁' : Memory
    pub rep : Rep W.S i η₀ m s A.env A.memory η₁'
    pub set : Set u A.env
    pub runs : (Q : Config → Type 0) (K : Stack Plain) (ts : List ℕ) (before : List Event) (k : ℕ) (Y : Block Plain)
        → Ready W.S W.procs Q j i K ts i m k Y η₁' (before ++ A.events)
        → Ready W.S W.procs Q j i K ts i m (n + k) (inside W.S.G m (W.S.L m) c Y) η' (before ++ evs)

  -- what is left of a block costs
  abbrev cost : ℕ → Env → Block ℕ → Memory → ℕ
  cost n ρ c η = Price.inside W.source.procs i j m (W.S.L m) n (record { proc = m; env = ρ; code = c } ∷ []) η

  -- how the program runs what is left of it
  abbrev to_end' : ℕ → Env → Block ℕ → Memory → List Event → Try Atomic
  to_end' n ρ c η evs = to_end W.source.procs i j n (record { proc = m; env = ρ; code = c } ∷ []) η evs

  -- nothing is left to run
  ran_end : {ρ : Env} {η η' : Memory} (n : ℕ) (evs : List Event) (A : Atomic) → Rep W.S i η₀ m s ρ η η' → (F : Fit W (inner m) m ρ end)
      → has (record { env = ρ; memory = η; events = evs }) ≡ has A → Ran η' end F.then.0 evs 0 A
  ran_end {ρ} {η} {η'} n evs A R F e = rw (← has_inj e) (record {
    η₁' = η';
    rep = R;
    set = rw (← is_inj F.then.1) F.set;
    runs = λ Q K ts before k Y r. ready_steps (omega arith) r;
  })

  -- an assignment, a read or a write, and then the rest
  ran_simply : {ρ : Env} {η η' : Memory} {a : ℕ} {ins : Instr ℕ} {c : Block ℕ} (n : ℕ) (evs : List Event) (A : Atomic) → Rep W.S i η₀ m s ρ η η'
      → (F : Fit W (inner m) m ρ (step a ins c))
      → (r : Moved ℕ) → Simply W i j η₀ m s [] η' ins c (fit_first F).0 r
      → ((ρ₁ : Env) (η₁' : Memory) → Rep W.S i η₀ m s ρ₁ r.memory η₁' → (H : Fit W (inner m) m ρ₁ c)
      → to_end' n ρ₁ c r.memory (evs ++ r.events) ≡ has A
      → Ran η₁' c H.then.0 (evs ++ r.events) (cost n ρ₁ c r.memory) A)
      → to_end W.source.procs i j n r.stack r.memory (evs ++ r.events) ≡ has A
      → Ran η' (step a ins c) F.then.0 evs
      (Price.inner W.source.procs i j m (W.S.L m) ins + Price.inside W.source.procs i j m (W.S.L m) n r.stack r.memory) A
  unfolding fit_next
  ran_simply {ρ} {η} {η'} {a} {ins} {c} n evs A R F r y ih e =
      let H : Fit W (inner m) m y.ρ₁ c = fit_next F y.ρ₁ (y.rep.top.full ∙ sym R.top.full) y.set in
      let g = ih y.ρ₁ y.η₁' y.rep H (rw y.stack at e) in
      record {
        η₁' = g.η₁';
        rep = g.rep;
        set = g.set;
        runs = λ Q K ts before k Y q. ready_steps (rw y.stack (omega arith))
            (y.runs Q K ts (before ++ evs) (cost n y.ρ₁ c r.memory + k) (inside W.S.G m (W.S.L m) c Y)
            (rw (append_assoc before evs r.events) (g.runs Q K ts before k Y q)));
      }

  -- a test, and then its branch and the rest
  ran_if : {ρ : Env} {η η' : Memory} {a : ℕ} {e : Expr} {b d c : Block ℕ} (n : ℕ) (evs : List Event) (A : Atomic) → Rep W.S i η₀ m s ρ η η'
      → (F : Fit W (inner m) m ρ (step a (if e b d) c))
      → (r : Moved ℕ) → instr W.source.procs i j m ρ a (if e b d) c [] η ≡ has r
      → ((t : Bool) (H : Fit W (inner m) m ρ (pick t b d ⊕ c)) → to_end' n ρ (pick t b d ⊕ c) η (evs ++ []) ≡ has A
      → Ran η' (pick t b d ⊕ c) H.then.0 (evs ++ []) (cost n ρ (pick t b d ⊕ c) η) A)
      → to_end W.source.procs i j n r.stack r.memory (evs ++ r.events) ≡ has A
      → Ran η' (step a (if e b d) c) F.then.0 evs
      (Price.inner W.source.procs i j m (W.S.L m) (if e b d) + Price.inside W.source.procs i j m (W.S.L m) n r.stack r.memory) A
  ran_if {ρ} {η} {η'} {a} {e} {b} {d} {c} n evs A R F r p ih q =
      let t = chain_has (eval ρ e ⟫ truth) _ p in
      let o = when_is (known F.known e) _ (fit_first F).1 in
      let H = fit_if t.0 F in
      let q' : to_end' n ρ (pick t.0 b d ⊕ c) η (evs ++ []) ≡ has A = rw (← has_inj t.2) at q in
      let g = ih t.0 H.0 q' in
      rw (← has_inj t.2) (record {
        η₁' = g.η₁';
        rep = g.rep;
        set = λ x u. g.set x (H.1 x u);
        runs = λ Q K ts before k Y z. ready_steps (omega arith)
            (run_choice R {r = cost n ρ (pick t.0 b d ⊕ c) η + k} (inside W.S.G m (W.S.L m) b end) (inside W.S.G m (W.S.L m) d end)
            (inside W.S.G m (W.S.L m) c Y) e t.0
            (known_one F.known ρ e F.set o.0) t.1
            (rw (branch_tail W.S.G m (W.S.L m) t.0 b d c Y) (rw (append-nil evs) at (g.runs Q K ts before k Y z))));
      })

  -- the steps of a block cost one by one
  cost_step : (n a : ℕ) (ρ : Env) (ins : Instr ℕ) (c : Block ℕ) (η : Memory) (r : Moved ℕ) → instr W.source.procs i j m ρ a ins c [] η ≡ has r
      → cost (suc n) ρ (step a ins c) η
      ≡ Price.inner W.source.procs i j m (W.S.L m) ins + Price.inside W.source.procs i j m (W.S.L m) n r.stack r.memory
  cost_step n a ρ ins c η r e = rw (e, Price.inside)

  -- the same cost, written otherwise
  ran_cost : {η' : Memory} {c : Block ℕ} {u : Rules.Known} {evs : List Event} {n k : ℕ} {A : Atomic} → n ≡ k → Ran η' c u evs n A → Ran η' c u evs k A
  ran_cost e g = rw e at g

  -- a block runs to its end as the program runs it
  pub ran : (n : ℕ) (c : Block ℕ) {ρ : Env} {η η' : Memory} (evs : List Event) (A : Atomic) → Rep W.S i η₀ m s ρ η η' → (F : Fit W (inner m) m ρ c)
      → to_end' n ρ c η evs ≡ has A → Ran η' c F.then.0 evs (cost n ρ c η) A
  ran zero end evs A R F e = ran_end zero evs A R F e
  ran zero (step a ins c) evs A R F e = absurd (lacking e)
  ran (suc n) end evs A R F e = ran_end (suc n) evs A R F e
  ran (suc n) (step a (assign x v) c) {ρ} {η} evs A R F e =
      let p = chain_has (instr W.source.procs i j m ρ a (assign x v) c [] η) _ e in
      ran_cost (sym (cost_step n a ρ (assign x v) c η p.0 p.1))
      (ran_simply n evs A R F p.0 (simply_assign R [] x v F p.0 p.1) (λ ρ₁ η₁' R₁ H q. ran n c (evs ++ p.0.events) A R₁ H q) p.2)
  ran (suc n) (step a (write y o v) c) {ρ} {η} evs A R F e =
      let p = chain_has (instr W.source.procs i j m ρ a (write y o v) c [] η) _ e in
      ran_cost (sym (cost_step n a ρ (write y o v) c η p.0 p.1))
      (ran_simply n evs A R F p.0 (simply_write R [] y o v F p.0 p.1) (λ ρ₁ η₁' R₁ H q. ran n c (evs ++ p.0.events) A R₁ H q) p.2)
  ran (suc n) (step a (read x y o) c) {ρ} {η} evs A R F e =
      let p = chain_has (instr W.source.procs i j m ρ a (read x y o) c [] η) _ e in
      ran_cost (sym (cost_step n a ρ (read x y o) c η p.0 p.1))
      (ran_simply n evs A R F p.0 (simply_read R [] x y o F p.0 p.1) (λ ρ₁ η₁' R₁ H q. ran n c (evs ++ p.0.events) A R₁ H q) p.2)
  ran (suc n) (step a (if v b d) c) {ρ} {η} evs A R F e =
      let p = chain_has (instr W.source.procs i j m ρ a (if v b d) c [] η) _ e in
      ran_cost (sym (cost_step n a ρ (if v b d) c η p.0 p.1))
      (ran_if n evs A R F p.0 p.1 (λ t H q. ran n (pick t b d ⊕ c) (evs ++ []) A R H q) p.2)
  ran (suc n) (step a (while v b) c) evs A R F e = absurd (never (fit_allowed F).0)
  ran (suc n) (step a (call q es) c) evs A R F e = absurd (never (fit_allowed F).0)
  ran (suc n) (step a (atomic b) c) evs A R F e = absurd (never (fit_allowed F).0)
  ran (suc n) (step a (select x y) c) evs A R F e = absurd (never (fit_allowed F).0)

-- the block of an atomic instruction
unfoldable pub fit_atomic : {W : World} {m : ℕ} {ρ : Env} {a : ℕ} {b c : Block ℕ} → Fit W (plain m) m ρ (step a (atomic b) c) → Fit W (inner m) m ρ b
fit_atomic F = record {
  full = F.full;
  named = (fit_named F).0;
  allowed = (fit_allowed F).0;
  known = F.known;
  then = ((fit_first F).0, (fit_first F).1);
  set = F.set;
}

-- the copy does an atomic block
pub step_atomic : {W : World} {i : ℕ} {η' : Memory} {m : ℕ} {s : Stack ℕ} {ρ : Env} {η : Memory} {a : ℕ} {b c : Block ℕ}
    → Rep W.S i η' m s ρ η η' → StackSound W s → FrameSound W m ρ (step a (atomic b) c)
    → (r : Moved ℕ) → first_instr W.source.procs i m ρ a (atomic b) c s η ≡ has r
    → Stepped W i η' m a (Price.inside W.source.procs i a m (W.S.L m) (size b) (record { proc = m; env = ρ; code = b } ∷ []) η + 2) r
unfolding fit_atomic
step_atomic {W} {i} {η'} {m} {s} {ρ} {η} {a} {b} {c} R below F r p =
    let t = chain_has (to_end W.source.procs i a (size b) (record { proc = m; env = ρ; code = b } ∷ []) η []) _ p in
    let A : Atomic = t.0 in
    let H : Fit W (inner m) m ρ b = fit_atomic F.fit in
    let g = ran W i a η' m s (size b) b [] A R H t.1 in
    let k : ℕ = first (W.S.ends m) c in
    rw (← has_inj t.2) (record {
      memory' = stored g.η₁' W.S.G.pct i (Whole (pos k));
      after = after_pc c g.rep;
      sound = (sound_next F A.env (g.rep.top.full ∙ sym R.top.full) g.set, below);
      body = code W.S.G m (W.S.L m) W.begin a (atomic b) k;
      found = F.coded.0;
      runs = λ K ts evs. ready_steps (omega arith)
          (rw (append-nil evs) at
          (g.runs (λ d. d ≡ config K (stored g.η₁' W.S.G.pct i (Whole (pos k))) ts i (evs ++ A.events)) K ts evs 3
          (pc W.S.G m (W.S.L m) k)
          (run_pc g.rep k refl)));
    })

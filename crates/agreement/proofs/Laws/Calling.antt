-- How the code of a call runs, and what it leaves: the callee's frame, with its parameters in their homes.
use Rattle.std.specs.Prelude.{ℕ, zero, suc, ◌+◌, ◌*◌, ◌-◌, ◌≤◌, ◌<◌, ◌≡◌, refl, List, [], ◌∷◌, ◌++◌, map, true, false, length, replicate, pos, eqb}
use Rattle.std.proofs.Common.{arith, sym, ap, ◌∙◌, length-append}
use Rattle.std.proofs.lemmas.List.{length-replicate, length-map}
use Rattle.value.specs.Maybe.{Maybe, is, nothing, either}
use Rattle.value.specs.Try.{has, ◌⟫◌}
use Rattle.value.specs.Lists.{at}
use Rattle.value.specs.declared.Value.{Value}
use Rattle.value.specs.declared.Value.TheVariants.{Whole, Location}
use Rattle.value.proofs.Laws.Maybes.{is_inj, missing}
use Rattle.value.proofs.Laws.Tries.{chain_has}
use Rattle.value.proofs.Laws.Tests.{either_left, either_right, either_false}
use Rattle.format.specs.Syntax.{Expr, Block, Proc, Plain}
use Rattle.translation.specs.Layout.{Layout}
use Rattle.translation.proofs.Laws.Placing.Apart.{Along, self}
use Rattle.translation.specs.Code.{variables, put, pc, passes, calls, mentions, mentioned, shift, num}
use Rattle.semantics.specs.Memory.{Env, lookup, eval, evals, Memory, cell, stored, Event}
use Rattle.semantics.specs.Step.{Stack, runs}
use Rattle.semantics.specs.Threads.{size}
use Rattle.semantics.specs.Copy.{Config}
use Rattle.semantics.proofs.Laws.Cells.{cell_stored, cell_elsewhere, cell_there}
use Rattle.agreement.specs.Price.{vars}
use Rattle.agreement.proofs.Laws.Runs.{frame, config, Runs, run_steps}
use Rattle.agreement.proofs.Laws.Pieces.{own, run_put}
use Rattle.agreement.proofs.Laws.Reps.{Setting, label_by, Rep, rep_unused, other_proc}
use Rattle.agreement.proofs.Laws.Instrs.{size_loads, Known, Fresh, eval_fresh, Ready, run_loads, run_pc}

-- ---- arguments

-- the locals of a procedure that is entered: a local that is set is a parameter
pub lookup_entered : (vs : List Value) (n x : ℕ) {v : Value} → lookup (map is vs ++ replicate n nothing) x ≡ is v → at vs x ≡ is v
lookup_entered [] zero x e = missing e
lookup_entered [] (suc n) zero e = missing e
lookup_entered [] (suc n) (suc x) e = lookup_entered [] n x e
lookup_entered (u ∷ vs) n zero e = e
lookup_entered (u ∷ vs) n (suc x) e = lookup_entered vs n x e

-- and a parameter is set
pub entered_lookup : (vs : List Value) (ρ : Env) (x : ℕ) {v : Value} → at vs x ≡ is v → lookup (map is vs ++ ρ) x ≡ is v
entered_lookup [] ρ x e = missing e
entered_lookup (u ∷ vs) ρ zero e = e
entered_lookup (u ∷ vs) ρ (suc x) e = entered_lookup vs ρ x e

-- it has as many locals as it says
pub length_entered : (vs : List Value) (n : ℕ) → length vs ≤ n → length (map is vs ++ replicate (n - length vs) nothing) ≡ n
length_entered vs n h = simp (length-append, length-replicate, length-map) (omega arith)

-- each argument is passed by two instructions
pub size_passes : (G : Layout) (m n q j : ℕ) (es : List Expr) (c : Block Plain) → size (passes G m n q j es c) ≡ 2 * length es + size c
size_passes G m n q j [] c = omega arith
size_passes G m n q j (e ∷ es) c =
    let r : size (passes G m n q (suc j) es c) ≡ 2 * length es + size c = size_passes G m n q (suc j) es c in omega arith

module _ (S : Setting) (i q : ℕ) where
  -- memory after arguments, from parameter j of procedure q on
  abbrev pub passed : Memory → ℕ → List Value → Memory
  passed η j [] = η
  passed η j (v ∷ vs) = passed (stored η (S.G.home q j) i v) (suc j) vs

-- a parameter before j stays
passed_before : (S : Setting) (i q : ℕ) → q < S.N → (η' : Memory) (j : ℕ) (vs : List Value) (x : ℕ) → x < j → j + length vs ≤ S.L q
    → cell (passed S i q η' j vs) (S.G.home q x) i ≡ cell η' (S.G.home q x) i
passed_before S i q in_n η' j [] x lt h = refl
passed_before S i q in_n η' j (v ∷ vs) x lt h =
    passed_before S i q in_n (stored η' (S.G.home q j) i v) (suc j) vs x (omega arith) (omega arith)
    ∙ cell_elsewhere η' (S.G.home q j) i v (S.G.home q x) i
    (λ p. let e : x ≡ j = (S.apart.home_home q x q j in_n in_n self (omega arith) (omega arith) p).1 in omega arith)

module _ {S : Setting} {i : ℕ} {η₀ : Memory} {m : ℕ} {s : Stack ℕ} {ρ : Env} {η : Memory} (q : ℕ) (in_n : q < S.N)
    (new : either (eqb q m) (runs q s) ≡ false) (on : (k : ℕ) → either (eqb k m) (runs k s) ≡ true → Along S.program k q) where
  -- the callee's homes, and its "from", are no frame's
  pub rep_callee_home : {η' : Memory} → Rep S i η₀ m s ρ η η' → (x : ℕ) (v : Value) → x < S.L q → Rep S i η₀ m s ρ η (stored η' (S.G.home q x) i v)
  rep_callee_home R x v below = rep_unused R (S.G.home q x) v (S.private.home q x)
      (λ k k<N e. (
        λ p. S.apart.home_from q x k k<N (sym p),
        λ y b p.
            other_proc q k (record { proc = m; env = ρ; code = Block.end } ∷ s) new e (S.apart.home_home k y q x k<N in_n (on k e) b below p).0,
      ))

  -- a store to the callee's "from" is not seen by the frames that run
  pub rep_callee_from : {η' : Memory} → Rep S i η₀ m s ρ η η' → (v : Value) → Rep S i η₀ m s ρ η (stored η' (S.G.from q) i v)
  rep_callee_from R v = rep_unused R (S.G.from q) v (S.private.from q)
      (λ k k<N e. (
        λ p. other_proc q k (record { proc = m; env = ρ; code = Block.end } ∷ s) new e (S.apart.from_from k q p),
        λ y b. S.apart.home_from k y q in_n,
      ))

  -- nor are the arguments
  pub rep_passed : {η' : Memory} → Rep S i η₀ m s ρ η η' → (j : ℕ) (vs : List Value) → j + length vs ≤ S.L q
      → Rep S i η₀ m s ρ η (passed S i q η' j vs)
  rep_passed R j [] h = R
  rep_passed {η' = η'} R j (v ∷ vs) h = rep_passed {η' = stored η' (S.G.home q j) i v} (rep_callee_home R j v (omega arith)) (suc j) vs (omega arith)

  -- the callee's homes are there
  pub callee_home_there : {η' : Memory} → Rep S i η₀ m s ρ η η' → (x : ℕ) → x < S.L q → (u : Value) × (cell η' (S.G.home q x) i ≡ has u)
  callee_home_there {η'} R x below = cell_there η' (S.G.home q x) i (rw R.shaped (S.rows.home q x in_n below)) R.thread

  -- and its "from"
  pub callee_from_there : {η' : Memory} → Rep S i η₀ m s ρ η η' → (u : Value) × (cell η' (S.G.from q) i ≡ has u)
  callee_from_there {η'} R = cell_there η' (S.G.from q) i (rw R.shaped (S.rows.from q in_n)) R.thread

  -- and each argument is in its parameter's home
  pub passed_at : {η' : Memory} → Rep S i η₀ m s ρ η η' → (j : ℕ) (vs : List Value) (x y : ℕ) {v : Value} → j + length vs ≤ S.L q → y ≡ j + x
      → at vs x ≡ is v
      → cell (passed S i q η' j vs) (S.G.home q y) i ≡ has v
  passed_at R j [] x y h p e = missing e
  passed_at {η'} R j (u ∷ vs) zero y {v} h p e =
      let y=j : y ≡ j = omega arith in
      let u=v : has u ≡ has v = ap has (is_inj e) in
      rw y=j (passed_before S i q in_n (stored η' (S.G.home q j) i u) (suc j) vs j (omega arith) (omega arith)
      ∙ cell_stored η' (S.G.home q j) i u (callee_home_there R j (omega arith)).1 ∙ u=v)
  passed_at {η'} R j (u ∷ vs) (suc x) y h p e =
      passed_at {η' = stored η' (S.G.home q j) i u} (rep_callee_home R j u (omega arith)) (suc j) vs x y (omega arith) (omega arith) e

  -- the call leaves the callee's frame above the caller's
  pub rep_call : {η' : Memory} → Rep S i η₀ m s ρ η η' → (vs : List Value) (c : Block ℕ) → length vs ≤ S.L q
      → Rep S i η₀ q (record { proc = m; env = ρ; code = c } ∷ s) (map is vs ++ replicate (S.L q - length vs) nothing) η
      (stored (passed S i q η' 0 vs) (S.G.from q) i (Whole (pos (label_by S.ends (record { proc = m; env = ρ; code = c } ∷ s)))))
  rep_call {η'} R vs c fits =
      let v : Value = Whole (pos (label_by S.ends (record { proc = m; env = ρ; code = c } ∷ s))) in
      let R₁ : Rep S i η₀ m s ρ η (passed S i q η' 0 vs) = rep_passed R 0 vs (omega arith) in
      let R₂ : Rep S i η₀ m s ρ η (stored (passed S i q η' 0 vs) (S.G.from q) i v) = rep_callee_from R₁ v in
      record {
        thread = R₂.thread;
        shared = R₂.shared;
        shaped = R₂.shaped;
        top = record {
          proc = in_n;
          full = length_entered vs (S.L q) fits;
          once = new;
          held = λ x u e.
              cell_elsewhere (passed S i q η' 0 vs) (S.G.from q) i v (S.G.home q x) i (S.apart.home_from q x q in_n)
              ∙ passed_at R 0 vs x x (omega arith) (omega arith) (lookup_entered vs (S.L q - length vs) x e);
          back = cell_stored (passed S i q η' 0 vs) (S.G.from q) i v (callee_from_there R₁).1;
        };
        below = (R₂.top, R₂.below);
        chain = on;
        others = R₂.others;
      }

  -- ---- the code

  module _ {procs : List (Proc Plain)} {Q : Config → Type 0} {l : ℕ} {K : Stack Plain} {ts : List ℕ} {t : ℕ} where
    -- the arguments are stored, one after the other
    run_passes : {r : ℕ} {c : Block Plain} {evs : List Event} {η' : Memory} (R : Rep S i η₀ m s ρ η η') (j : ℕ) (es : List Expr) (vs : List Value)
        (tm ax : Maybe Value) (σ : Env)
        → evals ρ es ≡ has vs → Fresh es ρ σ → j + length es ≤ S.L q
        → ((tm : Maybe Value) → Runs S.h procs Q r (config (frame l (own i tm ax σ) c ∷ K) (passed S i q η' j vs) ts t evs))
        → Runs S.h procs Q (2 * length es + r) (config (frame l (own i tm ax σ) (passes S.G m (S.L m) q j es c) ∷ K) η' ts t evs)
    run_passes R j [] [] tm ax σ val fresh h k = run_steps (omega arith) (k tm)
    run_passes R j [] (v ∷ vs) tm ax σ val fresh h k = let z : ◌≡◌ {A = ℕ} 0 1 = cc in absurd (omega arith)
    run_passes {r} {c} {evs} {η'} R j (e ∷ es) vs tm ax σ val fresh h k =
        let a : (v : Value) × (eval ρ e ≡ has v) × ((evals ρ es ⟫ λ us. has (v ∷ us)) ≡ has vs) = chain_has (eval ρ e) _ val in
        let b : (us : List Value) × (evals ρ es ≡ has us) × (has (a.0 ∷ us) ≡ has vs) = chain_has (evals ρ es) _ a.2 in
        let shape : vs ≡ a.0 ∷ b.0 = cc in
        run_steps {n = suc (suc (2 * length es + r))} (omega arith)
        (run_put S.private procs m (S.L m) (S.G.home q j) (shift e) a.0 (S.private.home q j)
        (eval_fresh i (is (Location (S.G.home q j))) ax ρ σ e (λ x p. fresh x (first_of x p)) ∙ a.1) (callee_home_there R j (omega arith)).1
        (run_passes {η' = stored η' (S.G.home q j) i a.0} (rep_callee_home R j a.0 (omega arith)) (suc j) es b.0 (is (Location (S.G.home q j))) ax σ b.1
        (λ x p. fresh x (either_right (mentioned x e) p)) (omega arith)
        (λ tm'. rw shape at (k tm'))))
      where
        first_of : (x : ℕ) → mentions x (e ∷ []) ≡ true → mentions x (e ∷ es) ≡ true
        first_of x p = either_left (mentions x es) (sym (either_false (mentioned x e)) ∙ p)

    -- call q with es; begin is where q begins, back the label after the call
    pub run_calls : {evs : List Event} {η' : Memory} (R : Rep S i η₀ m s ρ η η') (es : List Expr) (vs : List Value) (begin back : ℕ)
        → Known es ρ → evals ρ es ≡ has vs → length es ≤ S.L q → length vs ≡ length es
        → Q (config K (stored (stored (passed S i q η' 0 vs) (S.G.from q) i (Whole (pos back))) S.G.pct i (Whole (pos begin))) ts t evs)
        → Ready S procs Q l i K ts t m (2 * vars (S.L m) es + (2 * length es + 5)) (calls S.G m (S.L m) q es begin back) η' evs
    run_calls {η' = η'} R es vs begin back known val fits same k =
        let R₁ : Rep S i η₀ m s ρ η (passed S i q η' 0 vs) = rep_passed R 0 vs (omega arith) in
        let R₂ : Rep S i η₀ m s ρ η (stored (passed S i q η' 0 vs) (S.G.from q) i (Whole (pos back))) = rep_callee_from R₁ (Whole (pos back)) in
        record {
          few =
              omega (
                arith,
                size_loads S.G m (S.L m) (variables 0 (S.L m) es)
                    (passes S.G m (S.L m) q 0 es (put S.G m (S.L m) (S.G.from q) (num back) (pc S.G m (S.L m) begin))),
                size_passes S.G m (S.L m) q 0 es (put S.G m (S.L m) (S.G.from q) (num back) (pc S.G m (S.L m) begin)),
              );
          go = λ tm ax σ full.
              run_loads R es known tm ax σ full (λ tm₁ σ₁ full₁ fresh keeps.
              run_passes R 0 es vs tm₁ ax σ₁ val fresh (omega arith) (λ tm₂.
              (run_put S.private procs m (S.L m) (S.G.from q) (num back) (Whole (pos back)) (S.private.from q) refl (callee_from_there R₁).1
              ((run_pc R₂ begin k).go (is (Location (S.G.from q))) ax σ₁ full₁))));
        }

-- as many values as arguments
pub length_evals : (ρ : Env) (es : List Expr) {vs : List Value} → evals ρ es ≡ has vs → length vs ≡ length es
length_evals ρ [] {vs} e = let p : vs ≡ [] = cc in rw p
length_evals ρ (x ∷ es) {vs} e =
    let a : (v : Value) × (eval ρ x ≡ has v) × ((evals ρ es ⟫ λ us. has (v ∷ us)) ≡ has vs) = chain_has (eval ρ x) _ e in
    let b : (us : List Value) × (evals ρ es ≡ has us) × (has (a.0 ∷ us) ≡ has vs) = chain_has (evals ρ es) _ a.2 in
    let p : vs ≡ a.0 ∷ b.0 = cc in
    rw p (ap suc (length_evals ρ es b.1))

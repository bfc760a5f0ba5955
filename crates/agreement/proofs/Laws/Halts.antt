-- Where the program cannot do an instruction, the copy's code for it stops before it has changed anything of the program's.
use Rattle.std.specs.Prelude.{ℕ, suc, ◌+◌, ◌*◌, ◌≤◌, ◌<◌, ◌≡◌, refl, List, [], ◌∷◌, true, false, length, eqb}
use Rattle.std.proofs.Common.{arith, sym, ap, ◌∙◌}
use Rattle.value.specs.Maybe.{Maybe, is, either}
use Rattle.value.specs.Try.{Try, has, lacks, ◌⟫◌}
use Rattle.value.specs.declared.Value.{Value}
use Rattle.value.specs.declared.Value.TheVariants.{Location}
use Rattle.value.specs.declared.Reason.{Reason}
use Rattle.value.proofs.Laws.Tries.{lacks_inj, lacking}
use Rattle.value.proofs.Laws.Tests.{either_left, either_right, either_false}
use Rattle.value.proofs.Laws.Lists.{In, here}
use Rattle.format.specs.Syntax.{Expr, local, assign, write, read, if, Block, end, Proc, Plain}
use Rattle.translation.proofs.Laws.Placing.Apart.{Along}
use Rattle.translation.specs.Code.{◌then◌, tmp, loc, put, pc, load, loads, keep_in, assigns}
use Rattle.translation.specs.Code.{reads, writes, goto, tests, passes, calls, variables, mentions}
use Rattle.translation.specs.Code.{mentioned, shift, moved, num}
use Rattle.semantics.specs.Memory.{Env, lookup, eval, evals, index, Memory, cell, stored, Event}
use Rattle.value.specs.Values.{truth}
use Rattle.semantics.specs.Step.{Stack, Moved, instr, runs}
use Rattle.semantics.specs.Threads.{blocked}
use Rattle.semantics.specs.Copy.{Config, ended, next}
use Rattle.semantics.proofs.Laws.Cells.{cell_take}
use Rattle.agreement.specs.Price.{vars}
use Rattle.agreement.specs.Agreement.{is_at_head}
use Rattle.agreement.proofs.Laws.Accesses.{indexed, pointed, last_link, alike, access_lacks}
use Rattle.agreement.proofs.Laws.Runs.{frame, config, Runs, stop, away, run_assign, run_steps}
use Rattle.agreement.proofs.Laws.Pieces.{own, run_put}
use Rattle.agreement.proofs.Laws.Reps.{Setting, Rep}
use Rattle.agreement.proofs.Laws.Instrs.{size_loads, Known, Fresh, eval_fresh, Ready, run_loads, run_list}
use Rattle.agreement.proofs.Laws.Calling.{size_passes, callee_home_there, rep_callee_home}

-- the copy ends here, blocked for the reason r, with the entries ts left, and not at the loop head
pub record Halted (h : ℕ) (procs : List (Proc Plain)) (r : Reason) (ts : List ℕ) (d : Config) : Type 0 where
  pub blocks : next h procs d ≡ ended (blocked r)
  pub left : d.todo ≡ ts
  pub apart : is_at_head d.stack ≡ false

module _ (h : ℕ) (procs : List (Proc Plain)) {m : ℕ} {ρ : Env} {c : Block Plain} {s : Stack Plain} {η : Memory} {ts : List ℕ} {t : ℕ}
    {evs : List Event} {r : Reason} where
  -- a write that fails ends the run
  halt_write : (y : ℕ) (o e : Expr) → instr procs t m m ρ tt (write y o e) c s η ≡ lacks r
      → Halted h procs r ts (config (frame m ρ (write y o e then c) ∷ s) η ts t evs)
  halt_write y o e p = record { blocks = rw p; left = refl; apart = away m ρ (write y o e) c s refl }

  -- a read
  halt_read : (x y : ℕ) (o : Expr) → instr procs t m m ρ tt (read x y o) c s η ≡ lacks r
      → Halted h procs r ts (config (frame m ρ (read x y o then c) ∷ s) η ts t evs)
  halt_read x y o p = record { blocks = rw p; left = refl; apart = away m ρ (read x y o) c s refl }

  -- a test
  halt_if : (e : Expr) (a b : Block Plain) → (eval ρ e ⟫ truth) ≡ lacks r → Halted h procs r ts (config (frame m ρ (if e a b then c) ∷ s) η ts t evs)
  halt_if e a b p = record { blocks = rw p; left = refl; apart = away m ρ (if e a b) c s refl }

-- the only variable of a list
only : (ρ : Env) {u : Value} (y z : ℕ) → In z (y ∷ []) → lookup ρ y ≡ is u → lookup ρ z ≡ is u
only ρ y z here e = e
only ρ {u = u} y z (Rattle.value.proofs.Laws.Lists.there x4) e = elim x4 [ ]

-- the program's cells are in the copy's memory
same_cell : {S : Setting} {i : ℕ} {η₀ : Memory} {m : ℕ} {s : Stack ℕ} {ρ : Env} {η η' : Memory} → Rep S i η₀ m s ρ η η' → (a j : ℕ) → a < S.h
    → cell η a j ≡ cell η' a j
same_cell {S} {η' = η'} R a j low = rw (← R.shared) (cell_take S.h η' a j low)

module _ {S : Setting} {procs : List (Proc Plain)} {l i : ℕ} {K : Stack Plain} {ts : List ℕ} {t : ℕ}
    {η₀ : Memory} {m : ℕ} {s : Stack ℕ} {ρ : Env} {η η' : Memory} (R : Rep S i η₀ m s ρ η η') {r : Reason} (evs : List Event) (c : Block Plain) where
  -- an assignment of no value
  pub halt_assigns : (x : ℕ) (e : Expr) → Known (e ∷ []) ρ → eval ρ e ≡ lacks r
      → Ready S procs (Halted S.h procs r ts) l i K ts t m (2 * vars (S.L m) (e ∷ []) + 1) (assigns S.G m (S.L m) x e c) η' evs
  halt_assigns x e known val = record {
    few = omega (arith, size_loads S.G m (S.L m) (variables 0 (S.L m) (e ∷ [])) (keep_in S.G m (S.L m) x (shift e) c));
    go = λ tm ax σ full. run_loads R (e ∷ []) known tm ax σ full (λ tm' σ' full' fresh keeps.
        run_assign S.h procs (Location (S.G.home m x)) refl
        (stop (halt_write S.h procs tmp (local 0) (shift e) (rw (eval_fresh i (is (Location (S.G.home m x))) ax ρ σ' e fresh ∙ val)))));
  }

  -- the locations that the program's locals name are the program's
  module _ (y : ℕ) (proper : (a : ℕ) → pointed ρ y ≡ has a → a < S.h) where
    -- a read that fails
    pub halt_reads : (x : ℕ) (o : Expr) {u : Value} → Known (o ∷ []) ρ → lookup ρ y ≡ is u
        → (indexed ρ o ⟫ λ z. pointed ρ y ⟫ λ a. index z ⟫ λ j. cell η a j) ≡ lacks r
        → Ready S procs (Halted S.h procs r ts) l i K ts t m (2 * vars (S.L m) (o ∷ []) + 2) (reads S.G m (S.L m) x y o c) η' evs
    halt_reads x o {u} known set-y none = record {
      few =
          omega (
            arith,
            size_loads S.G m (S.L m) (variables 0 (S.L m) (o ∷ []))
                (load S.G m (S.L m) y (read (moved x) (moved y) (shift o) then keep_in S.G m (S.L m) x (local (moved x)) c)),
          );
      go = λ tm ax σ full. run_loads R (o ∷ []) known tm ax σ full (λ tm₁ σ₁ full₁ fresh keeps₁.
          run_steps {n = 2 * 1 + 0} (omega arith) (run_list R (y ∷ []) (λ z p. (u, only ρ y z p set-y)) tm₁ ax σ₁ full₁ (λ tm₂ σ₂ full₂ got keeps₂.
          stop (halt_read S.h procs (moved x) (moved y) (shift o)
          (rw (eval_fresh i tm₂ ax ρ σ₂ o (λ z e. keeps₂ z (known z e).0 (known z e).1 (fresh z e)), got y here)
          (access_lacks (indexed ρ o) (pointed ρ y) η η' _ (λ a j p. same_cell R a j (proper a p)) none))))));
    }

    -- a write that fails
    pub halt_writes : (o e : Expr) {u : Value} → Known (e ∷ []) ρ → Known (o ∷ []) ρ → lookup ρ y ≡ is u
        → (eval ρ e ⟫ λ v. indexed ρ o ⟫ λ z. pointed ρ y ⟫ λ a. index z ⟫ λ j. cell η a j) ≡ lacks r
        → Ready S procs (Halted S.h procs r ts) l i K ts t m (2 * vars (S.L m) (e ∷ []) + (2 * vars (S.L m) (o ∷ []) + 2))
        (writes S.G m (S.L m) y o e c) η' evs
    halt_writes o e {u} known-e known-o set-y none = record {
      few =
          omega (
            arith,
            size_loads S.G m (S.L m) (variables 0 (S.L m) (e ∷ []))
                (loads S.G m (S.L m) (o ∷ []) (load S.G m (S.L m) y (write (moved y) (shift o) (shift e) then c))),
            size_loads S.G m (S.L m) (variables 0 (S.L m) (o ∷ [])) (load S.G m (S.L m) y (write (moved y) (shift o) (shift e) then c)),
          );
      go = λ tm ax σ full. run_loads R (e ∷ []) known-e tm ax σ full (λ tm₁ σ₁ full₁ fresh₁ keeps₁.
          run_loads R (o ∷ []) known-o tm₁ ax σ₁ full₁ (λ tm₂ σ₂ full₂ fresh₂ keeps₂.
          run_steps {n = 2 * 1 + 0} (omega arith) (run_list R (y ∷ []) (λ z p. (u, only ρ y z p set-y)) tm₂ ax σ₂ full₂ (λ tm₃ σ₃ full₃ got keeps₃.
          stop (halt_write S.h procs (moved y) (shift o) (shift e)
          (rw (
            eval_fresh i tm₃ ax ρ σ₃ e (λ z p. keeps₃ z (known-e z p).0 (known-e z p).1
                (keeps₂ z (known-e z p).0 (known-e z p).1 (fresh₁ z p))),
            eval_fresh i tm₃ ax ρ σ₃ o
                (λ z p. keeps₃ z (known-o z p).0 (known-o z p).1 (fresh₂ z p)),
            got y here,
          )
          (alike (eval ρ e) _ _
          (λ v q. access_lacks (indexed ρ o) (pointed ρ y) η η' _ (λ a j p. same_cell R a j (proper a p)) q) none)))))));
    }

  -- a test, inside an atomic block or outside
  pub halt_choice : (e : Expr) (a b : Block Plain) → Known (e ∷ []) ρ → (eval ρ e ⟫ truth) ≡ lacks r
      → Ready S procs (Halted S.h procs r ts) l i K ts t m (2 * vars (S.L m) (e ∷ []) + 0)
      (loads S.G m (S.L m) (e ∷ []) (if (shift e) a b then c)) η' evs
  halt_choice e a b known val = record {
    few = omega (arith, size_loads S.G m (S.L m) (variables 0 (S.L m) (e ∷ [])) (if (shift e) a b then c));
    go =
        λ tm ax σ full.
        run_loads R (e ∷ []) known tm ax σ full
        (λ tm' σ' full' fresh keeps. stop (halt_if S.h procs (shift e) a b (rw (eval_fresh i tm' ax ρ σ' e fresh) val)));
  }

  -- the test of a while or an if
  pub halt_tests : (e : Expr) (a b : ℕ) → Known (e ∷ []) ρ → (eval ρ e ⟫ truth) ≡ lacks r
      → Ready S procs (Halted S.h procs r ts) l i K ts t m (2 * vars (S.L m) (e ∷ []) + 1) (tests S.G m (S.L m) e a b) η' evs
  halt_tests e a b known val = record {
    few =
        omega (
          arith,
          size_loads S.G m (S.L m) (variables 0 (S.L m) (e ∷ []))
              (assign tmp (loc S.G.pct) then if (shift e) (goto S.G m (S.L m) a) (goto S.G m (S.L m) b) then end),
        );
    go = λ tm ax σ full. run_loads R (e ∷ []) known tm ax σ full (λ tm' σ' full' fresh keeps.
        run_assign S.h procs (Location S.G.pct) refl
        (stop
        (halt_if S.h procs (shift e) (goto S.G m (S.L m) a) (goto S.G m (S.L m) b)
        (rw (eval_fresh i (is (Location S.G.pct)) ax ρ σ' e fresh) val))));
  }

-- a call with an argument that has no value: it stops at the first such, for its reason
module _ {S : Setting} {i : ℕ} {η₀ : Memory} {m : ℕ} {s : Stack ℕ} {ρ : Env} {η : Memory} (q : ℕ) (in_n : q < S.N)
    (new : either (eqb q m) (runs q s) ≡ false) (on : (k : ℕ) → either (eqb k m) (runs k s) ≡ true → Along S.program k q)
    {procs : List (Proc Plain)} {l : ℕ} {K : Stack Plain} {ts : List ℕ} {t : ℕ} {evs : List Event} {r : Reason} where
  -- the number of steps depends on which argument it is
  halt_passes : {η' : Memory} (c : Block Plain) (R : Rep S i η₀ m s ρ η η') (j : ℕ) (es : List Expr) → evals ρ es ≡ lacks r → j + length es ≤ S.L q
      → (n : ℕ) × (n ≤ 2 * length es) × ((tm ax : Maybe Value) (σ : Env) → Fresh es ρ σ
      → Runs S.h procs (Halted S.h procs r ts) n (config (frame l (own i tm ax σ) (passes S.G m (S.L m) q j es c) ∷ K) η' ts t evs))
  halt_passes c R j [] e fits = lacking (sym e)
  halt_passes {η'} c R j (e ∷ es) none fits =
      go (λ v none'. halt_passes {η' = stored η' (S.G.home q j) i v} c (rep_callee_home q in_n new on R j v (omega arith)) (suc j) es none' (omega arith)) (eval ρ e) refl
    where
      first_of : (σ : Env) → Fresh (e ∷ es) ρ σ → Fresh (e ∷ []) ρ σ
      first_of σ fresh x p = fresh x (either_left (mentions x es) (sym (either_false (mentioned x e)) ∙ p))

      rest : (v : Value) → eval ρ e ≡ has v → evals ρ es ≡ lacks r
      rest v p = last_link (evals ρ es) (λ us. v ∷ us) (rw p at none)

      -- its reason is the call's
      first_lacks : (why : Reason) → eval ρ e ≡ lacks why → ◌≡◌ {A = Try (Moved Plain)} (lacks why) (lacks r)
      first_lacks why p = ap lacks (lacks_inj (rw p at none))

      go : ((v : Value) → evals ρ es ≡ lacks r
          → (n : ℕ) × (n ≤ 2 * length es) × ((tm ax : Maybe Value) (σ : Env) → Fresh es ρ σ
          → Runs S.h procs (Halted S.h procs r ts) n
          (config (frame l (own i tm ax σ) (passes S.G m (S.L m) q (suc j) es c) ∷ K) (stored η' (S.G.home q j) i v) ts t evs)))
          → (v : Try Value) → eval ρ e ≡ v
          → (n : ℕ) × (n ≤ 2 * length (e ∷ es)) × ((tm ax : Maybe Value) (σ : Env) → Fresh (e ∷ es) ρ σ
          → Runs S.h procs (Halted S.h procs r ts) n (config (frame l (own i tm ax σ) (passes S.G m (S.L m) q j (e ∷ es) c) ∷ K) η' ts t evs))
      go ih (lacks why) p = (
        1,
        omega arith,
        λ tm ax σ fresh.
            run_assign S.h procs (Location (S.G.home q j)) refl
            (stop (halt_write S.h procs tmp (local 0) (shift e)
            (rw (eval_fresh i (is (Location (S.G.home q j))) ax ρ σ e (first_of σ fresh) ∙ p) (first_lacks why p)))),
      )
      go ih (has v) p =
          let g = ih v (rest v p) in (
            suc (suc g.0),
            omega (arith, g.1),
            λ tm ax σ fresh.
                run_put S.private procs m (S.L m) (S.G.home q j) (shift e) v (S.private.home q j)
                (eval_fresh i (is (Location (S.G.home q j))) ax ρ σ e (first_of σ fresh) ∙ p) (callee_home_there q in_n new on R j (omega arith)).1
                (g.2 (is (Location (S.G.home q j))) ax σ (λ x r. fresh x (either_right (mentioned x e) r))),
          )

  -- a call with an argument that has no value
  pub halt_calls : {η' : Memory} (R : Rep S i η₀ m s ρ η η') (es : List Expr) (begin back : ℕ) → Known es ρ → evals ρ es ≡ lacks r
      → length es ≤ S.L q
      → (n : ℕ) × Ready S procs (Halted S.h procs r ts) l i K ts t m n (calls S.G m (S.L m) q es begin back) η' evs
  halt_calls R es begin back known none fits =
      let last : Block Plain = put S.G m (S.L m) (S.G.from q) (num back) (pc S.G m (S.L m) begin) in
      let g = halt_passes last R 0 es none (omega arith) in (
        2 * vars (S.L m) es + g.0,
        record {
          few =
              omega (
                arith,
                size_loads S.G m (S.L m) (variables 0 (S.L m) es) (passes S.G m (S.L m) q 0 es last),
                size_passes S.G m (S.L m) q 0 es last,
                g.1,
              );
          go = λ tm ax σ full. run_loads R es known tm ax σ full (λ tm' σ' full' fresh keeps. g.2 tm' ax σ' fresh);
        },
      )

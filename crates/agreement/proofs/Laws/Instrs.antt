-- How the code of one instruction runs, in a simulating procedure of thread i, before other code c.
use Rattle.std.specs.Prelude.{ℕ, suc, ◌+◌, ◌*◌, ◌≤◌, ◌<◌, ◌≡◌, refl, List, [], ◌∷◌, ◌++◌, Bool, true, false, length, set, pos}
use Rattle.std.proofs.Common.{arith, sym, ap, ◌∙◌, length-set, get_or-set_same, lt-ltb, le-ltb}
use Rattle.value.specs.Maybe.{Maybe, is, nothing, pick}
use Rattle.value.specs.Try.{has, ◌⟫◌, or_lacks}
use Rattle.value.specs.declared.Value.{Value}
use Rattle.value.specs.declared.Value.TheVariants.{Whole, Location}
use Rattle.value.specs.declared.Reason.TheVariants.{WrongKind}
use Rattle.value.proofs.Laws.Tries.{forget}
use Rattle.value.proofs.Laws.Tests.{either_left}
use Rattle.value.proofs.Laws.Lists.{In, here, there}
use Rattle.format.specs.Syntax.{Expr, local, assign, read, write, if, Block, end, step, ◌⊕◌, Proc, Plain}
use Rattle.translation.specs.Layout.{Layout}
use Rattle.translation.specs.Code.{◌then◌, pc, load, load_all, loads, keep_in, assigns, reads}
use Rattle.translation.specs.Code.{writes, goto, tests, returns, variables, mentions, shift, moved}
use Rattle.translation.specs.Code.{num, loc, tmp}
use Rattle.translation.proofs.Laws.Exprs.{variables_in, variables_out}
use Rattle.semantics.specs.Memory.{Env, lookup, eval, Memory, cell, stored, reading, writing, Event}
use Rattle.value.specs.Values.{truth}
use Rattle.semantics.specs.Step.{Stack}
use Rattle.semantics.specs.Threads.{size}
use Rattle.semantics.specs.Copy.{Config}
use Rattle.semantics.proofs.Laws.Cells.{lookup_below, cell_of_take}
use Rattle.agreement.specs.Price.{vars}
use Rattle.agreement.proofs.Laws.Accesses.{indexed, pointed}
use Rattle.agreement.proofs.Laws.Shifts.{eval_shift}
use Rattle.agreement.proofs.Laws.Runs.{frame, config, Runs, stop}
use Rattle.agreement.proofs.Laws.Runs.{run_assign, run_read, run_read_own, run_write, run_write_own, run_if, run_return}
use Rattle.agreement.proofs.Laws.Runs.{run_steps}
use Rattle.agreement.proofs.Laws.Pieces.{own, loaded, tmp_after, length_loaded, loaded_keeps, loaded_has, run_put, run_load_all}
use Rattle.agreement.proofs.Laws.Reps.{Setting, Rep, home_there, pct_there}

-- each variable that some of es mention is set
abbrev pub Known : List Expr → Env → Type 0
Known es ρ = (x : ℕ) → mentions x es ≡ true → (v : Value) × (lookup ρ x ≡ is v)

-- each of them has the same value in the copy's locals σ as in the program's ρ
abbrev pub Fresh : List Expr → Env → Env → Type 0
Fresh es ρ σ = (x : ℕ) → mentions x es ≡ true → lookup σ x ≡ lookup ρ x

-- so the moved expression has the value of the expression
pub eval_fresh : (i : ℕ) (tm ax : Maybe Value) (ρ σ : Env) (e : Expr) → Fresh (e ∷ []) ρ σ → eval (own i tm ax σ) (shift e) ≡ eval ρ e
eval_fresh i tm ax ρ σ e f = eval_shift ρ (own i tm ax σ) e (λ x m. f x (either_left false m))

-- a branch and what follows is no more than the test and what follows
pub size_append : {A : Type 0} (b c : Block A) → size (b ⊕ c) ≡ size b + size c
size_append end c = omega arith
size_append (step a i b) c = let e : size (b ⊕ c) ≡ size b + size c = size_append b c in omega arith

-- and of either branch with what follows
pub size_branch : {A : Type 0} (q : Bool) (a b c : Block A) → size (pick q a b ⊕ c) ≤ size a + size b + size c
size_branch true a b c = let e : size (a ⊕ c) ≡ size a + size c = size_append a c in omega arith
size_branch false a b c = let e : size (b ⊕ c) ≡ size b + size c = size_append b c in omega arith

-- loads are two instructions each
pub size_loads : (G : Layout) (m n : ℕ) (xs : List ℕ) (c : Block Plain) → size (load_all G m n xs c) ≡ 2 * length xs + size c
size_loads G m n [] c = omega arith
size_loads G m n (x ∷ xs) c = let e : size (load_all G m n xs c) ≡ 2 * length xs + size c = size_loads G m n xs c in omega arith

module _ (S : Setting) (procs : List (Proc Plain)) (Q : Config → Type 0) (l i : ℕ) (K : Stack Plain) (ts : List ℕ) (t : ℕ) (m : ℕ) where
  -- the procedure of label l runs code c for r steps to Q, whatever its own locals hold; at most one for each instruction of
  -- c, and the return
  pub record Ready (r : ℕ) (c : Block Plain) (η : Memory) (evs : List Event) : Type 0 where
    pub few : r ≤ suc (size c)
    pub go : (tm ax : Maybe Value) (σ : Env) → length σ ≡ S.L m → Runs S.h procs Q r (config (frame l (own i tm ax σ) c ∷ K) η ts t evs)

module _ {S : Setting} {procs : List (Proc Plain)} {Q : Config → Type 0} {l i : ℕ} {K : Stack Plain} {ts : List ℕ} {t : ℕ}
    {η₀ : Memory} {m : ℕ} {s : Stack ℕ} {ρ : Env} {η η' : Memory} (R : Rep S i η₀ m s ρ η η') where
  -- loads of the variables xs, before code that is run with their values; those loaded before keep theirs
  pub run_list : {r : ℕ} {c : Block Plain} {evs : List Event} (xs : List ℕ) → ((x : ℕ) → In x xs → (v : Value) × (lookup ρ x ≡ is v))
      → (tm ax : Maybe Value) (σ : Env) → length σ ≡ S.L m
      → ((tm : Maybe Value) (σ' : Env) → length σ' ≡ S.L m
      → ((x : ℕ) → In x xs → lookup σ' x ≡ lookup ρ x)
      → ((x : ℕ) (v : Value) → lookup ρ x ≡ is v → lookup σ x ≡ lookup ρ x → lookup σ' x ≡ lookup ρ x)
      → Runs S.h procs Q r (config (frame l (own i tm ax σ') c ∷ K) η' ts t evs))
      → Runs S.h procs Q (2 * length xs + r) (config (frame l (own i tm ax σ) (load_all S.G m (S.L m) xs c) ∷ K) η' ts t evs)
  run_list xs known tm ax σ full k =
      run_load_all S.private procs m (S.L m) xs tm σ (λ x p. ((known x p).0, R.top.held x (known x p).0 (known x p).1))
      (k (tmp_after η' (S.G.home m) i xs tm) (loaded η' (S.G.home m) i xs σ) (length_loaded η' (S.G.home m) i xs σ ∙ full)
      (λ x p. loaded_has η' (S.G.home m) i xs σ x p (small x (known x p).0 (known x p).1) ∙ same x (known x p).0 (known x p).1)
      (λ x v e g. loaded_keeps η' (S.G.home m) i xs σ x (small x v e) (g ∙ sym (same x v e)) ∙ same x v e))
    where
      small : (x : ℕ) (v : Value) → lookup ρ x ≡ is v → x < length σ
      small x v e = rw (full, ← R.top.full) (lookup_below ρ x e)

      same : (x : ℕ) (v : Value) → lookup ρ x ≡ is v → forget (cell η' (S.G.home m x) i) ≡ lookup ρ x
      same x v e = rw (R.top.held x v e) (sym e)

  -- loads of the variables that some of es mention
  pub run_loads : {r : ℕ} {c : Block Plain} {evs : List Event} (es : List Expr) → Known es ρ
      → (tm ax : Maybe Value) (σ : Env) → length σ ≡ S.L m
      → ((tm : Maybe Value) (σ' : Env) → length σ' ≡ S.L m → Fresh es ρ σ'
      → ((x : ℕ) (v : Value) → lookup ρ x ≡ is v → lookup σ x ≡ lookup ρ x → lookup σ' x ≡ lookup ρ x)
      → Runs S.h procs Q r (config (frame l (own i tm ax σ') c ∷ K) η' ts t evs))
      → Runs S.h procs Q (2 * vars (S.L m) es + r) (config (frame l (own i tm ax σ) (loads S.G m (S.L m) es c) ∷ K) η' ts t evs)
  run_loads es known tm ax σ full k = run_list (variables 0 (S.L m) es) (λ x p. known x (variables_out x 0 (S.L m) es p)) tm ax σ full
      (λ tm' σ' full' got keeps. k tm' σ' full'
      (λ x e.
      let b : x < S.L m = rw R.top.full at (lookup_below ρ x (known x e).1) in
      got x (variables_in x 0 (S.L m) es e (omega arith) (omega arith)))
      keeps)

  -- x := e
  pub run_assigns : {r : ℕ} {c : Block Plain} {evs : List Event} (x : ℕ) (e : Expr) (v : Value)
      → x < S.L m → Known (e ∷ []) ρ → eval ρ e ≡ has v
      → Ready S procs Q l i K ts t m r c (stored η' (S.G.home m x) i v) evs
      → Ready S procs Q l i K ts t m (2 * vars (S.L m) (e ∷ []) + (2 + r)) (assigns S.G m (S.L m) x e c) η' evs
  run_assigns {r} {c} x e v below known val k = record {
    few = omega (arith, size_loads S.G m (S.L m) (variables 0 (S.L m) (e ∷ [])) (keep_in S.G m (S.L m) x (shift e) c), k.few);
    go = λ tm ax σ full.
        run_loads (e ∷ []) known tm ax σ full (λ tm' σ' full' fresh keeps.
        run_steps (omega arith) (run_put S.private procs m (S.L m) {r = r} (S.G.home m x) (shift e) v (S.private.home m x)
        (eval_fresh i (is (Location (S.G.home m x))) ax ρ σ' e fresh ∙ val) (home_there R x below).1
        (k.go (is (Location (S.G.home m x))) ax σ' full')));
  }

  -- x := y[o]
  pub run_reads : {r : ℕ} {c : Block Plain} {evs : List Event} (x y : ℕ) (o : Expr) (j a : ℕ) (v : Value) {u : Value}
      → x < S.L m → Known (o ∷ []) ρ → lookup ρ y ≡ is u
      → indexed ρ o ≡ has (pos j) → pointed ρ y ≡ has a → cell η a j ≡ has v
      → Ready S procs Q l i K ts t m r c (stored η' (S.G.home m x) i v)
      (evs ++ (record { thread = t; way = reading; place = a; index = j; value = v; label = l } ∷ []))
      → Ready S procs Q l i K ts t m (2 * vars (S.L m) (o ∷ []) + (5 + r)) (reads S.G m (S.L m) x y o c) η' evs
  run_reads {r} {c} x y o j a v {u} below known set-y io ly val k = record {
    few =
        omega (
          arith,
          size_loads S.G m (S.L m) (variables 0 (S.L m) (o ∷ []))
              (load S.G m (S.L m) y (read (moved x) (moved y) (shift o) then keep_in S.G m (S.L m) x (local (moved x)) c)),
          k.few,
        );
    go = λ tm ax σ full.
        run_loads (o ∷ []) known tm ax σ full (λ tm₁ σ₁ full₁ fresh keeps₁.
        run_steps {n = 2 * 1 + suc (suc (suc r))} (omega arith)
        (run_list (y ∷ []) (λ z p. (u, only z p set-y)) tm₁ ax σ₁ full₁ (λ tm₂ σ₂ full₂ got keeps₂.
        run_read S.h procs j a v
        (rw (eval_fresh i tm₂ ax ρ σ₂ o (λ z e. keeps₂ z (known z e).0 (known z e).1 (fresh z e))) io)
        (rw (got y here) ly) there.1 (lt-ltb a S.h there.0)
        (run_put S.private procs m (S.L m) (S.G.home m x) (local (moved x)) v (S.private.home m x)
        (ap (or_lacks WrongKind) (get_or-set_same σ₂ x (is v) nothing (rw full₂ below))) (home_there R x below).1
        (k.go (is (Location (S.G.home m x))) ax (set σ₂ x (is v)) (length-set σ₂ x (is v) ∙ full₂))))));
  }
    where
      there : (a < S.h) × (cell η' a j ≡ has v)
      there = cell_of_take S.h η' a j (rw R.shared val)

      only : (z : ℕ) → In z (y ∷ []) → lookup ρ y ≡ is u → lookup ρ z ≡ is u
      only z here e = e
      only z (Rattle.value.proofs.Laws.Lists.there x5) e = elim x5 [ ]

  -- y[o] := e
  pub run_writes : {r : ℕ} {c : Block Plain} {evs : List Event} (y : ℕ) (o e : Expr) (j a : ℕ) (v : Value) {u w : Value}
      → Known (e ∷ []) ρ → Known (o ∷ []) ρ → lookup ρ y ≡ is u
      → eval ρ e ≡ has v → indexed ρ o ≡ has (pos j) → pointed ρ y ≡ has a → cell η a j ≡ has w
      → Ready S procs Q l i K ts t m r c (stored η' a j v) (evs ++ (record { thread = t; way = writing; place = a; index = j; value = v; label = l } ∷ []))
      → Ready S procs Q l i K ts t m (2 * vars (S.L m) (e ∷ []) + (2 * vars (S.L m) (o ∷ []) + (3 + r))) (writes S.G m (S.L m) y o e c) η' evs
  run_writes {r} {c} y o e j a v {u} {w} known-e known-o set-y val io ly old k = record {
    few =
        omega (
          arith,
          size_loads S.G m (S.L m) (variables 0 (S.L m) (e ∷ []))
              (loads S.G m (S.L m) (o ∷ []) (load S.G m (S.L m) y (write (moved y) (shift o) (shift e) then c))),
          size_loads S.G m (S.L m) (variables 0 (S.L m) (o ∷ [])) (load S.G m (S.L m) y (write (moved y) (shift o) (shift e) then c)),
          k.few,
        );
    go = λ tm ax σ full.
        run_loads (e ∷ []) known-e tm ax σ full (λ tm₁ σ₁ full₁ fresh₁ keeps₁.
        run_loads (o ∷ []) known-o tm₁ ax σ₁ full₁ (λ tm₂ σ₂ full₂ fresh₂ keeps₂.
        run_steps {n = 2 * 1 + suc r} (omega arith) (run_list (y ∷ []) (λ z p. (u, only z p set-y)) tm₂ ax σ₂ full₂ (λ tm₃ σ₃ full₃ got keeps₃.
        run_write S.h procs j a v
        (eval_fresh i tm₃ ax ρ σ₃ e (λ z p. keeps₃ z (known-e z p).0 (known-e z p).1 (keeps₂ z (known-e z p).0 (known-e z p).1 (fresh₁ z p)))
        ∙ val)
        (rw (eval_fresh i tm₃ ax ρ σ₃ o (λ z p. keeps₃ z (known-o z p).0 (known-o z p).1 (fresh₂ z p))) io)
        (rw (got y here) ly) there.1 (lt-ltb a S.h there.0)
        (k.go tm₃ ax σ₃ full₃)))));
  }
    where
      there : (a < S.h) × (cell η' a j ≡ has w)
      there = cell_of_take S.h η' a j (rw R.shared old)

      only : (z : ℕ) → In z (y ∷ []) → lookup ρ y ≡ is u → lookup ρ z ≡ is u
      only z here e = e
      only z (Rattle.value.proofs.Laws.Lists.there x4) e = elim x4 [ ]

  -- a test inside an atomic block
  pub run_choice : {r : ℕ} {evs : List Event} (a b c : Block Plain) (e : Expr) (q : Bool)
      → Known (e ∷ []) ρ → (eval ρ e ⟫ truth) ≡ has q
      → Ready S procs Q l i K ts t m r (pick q a b ⊕ c) η' evs
      → Ready S procs Q l i K ts t m (2 * vars (S.L m) (e ∷ []) + suc r) (loads S.G m (S.L m) (e ∷ []) (if (shift e) a b then c)) η' evs
  run_choice a b c e q known val k = record {
    few = omega (arith, size_loads S.G m (S.L m) (variables 0 (S.L m) (e ∷ [])) (if (shift e) a b then c), size_branch q a b c, k.few);
    go = λ tm ax σ full.
        run_loads (e ∷ []) known tm ax σ full (λ tm₁ σ₁ full₁ fresh keeps.
        run_if S.h procs q (rw (eval_fresh i tm₁ ax ρ σ₁ e fresh) val) (k.go tm₁ ax σ₁ full₁));
  }

  -- pct[tid] := k, the last of a procedure, and its return
  pub run_pc : {evs : List Event} (k : ℕ)
      → Q (config K (stored η' S.G.pct i (Whole (pos k))) ts t evs)
      → Ready S procs Q l i K ts t m 3 (pc S.G m (S.L m) k) η' evs
  run_pc k q = record {
    few = omega arith;
    go = λ tm ax σ full.
        (run_put S.private procs m (S.L m) S.G.pct (num k) (Whole (pos k)) S.private.pct refl (pct_there R).1
        (run_return S.h procs (stop q)));
  }

  -- a test, whose branches set pct
  pub run_tests : {evs : List Event} (e : Expr) (q : Bool) (a b : ℕ)
      → Known (e ∷ []) ρ → (eval ρ e ⟫ truth) ≡ has q
      → Q (config K (stored η' S.G.pct i (Whole (pos (pick q a b)))) ts t evs)
      → Ready S procs Q l i K ts t m (2 * vars (S.L m) (e ∷ []) + 4) (tests S.G m (S.L m) e a b) η' evs
  run_tests {evs} e q a b known val k = record {
    few =
        omega (
          arith,
          size_loads S.G m (S.L m) (variables 0 (S.L m) (e ∷ []))
              (assign tmp (loc S.G.pct) then if (shift e) (goto S.G m (S.L m) a) (goto S.G m (S.L m) b) then end),
        );
    go = λ tm ax σ full.
        run_loads (e ∷ []) known tm ax σ full (λ tm₁ σ₁ full₁ fresh keeps.
        (run_assign S.h procs (Location S.G.pct) refl
        (run_if S.h procs q (rw (eval_fresh i (is (Location S.G.pct)) ax ρ σ₁ e fresh) val)
        (branch q ax σ₁ k))));
  }
    where
      branch : (q : Bool) (ax : Maybe Value) (σ : Env)
          → Q (config K (stored η' S.G.pct i (Whole (pos (pick q a b)))) ts t evs)
          → Runs S.h procs Q 2
          (config
          (frame l (own i (is (Location S.G.pct)) ax σ) (pick q (goto S.G m (S.L m) a) (goto S.G m (S.L m) b) ⊕ end) ∷ K) η' ts t evs)
      branch true ax σ k =
          run_write_own S.h procs i S.G.pct (Whole (pos a)) refl refl refl (pct_there R).1 (le-ltb S.G.pct S.h S.private.pct)
          (run_return S.h procs (stop k))
      branch false ax σ k =
          run_write_own S.h procs i S.G.pct (Whole (pos b)) refl refl refl (pct_there R).1 (le-ltb S.G.pct S.h S.private.pct)
          (run_return S.h procs (stop k))

  -- the end label: pct[tid] := from[tid]
  pub run_returns : {evs : List Event} (k : ℕ) → cell η' (S.G.from m) i ≡ has (Whole (pos k))
      → Q (config K (stored η' S.G.pct i (Whole (pos k))) ts t evs)
      → Ready S procs Q l i K ts t m 5 (returns S.G m (S.L m)) η' evs
  run_returns k back q = record {
    few = omega arith;
    go = λ tm ax σ full.
        (run_assign S.h procs (Location (S.G.from m)) refl
        (run_read_own S.h procs i (S.G.from m) (Whole (pos k)) refl refl back (le-ltb (S.G.from m) S.h (S.private.from m))
        (run_assign S.h procs (Location S.G.pct) refl
        (run_write_own S.h procs i S.G.pct (Whole (pos k)) refl refl refl (pct_there R).1 (le-ltb S.G.pct S.h S.private.pct)
        (run_return S.h procs (stop q))))));
  }

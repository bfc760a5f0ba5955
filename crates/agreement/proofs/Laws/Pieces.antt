-- How the pieces of a simulating procedure run: put, load, loads, pc.
use Rattle.std.specs.Prelude.{ℕ, suc, ◌+◌, ◌*◌, ◌≤◌, ◌<◌, ◌≡◌, refl, List, [], ◌∷◌, length, set, pos}
use Rattle.std.proofs.Common.{arith, ◌∙◌, length-set, get_or-set_same, get_or-set_other, le-ltb}
use Rattle.std.proofs.Math.Decide.{ℕ_discrete}
use Rattle.value.specs.Maybe.{Maybe, is, nothing}
use Rattle.value.specs.Try.{has}
use Rattle.value.specs.declared.Value.{Value}
use Rattle.value.specs.declared.Value.TheVariants.{Whole, Location}
use Rattle.value.proofs.Laws.Tries.{forget}
use Rattle.value.proofs.Laws.Lists.{In, here, there}
use Rattle.format.specs.Syntax.{Expr, Block, Proc, Plain}
use Rattle.translation.specs.Layout.{Layout}
use Rattle.translation.specs.Code.{put, load_all}
use Rattle.translation.proofs.Laws.Apart.{Private}
use Rattle.semantics.specs.Memory.{Env, lookup, eval, Memory, cell, stored, Event}
use Rattle.semantics.specs.Step.{Stack}
use Rattle.semantics.specs.Copy.{Config}
use Rattle.agreement.proofs.Laws.Runs.{frame, config, Runs, run_assign, run_read_own, run_write_own, run_steps}

-- ---- the environment of a simulating procedure: thread i, tmp, aux, and the source's locals

-- tid, tmp, aux, then the locals of the source
abbrev pub own : ℕ → Maybe Value → Maybe Value → Env → Env
own i tm ax ρ = is (Whole (pos i)) ∷ tm ∷ ax ∷ ρ

module _ (η : Memory) (place : ℕ → ℕ) (i : ℕ) where
  -- the locals after loads, and tmp
  abbrev pub loaded : List ℕ → Env → Env
  loaded [] ρ = ρ
  loaded (x ∷ xs) ρ = loaded xs (set ρ x (forget (cell η (place x) i)))

  -- what tmp holds after loads
  abbrev pub tmp_after : List ℕ → Maybe Value → Maybe Value
  tmp_after [] tm = tm
  tmp_after (x ∷ xs) tm = tmp_after xs (is (Location (place x)))

  -- loads keep the number of locals
  pub length_loaded : (xs : List ℕ) (ρ : Env) → length (loaded xs ρ) ≡ length ρ
  length_loaded [] ρ = refl
  length_loaded (x ∷ xs) ρ = length_loaded xs (set ρ x (forget (cell η (place x) i))) ∙ length-set ρ x (forget (cell η (place x) i))

  -- a local that has its cell's value keeps it
  pub loaded_keeps : (xs : List ℕ) (ρ : Env) (x : ℕ) → x < length ρ → lookup ρ x ≡ forget (cell η (place x) i) → lookup (loaded xs ρ) x ≡ forget (cell η (place x) i)
  loaded_keeps [] ρ x h e = e
  loaded_keeps (y ∷ xs) ρ x h e =
      loaded_keeps xs (set ρ y (forget (cell η (place y) i))) x (rw (length-set ρ y (forget (cell η (place y) i))) h) (elim (ℕ_discrete x y) [
        | yes p ↦ rw p (get_or-set_same ρ y (forget (cell η (place y) i)) nothing (rw p at h))
        | no ne ↦ get_or-set_other ρ y x (forget (cell η (place y) i)) nothing ne ∙ e
      ])

  -- and one that is loaded has it
  pub loaded_has : (xs : List ℕ) (ρ : Env) (x : ℕ) → In x xs → x < length ρ → lookup (loaded xs ρ) x ≡ forget (cell η (place x) i)
  loaded_has (y ∷ xs) ρ x here h =
      loaded_keeps xs (set ρ x (forget (cell η (place x) i))) x (rw (length-set ρ x (forget (cell η (place x) i))) h) (get_or-set_same ρ x (forget (cell η (place x) i)) nothing h)
  loaded_has (y ∷ xs) ρ x (there p) h = loaded_has xs (set ρ y (forget (cell η (place y) i))) x p (rw (length-set ρ y (forget (cell η (place y) i))) h)
  loaded_has [] ρ x x4 h = elim x4 [ ]

module _ {h : ℕ} {G : Layout} (P : Private h G) (procs : List (Proc Plain)) {ts : List ℕ} {t : ℕ} {s : Stack Plain} {l i : ℕ} {Q : Config → Type 0}
    {evs : List Event} (m n : ℕ) where
  -- tmp := k; tmp[tid] := e
  pub run_put : {r : ℕ} {η : Memory} {tm ax : Maybe Value} {ρ : Env} {c : Block Plain} (k : ℕ) (e : Expr) (v : Value) {u : Value}
      → h ≤ k → eval (own i (is (Location k)) ax ρ) e ≡ has v → cell η k i ≡ has u
      → Runs h procs Q r (config (frame l (own i (is (Location k)) ax ρ) c ∷ s) (stored η k i v) ts t evs)
      → Runs h procs Q (suc (suc r)) (config (frame l (own i tm ax ρ) (put G m n k e c) ∷ s) η ts t evs)
  run_put k e v above p q r = run_assign h procs (Location k) refl (run_write_own h procs i k v p refl refl q (le-ltb k h above) r)

  -- loads
  pub run_load_all : {r : ℕ} {η : Memory} {ax : Maybe Value} {c : Block Plain} (xs : List ℕ) (tm : Maybe Value) (ρ : Env)
      → ((x : ℕ) → In x xs → (v : Value) × (cell η (G.home m x) i ≡ has v))
      → Runs h procs Q r (config (frame l (own i (tmp_after η (G.home m) i xs tm) ax (loaded η (G.home m) i xs ρ)) c ∷ s) η ts t evs)
      → Runs h procs Q (2 * length xs + r) (config (frame l (own i tm ax ρ) (load_all G m n xs c) ∷ s) η ts t evs)
  run_load_all {r} [] tm ρ f q = run_steps (omega arith) q
  run_load_all {r} {η} {ax} {c} (x ∷ xs) tm ρ f q =
      let v : Value = (f x here).0 in
      let e : cell η (G.home m x) i ≡ has v = (f x here).1 in
      let kept : forget (cell η (G.home m x) i) ≡ is v = rw e in
      run_steps (omega arith)
      (run_assign h procs (Location (G.home m x)) refl
      (run_read_own h procs {n = 2 * length xs + r} i (G.home m x) v refl refl e (le-ltb (G.home m x) h (P.home m x))
      (rw (← kept) (run_load_all xs (is (Location (G.home m x))) (set ρ x (forget (cell η (G.home m x) i))) (λ y p. f y (there p)) q))))

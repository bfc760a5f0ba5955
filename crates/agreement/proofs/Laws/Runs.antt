-- Runs of the copy, and how each of its instructions goes on a run.
use Rattle.std.specs.Prelude.{ℕ, zero, suc, ◌+◌, ◌≡◌, refl, List, [], ◌∷◌, ◌++◌, Bool, true, false, pos, ltb}
use Rattle.std.proofs.Common.{zero-add, suc-add}
use Rattle.value.specs.Maybe.{is, pick}
use Rattle.value.specs.Try.{has, ◌⟫◌}
use Rattle.value.specs.Lists.{at}
use Rattle.value.specs.declared.Value.{Value}
use Rattle.format.specs.Syntax.{Expr, Instr, assign, write, read, if, call, Block, end, ◌⊕◌, Proc, Plain}
use Rattle.translation.specs.Code.{◌then◌}
use Rattle.semantics.specs.Memory.{Env, bound, eval, evals, Memory, cell, stored, reading, writing, Event}
use Rattle.value.specs.Values.{truth}
use Rattle.semantics.specs.Step.{Frame, Stack, entered, runs}
use Rattle.semantics.specs.Copy.{Config, goes, next}
use Rattle.agreement.specs.Agreement.{is_at_head, looping}
use Rattle.agreement.proofs.Laws.Accesses.{indexed, pointed}

-- a frame, and a configuration, by their parts
abbrev pub frame : ℕ → Env → Block Plain → Frame Plain
frame m ρ c = record { proc = m; env = ρ; code = c }

-- a configuration by its parts
abbrev pub config : Stack Plain → Memory → List ℕ → ℕ → List Event → Config
config s η ts t evs = record { stack = s; memory = η; todo = ts; last = t; events = evs }

-- from c, n steps lead to a configuration with Q, and none before that one is at the loop head
pub data Runs (h : ℕ) (procs : List (Proc Plain)) (Q : Config → Type 0) : ℕ → Config → Type 0 where
  stop : {c : Config} → Q c → Runs h procs Q zero c
  more : {n : ℕ} {c d : Config} → Runs h procs Q n d → next h procs c ≡ goes d → is_at_head c.stack ≡ false → Runs h procs Q (suc n) c

-- one step more, before a run
pub before : {h : ℕ} {procs : List (Proc Plain)} {Q : Config → Type 0} {n : ℕ} {c d : Config} → Runs h procs Q n d → next h procs c ≡ goes d
    → is_at_head c.stack ≡ false → Runs h procs Q (suc n) c
before r p a = more r p a

-- a run that ends where it begins
pub ends_here : {h : ℕ} {procs : List (Proc Plain)} {Q : Config → Type 0} {c : Config} → Q c → Runs h procs Q zero c
ends_here q = stop q

-- a stack that begins with anything but a loop is not at the loop head
pub away : (m : ℕ) (ρ : Env) (i : Instr Plain) (c : Block Plain) (s : Stack Plain) → looping i ≡ false → is_at_head (frame m ρ (i then c) ∷ s) ≡ false
away m ρ i c [] e = e
away m ρ i c (f ∷ s) e = refl

-- a frame with no code left is not at the loop head
away_end : (m : ℕ) (ρ : Env) (s : Stack Plain) → is_at_head (frame m ρ end ∷ s) ≡ false
away_end m ρ [] = refl
away_end m ρ (f ∷ s) = refl

-- Each law says: to run an instruction and go on, go on from what it leaves.
module _ (h : ℕ) (procs : List (Proc Plain)) {ts : List ℕ} {t : ℕ} {s : Stack Plain} {m n : ℕ} {Q : Config → Type 0} {ρ : Env} {η : Memory}
    {evs : List Event} where
  -- an assignment
  pub run_assign : {c : Block Plain} {x : ℕ} {e : Expr} (v : Value) → eval ρ e ≡ has v
      → Runs h procs Q n (config (frame m (bound ρ x v) c ∷ s) η ts t evs)
      → Runs h procs Q (suc n) (config (frame m ρ (assign x e then c) ∷ s) η ts t evs)
  run_assign {c} {x} {e} v p r = before r (rw p) (away m ρ (assign x e) c s refl)

  -- a read of a location that is recorded
  pub run_read : {c : Block Plain} {x y : ℕ} {o : Expr} (i l : ℕ) (v : Value)
      → indexed ρ o ≡ has (pos i) → pointed ρ y ≡ has l → cell η l i ≡ has v → ltb l h ≡ true
      → Runs h procs Q n
      (config (frame m (bound ρ x v) c ∷ s) η ts t (evs ++ (record { thread = t; way = reading; place = l; index = i; value = v; label = m } ∷ [])))
      → Runs h procs Q (suc n) (config (frame m ρ (read x y o then c) ∷ s) η ts t evs)
  run_read {c} {x} {y} {o} i l v p q u below r = before r (rw (p, q, u, below)) (away m ρ (read x y o) c s refl)

  -- a read of a location that is not
  pub run_read_own : {c : Block Plain} {x y : ℕ} {o : Expr} (i l : ℕ) (v : Value)
      → indexed ρ o ≡ has (pos i) → pointed ρ y ≡ has l → cell η l i ≡ has v → ltb l h ≡ false
      → Runs h procs Q n (config (frame m (bound ρ x v) c ∷ s) η ts t evs)
      → Runs h procs Q (suc n) (config (frame m ρ (read x y o then c) ∷ s) η ts t evs)
  run_read_own {c} {x} {y} {o} i l v p q u above r = before r (rw (p, q, u, above)) (away m ρ (read x y o) c s refl)

  -- a write to a location that is recorded
  pub run_write : {c : Block Plain} {y : ℕ} {o e : Expr} (i l : ℕ) (v : Value) {u : Value}
      → eval ρ e ≡ has v → indexed ρ o ≡ has (pos i) → pointed ρ y ≡ has l → cell η l i ≡ has u → ltb l h ≡ true
      → Runs h procs Q n
      (config (frame m ρ c ∷ s) (stored η l i v) ts t (evs ++ (record { thread = t; way = writing; place = l; index = i; value = v; label = m } ∷ [])))
      → Runs h procs Q (suc n) (config (frame m ρ (write y o e then c) ∷ s) η ts t evs)
  run_write {c} {y} {o} {e} i l v a p q u below r = before r (rw (a, p, q, u, below)) (away m ρ (write y o e) c s refl)

  -- a write to a location that is not
  pub run_write_own : {c : Block Plain} {y : ℕ} {o e : Expr} (i l : ℕ) (v : Value) {u : Value}
      → eval ρ e ≡ has v → indexed ρ o ≡ has (pos i) → pointed ρ y ≡ has l → cell η l i ≡ has u → ltb l h ≡ false
      → Runs h procs Q n (config (frame m ρ c ∷ s) (stored η l i v) ts t evs)
      → Runs h procs Q (suc n) (config (frame m ρ (write y o e then c) ∷ s) η ts t evs)
  run_write_own {c} {y} {o} {e} i l v a p q u above r = before r (rw (a, p, q, u, above)) (away m ρ (write y o e) c s refl)

  -- a test
  pub run_if : {a b c : Block Plain} {e : Expr} (q : Bool) → (eval ρ e ⟫ truth) ≡ has q
      → Runs h procs Q n (config (frame m ρ (pick q a b ⊕ c) ∷ s) η ts t evs)
      → Runs h procs Q (suc n) (config (frame m ρ (if e a b then c) ∷ s) η ts t evs)
  run_if {a} {b} {c} {e} q p r = before r (rw p) (away m ρ (if e a b) c s refl)

  -- a call
  pub run_call : {c : Block Plain} {k : ℕ} {es : List Expr} (vs : List Value) (p : Proc Plain)
      → evals ρ es ≡ has vs → at procs k ≡ is p → runs k (frame m ρ c ∷ s) ≡ false
      → Runs h procs Q n (config (entered k p vs ∷ frame m ρ c ∷ s) η ts t evs)
      → Runs h procs Q (suc n) (config (frame m ρ (call k es then c) ∷ s) η ts t evs)
  run_call {c} {k} {es} vs p a b f r = before r (rw (a, b, f)) (away m ρ (call k es) c s refl)

  -- a return
  pub run_return : Runs h procs Q n (config s η ts t evs) → Runs h procs Q (suc n) (config (frame m ρ end ∷ s) η ts t evs)
  run_return r = more r refl (away_end m ρ s)

-- a run, and from where it ends another
pub run_on : {h : ℕ} {procs : List (Proc Plain)} {P Q : Config → Type 0} {n k : ℕ} {c : Config}
    → Runs h procs P n c → ((d : Config) → P d → Runs h procs Q k d) → Runs h procs Q (n + k) c
run_on {k = k} (stop {c = c} p) f = rw (zero-add k) (f c p)
run_on {k = k} (more {n = n} r e a) f = rw (suc-add n k) (more (run_on r f) e a)

-- the number of steps, said in another way
pub run_steps : {h : ℕ} {procs : List (Proc Plain)} {Q : Config → Type 0} {n k : ℕ} {c : Config} → n ≡ k → Runs h procs Q n c → Runs h procs Q k c
run_steps e r = rw e at r

-- The sequential machine: its steps are figure 1's and select's, and "Before each step a run is judged finished, at its budget, used up (select and
-- no entry), blocked, in this order".
use Rattle.std.specs.Prelude.{ℕ, zero, suc, ◌≡◌, refl, ◌↔◌, ◌≢◌, List, [], ◌∷◌, ◌++◌, pos, negsuc, ltb}
use Rattle.std.proofs.Common.{arith, sym, subst, append-nil, append_assoc}
use Rattle.value.specs.Maybe.{pick}
use Rattle.value.specs.Try.{Try, has, lacks, ◌⟫◌}
use Rattle.value.specs.declared.Value.{Value}
use Rattle.value.specs.declared.Value.TheVariants.{Whole, Location, Truth}
use Rattle.value.specs.Marks.{kind_of}
use Rattle.value.proofs.Laws.Tries.{lacks_inj, lacking, chain_stops}
use Rattle.value.specs.declared.Reason.{Reason}
use Rattle.value.specs.declared.Reason.TheVariants.{WrongKind, IndexOutside, FinishedThread}
use Rattle.value.proofs.Laws.Tests.{by_test}
use Rattle.format.specs.Syntax.{Instr, assign, write, read, while, if, call, atomic, select, Block, end, step, Proc, Plain}
use Rattle.semantics.specs.Memory.{Env, Memory, cell, stored, Event}
use Rattle.semantics.specs.Step.{Stack, Moved, instr}
use Rattle.semantics.specs.Threads.{End, finished, used, blocked, spent}
use Rattle.semantics.specs.Copy.{Config, Next, ended, goes, running, kept, moved, selected, choose, one, code, stack, next, run}
use Rattle.semantics.proofs.Laws.Figure1.{context, rules_exactly, Figure1, by_rule, returns}
use Rattle.semantics.proofs.Laws.Reasons.{Beyond, outside_exactly, Blocks, blocks_exactly}

-- ---- what is recorded

-- "records only locations below h"
abbrev pub below : ℕ → List Event → List Event
below h [] = []
below h (e ∷ es) = pick (ltb e.place h) (e ∷ below h es) (below h es)

-- THE EVENTS BELOW H COME AFTER THE OTHERS.
pub kept_below : (h : ℕ) (evs es : List Event) → kept h evs es ≡ evs ++ below h es
kept_below h evs [] = sym (append-nil evs)
kept_below h evs (e ∷ es) = by_test (ltb e.place h)
    (λ b. rw (b, kept_below h (evs ++ (e ∷ [])) es, append_assoc evs (e ∷ []) (below h es)))
    (λ b. rw (b, kept_below h evs es))

-- ---- one step

-- b[t] "exists and is a number other than 0"
abbrev pub Ready : Try Value → Type 0
Ready (lacks r) = ⊥
Ready (has (Whole z)) = z ≢ pos 0
Ready (has (Location l)) = ⊥
Ready (has (Truth b)) = ⊥

-- then it is chosen
ready : (v : Try Value) {u : Value} → (v ⟫ running) ≡ has u → Ready v
ready (lacks r) e = lacking e
ready (has (Whole (pos zero))) e = lacking e
ready (has (Whole (pos (suc n)))) e = λ q. let z : suc n ≡ 0 = cc in omega arith
ready (has (Whole (negsuc n))) e = λ q. let z : ◌≡◌ {A = ℕ} 0 1 = cc in omega arith
ready (has (Location l)) e = lacking e
ready (has (Truth b)) e = lacking e

-- and the other way
chosen : (v : Try Value) → Ready v → (u : Value) × ((v ⟫ running) ≡ has u)
chosen (lacks r) h = absurd h
chosen (has (Whole (pos zero))) h = absurd (h refl)
chosen (has (Whole (pos (suc n)))) h = (Whole (pos (suc n)), refl)
chosen (has (Whole (negsuc n))) h = (Whole (negsuc n), refl)
chosen (has (Location l)) h = absurd h
chosen (has (Truth b)) h = absurd h

-- why it is not: "A sequential select whose entry lies outside b gives 3, one whose cell isn't a number 2, one whose cell is 0 gives 4"
pub data NotReady (η : Memory) (b t : ℕ) : Reason → Type 0 where
  entry_outside : Beyond η b (pos t) → NotReady η b t IndexOutside
  no_number : {v : Value} → cell η b t ≡ has v → (kind_of v ≡ 1 → ⊥) → NotReady η b t WrongKind
  zero_cell_lem : cell η b t ≡ has (Whole (pos 0)) → NotReady η b t FinishedThread

-- a cell that is not chosen
not_chosen : (η : Memory) (b t : ℕ) {r : Reason} → (cell η b t ⟫ running) ≡ lacks r → NotReady η b t r
not_chosen η b t h =
    chain_stops (cell η b t) _ h (λ n. let k = (outside_exactly η b t _).0 n in rw (← k.1) (entry_outside k.0)) (λ v e f. on v e f)
  where
    on : (v : Value) → cell η b t ≡ has v → {r : Reason} → running v ≡ lacks r → NotReady η b t r
    on (Whole (pos zero)) e f = rw (← lacks_inj f) (zero_cell_lem e)
    on (Whole (pos (suc n))) e f = lacking (sym f)
    on (Whole (negsuc n)) e f = lacking (sym f)
    on (Location l) e f = rw (← lacks_inj f) (no_number e (λ k. omega arith))
    on (Truth b) e f = rw (← lacks_inj f) (no_number e (λ k. omega arith))

-- and the other way
chosen_not : {η : Memory} {b t : ℕ} {r : Reason} → NotReady η b t r → (cell η b t ⟫ running) ≡ lacks r
chosen_not {η} {b} {t} (entry_outside h) = rw ((outside_exactly η b t IndexOutside).1 (h, refl))
chosen_not (no_number {v = v} e k) = rw e (on v k)
  where
    on : (v : Value) → (kind_of v ≡ 1 → ⊥) → running v ≡ lacks WrongKind
    on (Whole z) k = absurd (k refl)
    on (Location l) k = refl
    on (Truth b) k = refl
chosen_not (zero_cell_lem e) = rw e

-- "the number of the procedure it is in": that of the first frame
abbrev pub procedure_of : Stack Plain → ℕ
procedure_of [] = 0
procedure_of (f ∷ s) = f.proc

module _ (h : ℕ) (procs : List (Proc Plain)) (c : Config) where
  -- a step of the machine
  pub data Goes : Config → Type 0 where
    -- a step of figure 1, of the thread last selected; an event's label is the number of the procedure
    by_figure : {r : Moved Plain} → Figure1 procs c.last (procedure_of c.stack) c.stack c.memory r
        → Goes (record { stack = r.stack; memory = r.memory; todo = c.todo; last = c.last; events = c.events ++ below h r.events })
    -- "Select takes the next entry t and writes t into a[0], without an event, if b[t] exists and is a number other than 0"
    selects : {m : ℕ} {ρ : Env} {a b : ℕ} {k : Block Plain} {s : Stack Plain} {t : ℕ} {ts : List ℕ}
        → c.stack ≡ context m ρ (step tt (select a b) k) ∷ s → c.todo ≡ t ∷ ts → Ready (cell c.memory b t)
        → Goes (record { stack = context m ρ k ∷ s; memory = stored c.memory a 0 (Whole (pos t)); todo = ts; last = t; events = c.events })

  -- how a run ends here
  pub data Ends : End → Type 0 where
    no_frame : c.stack ≡ [] → Ends finished
    -- "used up (select and no entry)"
    no_entry : {m : ℕ} {ρ : Env} {a b : ℕ} {k : Block Plain} {s : Stack Plain} → c.stack ≡ context m ρ (step tt (select a b) k) ∷ s → c.todo ≡ []
        → Ends used
    -- "else it blocks"
    not_ready : {m : ℕ} {ρ : Env} {a b : ℕ} {k : Block Plain} {s : Stack Plain} {t : ℕ} {ts : List ℕ} {r : Reason}
        → c.stack ≡ context m ρ (step tt (select a b) k) ∷ s → c.todo ≡ t ∷ ts → NotReady c.memory b t r → Ends (blocked r)
    -- an instruction blocks, in one of the ways of figure 1
    no_step : {m : ℕ} {ρ : Env} {i : Instr Plain} {k : Block Plain} {s : Stack Plain} {r : Reason} → c.stack ≡ context m ρ (step tt i k) ∷ s
        → ((a b : ℕ) → i ≡ select a b → ⊥) → Blocks procs c.last m m ρ tt k s c.memory i r → Ends (blocked r)

  -- by what comes next
  abbrev Judged : Next → Type 0
  Judged (ended how) = Ends how
  Judged (goes d) = Goes d

  -- select, by what stands in b[t]
  by_cell : (m : ℕ) (ρ : Env) (a b : ℕ) (k : Block Plain) (s : Stack Plain) (t : ℕ) (ts : List ℕ)
      → c.stack ≡ context m ρ (step tt (select a b) k) ∷ s → c.todo ≡ t ∷ ts
      → (v : Try Value) → (cell c.memory b t ⟫ running) ≡ v → Judged (selected a c.memory (context m ρ k) s t ts c.events v)
  by_cell m ρ a b k s t ts e f (lacks r) q = not_ready e f (not_chosen c.memory b t q)
  by_cell m ρ a b k s t ts e f (has v) q = selects e f (ready (cell c.memory b t) q)

  -- a step of figure 1, if there is one
  by_move : (m : ℕ) (ρ : Env) (i : Instr Plain) (k : Block Plain) (s : Stack Plain) → c.stack ≡ context m ρ (step tt i k) ∷ s
      → ((a b : ℕ) → i ≡ select a b → ⊥) → (x : Try (Moved Plain)) → instr procs c.last m m ρ tt i k s c.memory ≡ x
      → Judged (moved h c.todo c.last c.events x)
  by_move m ρ i k s e other (lacks r) q = no_step e other ((blocks_exactly procs c.last m m ρ tt k s c.memory i r).0 q)
  by_move m ρ i k s e other (has r) q =
      rw (kept_below h c.events r.events)
      (by_figure {r = r} (rw e (by_rule ((rules_exactly procs c.last m m ρ tt k s c.memory i r).0 q))))

  -- what comes next is a step, or the end
  by_code : (m : ℕ) (ρ : Env) (b : Block Plain) (s : Stack Plain) → c.stack ≡ context m ρ b ∷ s
      → Judged (code h procs b m ρ s c.memory c.todo c.last c.events)
  by_code m ρ end s e =
      rw (append-nil c.events) at (by_figure {r = record { stack = s; memory = c.memory; events = [] }} (rw e returns))
  by_code m ρ (step tt i k) s e = on i e
    where
      on : (i : Instr Plain) → c.stack ≡ context m ρ (step tt i k) ∷ s → Judged (one h procs m ρ i k s c.memory c.todo c.last c.events)
      on (assign x e) f = by_move m ρ (assign x e) k s f (λ a b q. let z : ◌≡◌ {A = ℕ} 0 1 = cc in omega arith) _ refl
      on (write y o e) f = by_move m ρ (write y o e) k s f (λ a b q. let z : ◌≡◌ {A = ℕ} 0 1 = cc in omega arith) _ refl
      on (read x y o) f = by_move m ρ (read x y o) k s f (λ a b q. let z : ◌≡◌ {A = ℕ} 0 1 = cc in omega arith) _ refl
      on (while e b) f = by_move m ρ (while e b) k s f (λ a b q. let z : ◌≡◌ {A = ℕ} 0 1 = cc in omega arith) _ refl
      on (if e b d) f = by_move m ρ (if e b d) k s f (λ a b q. let z : ◌≡◌ {A = ℕ} 0 1 = cc in omega arith) _ refl
      on (call n es) f = by_move m ρ (call n es) k s f (λ a b q. let z : ◌≡◌ {A = ℕ} 0 1 = cc in omega arith) _ refl
      on (atomic b) f = by_move m ρ (atomic b) k s f (λ a b q. let z : ◌≡◌ {A = ℕ} 0 1 = cc in omega arith) (lacks WrongKind) refl
      on (select a b) f = choice c.todo refl
        where
          choice : (ts : List ℕ) → c.todo ≡ ts → Judged (choose a b c.memory (context m ρ k) s ts c.events)
          choice [] g = no_entry f g
          choice (t ∷ ts) g = by_cell m ρ a b k s t ts f g (cell c.memory b t ⟫ running) refl

  -- a run is judged so
  judged : Judged (next h procs c)
  judged = on c.stack refl
    where
      on : (s : Stack Plain) → c.stack ≡ s → Judged (stack h procs s c.memory c.todo c.last c.events)
      on [] e = no_frame e
      on (f ∷ s) e = by_code f.proc f.env f.code s e

  -- each of these steps is taken
  figured : {t : ℕ} {s : Stack Plain} {η : Memory} {r : Moved Plain} (ts : List ℕ) (evs : List Event) → Figure1 procs t (procedure_of s) s η r
      → stack h procs s η ts t evs ≡ goes (record { stack = r.stack; memory = r.memory; todo = ts; last = t; events = evs ++ below h r.events })
  figured ts evs returns = rw (append-nil evs)
  figured {t} ts evs (by_rule {m = m} {ρ = ρ} {i = i} {c = k} {s = s} {η = η} {r = r} f) = on i ((rules_exactly procs t m m ρ tt k s η i r).1 f)
    where
      on : (i : Instr Plain) → instr procs t m m ρ tt i k s η ≡ has r
          → one h procs m ρ i k s η ts t evs
          ≡ goes (record { stack = r.stack; memory = r.memory; todo = ts; last = t; events = evs ++ below h r.events })
      on (assign x e) q = rw (q, kept_below h evs r.events)
      on (write y o e) q = rw (q, kept_below h evs r.events)
      on (read x y o) q = rw (q, kept_below h evs r.events)
      on (while e b) q = rw (q, kept_below h evs r.events)
      on (if e b d) q = rw (q, kept_below h evs r.events)
      on (call n es) q = rw (q, kept_below h evs r.events)
      on (atomic b) q = lacking q
      on (select a b) q = lacking q

  -- select's too
  goes_of : {d : Config} → Goes d → next h procs c ≡ goes d
  goes_of (by_figure f) = figured c.todo c.events f
  goes_of (selects {b = b} {t = t} e f r) = rw (e, f, (chosen (cell c.memory b t) r).1)

  -- and each of these ends is judged
  ends_of_lem : {how : End} → Ends how → next h procs c ≡ ended how
  ends_of_lem (no_frame e) = rw e
  ends_of_lem (no_entry e f) = rw (e, f)
  ends_of_lem (not_ready e f r) = rw (e, f, chosen_not r)
  ends_of_lem (no_step {m = m} {ρ = ρ} {i = i} {k = k} {s = s} {r = r} e other b) =
      rw e (on i other ((blocks_exactly procs c.last m m ρ tt k s c.memory i r).1 b))
    where
      on : (i : Instr Plain) → ((a b : ℕ) → i ≡ select a b → ⊥) → instr procs c.last m m ρ tt i k s c.memory ≡ lacks r
          → one h procs m ρ i k s c.memory c.todo c.last c.events ≡ ended (blocked r)
      on (assign x e) other q = rw q
      on (write y o e) other q = rw q
      on (read x y o) other q = rw q
      on (while e b) other q = rw q
      on (if e b d) other q = rw q
      on (call n es) other q = rw q
      on (atomic b) other q = rw (lacks_inj q) refl
      on (select a b) other q = absurd (other a b refl)

  -- THE MACHINE TAKES EXACTLY THESE STEPS.
  pub goes_exactly : (d : Config) → (next h procs c ≡ goes d) ↔ Goes d
  goes_exactly d = (λ e. subst Judged e judged, goes_of)

  -- AND ENDS EXACTLY SO.
  pub ends_exactly : (how : End) → (next h procs c ≡ ended how) ↔ Ends how
  ends_exactly how = (λ e. subst Judged e judged, ends_of_lem)

  -- ---- the run

  -- FINISHED IS JUDGED FIRST, whatever is left of the budget
  pub finished_first : (n k : ℕ) → next h procs c ≡ ended finished → run h procs n k c ≡ record { how = finished; steps = k; config = c }
  finished_first zero k e = rw e
  finished_first (suc n) k e = rw (e, run)

  -- THEN THE BUDGET, even where the schedule is used up or the next step would block
  pub budget_next : (k : ℕ) → (next h procs c ≡ ended finished → ⊥) → run h procs 0 k c ≡ record { how = spent; steps = k; config = c }
  budget_next k other = on (next h procs c) refl
    where
      on : (x : Next) → next h procs c ≡ x → run h procs 0 k c ≡ record { how = spent; steps = k; config = c }
      on (ended finished) e = absurd (other e)
      on (ended used) e = rw e
      on (ended (blocked r)) e = rw e
      on (ended spent) e = rw e
      on (goes d) e = rw e

  -- THEN THE OTHER ENDS: nothing changes, and no step is counted
  pub then_ends : (n k : ℕ) {how : End} → next h procs c ≡ ended how → run h procs (suc n) k c ≡ record { how = how; steps = k; config = c }
  then_ends n k e = rw (e, run)

  -- ELSE A STEP IS TAKEN AND COUNTED.
  pub then_goes : (n k : ℕ) {d : Config} → next h procs c ≡ goes d → run h procs (suc n) k c ≡ run h procs n (suc k) d
  then_goes n k e = rw (e, run)

-- Report RR-2017-03, figure 1: its rules as the report writes them, and that Step takes exactly these steps.
use Rattle.std.specs.Prelude.{ℕ, zero, suc, ◌-◌, ◌≤◌, ◌<◌, ◌≡◌, refl, ◌↔◌, ◌≢◌, List, [], ◌∷◌, ◌++◌, map, Bool, true, false, length, replicate, ℤ, pos, negsuc, eqb}
use Rattle.std.proofs.Common.{arith, length-append, ne_eqb}
use Rattle.std.proofs.Math.Bool as B
use Rattle.std.proofs.lemmas.List.{length-map, length-replicate}
use Rattle.std.proofs.lemmas.Bool.{eqb-false, not-true}
use Rattle.value.specs.Maybe.{is, nothing, pick, either}
use Rattle.value.specs.Try.{Try, has, lacks, ◌⟫◌, or_lacks}
use Rattle.value.specs.Lists.{at}
use Rattle.value.specs.Values.{One, Two, and, apply₁, apply₂}
use Rattle.value.specs.Marks.{judged, decided}
use Rattle.value.specs.declared.Value.{Value}
use Rattle.value.specs.declared.Value.TheVariants.{Whole, Location, Truth}
use Rattle.value.specs.declared.Reason.TheVariants.{WrongKind, FinishedThread}
use Rattle.value.proofs.Laws.Tries.{has_inj, lacking, chain_has, provided_has, or_lacks_has}
use Rattle.value.proofs.Laws.Reasons.{number_is, judged_passes, value_left, Settles, false_left, decided?, settles_gives}
use Rattle.value.proofs.Laws.Tests.{either_failed, by_test}
use Rattle.value.proofs.Laws.Lists.{Each}
use Rattle.format.specs.Syntax.{Expr, constant, local, one, two, Instr, assign, write, read, while, if, call, atomic, select}
use Rattle.format.specs.Syntax.{Block, end, step, ◌⊕◌, Proc}
use Rattle.value.specs.Values.{number, place, truth}
use Rattle.semantics.specs.Memory.{Env, lookup, bound, eval, evals, index, Memory, cell, stored, Way, reading, writing, Event}
use Rattle.semantics.proofs.Laws.Cells.{shape, cell_there, cell_inside}
use Rattle.semantics.specs.Step.{Frame, Stack, Moved, entered, runs, instr, frame}

-- ---- ⟦e⟧ρ = v

-- document 01: "An operator with an operand that has no value, or of the wrong kind, has none itself"; request #103: "a false left side gives false
-- and the right side isn't evaluated"
pub data Has (ρ : Env) : Expr → Value → Type 0 where
  itself : {v : Value} → Has ρ (constant v) v
  set : {x : ℕ} {v : Value} → lookup ρ x ≡ is v → Has ρ (local x) v
  of_one : {o : One} {a : Expr} {u v : Value} → Has ρ a u → apply₁ o u ≡ has v → Has ρ (one o a) v
  of_two : {o : Two} {a b : Expr} {u w v : Value} → Has ρ a u → Has ρ b w → apply₂ o u w ≡ has v → Has ρ (two o a b) v
  not_right : {a b : Expr} → Has ρ a (Truth false) → Has ρ (two and a b) (Truth false)

-- an expression that comes to v has the value v
so_has : (ρ : Env) (e : Expr) {v : Value} → eval ρ e ≡ has v → Has ρ e v
so_has ρ (constant u) h = rw (has_inj h) itself
so_has ρ (local x) h = set (or_lacks_has _ _ h)
so_has ρ (one o a) h = let b = chain_has (eval ρ a) _ h in of_one (so_has ρ a b.1) b.2
so_has ρ (two o a b) h =
    let k = chain_has (eval ρ a ⟫ judged o) _ h in
    let p = chain_has (eval ρ a) _ k.1 in
    let same : p.0 ≡ k.0 = ((judged_passes o p.0 k.0).0 p.2).1 in
    let x = so_has ρ a (rw same at p.1) in
    by_test (decided o k.0)
    (λ d. rw (← has_inj (rw d at k.2)) (skip ((decided? o k.0).so d) x))
    (λ d. let q = chain_has (eval ρ b) _ (rw d at k.2) in of_two x (so_has ρ b q.1) q.2)
  where
    skip : {o : Two} {u : Value} → Settles o u → Has ρ a u → Has ρ (two o a b) (Truth false)
    skip false_left x = not_right x

-- and the other way
comes : {ρ : Env} {e : Expr} {v : Value} → Has ρ e v → eval ρ e ≡ has v
comes itself = refl
comes (set h) = rw h
comes (of_one h e) = rw (comes h) e
comes (not_right h) = rw (comes h)
comes (of_two {o = o} {u = u} {w = w} {v = v} h k e) =
    by_test (decided o u)
    (λ d. rw (comes h, (judged_passes o u u).1 (value_left o u w e, refl), d, settles_gives ((decided? o u).so d) w e))
    (λ d. rw (comes h, (judged_passes o u u).1 (value_left o u w e, refl), d, comes k) e)

-- AN EXPRESSION HAS THE VALUE THAT IT COMES TO, AND NO OTHER.
pub eval_exactly : (ρ : Env) (e : Expr) (v : Value) → (eval ρ e ≡ has v) ↔ Has ρ e v
eval_exactly ρ e v = (so_has ρ e, comes)

-- ⟦es⟧ρ = vs, one by one
pub data Have (ρ : Env) : List Expr → List Value → Type 0 where
  none : Have ρ [] []
  more : {e : Expr} {v : Value} {es : List Expr} {vs : List Value} → eval ρ e ≡ has v → Have ρ es vs → Have ρ (e ∷ es) (v ∷ vs)

-- arguments that come to vs have these values
have : (ρ : Env) (es : List Expr) {vs : List Value} → evals ρ es ≡ has vs → Have ρ es vs
have ρ [] h = rw (← has_inj h) none
have ρ (e ∷ es) h =
    let p = chain_has (eval ρ e) _ h in
    let q = chain_has (evals ρ es) _ p.2 in
    rw (← has_inj q.2) (more p.1 (have ρ es q.1))

-- and the other way
all_come : {ρ : Env} {es : List Expr} {vs : List Value} → Have ρ es vs → evals ρ es ≡ has vs
all_come none = refl
all_come (more e h) = rw (e, all_come h)

-- ARGUMENTS HAVE THE VALUES THAT THEY COME TO, EACH ITS OWN.
pub evals_exactly : (ρ : Env) (es : List Expr) (vs : List Value) → (evals ρ es ≡ has vs) ↔ Have ρ es vs
evals_exactly ρ es vs = (have ρ es, all_come)

-- ---- figure 1

-- the report's (m, ρ, c): procedure, locals and the code that remains
abbrev pub context : {A : Type 0} → ℕ → Env → Block A → Frame A
context m ρ c = record { proc = m; env = ρ; code = c }

-- a read or write of thread t at label j
abbrev pub event : ℕ → ℕ → Way → ℕ → ℕ → Value → Event
event t j way l i v = record { thread = t; way = way; place = l; index = i; value = v; label = j }

-- the report's m' ∉ s: no frame is of procedure n
abbrev pub Absent : {A : Type 0} → ℕ → Stack A → Type 0
Absent {A} n s = Each (λ (f : Frame A). n ≢ f.proc) s

-- [x .. ↦ vs], in the frame of a call: the arguments are the first locals, and no other is set
pub record Entered {A : Type 0} (n : ℕ) (p : Proc A) (vs : List Value) (f : Frame A) : Type 0 where
  pub proc : f.proc ≡ n
  pub locals : (x : ℕ) → lookup f.env x ≡ at vs x
  pub count : length vs ≤ p.locals → length f.env ≡ p.locals
  pub code : f.code ≡ p.body

-- the locals of a call
first_locals : (vs : List Value) (k x : ℕ) → lookup (map is vs ++ replicate k nothing) x ≡ at vs x
first_locals [] zero x = refl
first_locals [] (suc k) zero = refl
first_locals [] (suc k) (suc x) = first_locals [] k x
first_locals (v ∷ vs) k zero = refl
first_locals (v ∷ vs) k (suc x) = first_locals vs k x

-- THE FRAME OF A CALL.
pub entered_so : {A : Type 0} (n : ℕ) (p : Proc A) (vs : List Value) → Entered n p vs (entered n p vs)
entered_so n p vs = record {
  proc = refl;
  locals = first_locals vs (p.locals - length vs);
  count = λ h. simp (length-append, length-map, length-replicate) (omega arith);
  code = refl;
}

-- ---- kinds

-- what is an index
pub index_pos : (z : ℤ) {i : ℕ} → index z ≡ has i → z ≡ pos i
index_pos (pos n) e = cc
index_pos (negsuc n) e = lacking e

-- an expression that is one
index_is : (u : Try Value) (z : ℤ) {i : ℕ} → (u ⟫ number) ≡ has z → index z ≡ has i → u ≡ has (Whole (pos i))
index_is u z e f = let c = chain_has u _ e in rw (← index_pos z f, ← number_is c.0 c.2) c.1

-- what is a location
pub place_is : (ρ : Env) (y : ℕ) {l : ℕ} → (eval ρ (local y) ⟫ place) ≡ has l → lookup ρ y ≡ is (Location l)
place_is ρ y e = or_lacks_has _ _ (on (eval ρ (local y)) e)
  where
    on : (u : Try Value) {l : ℕ} → (u ⟫ place) ≡ has l → u ≡ has (Location l)
    on (lacks r) e = lacking e
    on (has (Whole z)) e = lacking e
    on (has (Location l)) e = cc
    on (has (Truth b)) e = lacking e

-- what is a truth value
truth_is : (u : Try Value) {q : Bool} → (u ⟫ truth) ≡ has q → u ≡ has (Truth q)
truth_is (lacks r) e = lacking e
truth_is (has (Whole z)) e = lacking e
truth_is (has (Location l)) e = lacking e
truth_is (has (Truth b)) e = cc

module _ {A : Type 0} (n : ℕ) where
  -- a procedure that does not run in a stack
  pub absent : (s : Stack A) → runs n s ≡ false → Absent n s
  absent [] e = tt
  absent (f ∷ s) e = let p = either_failed (eqb n f.proc) (runs n s) e in (eqb-false n f.proc p.0, absent s p.1)

  -- and the other way
  pub not_running : (s : Stack A) → Absent n s → runs n s ≡ false
  not_running [] h = refl
  not_running (f ∷ s) h = rw (ne_eqb n f.proc h.0, not_running s h.1)

-- thread t at label j, where instruction i with tag a comes first and then c, in procedure m with locals ρ, above the frames s, with memory η
module _ {A : Type 0} (procs : List (Proc A)) (t j m : ℕ) (ρ : Env) (a : A) (c : Block A) (s : Stack A) (η : Memory) where
  -- the frame goes on with these locals and this code; memory; what is read or written
  abbrev pub to : Env → Block A → Memory → List Event → Moved A
  to ρ' c' η' evs = record { stack = context m ρ' c' ∷ s; memory = η'; events = evs }

  -- P ⊢ (m, ρ, (i; c)) · s, η → r: one constructor for each rule of the report, with its premises. Of the report's actions, read and write are
  -- events. Its [select] is in Laws.Judged. That a call has as many arguments as its procedure has parameters is rule 5.
  pub data Rule : Instr A → Moved A → Type 0 where
    -- [assign] "if ⟦e⟧ρ = v": ρ[x ↦ v]
    assigns : {x : ℕ} {e : Expr} {v : Value} → eval ρ e ≡ has v → Rule (assign x e) (to (bound ρ x v) c η [])
    -- y[o] := e: "if ⟦e⟧ρ = v, ⟦o⟧ρ = i, ρ(y) = l, i < mem(l)": η[(l, i) ↦ v]. The figure has the names [read] and [write] in each other's place.
    writes : {y : ℕ} {o e : Expr} {v : Value} {i l n : ℕ}
        → eval ρ e ≡ has v → eval ρ o ≡ has (Whole (pos i)) → lookup ρ y ≡ is (Location l) → at (shape η) l ≡ is n → i < n
        → Rule (write y o e) (to ρ c (stored η l i v) (event t j writing l i v ∷ []))
    -- x := y[o]: "if ⟦o⟧ρ = i, ρ(y) = l, i < mem(l), η(l)(i) = v": ρ[x ↦ v]
    reads : {x y : ℕ} {o : Expr} {v : Value} {i l : ℕ}
        → eval ρ o ≡ has (Whole (pos i)) → lookup ρ y ≡ is (Location l) → cell η l i ≡ has v
        → Rule (read x y o) (to (bound ρ x v) c η (event t j reading l i v ∷ []))
    -- [while : true] "if ⟦e⟧ρ = true": the body, then the loop again
    while_true : {e : Expr} {b : Block A} → eval ρ e ≡ has (Truth true) → Rule (while e b) (to ρ (b ⊕ step a (while e b) c) η [])
    -- [while : false]
    while_false : {e : Expr} {b : Block A} → eval ρ e ≡ has (Truth false) → Rule (while e b) (to ρ c η [])
    -- [if : true]
    if_true : {e : Expr} {b d : Block A} → eval ρ e ≡ has (Truth true) → Rule (if e b d) (to ρ (b ⊕ c) η [])
    -- [if : false]
    if_false : {e : Expr} {b d : Block A} → eval ρ e ≡ has (Truth false) → Rule (if e b d) (to ρ (d ⊕ c) η [])
    -- [call] "if m'(x ..)c' ∈ P, .. ⟦es⟧ρ = vs, m' ∉ s": (m', [x .. ↦ vs], c') · (m, ρ, c) · s
    calls : {n : ℕ} {es : List Expr} {vs : List Value} {p : Proc A} → at procs n ≡ is p → Have ρ es vs → Absent n (context m ρ c ∷ s)
        → Rule (call n es) (record { stack = entered n p vs ∷ context m ρ c ∷ s; memory = η; events = [] })

  -- a step is by a rule
  so : (i : Instr A) (r : Moved A) → instr procs t j m ρ a i c s η ≡ has r → Rule i r
  so (assign x e) r h = let b = chain_has (eval ρ e) _ h in rw (← has_inj b.2) (assigns b.1)
  so (write y o e) r h =
      let v = chain_has (eval ρ e) _ h in
      let z = chain_has (eval ρ o ⟫ number) _ v.2 in
      let l = chain_has (eval ρ (local y) ⟫ place) _ z.2 in
      let i = chain_has (index z.0) _ l.2 in
      let u = chain_has (cell η l.0 i.0) _ i.2 in
      let n = cell_inside η l.0 i.0 u.1 in
      rw (← has_inj u.2) (writes v.1 (index_is (eval ρ o) z.0 z.1 i.1) (place_is ρ y l.1) n.1 n.2)
  so (read x y o) r h =
      let z = chain_has (eval ρ o ⟫ number) _ h in
      let l = chain_has (eval ρ (local y) ⟫ place) _ z.2 in
      let i = chain_has (index z.0) _ l.2 in
      let v = chain_has (cell η l.0 i.0) _ i.2 in
      rw (← has_inj v.2) (reads (index_is (eval ρ o) z.0 z.1 i.1) (place_is ρ y l.1) v.1)
  so (while e b) r h =
      let q = chain_has (eval ρ e ⟫ truth) _ h in
      rw (← has_inj q.2) (by q.0 (truth_is (eval ρ e) q.1))
    where
      by : (q : Bool) → eval ρ e ≡ has (Truth q) → Rule (while e b) (to ρ (pick q (b ⊕ step a (while e b) c) c) η [])
      by true g = while_true g
      by false g = while_false g
  so (if e b d) r h =
      let q = chain_has (eval ρ e ⟫ truth) _ h in
      rw (← has_inj q.2) (by q.0 (truth_is (eval ρ e) q.1))
    where
      by : (q : Bool) → eval ρ e ≡ has (Truth q) → Rule (if e b d) (to ρ (pick q b d ⊕ c) η [])
      by true g = if_true g
      by false g = if_false g
  so (call n es) r h =
      let vs = chain_has (evals ρ es) _ h in
      let p = chain_has (or_lacks WrongKind (at procs n)) _ vs.2 in
      let free = provided_has (B.not (either (eqb n m) (runs n s))) _ _ p.2 in
      rw (← free.1) (calls (or_lacks_has _ _ p.1) (have ρ es vs.1) (absent n (context m ρ c ∷ s) (not-true _ free.0)))
  so (atomic b) r h = lacking h
  so (select x y) r h = lacking h

  -- a rule is a step
  of : {i : Instr A} {r : Moved A} → Rule i r → instr procs t j m ρ a i c s η ≡ has r
  of (assigns e) = rw e
  of (writes {i = i} {l = l} v o y n h) = let u = cell_there η l i n h in rw (v, o, y, u.1)
  of (reads o y v) = rw (o, y, v)
  of (while_true e) = rw e
  of (while_false e) = rw e
  of (if_true e) = rw e
  of (if_false e) = rw e
  of (calls {n = n} p h free) = rw (all_come h, p, not_running n (context m ρ c ∷ s) free)

  -- FIGURE 1: AN INSTRUCTION TAKES A STEP EXACTLY IF A RULE OF THE REPORT DOES, AND TO WHERE THE RULE SAYS.
  pub rules_exactly : (i : Instr A) (r : Moved A) → (instr procs t j m ρ a i c s η ≡ has r) ↔ Rule i r
  rules_exactly i r = (so i r, of)

-- ---- figure 1, of a stack of frames

-- P ⊢ s, η → s', η' of thread t at label j
pub data Figure1 {A : Type 0} (procs : List (Proc A)) (t j : ℕ) : Stack A → Memory → Moved A → Type 0 where
  by_rule : {m : ℕ} {ρ : Env} {a : A} {i : Instr A} {c : Block A} {s : Stack A} {η : Memory} {r : Moved A} → Rule procs t j m ρ a c s η i r
      → Figure1 procs t j (context m ρ (step a i c) ∷ s) η r
  -- [return] (m, ρ, []) · s, η → s, η
  returns : {m : ℕ} {ρ : Env} {s : Stack A} {η : Memory} → Figure1 procs t j (context m ρ end ∷ s) η (record { stack = s; memory = η; events = [] })

-- what a stack's first frame does
abbrev taken : {A : Type 0} → List (Proc A) → ℕ → ℕ → Stack A → Memory → Try (Moved A)
taken procs t j [] η = lacks FinishedThread
taken procs t j (f ∷ s) η = frame procs t j f.code f.proc f.env s η

-- a step of figure 1
figure_of : {A : Type 0} {procs : List (Proc A)} {t j : ℕ} {s : Stack A} {η : Memory} {r : Moved A} → Figure1 procs t j s η r → taken procs t j s η ≡ has r
figure_of {procs = procs} {t = t} {j = j} (by_rule {m = m} {ρ = ρ} {a = a} {i = i} {c = c} {s = s} {η = η} {r = r} h) =
    (rules_exactly procs t j m ρ a c s η i r).1 h
figure_of returns = refl

-- FIGURE 1 IS WHAT A STACK'S FIRST FRAME DOES.
pub figure_1 : {A : Type 0} (procs : List (Proc A)) (t j m : ℕ) (ρ : Env) (c : Block A) (s : Stack A) (η : Memory) (r : Moved A)
    → (frame procs t j c m ρ s η ≡ has r) ↔ Figure1 procs t j (context m ρ c ∷ s) η r
figure_1 {A} procs t j m ρ c s η r = (so c, figure_of)
  where
    so : (c : Block A) → frame procs t j c m ρ s η ≡ has r → Figure1 procs t j (context m ρ c ∷ s) η r
    so end e = rw (← has_inj e) returns
    so (step a i c) e = by_rule ((rules_exactly procs t j m ρ a c s η i r).0 e)

-- Why an expression has no value and why an instruction blocks: for each reason exactly the ways to it, in the order in which request #101 judges.
use Rattle.std.specs.Prelude.{ℕ, ◌<◌, ◌≡◌, refl, ◌↔◌, List, [], ◌∷◌, false, ℤ, pos, negsuc, neg_ℤ, eqb}
use Rattle.std.proofs.Common.{arith, sym, ◌∙◌}
use Rattle.std.proofs.Math.Bool as B
use Rattle.std.proofs.lemmas.Bool.{not-false}
use Rattle.value.specs.Maybe.{Maybe, is, nothing, ◌>>=◌, either}
use Rattle.value.specs.Try.{Try, has, lacks, ◌⟫◌, or_lacks}
use Rattle.value.specs.Lists.{at}
use Rattle.value.specs.Values.{One, neg, Two, number, place, truth}
use Rattle.value.specs.Marks.{kind_of, judged, decided}
use Rattle.value.specs.declared.Value.{Value}
use Rattle.value.specs.declared.Value.TheVariants.{Whole, Location, Truth}
use Rattle.value.specs.declared.Reason.{Reason}
use Rattle.value.specs.declared.Reason.TheVariants.{OutOfRange, WrongKind, IndexOutside}
use Rattle.value.proofs.Laws.Maybes.{missing}
use Rattle.value.proofs.Laws.Tries.{lacking, lacks_inj, chain_has, chain_stops, provided_stops, or_lacks_has, or_lacks_stops}
use Rattle.value.proofs.Laws.Tests.{never, by_test}
use Rattle.value.proofs.Laws.Arithmetic.{InRange}
use Rattle.value.proofs.Laws.Reasons.{Left, Right, Takes, Outside, numbers, truthful, number_is, judged_passes, judged_lacks}
use Rattle.value.proofs.Laws.Reasons.{Fails, fails_exactly, Fails₁, fails₁_exactly, Settles, decided?, outside_goes}
use Rattle.value.proofs.Laws.Reasons as F
use Rattle.format.specs.Syntax.{Expr, constant, local, one, two, Instr, assign, write, read, while, if, call, atomic, select, Block, Proc}
use Rattle.semantics.specs.Memory.{Env, lookup, eval, evals, index, Memory, cell}
use Rattle.semantics.specs.Step.{Stack, runs, instr}
use Rattle.semantics.proofs.Laws.Cells.{shape, cell_there, cell_inside}
use Rattle.semantics.proofs.Laws.Figure1.{Has, eval_exactly, Have, evals_exactly, context, Absent, absent, not_running, index_pos, place_is}

-- ---- expressions

-- "The left operand, its kind included, is judged before the right, and the range of the result last"
pub data Lacks (ρ : Env) : Expr → Reason → Type 0 where
  -- number 8 keeps a local that is not set out of every run
  unset : {x : ℕ} → lookup ρ x ≡ nothing → Lacks ρ (local x) WrongKind
  -- one operand: its own reason; its kind; then the range, of negate
  operand : {o : One} {a : Expr} {r : Reason} → Lacks ρ a r → Lacks ρ (one o a) r
  operand_kind : {o : One} {a : Expr} {u : Value} → Has ρ a u → (Takes o u → ⊥) → Lacks ρ (one o a) WrongKind
  operand_range : {a : Expr} {z : ℤ} → Has ρ a (Whole z) → (InRange (neg_ℤ z) → ⊥) → Lacks ρ (one neg a) OutOfRange
  -- two: the left's own reason; the left's kind
  left : {o : Two} {a b : Expr} {r : Reason} → Lacks ρ a r → Lacks ρ (two o a b) r
  left_kind_lem : {o : Two} {a b : Expr} {u : Value} → Has ρ a u → (Left o u → ⊥) → Lacks ρ (two o a b) WrongKind
  -- where the left does not decide (request #103): the right's own reason; the right's kind
  right : {o : Two} {a b : Expr} {u : Value} {r : Reason} → Has ρ a u → Left o u → (Settles o u → ⊥) → Lacks ρ b r → Lacks ρ (two o a b) r
  right_kind : {o : Two} {a b : Expr} {u w : Value} → Has ρ a u → Left o u → (Settles o u → ⊥) → Has ρ b w → (Right o u w → ⊥)
      → Lacks ρ (two o a b) WrongKind
  -- then the range
  range : {o : Two} {a b : Expr} {u w : Value} → Has ρ a u → Left o u → Has ρ b w → Right o u w → Outside o u w → Lacks ρ (two o a b) OutOfRange

-- an expression that lacks does so in one of these ways
so_lacks : (ρ : Env) (e : Expr) {r : Reason} → eval ρ e ≡ lacks r → Lacks ρ e r
so_lacks ρ (constant v) h = lacking (sym h)
so_lacks ρ (local x) h = let p = or_lacks_stops WrongKind (lookup ρ x) h in rw (← p.1) (unset p.0)
so_lacks ρ (one o a) h =
    chain_stops (eval ρ a) _ h (λ n. operand (so_lacks ρ a n)) (λ u p q. on ((eval_exactly ρ a u).0 p) ((fails₁_exactly o u _).0 q))
  where
    on : {o : One} {u : Value} {r : Reason} → Has ρ a u → Fails₁ o u r → Lacks ρ (one o a) r
    on p (F.kind k) = operand_kind p k
    on p (F.range k) = operand_range p k
so_lacks ρ (two o a b) h =
    chain_stops (eval ρ a ⟫ judged o) _ h
    (λ n. chain_stops (eval ρ a) _ n (λ n. left (so_lacks ρ a n))
    (λ u p q. let k = (judged_lacks o u _).0 q in rw (← k.1) (left_kind_lem ((eval_exactly ρ a u).0 p) k.0)))
    (λ u p q.
    let c = chain_has (eval ρ a) _ p in
    let k = (judged_passes o c.0 u).0 c.2 in
    let l : Left o u = rw (← k.1) k.0 in
    let x : Has ρ a u = (eval_exactly ρ a u).0 (rw k.1 at c.1) in
    by_test (decided o u) (λ d. lacking (sym (rw d at q))) (λ d.
    let s = goes d in
    chain_stops (eval ρ b) _ (rw d at q) (λ n. right x l s (so_lacks ρ b n))
    (λ w y f. on x s ((eval_exactly ρ b w).0 y) ((fails_exactly o u w _).0 f))))
  where
    goes : {u : Value} → decided o u ≡ false → Settles o u → ⊥
    goes {u} d s = never (sym d ∙ (decided? o u).of s)

    on : {u w : Value} {r : Reason} → Has ρ a u → (Settles o u → ⊥) → Has ρ b w → Fails o u w r → Lacks ρ (two o a b) r
    on x s y (F.left_kind_lem k) = left_kind_lem x k
    on x s y (F.right_kind j k) = right_kind x j s y k
    on x s y (F.range j k out) = range x j y k out

-- a left operand that does not decide
undecided : (o : Two) (u : Value) → (Settles o u → ⊥) → decided o u ≡ false
undecided o u s = by_test (decided o u) (λ d. absurd (s ((decided? o u).so d))) (λ d. d)

-- and the other way
lacks_of : {ρ : Env} {e : Expr} {r : Reason} → Lacks ρ e r → eval ρ e ≡ lacks r
lacks_of (unset h) = rw h
lacks_of (operand h) = rw (lacks_of h)
lacks_of {ρ} (operand_kind {o = o} {a = a} {u = u} h k) = rw ((eval_exactly ρ a u).1 h) ((fails₁_exactly o u _).1 (F.kind k))
lacks_of {ρ} (operand_range {a = a} {z = z} h k) = rw ((eval_exactly ρ a (Whole z)).1 h) ((fails₁_exactly neg (Whole z) _).1 (F.range k))
lacks_of (left h) = rw (lacks_of h)
lacks_of {ρ} (left_kind_lem {o = o} {a = a} {u = u} h k) = rw ((eval_exactly ρ a u).1 h, (judged_lacks o u WrongKind).1 (k, refl))
lacks_of {ρ} (right {o = o} {a = a} {u = u} h k s n) =
    rw ((eval_exactly ρ a u).1 h, (judged_passes o u u).1 (k, refl), undecided o u s, lacks_of n)
lacks_of {ρ} (right_kind {o = o} {a = a} {b = b} {u = u} {w = w} h j s y k) =
    rw ((eval_exactly ρ a u).1 h, (judged_passes o u u).1 (j, refl), undecided o u s, (eval_exactly ρ b w).1 y)
    ((fails_exactly o u w _).1 (F.right_kind j k))
lacks_of {ρ} (range {o = o} {a = a} {b = b} {u = u} {w = w} h j y k out) =
    rw ((eval_exactly ρ a u).1 h, (judged_passes o u u).1 (j, refl), outside_goes out, (eval_exactly ρ b w).1 y)
    ((fails_exactly o u w _).1 (F.range j k out))

-- AN EXPRESSION HAS NO VALUE FOR EXACTLY THIS REASON.
pub lacks_exactly : (ρ : Env) (e : Expr) (r : Reason) → (eval ρ e ≡ lacks r) ↔ Lacks ρ e r
lacks_exactly ρ e r = (so_lacks ρ e, lacks_of)

-- "a call judges its arguments in order": the first that has no value
pub data First (ρ : Env) : List Expr → Reason → Type 0 where
  here : {e : Expr} {es : List Expr} {r : Reason} → Lacks ρ e r → First ρ (e ∷ es) r
  later : {e : Expr} {v : Value} {es : List Expr} {r : Reason} → Has ρ e v → First ρ es r → First ρ (e ∷ es) r

-- arguments that lack
so_first : (ρ : Env) (es : List Expr) {r : Reason} → evals ρ es ≡ lacks r → First ρ es r
so_first ρ [] h = lacking (sym h)
so_first ρ (e ∷ es) h =
    chain_stops (eval ρ e) _ h (λ n. here (so_lacks ρ e n)) (λ v p q.
    chain_stops (evals ρ es) _ q (λ n. later ((eval_exactly ρ e v).0 p) (so_first ρ es n)) (λ vs s f. lacking (sym f)))

-- and the other way
first_of : {ρ : Env} {es : List Expr} {r : Reason} → First ρ es r → evals ρ es ≡ lacks r
first_of (here h) = rw (lacks_of h)
first_of {ρ} (later {e = e} {v = v} h k) = rw ((eval_exactly ρ e v).1 h, first_of k)

-- THE FIRST ARGUMENT WITHOUT A VALUE SAYS WHY.
pub first_exactly : (ρ : Env) (es : List Expr) (r : Reason) → (evals ρ es ≡ lacks r) ↔ First ρ es r
first_exactly ρ es r = (so_first ρ es, first_of)

-- ---- cells

-- no location is in local y
abbrev pub NoPlace : Env → ℕ → Type 0
NoPlace ρ y = (l : ℕ) → lookup ρ y ≡ is (Location l) → ⊥

-- "the index against the size": negative, or not below it
abbrev pub Beyond : Memory → ℕ → ℤ → Type 0
Beyond η l z = (i n : ℕ) → z ≡ pos i → at (shape η) l ≡ is n → i < n → ⊥

-- a cell that is not there is beyond the size
beyond : (η : Memory) (l i : ℕ) {r : Reason} → cell η l i ≡ lacks r → Beyond η l (pos i) × (IndexOutside ≡ r)
beyond η l i h = (λ j n e s k. inside j n e s k, (or_lacks_stops IndexOutside (at η l >>= λ row. at row i) h).1)
  where
    inside : (j n : ℕ) → pos i ≡ pos j → at (shape η) l ≡ is n → j < n → ⊥
    inside j n e s k = let same : i ≡ j = cc in lacking (sym h ∙ (cell_there η l i s (rw same k)).1)

-- and the other way
cell_lacks : (η : Memory) (l i : ℕ) → Beyond η l (pos i) → cell η l i ≡ lacks IndexOutside
cell_lacks η l i h = on (cell η l i) refl
  where
    on : (c : Try Value) → cell η l i ≡ c → c ≡ lacks IndexOutside
    on (has v) e = let k = cell_inside η l i e in absurd (h i k.0 refl k.1 k.2)
    on (lacks r) e = rw (beyond η l i e).1 refl

-- A CELL LACKS EXACTLY OUTSIDE THE SIZE, AND THAT IS 3.
pub outside_exactly : (η : Memory) (l i : ℕ) (r : Reason) → (cell η l i ≡ lacks r) ↔ (Beyond η l (pos i) × (IndexOutside ≡ r))
outside_exactly η l i r = (beyond η l i, λ h. rw (← h.1) (cell_lacks η l i h.0))

module _ (ρ : Env) (η : Memory) (y : ℕ) (o : Expr) where
  -- why there is no cell y[o]: "the index expression, then the pointer, then the index against the size"
  pub data NoCell : Reason → Type 0 where
    -- the index expression's own reason; its kind
    index_lacks : {r : Reason} → Lacks ρ o r → NoCell r
    index_kind : {u : Value} → Has ρ o u → (kind_of u ≡ 1 → ⊥) → NoCell WrongKind
    -- the pointer's kind
    pointer_kind : {z : ℤ} → Has ρ o (Whole z) → NoPlace ρ y → NoCell WrongKind
    -- the index against the size
    index_outside : {z : ℤ} {l : ℕ} → Has ρ o (Whole z) → lookup ρ y ≡ is (Location l) → Beyond η l z → NoCell IndexOutside

  -- what is made of that cell
  abbrev reached : {B : Type 0} → (ℕ → ℕ → Value → B) → Try B
  reached f = eval ρ o ⟫ number ⟫ λ z. eval ρ (local y) ⟫ place ⟫ λ l. index z ⟫ λ i. cell η l i ⟫ λ v. has (f l i v)

  -- no location
  no_place : {r : Reason} → (eval ρ (local y) ⟫ place) ≡ lacks r → NoPlace ρ y × (WrongKind ≡ r)
  no_place h = on (lookup ρ y) refl h
    where
      on : (m : Maybe Value) → lookup ρ y ≡ m → {r : Reason} → (or_lacks WrongKind m ⟫ place) ≡ lacks r → NoPlace ρ y × (WrongKind ≡ r)
      on nothing e h = (λ l p. missing (sym e ∙ p), lacks_inj h)
      on (is (Whole z)) e h = (λ l p. let no : Whole z ≡ Location l = cc in let k : ◌≡◌ {A = ℕ} 0 1 = cc in omega arith, lacks_inj h)
      on (is (Location l)) e h = lacking (sym h)
      on (is (Truth b)) e h = (λ l p. let no : Truth b ≡ Location l = cc in let k : ◌≡◌ {A = ℕ} 0 1 = cc in omega arith, lacks_inj h)

  -- and the other way
  place_lacks : NoPlace ρ y → (eval ρ (local y) ⟫ place) ≡ lacks WrongKind
  place_lacks h = on (lookup ρ y) refl
    where
      on : (m : Maybe Value) → lookup ρ y ≡ m → (or_lacks WrongKind m ⟫ place) ≡ lacks WrongKind
      on nothing e = refl
      on (is (Whole z)) e = refl
      on (is (Location l)) e = absurd (h l e)
      on (is (Truth b)) e = refl

  -- a cell that is not reached
  so_cell : {B : Type 0} (f : ℕ → ℕ → Value → B) {r : Reason} → reached f ≡ lacks r → NoCell r
  so_cell f h =
      chain_stops (eval ρ o ⟫ number) _ h
      (λ n. chain_stops (eval ρ o) _ n (λ n. index_lacks ((lacks_exactly ρ o _).0 n))
      (λ u p q. let k = numbers.so u q in rw (← k.0) (index_kind ((eval_exactly ρ o u).0 p) k.1)))
      (λ z p h.
      let c = chain_has (eval ρ o) _ p in
      let x : Has ρ o (Whole z) = (eval_exactly ρ o (Whole z)).0 (rw (number_is c.0 c.2) at c.1) in
      chain_stops (eval ρ (local y) ⟫ place) _ h
      (λ n. let k = no_place n in rw (← k.1) (pointer_kind x k.0))
      (λ l q h.
      chain_stops (index z) _ h (λ n. negative z x (place_is ρ y q) n) (λ i s h.
      chain_stops (cell η l i) _ h (λ n. let k = beyond η l i n in rw (← k.1) (index_outside x (place_is ρ y q) (rw (index_pos z s) k.0)))
      (λ v t e. lacking (sym e)))))
    where
      negative : (z : ℤ) {l : ℕ} {r : Reason} → Has ρ o (Whole z) → lookup ρ y ≡ is (Location l) → index z ≡ lacks r → NoCell r
      negative (pos n) x q h = lacking (sym h)
      negative (negsuc n) x q h = rw (← lacks_inj h) (index_outside x q (λ i m e s k. let no : ◌≡◌ {A = ℕ} 0 1 = cc in omega arith))

  -- and the other way
  cell_of : {B : Type 0} (f : ℕ → ℕ → Value → B) {r : Reason} → NoCell r → reached f ≡ lacks r
  cell_of f (index_lacks h) = rw ((lacks_exactly ρ o _).1 h)
  cell_of f (index_kind {u = u} h k) = rw ((eval_exactly ρ o u).1 h, numbers.of u k)
  cell_of f (pointer_kind {z = z} h k) = rw ((eval_exactly ρ o (Whole z)).1 h, place_lacks k)
  cell_of f (index_outside {z = z} {l = l} h e k) = rw ((eval_exactly ρ o (Whole z)).1 h, e) (on z k)
    where
      on : (z : ℤ) → Beyond η l z → (index z ⟫ λ i. cell η l i ⟫ λ v. has (f l i v)) ≡ lacks IndexOutside
      on (pos i) k = rw (cell_lacks η l i k)
      on (negsuc n) k = refl

-- ---- tests

-- why a test decides nothing
pub data NoTest (ρ : Env) (e : Expr) : Reason → Type 0 where
  test_lacks : {r : Reason} → Lacks ρ e r → NoTest ρ e r
  test_kind : {u : Value} → Has ρ e u → (kind_of u ≡ 3 → ⊥) → NoTest ρ e WrongKind

-- a test that decides nothing
so_test : (ρ : Env) (e : Expr) {r : Reason} → (eval ρ e ⟫ truth) ≡ lacks r → NoTest ρ e r
so_test ρ e h =
    chain_stops (eval ρ e) _ h (λ n. test_lacks ((lacks_exactly ρ e _).0 n))
    (λ u p q. let k = truthful.so u q in rw (← k.0) (test_kind ((eval_exactly ρ e u).0 p) k.1))

-- and the other way
test_of : {ρ : Env} {e : Expr} {r : Reason} → NoTest ρ e r → (eval ρ e ⟫ truth) ≡ lacks r
test_of {ρ} {e} (test_lacks h) = rw ((lacks_exactly ρ e _).1 h)
test_of {ρ} {e} (test_kind {u = u} h k) = rw ((eval_exactly ρ e u).1 h, truthful.of u k)

-- ---- instructions

-- as in Figure1
module _ {A : Type 0} (procs : List (Proc A)) (t j m : ℕ) (ρ : Env) (a : A) (c : Block A) (s : Stack A) (η : Memory) where
  -- each way to block, and its reason; a call of a procedure that is not there or that runs already, an atomic block as one step of figure 1 and a
  -- select there are kept out by the rules
  pub data Blocks : Instr A → Reason → Type 0 where
    assign_value : {x : ℕ} {e : Expr} {r : Reason} → Lacks ρ e r → Blocks (assign x e) r
    -- "a write judges the value, then the index expression, then the pointer, then the index against the size"
    write_value : {y : ℕ} {o e : Expr} {r : Reason} → Lacks ρ e r → Blocks (write y o e) r
    write_cell : {y : ℕ} {o e : Expr} {v : Value} {r : Reason} → Has ρ e v → NoCell ρ η y o r → Blocks (write y o e) r
    -- "a read does the same without a value"
    read_cell : {x y : ℕ} {o : Expr} {r : Reason} → NoCell ρ η y o r → Blocks (read x y o) r
    while_test : {e : Expr} {b : Block A} {r : Reason} → NoTest ρ e r → Blocks (while e b) r
    if_test : {e : Expr} {b d : Block A} {r : Reason} → NoTest ρ e r → Blocks (if e b d) r
    -- "a call judges its arguments in order"
    call_argument : {n : ℕ} {es : List Expr} {r : Reason} → First ρ es r → Blocks (call n es) r
    call_nowhere : {n : ℕ} {es : List Expr} {vs : List Value} → Have ρ es vs → at procs n ≡ nothing → Blocks (call n es) WrongKind
    call_again : {n : ℕ} {es : List Expr} {vs : List Value} {p : Proc A} → Have ρ es vs → at procs n ≡ is p → (Absent n (context m ρ c ∷ s) → ⊥)
        → Blocks (call n es) WrongKind
    atomic_whole : {b : Block A} → Blocks (atomic b) WrongKind
    select_apart : {x y : ℕ} → Blocks (select x y) WrongKind

  -- what lacks blocks in one of these ways
  stops : (i : Instr A) {r : Reason} → instr procs t j m ρ a i c s η ≡ lacks r → Blocks i r
  stops (assign x e) h = chain_stops (eval ρ e) _ h (λ n. assign_value ((lacks_exactly ρ e _).0 n)) (λ v p q. lacking (sym q))
  stops (write y o e) h =
      chain_stops (eval ρ e) _ h (λ n. write_value ((lacks_exactly ρ e _).0 n))
      (λ v p q. write_cell ((eval_exactly ρ e v).0 p) (so_cell ρ η y o _ q))
  stops (read x y o) h = read_cell (so_cell ρ η y o _ h)
  stops (while e b) h = chain_stops (eval ρ e ⟫ truth) _ h (λ n. while_test (so_test ρ e n)) (λ q p f. lacking (sym f))
  stops (if e b d) h = chain_stops (eval ρ e ⟫ truth) _ h (λ n. if_test (so_test ρ e n)) (λ q p f. lacking (sym f))
  stops (call n es) h =
      chain_stops (evals ρ es) _ h (λ k. call_argument ((first_exactly ρ es _).0 k)) (λ vs f h.
      chain_stops (or_lacks WrongKind (at procs n)) _ h
      (λ k. let q = or_lacks_stops WrongKind (at procs n) k in rw (← q.1) (call_nowhere ((evals_exactly ρ es vs).0 f) q.0))
      (λ p g h.
      let busy = provided_stops (B.not (either (eqb n m) (runs n s))) WrongKind _ h in
      rw (← busy.1)
      (call_again ((evals_exactly ρ es vs).0 f) (or_lacks_has _ _ g)
      (λ free. never (sym (not_running n (context m ρ c ∷ s) free) ∙ not-false _ busy.0)))))
  stops (atomic b) h = rw (← lacks_inj h) atomic_whole
  stops (select x y) h = rw (← lacks_inj h) select_apart

  -- and each of these ways lacks for its reason
  blocks : {i : Instr A} {r : Reason} → Blocks i r → instr procs t j m ρ a i c s η ≡ lacks r
  blocks (assign_value {e = e} h) = rw ((lacks_exactly ρ e _).1 h)
  blocks (write_value {e = e} h) = rw ((lacks_exactly ρ e _).1 h)
  blocks (write_cell {y = y} {o = o} {e = e} {v = v} h k) = rw ((eval_exactly ρ e v).1 h) (cell_of ρ η y o _ k)
  blocks (read_cell {y = y} {o = o} k) = cell_of ρ η y o _ k
  blocks (while_test {e = e} h) = rw (test_of h)
  blocks (if_test {e = e} h) = rw (test_of h)
  blocks (call_argument {es = es} h) = rw ((first_exactly ρ es _).1 h)
  blocks (call_nowhere {es = es} {vs = vs} h k) = rw ((evals_exactly ρ es vs).1 h, k)
  blocks (call_again {n = n} {es = es} {vs = vs} h g k) =
      rw ((evals_exactly ρ es vs).1 h, g)
      (by_test (runs n (context m ρ c ∷ s)) (λ e. rw e) (λ e. absurd (k (absent n (context m ρ c ∷ s) e))))
  blocks atomic_whole = refl
  blocks select_apart = refl

  -- AN INSTRUCTION BLOCKS IN EXACTLY THESE WAYS, FOR THESE REASONS.
  pub blocks_exactly : (i : Instr A) (r : Reason) → (instr procs t j m ρ a i c s η ≡ lacks r) ↔ Blocks i r
  blocks_exactly i r = (stops i, blocks)

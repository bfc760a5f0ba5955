-- A decided step does what the report's figure 1 says, and goes on where the instruction ends.
use Rattle.std.specs.Prelude.{ℕ, suc, ◌+◌, ◌≤◌, ◌<◌, ◌≡◌, refl, List, [], ◌∷◌, ◌++◌, true, length, get_or, pos, ltb}
use Rattle.std.proofs.Common.{arith, sym, ap, subst, ◌∙◌, inl, inr, ltb-true, ltb-false}
use Rattle.value.specs.Maybe.{is}
use Rattle.value.specs.Try.{Try, has, lacks, ◌⟫◌}
use Rattle.value.specs.Lists.{all}
use Rattle.value.specs.Values.{bytes}
use Rattle.value.specs.declared.Value.{Value}
use Rattle.value.specs.declared.Value.TheVariants.{Whole}
use Rattle.value.specs.declared.Reason.{Reason}
use Rattle.value.specs.declared.Reason.TheVariants.{WrongKind}
use Rattle.value.proofs.Laws.Maybes.{is_inj, missing}
use Rattle.value.proofs.Laws.Tries.{has_inj, lacking, chain_has, chain_same}
use Rattle.value.proofs.Laws.Tests.{by_test, both_passed}
use Rattle.value.proofs.Laws.Lists.{Each, all_passed}
use Rattle.basics.specs.Laws.Places.{number_at_lem}
use Rattle.format.specs.Syntax.{Expr, constant, local, one, two, Instr, assign, write, read}
use Rattle.format.specs.Syntax.{while, if, call, atomic, select, Block, Proc, Program}
use Rattle.format.specs.Encode.{each, expr, instr, block}
use Rattle.format.specs.Rules.{in_expr, takes, named_i}
use Rattle.format.proofs.Laws.Fits.{SaysI}
use Rattle.format.proofs.Laws.Stands as S
use Rattle.format.proofs.Laws.Stands.{Stands, first, others, front, back}
use Rattle.decide.specs.declared.step.Step.{Step}
use Rattle.decide.specs.declared.step.Step.TheVariants.{Return, Assign, Read, Write, Test, Call, Select, Blocked}
use Rattle.semantics.specs.Memory.{Env, eval, evals, index, Memory, cell, stored, Event}
use Rattle.value.specs.Values.{number, place, truth}
use Rattle.semantics.specs.Step.{Frame, Stack, Moved}
use Rattle.semantics.specs.Step as F
use Rattle.semantics.specs.Threads.{blocked}
use Rattle.semantics.specs.Copy.{Next, ended, goes, running, selected}
use Rattle.engine.specs.Work.{frame_words}
use Rattle.engine.specs.Evaluated.{Below}
use Rattle.decide.specs.Decided.{Act, assigns, writes, reads, tests, calls, returns, act_of, act_end, args_of, number_of, or_blocked, decided}
use Rattle.decide.specs.Decided.{carried, target_of, Right, chosen, ActAt}
use Rattle.semantics.proofs.Laws.Cells.{shape}
use Rattle.engine.specs.Laws.Holding.{no_cell}

-- ---- figure 1

module _ {B : Type 0} (k : Step → Try B) (e : (r : Reason) → k (Blocked r) ≡ lacks r) where
  -- a chain that stops is a blocked step
  through : {A : Type 0} (m : Try A) (f : A → Try Step) → (m ⟫ λ x. k (or_blocked (f x))) ≡ k (or_blocked (m ⟫ f))
  through (lacks r) f = sym (e r)
  through (has x) f = refl

  -- link by link
  link : {A : Type 0} (m : Try A) (g : A → Try B) (f : A → Try Step) → ((x : A) → g x ≡ k (or_blocked (f x)))
      → (m ⟫ g) ≡ k (or_blocked (m ⟫ f))
  link m g f h = chain_same m g (λ x. k (or_blocked (f x))) h ∙ through m f

module _ {A : Type 0} (procs : List (Proc A)) (t label m : ℕ) (ρ : Env) (a : A) (c : Block A) (s : Stack A) (η : Memory) where
  -- what an instruction does is what the decided step of k leaves
  abbrev pub Does : Instr A → ℕ → Act → Type 0
  Does i j k = F.instr procs t label m ρ a i c s η ≡ carried procs t label m ρ a i c s η (decided ρ η k j)

  -- AN INSTRUCTION DOES WHAT ITS DECIDED STEP MEANS: report RR-2017-03, figure 1.
  pub does : (i : Instr A) (j : ℕ) (k : Act) → act_of i ≡ is k → Does i j k
  does (assign x e) j k q = subst (Does (assign x e) j) (is_inj q) (link (carried procs t label m ρ a (assign x e) c s η) (λ r. refl) (eval ρ e) _ _ (λ v. refl))
  does (write y o e) j k q =
      let K : Step → Try (Moved A) = carried procs t label m ρ a (write y o e) c s η in
      subst (Does (write y o e) j) (is_inj q)
      (link K (λ r. refl) (eval ρ e) _ _ λ v.
      link K (λ r. refl) (eval ρ o ⟫ number) _ _ λ z.
      link K (λ r. refl) (eval ρ (local y) ⟫ place) _ _ λ l.
      link K (λ r. refl) (index z) _ _ λ i.
      link K (λ r. refl) (cell η l i) _ _ λ u. refl)
  does (read x y o) j k q =
      let K : Step → Try (Moved A) = carried procs t label m ρ a (read x y o) c s η in
      subst (Does (read x y o) j) (is_inj q)
      (link K (λ r. refl) (eval ρ o ⟫ number) _ _ λ z.
      link K (λ r. refl) (eval ρ (local y) ⟫ place) _ _ λ l.
      link K (λ r. refl) (index z) _ _ λ i.
      link K (λ r. refl) (cell η l i) _ _ λ v. refl)
  does (while e b) j k q =
      subst (Does (while e b) j) (is_inj q) (link (carried procs t label m ρ a (while e b) c s η) (λ r. refl) (eval ρ e ⟫ truth) _ _ (λ v. refl))
  does (if e b d) j k q =
      subst (Does (if e b d) j) (is_inj q) (link (carried procs t label m ρ a (if e b d) c s η) (λ r. refl) (eval ρ e ⟫ truth) _ _ (λ v. refl))
  does (call n es) j k q = subst (Does (call n es) j) (is_inj q) (calling (evals ρ es) refl)
    where
      calling : (x : Try (List Value)) → evals ρ es ≡ x → Does (call n es) j (calls n es)
      calling (lacks r) w = rw w
      calling (has vs) w = sym (ap (λ x. carried procs t label m ρ a (call n es) c s η (or_blocked (x ⟫ λ vs. has (Call n j)))) w)
  does (atomic b) j k q = missing q
  does (select x y) j k q = missing q

-- ---- what a decided step says is so

-- of a chain: if it holds where the chain stops, and at its end
along : {A : Type 0} (P : Step → Type 0) → ((r : Reason) → P (Blocked r)) → (m : Try A) (f : A → Try Step) → ((x : A) → m ≡ has x → P (or_blocked (f x)))
    → P (or_blocked (m ⟫ f))
along P b (lacks r) f h = b r
along P b (has x) f h = h x refl

-- a cell that is there has an index below the size
pub cell_size_lem : (η : Memory) (l i : ℕ) {u : Value} → cell η l i ≡ has u → i < get_or (shape η) l 0
cell_size_lem η l i e = by_test (ltb i (get_or (shape η) l 0))
    (λ t. ltb-true i (get_or (shape η) l 0) t)
    (λ t. lacking (sym (no_cell η l i (ltb-false i (get_or (shape η) l 0) t)) ∙ e))

pub decided_right : (ρ : Env) (η : Memory) (k : Act) (j : ℕ) → Right ρ η k j (decided ρ η k j)
decided_right ρ η (assigns x e) j = along (Right ρ η (assigns x e) j) (λ r. tt) (eval ρ e) _ (λ v q. (refl, refl))
decided_right ρ η (writes y o e) j =
    let P : Step → Type 0 = Right ρ η (writes y o e) j in
    along P (λ r. tt) (eval ρ e) _ λ v q.
    along P (λ r. tt) (eval ρ o ⟫ number) _ λ z q.
    along P (λ r. tt) (eval ρ (local y) ⟫ place) _ λ l q.
    along P (λ r. tt) (index z) _ λ i q.
    along P (λ r. tt) (cell η l i) _ λ u q. (refl, record { number = refl; size = cell_size_lem η l i q })
decided_right ρ η (reads x y o) j =
    let P : Step → Type 0 = Right ρ η (reads x y o) j in
    along P (λ r. tt) (eval ρ o ⟫ number) _ λ z q.
    along P (λ r. tt) (eval ρ (local y) ⟫ place) _ λ l q.
    along P (λ r. tt) (index z) _ λ i q.
    along P (λ r. tt) (cell η l i) _ λ v q. (refl, refl)
decided_right ρ η (tests e) j = along (Right ρ η (tests e) j) (λ r. tt) (eval ρ e ⟫ truth) _ (λ v q. refl)
decided_right ρ η (calls n es) j = along (Right ρ η (calls n es) j) (λ r. tt) (evals ρ es) _ (λ vs q. (refl, refl, (vs, q)))
decided_right ρ η returns j = refl

-- as many values as expressions
pub evals_length : (ρ : Env) (es : List Expr) {vs : List Value} → evals ρ es ≡ has vs → length vs ≡ length es
evals_length ρ [] e = ap length (sym (has_inj e))
evals_length ρ (e ∷ es) q =
    let v = chain_has (eval ρ e) _ q in
    let us = chain_has (evals ρ es) _ v.2 in
    ap length (sym (has_inj us.2)) ∙ ap suc (evals_length ρ es us.1)

-- the target of an act is one of the frame's locals
pub target_below : (t : List ℕ) (i n : ℕ) (k : Act) (j : ℕ) {x : ℕ} → ActAt t i n k j → target_of k ≡ is x → x < n
target_below t i n (assigns y e) j h q = subst (◌< n) (is_inj q) h.below.0
target_below t i n (reads y p o) j h q = subst (◌< n) (is_inj q) h.below.0
target_below t i n (writes y o e) j h q = missing q
target_below t i n (tests e) j h q = missing q
target_below t i n (calls m es) j h q = missing q
target_below t i n returns j h q = missing q

-- ---- where an instruction stands

-- locals that are in range
below_named : (X M : ℕ) (e : Expr) → in_expr X M e ≡ true → Below X e
below_named X M (constant v) q = tt
below_named X M (local x) q = ltb-true x X q
below_named X M (one o a) q = below_named X M a q
below_named X M (two o a b) q =
    (below_named X M a (both_passed (in_expr X M a) (in_expr X M b) q).0, below_named X M b (both_passed (in_expr X M a) (in_expr X M b) q).1)

-- the same positions, written in another way
moved : {t : List ℕ} {i j a b : ℕ} {bs : List ℕ} → Stands t i bs j → i ≡ a → j ≡ b → Stands t a bs b
moved s p q = rw (← p, ← q) s

module _ {A : Type 0} (t : List ℕ) (i n : ℕ) (p : Program A) where
  -- each of them
  all_below : (es : List Expr) → Each (λ e. in_expr n (length p.sizes) e ≡ true) es → Each (Below n) es
  all_below [] h = tt
  all_below (e ∷ es) h = (below_named n (length p.sizes) e h.0, all_below es h.1)

  -- an expression that is in range
  abbrev ex : (e : Expr) → in_expr n (length p.sizes) e ≡ true → Below n e
  ex = below_named n (length p.sizes)

  -- THE ACT OF AN INSTRUCTION STANDS WHERE THE INSTRUCTION DOES.
  pub act_at : (s : Instr A) (k : Act) {j : ℕ} → act_of s ≡ is k → Stands t i (instr s) j → SaysI s → named_i p n s ≡ true
      → length (args_of k) ≤ frame_words → ActAt t i n k (act_end i s)
  act_at (assign x e) k q s h w f =
      let names = both_passed (ltb x n) _ w in
      subst (λ k. ActAt t i n k (act_end {A = A} i (assign x e))) (is_inj q) (record {
        mark = first s;
        target = first (others s);
        source = record { stands = moved (others (others s)) (omega arith) s.ends; fits = h.1 };
        below = (ltb-true x n names.0, ex e names.1);
      })
  act_at (write y o e) k q s h w f =
      let names = both_passed (ltb y n) _ w in
      let both = both_passed (in_expr n (length p.sizes) o) _ names.1 in
      let rest : Stands t (i + 2) (expr o ++ expr e) (act_end {A = A} i (write y o e)) = moved (others (others s)) (omega arith) s.ends in
      subst (λ k. ActAt t i n k (act_end {A = A} i (write y o e))) (is_inj q) (record {
        mark = first s;
        pointer = first (others s);
        k = i + 2 + length (expr o);
        offset = record { stands = front (expr o) (expr e) rest; fits = h.1 };
        source = record { stands = back (expr o) (expr e) rest; fits = h.2 };
        below = (ltb-true y n names.0, ex o both.0, ex e both.1);
      })
  act_at (read x y o) k q s h w f =
      let names = both_passed (ltb x n) _ w in
      let both = both_passed (ltb y n) _ names.1 in
      let second : Stands t (i + 2) (y ∷ expr o) _ = moved (others (others s)) (omega arith) refl in
      subst (λ k. ActAt t i n k (act_end {A = A} i (read x y o))) (is_inj q) (record {
        mark = first s;
        target = first (others s);
        pointer = first second;
        offset = record { stands = moved (others second) (omega arith) s.ends; fits = h.2 };
        below = (ltb-true x n names.0, ltb-true y n both.0, ex o both.1);
      })
  act_at (while e b) k q s h w f =
      let names = both_passed (in_expr n (length p.sizes) e) _ w in
      subst (λ k. ActAt t i n k (act_end i (while e b))) (is_inj q) (record {
        mark = inl (first s);
        test = record { stands = front (expr e) (block b) (others s); fits = h.0 };
        below = ex e names.0;
      })
  act_at (if e b c) k q s h w f =
      let names = both_passed (in_expr n (length p.sizes) e) _ w in
      subst (λ k. ActAt t i n k (act_end i (if e b c))) (is_inj q) (record {
        mark = inr (first s);
        test = record { stands = front (expr e) (block b ++ block c) (others s); fits = h.0 };
        below = ex e names.0;
      })
  act_at (call m es) k {j} q s h w f =
      let names = both_passed (takes p.procs m (length es)) (all (in_expr n (length p.sizes)) es) w in
      let rest : List ℕ = length es ∷ each expr es in
      let callee : Stands t (i + 1) (bytes 2 m) _ = front (bytes 2 m) rest (others s) in
      let count : Stands t (i + 3) rest j = moved (back (bytes 2 m) rest (others s)) (omega arith) refl in
      let few : length es ≤ frame_words = subst (λ k. length (args_of k) ≤ frame_words) (sym (is_inj q)) f in
      subst (λ k. ActAt t i n k (act_end {A = A} i (call m es))) (is_inj q) (record {
        mark = first s;
        inside = omega (arith, S.inside count);
        callee = number_at_lem 2 t (i + 1) ∙ S.number_at_lem 2 m callee h.0;
        args = record { stands = moved (others count) (omega arith) s.ends; count = sym (first count); fits = h.2 };
        below = all_below es (all_passed (in_expr n (length p.sizes)) es names.1);
        few = few;
      })
  act_at (atomic b) k q s h w f = missing q
  act_at (select a b) k q s h w f = missing q

-- the return at the end of a body
pub return_at : (t : List ℕ) (i n : ℕ) {j : ℕ} → Stands t i (0x00 ∷ []) j → ActAt t i n returns i
return_at t i n s = record { mark = first s; inside = S.inside s }

-- ---- select

-- what is left of a run by the step that is chosen
abbrev pub selected_by : ℕ → Memory → Frame (Unit {0}) → Stack (Unit {0}) → List ℕ → List Event → Step → Next
selected_by a η f s ts evs (Select k t j) =
    goes (record { stack = f ∷ s; memory = stored η a 0 (Whole (pos t)); todo = ts; last = t; events = evs })
selected_by a η f s ts evs Return = ended (blocked WrongKind)
selected_by a η f s ts evs (Assign x v j) = ended (blocked WrongKind)
selected_by a η f s ts evs (Read x l i v j) = ended (blocked WrongKind)
selected_by a η f s ts evs (Write l i c v j) = ended (blocked WrongKind)
selected_by a η f s ts evs (Test q j) = ended (blocked WrongKind)
selected_by a η f s ts evs (Call m j) = ended (blocked WrongKind)
selected_by a η f s ts evs (Blocked r) = ended (blocked r)

-- A SELECT DOES WHAT ITS CHOSEN STEP MEANS.
pub selects : (a b : ℕ) (η : Memory) (f : Frame (Unit {0})) (s : Stack (Unit {0})) (t : ℕ) (ts : List ℕ) (evs : List Event) (j : ℕ)
    → selected a η f s t ts evs (cell η b t ⟫ running) ≡ selected_by a η f s ts evs (chosen η a b t j)
selects a b η f s t ts evs j = by (cell η b t ⟫ running)
  where
    by : (m : Try Value) → selected a η f s t ts evs m ≡ selected_by a η f s ts evs (or_blocked (m ⟫ λ _. has (Select (number_of η a 0) t j)))
    by (lacks r) = refl
    by (has v) = refl

-- A step that is due: what it does, and what there must be for it to be carried out.
use Prim.Native.Nat.{ℕ, zero, suc, ◌+◌, ◌*◌, ◌-◌, ◌^◌, ◌≤◌, ◌<◌}
use native.Mathlib.Omega.{arith}
use mathlib.Core.Path.{◌≡◌, refl, sym, ap, subst, ◌∙◌}
use mathlib.Core.List.{List, [], ◌∷◌}
use mathlib.Core.Bool.{Bool}
use lib.ListN.{length, get_or, drop, length-set, length-drop}
use lib.Dec.{ltb}
use borrow.Author.Tests.{ltb-true, ltb-false}
use Rattle.value.specs.Maybe.{is}
use Rattle.value.specs.Try.{Try, has, lacks, ◌⟫◌}
use Rattle.value.specs.declared.Value.{Value}
use Rattle.value.proofs.Laws.Maybes.{is_inj, missing}
use Rattle.value.proofs.Laws.Tries.{lacking}
use Rattle.value.specs.declared.Reason.{Reason}
use Rattle.value.specs.declared.Reason.TheVariants.{IndexOutside}
use lib.IntN.{ℤ, pos, negsuc}
use Rattle.value.proofs.Laws.Tests.{by_test}
use Rattle.value.proofs.Laws.Lists.{Each, each_at, at_below}
use Rattle.format.specs.Syntax.{Expr, local, Instr, assign, write, read, while, if, call, atomic}
use Rattle.format.specs.Syntax.{select, Block, end, step, ◌⊕◌, Proc, Program, Plain, sequential}
use Rattle.format.specs.Encode.{expr, instr}
use Rattle.labels.specs.Spots.{CodeAt, inner, later, body, thens}
use Rattle.format.proofs.Laws.Sound.{Within, LocalsRight, Sound}
use Rattle.format.proofs.Laws.Procs.{takes_at}
use Rattle.format.specs.Rules.{max_size}
use Rattle.labels.specs.Laws.Spots.{itself}
use Rattle.decide.specs.declared.step.Step.{Step}
use Rattle.decide.specs.declared.step.Step.TheVariants.{Return, Assign, Read, Write, Test, Call, Select, Blocked}
use Rattle.sequential.specs.declared.machine.State.{State}
use Rattle.semantics.specs.Memory.{Env, bound, eval, evals, index, Memory, cell}
use Rattle.value.specs.Values.{number, place, truth}
use Rattle.semantics.specs.Step.{Frame, Stack}
use Rattle.semantics.specs.Copy as C
use Rattle.decide.specs.Decided.{Act, act_of, act_end, decided, or_blocked, number_of}
use Rattle.engine.specs.Work.{Puts, Beside, frame_words, Framed, IsCell}
use Rattle.jumps.specs.Jumps.{Settled, Settles}
use Rattle.sequential.specs.Frames.{place_in, procedure_in, FrameAt, Called, Stacked, more}
use Rattle.sequential.specs.Sequential.{Present, Decision, leaves, acts, selects, Due, Enterable}
use Rattle.engine.specs.Laws.Work.{beside_same, beside_put, framed_put}
use Rattle.engine.specs.Laws.Holding.{cell_word, no_cell}
use Rattle.semantics.proofs.Laws.Cells.{shape}
use Rattle.jumps.proofs.Jumping.{code_in}
use Rattle.sequential.proofs.Standing.{code_inside, code_named, settles_code, HeadAt, head_at_lem}
use Rattle.sequential.proofs.Framing.{stacked_below}
use Rattle.sequential.proofs.Nexts.{restacked, recoded, rebound}

-- ---- what a step that does not block does

-- for the frame f, whose code goes on at k
pub data Doing (p : Program Plain) (c : C.Config) (f : Frame Plain) (k : ℕ) : Step → Type 0 where
  returning : f.code ≡ end → Doing p c f k Return
  assigning : {x n : ℕ} {v : Value} (e : Expr) (d r : Block Plain) → CodeAt p.procs f.proc k (step tt (assign x e) d) r
      → f.code ≡ step tt (assign x e) (d ⊕ r) → n ≡ act_end {A = Plain} k (assign x e) → eval f.env e ≡ has v → Doing p c f k (Assign x v n)
  reading : {x l i n : ℕ} {v : Value} (y : ℕ) (o : Expr) (d r : Block Plain) → CodeAt p.procs f.proc k (step tt (read x y o) d) r
      → f.code ≡ step tt (read x y o) (d ⊕ r) → n ≡ act_end {A = Plain} k (read x y o) → (eval f.env o ⟫ number) ≡ has (pos i)
      → (eval f.env (local y) ⟫ place) ≡ has l → cell c.memory l i ≡ has v → Doing p c f k (Read x l i v n)
  writing : {l i q n : ℕ} {v : Value} (y : ℕ) (o e : Expr) (d r : Block Plain) (u : Value) → CodeAt p.procs f.proc k (step tt (write y o e) d) r
      → f.code ≡ step tt (write y o e) (d ⊕ r) → n ≡ act_end {A = Plain} k (write y o e) → eval f.env e ≡ has v → (eval f.env o ⟫ number) ≡ has (pos i)
      → (eval f.env (local y) ⟫ place) ≡ has l → cell c.memory l i ≡ has u → q ≡ number_of c.memory l i → Doing p c f k (Write l i q v n)
  looping : {q : Bool} {n : ℕ} (e : Expr) (b d r : Block Plain) → CodeAt p.procs f.proc k (step tt (while e b) d) r
      → f.code ≡ step tt (while e b) (d ⊕ r) → n ≡ act_end {A = Plain} k (while e b) → (eval f.env e ⟫ truth) ≡ has q → Doing p c f k (Test q n)
  choosing : {q : Bool} {n : ℕ} (e : Expr) (b b' d r : Block Plain) → CodeAt p.procs f.proc k (step tt (if e b b') d) r
      → f.code ≡ step tt (if e b b') (d ⊕ r) → n ≡ act_end {A = Plain} k (if e b b') → (eval f.env e ⟫ truth) ≡ has q → Doing p c f k (Test q n)
  calling : {m n : ℕ} (es : List Expr) (d r : Block Plain) (vs : List Value) → CodeAt p.procs f.proc k (step tt (call m es) d) r
      → f.code ≡ step tt (call m es) (d ⊕ r) → n ≡ act_end {A = Plain} k (call m es) → evals f.env es ≡ has vs → Doing p c f k (Call m n)
  selecting : {q t n : ℕ} (a b : ℕ) (ts : List ℕ) (d r : Block Plain) (v : Value) → CodeAt p.procs f.proc k (step tt (select a b) d) r
      → f.code ≡ step tt (select a b) (d ⊕ r) → n ≡ act_end {A = Plain} k (select a b) → c.todo ≡ t ∷ ts
      → (cell c.memory b t ⟫ C.running) ≡ has v → q ≡ number_of c.memory a 0 → Doing p c f k (Select q t n)

module _ {p : Program Plain} {c : C.Config} {f : Frame Plain} {k : ℕ} {x : Step} (on : (r : Reason) → x ≡ Blocked r → ⊥) where
  -- a step that is known
  known : {y : Step} → x ≡ y → Doing p c f k y → Doing p c f k x
  known e d = subst (Doing p c f k) (sym e) d

  do_assign : {y : ℕ} (e : Expr) (d r : Block Plain) → CodeAt p.procs f.proc k (step tt (assign y e) d) r
      → f.code ≡ step tt (assign y e) (d ⊕ r)
      → (m : Try Value) → eval f.env e ≡ m → x ≡ or_blocked (m ⟫ λ v. has (Assign y v (act_end {A = Plain} k (assign y e)))) → Doing p c f k x
  do_assign e d r o q (lacks u) w z = absurd (on u z)
  do_assign e d r o q (has v) w z = known z (assigning e d r o q refl w)

  do_read : {y y' : ℕ} (e : Expr) (d r : Block Plain) → CodeAt p.procs f.proc k (step tt (read y y' e) d) r
      → f.code ≡ step tt (read y y' e) (d ⊕ r) → (m : Try ℤ) → (eval f.env e ⟫ number) ≡ m → (m' : Try ℕ)
      → (eval f.env (local y') ⟫ place) ≡ m'
      → x ≡ or_blocked (m ⟫ λ z. m' ⟫ λ l. index z ⟫ λ i. cell c.memory l i ⟫ λ v. has (Read y l i v (act_end {A = Plain} k (read y y' e))))
      → Doing p c f k x
  do_read {y} {y'} e d r o q (lacks u) w m' w' z = absurd (on u z)
  do_read {y} {y'} e d r o q (has i) w (lacks u) w' z = absurd (on u z)
  do_read {y} {y'} e d r o q (has (negsuc n)) w (has l) w' z = absurd (on IndexOutside z)
  do_read {y} {y'} e d r o q (has (pos i)) w (has l) w' z = at (cell c.memory l i) refl z
    where
      at : (m : Try Value) → cell c.memory l i ≡ m → x ≡ or_blocked (m ⟫ λ v. has (Read y l i v (act_end {A = Plain} k (read y y' e))))
          → Doing p c f k x
      at (lacks h) u z = absurd (on h z)
      at (has v) u z = known z (reading y' e d r o q refl w w' u)

  do_write : {y : ℕ} (e a : Expr) (d r : Block Plain) → CodeAt p.procs f.proc k (step tt (write y e a) d) r
      → f.code ≡ step tt (write y e a) (d ⊕ r) → (m₀ : Try Value) → eval f.env a ≡ m₀ → (m : Try ℤ) → (eval f.env e ⟫ number) ≡ m
      → (m' : Try ℕ) → (eval f.env (local y) ⟫ place) ≡ m'
      → x ≡ or_blocked (m₀ ⟫ λ v. m ⟫ λ z. m' ⟫ λ l. index z ⟫ λ i. cell c.memory l i ⟫ λ _.
      has (Write l i (number_of c.memory l i) v (act_end {A = Plain} k (write y e a))))
      → Doing p c f k x
  do_write {y} e a d r o q (lacks u) w₀ m w m' w' z = absurd (on u z)
  do_write {y} e a d r o q (has v) w₀ (lacks u) w m' w' z = absurd (on u z)
  do_write {y} e a d r o q (has v) w₀ (has i) w (lacks u) w' z = absurd (on u z)
  do_write {y} e a d r o q (has v) w₀ (has (negsuc n)) w (has l) w' z = absurd (on IndexOutside z)
  do_write {y} e a d r o q (has v) w₀ (has (pos i)) w (has l) w' z = at (cell c.memory l i) refl z
    where
      at : (m : Try Value) → cell c.memory l i ≡ m
          → x ≡ or_blocked (m ⟫ λ _. has (Write l i (number_of c.memory l i) v (act_end {A = Plain} k (write y e a)))) → Doing p c f k x
      at (lacks h) u z = absurd (on h z)
      at (has was) u z = known z (writing y e a d r was o q refl w₀ w w' u refl)

  -- a test
  do_test : {n : ℕ} (m : Try Bool) → ((q : Bool) → m ≡ has q → Doing p c f k (Test q n)) → x ≡ or_blocked (m ⟫ λ q. has (Test q n)) → Doing p c f k x
  do_test (lacks u) g z = absurd (on u z)
  do_test (has q) g z = known z (g q refl)

  do_call : {m : ℕ} (es : List Expr) (d r : Block Plain) → CodeAt p.procs f.proc k (step tt (call m es) d) r
      → f.code ≡ step tt (call m es) (d ⊕ r)
      → (vs : Try (List Value)) → evals f.env es ≡ vs → x ≡ or_blocked (vs ⟫ λ _. has (Call m (act_end {A = Plain} k (call m es))))
      → Doing p c f k x
  do_call es d r o q (lacks u) w z = absurd (on u z)
  do_call es d r o q (has vs) w z = known z (calling es d r vs o q refl w)

  do_select : {a b t : ℕ} (ts : List ℕ) (d r : Block Plain) → CodeAt p.procs f.proc k (step tt (select a b) d) r
      → f.code ≡ step tt (select a b) (d ⊕ r) → c.todo ≡ t ∷ ts → (m : Try Value) → (cell c.memory b t ⟫ C.running) ≡ m
      → x ≡ or_blocked (m ⟫ λ _. has (Select (number_of c.memory a 0) t (act_end {A = Plain} k (select a b)))) → Doing p c f k x
  do_select {a} {b} {t} ts d r o q u (lacks h) w z = absurd (on h z)
  do_select {a} {b} {t} ts d r o q u (has v) w z = known z (selecting a b ts d r v o q refl u w refl)

  -- an instruction
  do_act : (i : Instr Plain) (d r : Block Plain) (a : Act) → CodeAt p.procs f.proc k (step tt i d) r → f.code ≡ step tt i (d ⊕ r)
      → act_of i ≡ is a → x ≡ decided f.env c.memory a (act_end {A = Plain} k i) → Doing p c f k x
  do_act (assign y e) d r a o q w z = do_assign e d r o q (eval f.env e) refl (rw (← is_inj w) at z)
  do_act (write y e g) d r a o q w z =
      do_write e g d r o q (eval f.env g) refl (eval f.env e ⟫ number) refl (eval f.env (local y) ⟫ place) refl (rw (← is_inj w) at z)
  do_act (read y y' e) d r a o q w z =
      do_read e d r o q (eval f.env e ⟫ number) refl (eval f.env (local y') ⟫ place) refl (rw (← is_inj w) at z)
  do_act (while e b) d r a o q w z = do_test (eval f.env e ⟫ truth) (λ g u. looping e b d r o q refl u) (rw (← is_inj w) at z)
  do_act (if e b b') d r a o q w z = do_test (eval f.env e ⟫ truth) (λ g u. choosing e b b' d r o q refl u) (rw (← is_inj w) at z)
  do_act (call m es) d r a o q w z = do_call es d r o q (evals f.env es) refl (rw (← is_inj w) at z)
  do_act (atomic b) d r a o q w z = missing w
  do_act (select a' b) d r a o q w z = missing w

  -- whatever was decided
  pub doing : Decision p c f k x → Doing p c f k x
  doing (leaves e q) = known q (returning e)
  doing (acts i d r a o q w z) = do_act i d r a o q w z
  doing (selects a b t ts d r o q u z) = do_select ts d r o q u (cell c.memory b t ⟫ C.running) refl z

-- ---- from what is due

module _ {p : Program Plain} {lent ts ls bs cs es : List ℕ} {s : State} {c : C.Config} {f : Frame Plain} {b : Stack Plain}
    (present : Present p lent ts ls bs cs es s c) (stack : c.stack ≡ f ∷ b) where
  -- the frames
  pub tower_of : Stacked p.procs ls bs s.at (f ∷ b)
  tower_of = subst (Stacked p.procs ls bs s.at) stack present.frames

  -- how many are below
  pub deep_of : s.depth ≡ suc (length b)
  deep_of = present.depth ∙ ap length stack

-- the top of a stack
pub top_frame : {ps : List (Proc Plain)} {ls bs : List ℕ} {k : ℕ} {f : Frame Plain} {s : Stack Plain} → Stacked ps ls bs k (f ∷ s)
    → FrameAt ps ls (length s) k f
top_frame (more F c w S) = F

-- is called by the frame below
top_called : {ps : List (Proc Plain)} {ls bs : List ℕ} {k : ℕ} {f : Frame Plain} {s : Stack Plain} → Stacked ps ls bs k (f ∷ s)
    → Called ps f.proc s
top_called (more F c w S) = c

-- the rest of it
pub top_rest : {ps : List (Proc Plain)} {ls bs : List ℕ} {k : ℕ} {f : Frame Plain} {s : Stack Plain} → Stacked ps ls bs k (f ∷ s)
    → Stacked ps ls bs (place_in (get_or bs (length s) 0)) s
top_rest (more F c w S) = S

-- the number of its procedure
top_number : {ps : List (Proc Plain)} {ls bs : List ℕ} {k : ℕ} {f : Frame Plain} {s : Stack Plain} → Stacked ps ls bs k (f ∷ s)
    → procedure_in (get_or bs (length s) 0) ≡ f.proc
top_number (more F c w S) = w

-- the top goes on elsewhere, with words stored above the other frames
pub top_moves : {p : Program Plain} {ls ls' bs : List ℕ} {a b k k' : ℕ} {f : Frame Plain} {s : Stack Plain} → Sound sequential p
    → Stacked p.procs ls bs k (f ∷ s) → Beside ls ls' a b → frame_words * length s ≤ a → (ρ : Env) (x : Block Plain) → length ρ ≡ length f.env
    → Framed ls' (frame_words * length s) ρ → Settled p.procs f.proc k' x
    → Stacked p.procs ls' bs k' (record { proc = f.proc; env = ρ; code = x } ∷ s)
top_moves {p} sound S B h ρ x e framed code =
    let F = top_frame S in
    more (record { proc = F.proc; found = F.found; long = e ∙ F.long; framed = framed; code = code }) (top_called S) (top_number S)
    (stacked_below p.procs sound.locals B h (top_rest S))

-- behind an instruction
pub code_after : {ps : List (Proc Plain)} {m k n : ℕ} {i : Instr Plain} {d r : Block Plain} → CodeAt ps m k (step tt i d) r → n ≡ k + length (instr i)
    → CodeAt ps m n d r
code_after {ps} {m} {d = d} {r} c e = subst (λ (z : ℕ). CodeAt ps m z d r) (sym e) (code_in c (later itself))

-- the body of a loop
pub code_body : {ps : List (Proc Plain)} {m k n : ℕ} {e : Expr} {b d r : Block Plain} → CodeAt ps m k (step tt (while e b) d) r
    → n ≡ k + 1 + length (expr e) → CodeAt ps m n b (step tt (while e b) (d ⊕ r))
code_body {ps} {m} {e = e} {b} {d} {r} c q =
    subst (λ (z : ℕ). CodeAt ps m z b (step tt (while e b) (d ⊕ r))) (sym q) (code_in c (inner (body itself)))

-- the first branch
pub code_then : {ps : List (Proc Plain)} {m k n : ℕ} {e : Expr} {b f d r : Block Plain} → CodeAt ps m k (step tt (if e b f) d) r
    → n ≡ k + 1 + length (expr e) → CodeAt ps m n b (d ⊕ r)
code_then {ps} {m} {b = b} {d = d} {r} c q = subst (λ (z : ℕ). CodeAt ps m z b (d ⊕ r)) (sym q) (code_in c (inner (thens itself)))

module _ {t : List ℕ} {records : ℕ} {js ls bs cs es : List ℕ} {s : State} {x : Step} (d : Due t records js ls bs cs es s x) where
  -- the program, its procedures and the configuration
  abbrev P : Program Plain
  P = d.loaded.program

  abbrev c : C.Config
  c = d.config

  -- the frames
  pub tower : Stacked P.procs ls bs s.at (d.frame ∷ d.below)
  tower = tower_of d.present d.stack

  -- how many are below
  pub deep : s.depth ≡ suc (length d.below)
  deep = deep_of d.present d.stack

  -- the number of the procedure it is in
  pub within : procedure_in (get_or bs (s.depth - 1) 0) ≡ d.frame.proc
  within = let less : s.depth - 1 ≡ length d.below = omega (arith, deep) in rw less (top_number tower)

  -- what is done
  pub done : {y : Step} → x ≡ y → Doing P c d.frame s.at y
  done e = subst (Doing P c d.frame s.at) e (doing d.going d.decision)

  -- the top goes on with other code, and another local
  abbrev pub to : ℕ → State
  to k = record { at = k; depth = s.depth; thread = s.thread; taken = s.taken; events = s.events }

  -- it goes on, and nothing else has changed
  pub went_on : {ls' : List ℕ} {k : ℕ} (f : Frame Plain) → length ls' ≡ length ls → Stacked P.procs ls' bs k (f ∷ d.below)
      → Present P d.lent d.schedule ls' bs cs es (to k) (restacked c (f ∷ d.below))
  went_on f l S = record {
    depth = deep;
    frames = S;
    long = l ∙ d.present.long;
    backs = d.present.backs;
    memory = d.present.memory;
    full = d.present.full;
    sizes = d.present.sizes;
    todo = d.present.todo;
    taken = d.present.taken;
    last = d.present.last;
    events = d.present.events;
  }

  -- where the code at a position goes on
  pub goes_on : {m k n : ℕ} (b : Block Plain) {r : Block Plain} → Settles t js n k → CodeAt P.procs m n b r → Settled P.procs m k (b ⊕ r)
  goes_on b S o = settles_code d.loaded.same d.loaded.sound b d.loaded.jumps S o

  -- the top goes on with other code
  pub recodes : {k : ℕ} {x : Block Plain} → Settled P.procs d.frame.proc k x → Stacked P.procs ls bs k (recoded d.frame x ∷ d.below)
  recodes {x = x} g =
      top_moves d.loaded.sound tower (beside_same {a = frame_words * length d.below} {b = 0}) (omega arith) d.frame.env x refl
      (top_frame tower).framed g

  -- and with a local set
  pub rebinds : {y k : ℕ} {v : Value} {ls' : List ℕ} {x : Block Plain} → y < length d.frame.env → Puts ls ls' (frame_words * (s.depth - 1) + y) v
      → Settled P.procs d.frame.proc k x → Stacked P.procs ls' bs k (rebound d.frame y v x ∷ d.below)
  rebinds {y} {v = v} {ls'} {x} low w g =
      let place : frame_words * (s.depth - 1) ≡ frame_words * length d.below = omega (arith, deep) in
      let stored : Puts ls ls' (frame_words * length d.below + y) v = rw place at w in
      top_moves d.loaded.sound tower (beside_put stored) (omega arith) (bound d.frame.env y v) x (length-set d.frame.env y (is v))
      (framed_put (top_frame tower).framed low stored) g

-- a cell that is there has a number
pub cell_is : (η : Memory) (l i : ℕ) {u : Value} {q : ℕ} → cell η l i ≡ has u → q ≡ number_of η l i → IsCell η l i q
cell_is η l i e f = record {
  number = f;
  size = by_test (ltb i (get_or (shape η) l 0)) (λ t. ltb-true i (get_or (shape η) l 0) t)
      (λ t. lacking (sym (no_cell η l i (ltb-false i (get_or (shape η) l 0) t)) ∙ e));
}

-- "size not 1..256"
pub some_size : (ns : List ℕ) (l : ℕ) → Each (Within 1 max_size) ns → l < length ns → 0 < get_or ns l 0
some_size [] l h m = absurd (omega arith)
some_size (n ∷ ns) zero h m = omega (arith, h.0.low)
some_size (n ∷ ns) (suc l) h m = some_size ns l h.1 (omega arith)

-- the cell that select writes
pub select_cell : {t : List ℕ} {records : ℕ} {js ls bs cs es : List ℕ} {s : State} {x : Step} (d : Due t records js ls bs cs es s x)
    {a b k q : ℕ} {y r : Block Plain} → CodeAt d.loaded.program.procs d.frame.proc k (step tt (select a b) y) r
    → q ≡ number_of d.config.memory a 0 → IsCell d.config.memory a 0 q
select_cell d {a} o f =
    let F = top_frame (tower d) in
    let few : a < length d.loaded.program.sizes = (code_named d.loaded.same d.loaded.sound F.found o).0 in
    record { number = f; size = rw d.present.sizes (some_size d.loaded.program.sizes a d.loaded.sound.sizes few) }

-- ---- what carrying out asks

-- the position behind a step, but for a return
abbrev After : List ℕ → Step → Type 0
After t Return = Unit {0}
After t (Assign y v n) = n < length t
After t (Read y l i v n) = n < length t
After t (Write l i j v n) = n < length t
After t (Test q n) = n < length t
After t (Call m n) = n < length t
After t (Select j u n) = n < length t
After t (Blocked y) = Unit {0}

module _ {t : List ℕ} {records : ℕ} {js ls bs cs es : List ℕ} {s : State} {x : Step} where
  -- there is room for the frame of a call
  pub call_enterable : {m n : ℕ} → Due t records js ls bs cs es s x → x ≡ Call m n → Enterable t records s.depth m
  call_enterable {m} {n} d e = go (done d e)
    where
      go : Doing d.loaded.program d.config d.frame s.at (Call m n) → Enterable t records s.depth m
      go (calling as' b r vs o q z u) =
          let F = top_frame (tower d) in
          let callee = takes_at d.loaded.program.procs m (length as') (code_named d.loaded.same d.loaded.sound F.found o).0 in
          let H : HeadAt t records d.loaded.program.procs m callee.0 =
          head_at_lem d.loaded.same d.loaded.sound d.loaded.place callee.1
          in
          let right : LocalsRight frame_words callee.0 =
          each_at (LocalsRight frame_words) d.loaded.program.procs m d.loaded.sound.locals callee.1
          in
          record {
            inside = H.inside;
            params = omega (arith, H.params, H.locals, right.params);
            locals = omega (arith, H.locals, right.locals);
            few = d.few;
            number = omega (arith, at_below d.loaded.program.procs m callee.1, d.loaded.sound.procs.high);
          }

  after_inside : (d : Due t records js ls bs cs es s x) (y : Step) → Doing d.loaded.program d.config d.frame s.at y → After t y
  after_inside d Return (returning q) = tt
  after_inside d (Assign y v n) (assigning a b r o q z u) = code_inside d.loaded.same d.loaded.sound (code_after o z)
  after_inside d (Read y l i v n) (reading y' a b r o q z u u' u'') = code_inside d.loaded.same d.loaded.sound (code_after o z)
  after_inside d (Write l i j v n) (writing y a e b r w o q z u₀ u₁ u₂ u₃ f) = code_inside d.loaded.same d.loaded.sound (code_after o z)
  after_inside d (Test g n) (looping a b b' r o q z u) = code_inside d.loaded.same d.loaded.sound (code_body o z)
  after_inside d (Test g n) (choosing a b b' b'' r o q z u) = code_inside d.loaded.same d.loaded.sound (code_then o z)
  after_inside d (Call m n) (calling as' b r vs o q z u) = code_inside d.loaded.same d.loaded.sound (code_after o z)
  after_inside d (Select j i n) (selecting a b us b' r v o q z u u' f) = code_inside d.loaded.same d.loaded.sound (code_after o z)
  after_inside d (Blocked r) h = elim h [ ]

  -- by the step
  pub assign_after : {y n : ℕ} {v : Value} → Due t records js ls bs cs es s x → x ≡ Assign y v n → n < length t
  assign_after d e = after_inside d _ (done d e)

  pub read_after : {y l i n : ℕ} {v : Value} → Due t records js ls bs cs es s x → x ≡ Read y l i v n → n < length t
  read_after d e = after_inside d _ (done d e)

  pub write_after : {l i j n : ℕ} {v : Value} → Due t records js ls bs cs es s x → x ≡ Write l i j v n → n < length t
  write_after d e = after_inside d _ (done d e)

  pub test_after : {q : Bool} {n : ℕ} → Due t records js ls bs cs es s x → x ≡ Test q n → n < length t
  test_after d e = after_inside d _ (done d e)

  pub call_after : {m n : ℕ} → Due t records js ls bs cs es s x → x ≡ Call m n → n < length t
  call_after d e = after_inside d _ (done d e)

  pub select_after : {j u n : ℕ} → Due t records js ls bs cs es s x → x ≡ Select j u n → n < length t
  select_after d e = after_inside d _ (done d e)

  -- a local of the top frame
  frame_room : (d : Due t records js ls bs cs es s x) (y : ℕ) → y < length d.frame.env → frame_words * (s.depth - 1) + y < length ls
  frame_room d y l = omega (arith, deep d, (top_frame (tower d)).framed.room)

  pub assign_room : {y n : ℕ} {v : Value} → Due t records js ls bs cs es s x → x ≡ Assign y v n → frame_words * (s.depth - 1) + y < length ls
  assign_room {y} {n} {v} d e = go (done d e)
    where
      go : Doing d.loaded.program d.config d.frame s.at (Assign y v n) → frame_words * (s.depth - 1) + y < length ls
      go (assigning a b r o q z u) =
          let F = top_frame (tower d) in
          frame_room d y (omega (arith, F.long, (code_named d.loaded.same d.loaded.sound F.found o).0))

  pub read_room : {y l i n : ℕ} {v : Value} → Due t records js ls bs cs es s x → x ≡ Read y l i v n → frame_words * (s.depth - 1) + y < length ls
  read_room {y} {l} {i} {n} {v} d e = go (done d e)
    where
      go : Doing d.loaded.program d.config d.frame s.at (Read y l i v n) → frame_words * (s.depth - 1) + y < length ls
      go (reading y' a b r o q z u u' u'') =
          let F = top_frame (tower d) in
          frame_room d y (omega (arith, F.long, (code_named d.loaded.same d.loaded.sound F.found o).0))

  -- the number of a cell
  pub write_room : {l i j n : ℕ} {v : Value} → Due t records js ls bs cs es s x → x ≡ Write l i j v n → j < length cs
  write_room {l} {i} {j} {n} {v} d e = go (done d e)
    where
      go : Doing d.loaded.program d.config d.frame s.at (Write l i j v n) → j < length cs
      go (writing y a w b r u o q z u₀ u₁ u₂ u₃ f) = cell_word d.present.memory (cell_is d.config.memory l i u₃ f)

  pub select_room : {j u n : ℕ} → Due t records js ls bs cs es s x → x ≡ Select j u n → j < length cs
  select_room {j} {u} {n} d e = go (done d e)
    where
      go : Doing d.loaded.program d.config d.frame s.at (Select j u n) → j < length cs
      go (selecting a b us b' r v o q z u₀ u₁ f) = cell_word d.present.memory (select_cell d o f)

  -- the count of entries taken fits
  pub select_counts : {j u n : ℕ} → Due t records js ls bs cs es s x → x ≡ Select j u n → s.taken + 1 < 2 ^ 64
  select_counts {j} {u} {n} d e = go (done d e)
    where
      go : Doing d.loaded.program d.config d.frame s.at (Select j u n) → s.taken + 1 < 2 ^ 64
      go (selecting a b us b' r v o q z u₀ u₁ f) =
          let rest : drop s.taken d.schedule ≡ u ∷ us = sym d.present.todo ∙ u₀ in
          omega (arith, d.entries, length-drop s.taken d.schedule, ap length rest)

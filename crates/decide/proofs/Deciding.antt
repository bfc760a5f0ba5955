-- Deciding a step, way by way.
use Prim.Native.Nat.{ℕ, ◌+◌, ◌≤◌, ◌<◌}
use native.Mathlib.Omega.{arith}
use mathlib.Core.Path.{◌≡◌, refl, sym, ap, ap₂, subst, ◌∙◌}
use mathlib.Core.Logic.{⊎_elim}
use mathlib.Core.List.{List, [], ◌∷◌, map}
use mathlib.Core.Bool.{Bool}
use Rattle.std.specs.Prelude.{Result, Ok, Err}
use lib.ListN.{length, get_or}
use lib.IntN.{ℤ, pos, negsuc}
use types.Run.{OneOf, miss}
use denote.Enum.Declared.{tag_of}
use Rattle.value.specs.contracts.Value.{the_type}
use Rattle.value.specs.Maybe.{is}
use Rattle.value.specs.Try.{Try, has, lacks, ◌⟫◌, or_lacks}
use Rattle.value.specs.Values.{given}
use Rattle.basics.specs.Places.{number_at}
use Rattle.value.specs.declared.Value.{Value}
use Rattle.value.specs.declared.Value.TheVariants.{Whole, Location, Truth}
use Rattle.value.specs.declared.Reason.{Reason}
use Rattle.value.specs.declared.Reason.TheVariants.{WrongKind}
use Rattle.value.proofs.Laws.Tries.{has_inj, lacks_inj, lacking}
use Rattle.format.specs.Syntax.{Expr, local}
use Rattle.format.proofs.Laws.Grammar.{ExprAt, expr_inside}
use Rattle.format.specs.Decode.{max_depth}
use Rattle.engine.specs.declared.evaluate.Valued.{Valued}
use Rattle.engine.specs.declared.memory.Spot.{Spot}
use Rattle.decide.specs.declared.step.Step.{Step}
use Rattle.decide.specs.declared.step.Step.TheVariants.{Return, Assign, Read, Write, Test, Call, Blocked}
use Rattle.semantics.specs.Memory.{Env, eval, evals, index, Memory, cell}
use Rattle.value.specs.Values.{number, place, truth}
use Rattle.engine.specs.Work.{Beside, frame_words, Framed, Placed, Places}
use Rattle.engine.specs.Words.{value_in}
use Rattle.engine.specs.Evaluated.{Below, Ready, Evaluates}
use Rattle.engine.specs.Laws.Work.{beside_same, framed_none}
use Rattle.engine.specs.Laws.Holding.{cell_full, cell_word, cell_held}
use Rattle.decide.specs.Decided.{Act, assigns, writes, reads, tests, calls, returns, number_of, decided, or_blocked, AssignHere, WriteHere}
use Rattle.decide.specs.Decided.{ReadHere, Tests, TestHere, CallHere, ActAt}
use Rattle.decide.specs.Decided.{args_of, Poised, Passable, Writable, Readable, Laid, Lies, Kept, Any, AssignOf, TestOf, Decides}
use Rattle.decide.specs.Decided.{PassedAs, PassesAll, Passes, DecidesAll}

-- ---- what stands there, by its mark

module _ {t : List ℕ} {i n : ℕ} where
  -- "20 x e"
  see_assign : (a : Act) {j : ℕ} → ActAt t i n a j → get_or t i 0 ≡ 0x20 → (x : ℕ) × (e : Expr) × (a ≡ assigns x e) × AssignHere t i n x e j
  see_assign (assigns x e) h q = (x, e, refl, h)
  see_assign (writes y o e) h q = absurd (omega (arith, h.mark))
  see_assign (reads x y o) h q = absurd (omega (arith, h.mark))
  see_assign (tests e) h q = absurd (⊎_elim (λ m. omega arith) (λ m. omega arith) h.mark)
  see_assign (calls m es) h q = absurd (omega (arith, h.mark))
  see_assign returns h q = absurd (omega (arith, h.mark))

  -- "21 y o e"
  see_write : (a : Act) {j : ℕ} → ActAt t i n a j → get_or t i 0 ≡ 0x21 → (y : ℕ) × (o e : Expr) × (a ≡ writes y o e) × WriteHere t i n y o e j
  see_write (writes y o e) h q = (y, o, e, refl, h)
  see_write (assigns x e) h q = absurd (omega (arith, h.mark))
  see_write (reads x y o) h q = absurd (omega (arith, h.mark))
  see_write (tests e) h q = absurd (⊎_elim (λ m. omega arith) (λ m. omega arith) h.mark)
  see_write (calls m es) h q = absurd (omega (arith, h.mark))
  see_write returns h q = absurd (omega (arith, h.mark))

  -- "22 x y o"
  see_read : (a : Act) {j : ℕ} → ActAt t i n a j → get_or t i 0 ≡ 0x22 → (x y : ℕ) × (o : Expr) × (a ≡ reads x y o) × ReadHere t i n x y o j
  see_read (reads x y o) h q = (x, y, o, refl, h)
  see_read (assigns x e) h q = absurd (omega (arith, h.mark))
  see_read (writes y o e) h q = absurd (omega (arith, h.mark))
  see_read (tests e) h q = absurd (⊎_elim (λ m. omega arith) (λ m. omega arith) h.mark)
  see_read (calls m es) h q = absurd (omega (arith, h.mark))
  see_read returns h q = absurd (omega (arith, h.mark))

  -- "23 e block", "24 e block block"
  see_test : (a : Act) {j : ℕ} → ActAt t i n a j → Tests t i → (e : Expr) × (a ≡ tests e) × TestHere t i n e j
  see_test (tests e) h q = (e, refl, h)
  see_test (assigns x e) h q = absurd (⊎_elim (λ m. omega (arith, h.mark)) (λ m. omega (arith, h.mark)) q)
  see_test (writes y o e) h q = absurd (⊎_elim (λ m. omega (arith, h.mark)) (λ m. omega (arith, h.mark)) q)
  see_test (reads x y o) h q = absurd (⊎_elim (λ m. omega (arith, h.mark)) (λ m. omega (arith, h.mark)) q)
  see_test (calls m es) h q = absurd (⊎_elim (λ m. omega (arith, h.mark)) (λ m. omega (arith, h.mark)) q)
  see_test returns h q = absurd (⊎_elim (λ m. omega (arith, h.mark)) (λ m. omega (arith, h.mark)) q)

  -- "25 m(2) n(1) n expressions"
  see_call : (a : Act) {j : ℕ} → ActAt t i n a j → get_or t i 0 ≡ 0x25 → (m : ℕ) × (es : List Expr) × (a ≡ calls m es) × CallHere t i n m es j
  see_call (calls m es) h q = (m, es, refl, h)
  see_call (assigns x e) h q = absurd (omega (arith, h.mark))
  see_call (writes y o e) h q = absurd (omega (arith, h.mark))
  see_call (reads x y o) h q = absurd (omega (arith, h.mark))
  see_call (tests e) h q = absurd (⊎_elim (λ m. omega arith) (λ m. omega arith) h.mark)
  see_call returns h q = absurd (omega (arith, h.mark))

module _ (t : List ℕ) (i n : ℕ) where
  -- another byte has no arguments
  see_no_call : (a : Act) (j : ℕ) → ActAt t i n a j → (get_or t i 0 ≡ 0x25 → ⊥) → args_of a ≡ []
  see_no_call (calls m es) j h q = absurd (q h.mark)
  see_no_call (assigns x e) j h q = refl
  see_no_call (writes y o e) j h q = refl
  see_no_call (reads x y o) j h q = refl
  see_no_call (tests e) j h q = refl
  see_no_call returns j h q = refl

  -- "a block ends with byte 00"
  see_return : (a : Act) (j : ℕ) → ActAt t i n a j → get_or t i 0 ≡ 0x00 → a ≡ returns
  see_return returns j h q = refl
  see_return (assigns x e) j h q = absurd (omega (arith, h.mark))
  see_return (writes y o e) j h q = absurd (omega (arith, h.mark))
  see_return (reads x y o) j h q = absurd (omega (arith, h.mark))
  see_return (tests e) j h q = absurd (⊎_elim (λ m. omega arith) (λ m. omega arith) h.mark)
  see_return (calls m es) j h q = absurd (omega (arith, h.mark))

  -- the byte is one of those of the acts, and none of the others: a test's
  see_other : (a : Act) (j : ℕ) → ActAt t i n a j → (get_or t i 0 ≡ 0x25 → ⊥)
      → (get_or t i 0 ≡ 0x00 → ⊥) → (get_or t i 0 ≡ 0x20 → ⊥) → (get_or t i 0 ≡ 0x21 → ⊥)
      → (get_or t i 0 ≡ 0x22 → ⊥) → Tests t i
  see_other (tests e) j h n₁ n₂ n₃ n₄ n₅ = h.mark
  see_other (calls m es) j h n₁ n₂ n₃ n₄ n₅ = absurd (n₁ h.mark)
  see_other returns j h n₁ n₂ n₃ n₄ n₅ = absurd (n₂ h.mark)
  see_other (assigns x e) j h n₁ n₂ n₃ n₄ n₅ = absurd (n₃ h.mark)
  see_other (writes y o e) j h n₁ n₂ n₃ n₄ n₅ = absurd (n₄ h.mark)
  see_other (reads x y o) j h n₁ n₂ n₃ n₄ n₅ = absurd (n₅ h.mark)

  -- it is a byte of the table
  see_inside : (a : Act) (j : ℕ) → ActAt t i n a j → i < length t
  see_inside (assigns x e) j h = omega (arith, expr_inside h.source)
  see_inside (writes y o e) j h = omega (arith, expr_inside h.offset)
  see_inside (reads x y o) j h = omega (arith, expr_inside h.offset)
  see_inside (tests e) j h = omega (arith, expr_inside h.test)
  see_inside (calls m es) j h = omega (arith, h.inside)
  see_inside returns j h = h.inside

-- an expression of an instruction, over the instruction's frame
abbrev ready : {t ls : List ℕ} {fb i j : ℕ} {ρ : Env} {e : Expr} → Framed ls fb ρ → ExprAt t i max_depth e j → Below (length ρ) e
    → Ready t ls fb i max_depth
ready {j = j} {ρ} {e} f h b = record { env = ρ; framed = f; e = e; j = j; here = h; below = b }

module _ {t ls : List ℕ} {fb i : ℕ} where
  -- ---- "x := e"

  -- its expression
  pub assign_ready : Poised t ls fb i → get_or t i 0 ≡ 0x20 → Ready t ls fb (i + 2) max_depth
  assign_ready h q = let s = see_assign h.act h.here q in ready h.framed s.3.source s.3.below.1

  -- what its value decides
  pub assign_decides : {M : Memory → Type 0} {r : Valued} {s : Step} → get_or t i 0 ≡ 0x20 → Evaluates t ls fb (i + 2) max_depth r → AssignOf t i r s
      → Decides t ls fb i M s
  assign_decides {r = r} q E A = record {
    step = λ h η m.
        let w = see_assign h.act h.here q in
        let p = ready h.framed w.3.source w.3.below.1 in
        A.step
        ∙ ap₂ (λ a j. or_blocked (a ⟫ λ v. has (Assign (get_or t (i + 1) 0) v j))) (E.value p) (E.next p)
        ∙ ap (λ x. or_blocked (eval h.env w.1 ⟫ λ v. has (Assign x v h.j))) w.3.target
        ∙ sym (ap (λ a. decided h.env η a h.j) w.2);
  }

  -- ---- the test of a while or an if

  -- its expression
  pub test_ready : Poised t ls fb i → Tests t i → Ready t ls fb (i + 1) max_depth
  test_ready h q = let s = see_test h.act h.here q in ready h.framed s.2.test s.2.below

  -- what its value decides
  pub test_decides : {M : Memory → Type 0} {r : Valued} {s : Step} → Tests t i → Evaluates t ls fb (i + 1) max_depth r → TestOf r s
      → Decides t ls fb i M s
  test_decides {r = r} q E A = record {
    step = λ h η m.
        let w = see_test h.act h.here q in
        let p = ready h.framed w.2.test w.2.below in
        A.step
        ∙ ap₂ (λ a j. or_blocked (a ⟫ truth ⟫ λ b. has (Test b j))) (E.value p) (E.next p)
        ∙ sym (ap (λ a. decided h.env η a h.j) w.1);
  }

-- ---- what an expression came to: no value, one of another kind, or the right one

module _ {t : List ℕ} {i : ℕ} {r : Valued} where
  -- "x := e"
  pub assign_none : {q : Reason} → r.answer ≡ Err q → AssignOf t i r (Blocked q)
  assign_none h = record { step = rw h }

  pub assign_some : {v : Value} {x : ℕ} → r.answer ≡ Ok v → x ≡ get_or t (i + 1) 0 → AssignOf t i r (Assign x v r.next)
  assign_some e a = record { step = rw (e, a) }

module _ {r : Valued} where
  -- the test of a while or an if
  pub test_none : {q : Reason} → r.answer ≡ Err q → TestOf r (Blocked q)
  test_none h = record { step = rw h }

  pub test_other : {v : Value} → r.answer ≡ Ok v → OneOf (0 ∷ 1 ∷ []) (tag_of the_type v) → TestOf r (Blocked WrongKind)
  test_other {v} e k = record { step = rw (e, no_truth v k) }
    where
      no_truth : (v : Value) → OneOf (0 ∷ 1 ∷ []) (tag_of the_type v) → truth v ≡ lacks WrongKind
      no_truth (Truth b) h = absurd (miss (0 ∷ 1 ∷ []) 2 tt h)
      no_truth (Whole z) h = refl
      no_truth (Location l) h = refl

  pub test_some : {v : Value} {b : Bool} → r.answer ≡ Ok v → v ≡ Truth b → TestOf r (Test b r.next)
  test_some e f = record { step = rw (e, f) }

-- ---- a pointer and an index

-- without a cell nothing is done
nowhere : {A : Type 0} (η : Memory) (a : Try ℤ) (b : Try ℕ) (f : ℕ → ℕ → Value → Try A) {r : Reason}
    → (a ⟫ λ z. b ⟫ λ l. index z ⟫ λ k. cell η l k) ≡ lacks r
    → (a ⟫ λ z. b ⟫ λ l. index z ⟫ λ k. cell η l k ⟫ f l k) ≡ lacks r
nowhere η (lacks q) b f e = ap lacks (lacks_inj e)
nowhere η (has z) (lacks q) f e = ap lacks (lacks_inj e)
nowhere η (has (negsuc n)) (has l) f e = ap lacks (lacks_inj e)
nowhere η (has (pos k)) (has l) f e = rw e

-- what the cell of a pointer and an index holds
in_cell : {bs cs : List ℕ} (p o : Try Value) (a : Result Value Reason) {s : Result Spot Reason} {at : Spot} → Places bs p o s → s ≡ Ok at
    → given a ≡ value_in (get_or cs at.cell 0) → (η : Memory) → Lies bs cs η
    → ((o ⟫ number) ≡ has (pos at.index)) × ((p ⟫ place) ≡ has at.location) × (cell η at.location at.index ≡ given a)
in_cell p o a P n r η m =
    let found = subst (Placed η p o) n (P.placed η m.bases) in
    (found.0, found.1, sym (r ∙ cell_held m.holds found.2))

-- what a value, an index and a pointer decide
abbrev write_of : Memory → ℕ → Try Value → Try Value → Try Value → Step
write_of η j a o p =
    or_blocked (a ⟫ λ v. o ⟫ number ⟫ λ z. p ⟫ place ⟫ λ l. index z ⟫ λ k. cell η l k ⟫ λ _. has (Write l k (number_of η l k) v j))

-- and an index and a pointer alone
abbrev read_of : Memory → ℕ → ℕ → Try Value → Try Value → Step
read_of η x j o p = or_blocked (o ⟫ number ⟫ λ z. p ⟫ place ⟫ λ l. index z ⟫ λ k. cell η l k ⟫ λ v. has (Read x l k v j))

module _ {t ls : List ℕ} {fb i : ℕ} where
  -- a local of the instruction is one of the frame's
  word : {y k : ℕ} (h : Poised t ls fb i) → y < length h.env → k ≡ y → fb + k < length ls
  word h l e = omega (arith, h.framed.room)

  -- and what the frame says
  holds : {y k : ℕ} {a : Try Value} (h : Poised t ls fb i) → y < length h.env → k ≡ y → a ≡ value_in (get_or ls (fb + k) 0)
      → a ≡ eval h.env (local y)
  holds {y} h l e g = g ∙ ap (λ k. value_in (get_or ls (fb + k) 0)) e ∙ ap (or_lacks WrongKind) (h.framed.each y l)

  -- ---- "y[o] := e"

  -- its index
  pub offset_ready : Poised t ls fb i → get_or t i 0 ≡ 0x21 → Ready t ls fb (i + 2) max_depth
  offset_ready h q = let w = see_write h.act h.here q in ready h.framed w.4.offset w.4.below.1

  -- its value, after the index
  source_at : {x : Valued} (h : Poised t ls fb i) (q : get_or t i 0 ≡ 0x21) → Evaluates t ls fb (i + 2) max_depth x
      → let w = see_write h.act h.here q in ExprAt t x.next max_depth w.2 h.j
  source_at {x} h q X =
      let w = see_write h.act h.here q in
      let k : x.next ≡ w.4.k = X.next (ready h.framed w.4.offset w.4.below.1) in
      rw k w.4.source

  pub source_ready : {x : Valued} → Poised t ls fb i → get_or t i 0 ≡ 0x21 → Evaluates t ls fb (i + 2) max_depth x → Ready t ls fb x.next max_depth
  source_ready h q X = let w = see_write h.act h.here q in ready h.framed (source_at h q X) w.4.below.2

  -- its pointer
  pub write_word : {k : ℕ} → Poised t ls fb i → get_or t i 0 ≡ 0x21 → k ≡ get_or t (i + 1) 0 → fb + k < length ls
  write_word h q e = let w = see_write h.act h.here q in word h w.4.below.0 (e ∙ w.4.pointer)

  -- what they decide
  write_step : {x y : Valued} (m : Try Value) (h : Poised t ls fb i) (η : Memory) (q : get_or t i 0 ≡ 0x21) → Evaluates t ls fb (i + 2) max_depth x
      → Evaluates t ls fb x.next max_depth y → m ≡ eval h.env (local (see_write h.act h.here q).0)
      → write_of η y.next (given y.answer) (given x.answer) m ≡ decided h.env η h.act h.j
  write_step {x} {y} m h η q X Y g =
      let w = see_write h.act h.here q in
      let o = ready h.framed w.4.offset w.4.below.1 in
      let s = ready h.framed (source_at h q X) w.4.below.2 in
      ap₂ (λ a j. write_of η j a (given x.answer) m) (Y.value s) (Y.next s)
      ∙ ap₂ (λ o p. write_of η h.j (eval h.env w.2) o p) (X.value o) g
      ∙ sym (ap (λ a. decided h.env η a h.j) w.3)

  -- the pointer as the code reads it
  write_pointer : (h : Poised t ls fb i) (q : get_or t i 0 ≡ 0x21) {a : Try Value} {k : ℕ} → k ≡ get_or t (i + 1) 0 → a ≡ value_in (get_or ls (fb + k) 0)
      → a ≡ eval h.env (local (see_write h.act h.here q).0)
  write_pointer h q e g = let w = see_write h.act h.here q in holds h w.4.below.0 (e ∙ w.4.pointer) g

  module _ {bs : List ℕ} {x y : Valued} (q : get_or t i 0 ≡ 0x21) (X : Evaluates t ls fb (i + 2) max_depth x)
      (Y : Evaluates t ls fb x.next max_depth y) where
    -- there is no value
    pub write_none : {r : Reason} → y.answer ≡ Err r → Decides t ls fb i (Laid bs) (Blocked r)
    write_none n = record { step = λ h η b. rw (ap given n) at (write_step (eval h.env (local (see_write h.act h.here q).0)) h η q X Y refl) }

    -- there is no such cell
    pub write_nowhere : (p : Result Value Reason) {k : ℕ} {v : Value} {s : Result Spot Reason} {r : Reason} → y.answer ≡ Ok v → k ≡ get_or t (i + 1) 0
        → given p ≡ value_in (get_or ls (fb + k) 0) → Places bs (given p) (given x.answer) s → s ≡ Err r → Decides t ls fb i (Laid bs) (Blocked r)
    write_nowhere p {v = v} {s} e a g P n = record {
      step = λ h η b.
          let none = nowhere η (given x.answer ⟫ number) (given p ⟫ place) (λ l k u. has (Write l k (number_of η l k) v y.next))
          (subst (Placed η (given p) (given x.answer)) n (P.placed η b.bases)) in
          sym (ap or_blocked none) ∙ rw (ap given e) at (write_step (given p) h η q X Y (write_pointer h q a g));
    }

    -- there is one
    pub write_some : (p : Result Value Reason) {k : ℕ} {v : Value} {s : Result Spot Reason} {at : Spot} → y.answer ≡ Ok v → k ≡ get_or t (i + 1) 0
        → given p ≡ value_in (get_or ls (fb + k) 0) → Places bs (given p) (given x.answer) s → s ≡ Ok at
        → Decides t ls fb i (Laid bs) (Write at.location at.index at.cell v y.next)
    write_some p {v = v} {at = at} e a g P n = record {
      step = λ h η b.
          let found = subst (Placed η (given p) (given x.answer)) n (P.placed η b.bases) in
          let full = cell_full η found.2 in
          let done = rw (ap given e, found.0, found.1, full.1) at (write_step (given p) h η q X Y (write_pointer h q a g)) in
          ap (λ c. Write at.location at.index c v y.next) found.2.number ∙ done;
    }

  -- ---- "x := y[o]"

  -- its index
  pub read_ready : Poised t ls fb i → get_or t i 0 ≡ 0x22 → Ready t ls fb (i + 3) max_depth
  read_ready h q = let w = see_read h.act h.here q in ready h.framed w.4.offset w.4.below.2

  -- its pointer
  pub read_word : {k : ℕ} → Poised t ls fb i → get_or t i 0 ≡ 0x22 → k ≡ get_or t (i + 2) 0 → fb + k < length ls
  read_word h q e = let w = see_read h.act h.here q in word h w.4.below.1 (e ∙ w.4.pointer)

  -- what they decide
  read_step : {x : Valued} {m : Try Value} {k z : ℕ} (h : Poised t ls fb i) (η : Memory) → get_or t i 0 ≡ 0x22 → Evaluates t ls fb (i + 3) max_depth x
      → k ≡ get_or t (i + 2) 0 → m ≡ value_in (get_or ls (fb + k) 0) → z ≡ get_or t (i + 1) 0
      → read_of η z x.next (given x.answer) m ≡ decided h.env η h.act h.j
  read_step {x} {m} {k} {z} h η q X e g a =
      let w = see_read h.act h.here q in
      let o = ready h.framed w.4.offset w.4.below.2 in
      ap₂ (λ a j. read_of η z j a m) (X.value o) (X.next o)
      ∙ ap₂ (λ z p. read_of η z h.j (eval h.env w.2) p) (a ∙ w.4.target) (holds h w.4.below.1 (e ∙ w.4.pointer) g)
      ∙ sym (ap (λ a. decided h.env η a h.j) w.3)

  module _ {bs cs : List ℕ} {x : Valued} (p : Result Value Reason) {k : ℕ} {s : Result Spot Reason} (q : get_or t i 0 ≡ 0x22) (X : Evaluates t ls fb (i + 3) max_depth x)
      (e : k ≡ get_or t (i + 2) 0) (g : given p ≡ value_in (get_or ls (fb + k) 0)) (P : Places bs (given p) (given x.answer) s) where
    -- there is no such cell
    pub read_nowhere : {r : Reason} → s ≡ Err r → Decides t ls fb i (Lies bs cs) (Blocked r)
    read_nowhere n = record {
      step = λ h η m.
          let none = nowhere η (given x.answer ⟫ number) (given p ⟫ place) (λ l k v. has (Read (get_or t (i + 1) 0) l k v x.next))
          (subst (Placed η (given p) (given x.answer)) n (P.placed η m.bases)) in
          sym (ap or_blocked none) ∙ read_step h η q X e g refl;
    }

    -- it holds nothing
    pub read_empty : {at : Spot} (a : Result Value Reason) {r : Reason} → s ≡ Ok at → given a ≡ value_in (get_or cs at.cell 0) → a ≡ Err r
        → Decides t ls fb i (Lies bs cs) (Blocked r)
    read_empty a n r f = record {
      step = λ h η m.
          let w = in_cell (given p) (given x.answer) a P n r η m in
          rw (w.0, w.1, w.2, ap given f) at (read_step {z = get_or t (i + 1) 0} h η q X e g refl);
    }

    -- it holds a value
    pub read_some : {at : Spot} {z : ℕ} (a : Result Value Reason) {v : Value} → s ≡ Ok at → given a ≡ value_in (get_or cs at.cell 0) → a ≡ Ok v
        → z ≡ get_or t (i + 1) 0 → Decides t ls fb i (Lies bs cs) (Read z at.location at.index v x.next)
    read_some a n r f b = record {
      step = λ h η m.
          let w = in_cell (given p) (given x.answer) a P n r η m in
          rw (w.0, w.1, w.2, ap given f) at (read_step h η q X e g b);
    }

-- a cell that is found is one of the words
pub found_word : {bs cs : List ℕ} (p o : Try Value) {s : Result Spot Reason} {at : Spot} → Kept bs cs → Places bs p o s → s ≡ Ok at → at.cell < length cs
found_word p o k P n = cell_word k.lies.holds (subst (Placed k.memory p o) n (P.placed k.memory k.lies.bases)).2

-- ---- "call procedure m"

module _ {t ls : List ℕ} {fb i : ℕ} where
  -- its arguments, k of them
  abbrev args : {k : ℕ} → Poised t ls fb i → get_or t i 0 ≡ 0x25 → k ≡ get_or t (i + 3) 0 → Passable t ls fb (i + 4) k
  args {k} h q e =
      let w = see_call h.act h.here q in
      record {
        env = h.env;
        framed = h.framed;
        es = w.1;
        j = h.j;
        args = rw e w.3.args;
        below = w.3.below;
        few = omega (arith, w.3.few, w.3.args.count);
        narrow = h.narrow;
        room = h.room;
      }

  pub call_ready : {k : ℕ} → Poised t ls fb i → get_or t i 0 ≡ 0x25 → k ≡ get_or t (i + 3) 0 → Passable t ls fb (i + 4) k
  call_ready h q e = args h q e

  module _ {ls' : List ℕ} {k : ℕ} {r : Result ℕ Reason} (q : get_or t i 0 ≡ 0x25) (e : k ≡ get_or t (i + 3) 0) (P : PassesAll t ls ls' fb (i + 4) k r) where
    -- where they went
    call_beside : (h : Poised t ls fb i) → Beside ls ls' (fb + frame_words) (fb + frame_words + length (args_of h.act))
    call_beside h =
        let w = see_call h.act h.here q in
        let same : length (args_of h.act) ≡ k = ap (λ a. length (args_of a)) w.2 ∙ w.3.args.count ∙ sym e in
        rw same P.beside

    -- one has no value
    pub call_none : {M : Memory → Type 0} {x : Reason} → r ≡ Err x → DecidesAll t ls ls' fb i M (Blocked x)
    call_none {x = x} n =
        let none : (h : Poised t ls fb i) → evals h.env (see_call h.act h.here q).1 ≡ lacks x =
        λ h. subst (PassedAs (args h q e) ls') n (P.passed (args h q e))
        in
        record {
          decides = record {
            step = λ h η m.
                let w = see_call h.act h.here q in
                sym (ap (λ x. or_blocked (x ⟫ λ vs. has (Call w.0 h.j))) (none h)) ∙ sym (ap (λ a. decided h.env η a h.j) w.2);
          };
          passes = record {
            beside = call_beside;
            passed = λ h vs f. lacking (sym (none h) ∙ sym (ap (λ a. evals h.env (args_of a)) (see_call h.act h.here q).2) ∙ f);
          };
        }

    -- all have one
    pub call_some : {M : Memory → Type 0} {m j : ℕ} → r ≡ Ok j → m ≡ number_at 2 t (i + 1) → DecidesAll t ls ls' fb i M (Call m j)
    call_some {m = m} {j} n a =
        let all : (h : Poised t ls fb i) → PassedAs (args h q e) ls' (Ok j) = λ h. subst (PassedAs (args h q e) ls') n (P.passed (args h q e)) in
        record {
          decides = record {
            step = λ h η x.
                let w = see_call h.act h.here q in
                ap₂ Call (a ∙ w.3.callee) (all h).0
                ∙ sym (ap (λ x. or_blocked (x ⟫ λ vs. has (Call w.0 h.j))) (all h).1.1)
                ∙ sym (ap (λ a. decided h.env η a h.j) w.2);
          };
          passes = record {
            beside = call_beside;
            passed = λ h vs f.
                let w = see_call h.act h.here q in
                let same : (all h).1.0 ≡ vs = has_inj (sym (all h).1.1 ∙ sym (ap (λ a. evals h.env (args_of a)) w.2) ∙ f) in
                subst (λ vs. Framed ls' (fb + frame_words) (map is vs)) same (all h).1.2;
          };
        }

  -- ---- any instruction

  -- it has a byte
  pub act_inside : Poised t ls fb i → i < length t
  act_inside h = see_inside t i (length h.env) h.act h.j h.here

  pub assign_inside : Poised t ls fb i → get_or t i 0 ≡ 0x20 → i + 1 < length t
  assign_inside h q = omega (arith, expr_inside (see_assign h.act h.here q).3.source)

  pub write_inside : {o e : Valued} → Writable t ls fb i o e → i + 1 < length t
  write_inside w = omega (arith, expr_inside (see_write w.poised.act w.poised.here w.mark).4.offset)

  pub read_inside : {o : Valued} → Readable t ls fb i o → i + 2 < length t
  read_inside w = omega (arith, expr_inside (see_read w.poised.act w.poised.here w.mark).4.offset)

  pub call_inside : Poised t ls fb i → get_or t i 0 ≡ 0x25 → i + 4 ≤ length t
  call_inside h q = (see_call h.act h.here q).3.inside

  -- no other byte than those of a test is left
  pub act_tests : Poised t ls fb i → (get_or t i 0 ≡ 0x25 → ⊥) → (get_or t i 0 ≡ 0x00 → ⊥) → (get_or t i 0 ≡ 0x20 → ⊥) → (get_or t i 0 ≡ 0x21 → ⊥)
      → (get_or t i 0 ≡ 0x22 → ⊥) → Tests t i
  act_tests h n₁ n₂ n₃ n₄ n₅ = see_other t i (length h.env) h.act h.j h.here n₁ n₂ n₃ n₄ n₅

  -- where there are no arguments, no words are touched
  no_args : (get_or t i 0 ≡ 0x25 → ⊥) → Passes t ls ls fb i
  no_args n = record {
    beside = λ h. beside_same;
    passed = λ h vs f.
        let none : vs ≡ [] = sym (has_inj (sym (ap (evals h.env) (see_no_call t i (length h.env) h.act h.j h.here n)) ∙ f)) in
        rw none (framed_none (omega (arith, h.room)));
  }

  module _ {bs cs : List ℕ} {s : Step} where
    -- the step of each instruction but a call
    pub decides_assign : {e : Valued} → get_or t i 0 ≡ 0x20 → Evaluates t ls fb (i + 2) max_depth e → AssignOf t i e s
        → DecidesAll t ls ls fb i (Lies bs cs) s
    decides_assign q E A = record { decides = assign_decides q E A; passes = no_args (λ n. omega arith) }

    pub decides_write : get_or t i 0 ≡ 0x21 → Decides t ls fb i (Laid bs) s → DecidesAll t ls ls fb i (Lies bs cs) s
    decides_write q D = record { decides = record { step = λ h η m. D.step h η (record { bases = m.bases }) }; passes = no_args (λ n. omega arith) }

    pub decides_read : get_or t i 0 ≡ 0x22 → Decides t ls fb i (Lies bs cs) s → DecidesAll t ls ls fb i (Lies bs cs) s
    decides_read q D = record { decides = D; passes = no_args (λ n. omega arith) }

    pub decides_test : {e : Valued} → Tests t i → Evaluates t ls fb (i + 1) max_depth e → TestOf e s → DecidesAll t ls ls fb i (Lies bs cs) s
    decides_test q E T = record { decides = test_decides q E T; passes = no_args (λ n. ⊎_elim (λ m. omega arith) (λ m. omega arith) q) }

    -- a call's
    pub decides_call : {ls' : List ℕ} → DecidesAll t ls ls' fb i Any s → DecidesAll t ls ls' fb i (Lies bs cs) s
    decides_call D = record { decides = record { step = λ h η m. D.decides.step h η (record {}) }; passes = D.passes }

  -- the end of a body
  pub decides_return : {bs cs : List ℕ} → get_or t i 0 ≡ 0x00 → DecidesAll t ls ls fb i (Lies bs cs) Return
  decides_return q = record {
    decides = record { step = λ h η m. sym (ap (λ a. decided h.env η a h.j) (see_return t i (length h.env) h.act h.j h.here q)) };
    passes = no_args (λ e. omega arith);
  }

-- one law for each way
pub ruleset assign_ways = (assign_none, assign_some)

pub ruleset test_ways = (test_none, test_other, test_some)

pub ruleset write_ways = (write_word, write_none, write_nowhere, write_some)

pub ruleset read_ways = (read_word, found_word, read_nowhere, read_empty, read_some)

pub ruleset call_ways = (call_ready, call_none, call_some)

pub ruleset decide_ways = (
  act_inside,
  assign_ready,
  offset_ready,
  source_ready,
  read_ready,
  test_ready,
  assign_inside,
  call_inside,
  act_tests,
  decides_assign,
  decides_write,
  decides_read,
  decides_test,
  decides_call,
  decides_return,
)

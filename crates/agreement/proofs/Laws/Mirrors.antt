-- The copy's memory mirrors a state of the program: the report's equivalence of states. A step of a thread keeps it.
use Rattle.std.specs.Prelude.{ℕ, ◌≡◌, refl, ◌≢◌, ◌∷◌, length, take, set, eqb}
use Rattle.std.proofs.Common.{arith, sym, ◌∙◌, length-set, eqb-true}
use Rattle.std.proofs.Math.Decide.{ℕ_discrete}
use Rattle.value.specs.Maybe.{is}
use Rattle.value.specs.Try.{has}
use Rattle.value.specs.Lists.{at}
use Rattle.value.specs.declared.Value.{Value}
use Rattle.value.proofs.Laws.Maybes.{is_inj}
use Rattle.value.proofs.Laws.Tries.{has_inj, lacking}
use Rattle.value.proofs.Laws.Tests.{either_passed}
use Rattle.value.proofs.Laws.Lists.{at_below, at_set_same, at_set_other, In, here}
use Rattle.format.specs.Syntax.{assign, write, read, while, if, call, atomic, select, Block, end, step, Proc}
use Rattle.format.specs.Labels.{first}
use Rattle.format.specs.Rules.{callees_of}
use Rattle.format.proofs.Laws.Calls.{direct}
use Rattle.translation.specs.Placement.{locals_of}
use Rattle.translation.proofs.Laws.Placing.Apart.{down}
use Rattle.semantics.specs.Memory.{Env, Memory, cell, stored}
use Rattle.semantics.specs.Step.{Stack, Moved}
use Rattle.semantics.specs.Threads.{State, thread, code}
use Rattle.semantics.proofs.Laws.Cells.{cell_elsewhere, take_stored_above, shape, shape_stored}
use Rattle.agreement.specs.Price.{price, instr_price}
use Rattle.agreement.proofs.Laws.Columns.{number, AllKept, all_alike}
use Rattle.agreement.proofs.Laws.Reps.{label_by, column, Rep}
use Rattle.agreement.proofs.Laws.Proper.{ProperMemory}
use Rattle.agreement.proofs.Laws.Frames.{World, FrameSound, StackSound, Chained}
use Rattle.agreement.proofs.Laws.Linked.{Linked, no_cycle_lem, reach_top, reach_on}
use Rattle.agreement.proofs.Laws.Steps.{After, Stepped, simply_assign, simply_read, simply_write}
use Rattle.agreement.proofs.Laws.Steps.{step_simply, step_while, step_if, step_call, step_end}
use Rattle.agreement.proofs.Laws.Atomics.{step_atomic}
use Rattle.agreement.proofs.Laws.ProperSteps.{AllProper}
use Rattle.agreement.proofs.Laws.Blocked.{NoCycle}

-- ---- a step of a thread

-- the same cost, written otherwise
stepped_cost : {W : World} {i : ℕ} {η' : Memory} {m l n k : ℕ} {r : Moved ℕ} → n ≡ k → Stepped W i η' m l n r → Stepped W i η' m l k r
stepped_cost e y = rw e at y

-- the locals of a procedure, by its number
locals_of_lem : (W : World) (m : ℕ) (p : Proc ℕ) → at W.source.procs m ≡ is p → locals_of (at W.source.procs m) ≡ W.S.L m
locals_of_lem W m p e = rw e (sym (W.entries m p e).size)

module _ {W : World} {i : ℕ} {η' : Memory} {m : ℕ} {s : Stack ℕ} {ρ : Env} {η : Memory} (R : Rep W.S i η' m s ρ η η') (below : StackSound W s)
    (r : Moved ℕ) where
  -- the code of the top frame, for n locals
  by_code : (n : ℕ) → n ≡ W.S.L m → (c : Block ℕ) → FrameSound W m ρ c → Chained W m c s → code W.source.procs i c m ρ s η ≡ has r
      → Stepped W i η' m (first (W.S.ends m) c) (elim c [ end ↦ 4 | step a ins c ↦ instr_price W.source.procs i a m n ρ η ins ]) r
  by_code n e end F on p = rw (← has_inj p) (step_end R below F)
  by_code n e (step a (assign x v) c) F on p =
      rw e (stepped_cost (omega arith) (step_simply R below F r F.coded.0 (simply_assign R s x v F.fit r p)))
  by_code n e (step a (write y o v) c) F on p =
      rw e (stepped_cost (omega arith) (step_simply R below F r F.coded.0 (simply_write R s y o v F.fit r p)))
  by_code n e (step a (read x y o) c) F on p =
      rw e (stepped_cost (omega arith) (step_simply R below F r F.coded.0 (simply_read R s x y o F.fit r p)))
  by_code n e (step a (while v b) c) F on p = rw e (step_while R below v b F r p)
  by_code n e (step a (if v b d) c) F on p = rw e (step_if R below v b d F r p)
  by_code n e (step a (call q es) c) F on p = rw e (step_call R below q es F on r p)
  by_code n e (step a (atomic b) c) F on p = rw e (step_atomic R below F r p)
  by_code n e (step a (select x y) c) F on p = lacking p

  -- a step of the thread is done by the procedure of its label, for its price
  pub step_thread : (c : Block ℕ) → FrameSound W m ρ c → Chained W m c s
      → thread W.source.procs i (record { proc = m; env = ρ; code = c } ∷ s) η ≡ has r
      → Stepped W i η' m (first (W.S.ends m) c) (price W.source i (record { proc = m; env = ρ; code = c } ∷ s) η) r
  step_thread c F on p = by_code (locals_of (at W.source.procs m)) (locals_of_lem W m F.proc.0 F.proc.1) c F on p

-- ---- states

module _ (W : World) where
  -- the copy's memory η' mirrors the state st: report RR-2017-03, figure 13
  pub record Mirrors (st : State) (η' : Memory) : Type 0 where
    pub shared : take W.S.h η' ≡ st.memory
    pub shaped : shape η' ≡ W.S.Z
    pub count : length st.threads ≡ W.S.T
    pub label : (i : ℕ) (s : Stack ℕ) → at st.threads i ≡ is s → cell η' W.S.G.pct i ≡ number (label_by W.S.ends s)
    pub kept : (i : ℕ) (s : Stack ℕ) → at st.threads i ≡ is s → AllKept W.S.G W.S.N W.S.L (label_by W.S.ends) (column η' i) s
    pub sound : (i : ℕ) (s : Stack ℕ) → at st.threads i ≡ is s → StackSound W s
    pub proper : (i : ℕ) (s : Stack ℕ) → at st.threads i ≡ is s → AllProper W.S.h s
    pub proper_memory : ProperMemory W.S.h st.memory
    pub linked : (i : ℕ) (s : Stack ℕ) → at st.threads i ≡ is s → Linked W.source.procs W.bytes s

module _ {W : World} {st : State} {η' : Memory} (M : Mirrors W st η') where
  -- the running thread
  pub mirrors_rep : (i : ℕ) (m : ℕ) (ρ : Env) (c : Block ℕ) (s : Stack ℕ) → at st.threads i ≡ is (record { proc = m; env = ρ; code = c } ∷ s)
      → Rep W.S i η' m s ρ st.memory η'
  mirrors_rep i m ρ c s e = record {
    thread = rw M.count at (at_below st.threads i e);
    shared = M.shared;
    shaped = M.shaped;
    top = (M.kept i _ e).0;
    below = (M.kept i _ e).1;
    chain = λ k runs.
        let K = M.linked i _ e in
        down (W.reached k m (reach_top W.source.procs W.bytes m s k K.1 K.2 runs));
    others = λ l j ne h. refl;
  }

  -- after its step
  pub mirrors_step : (i : ℕ) (s : Stack ℕ) → at st.threads i ≡ is s → (r : Stack ℕ) (η η'' : Memory) → After W i η' r η η'' → StackSound W r
      → AllProper W.S.h r → ProperMemory W.S.h η → Linked W.source.procs W.bytes r
      → Mirrors W (record { threads = set st.threads i r; memory = η }) η''
  mirrors_step i s e r η η'' A F pr pη chain = record {
    shared = A.shared;
    shaped = A.shaped;
    count = length-set st.threads i r ∙ M.count;
    label = λ j o p. elim (ℕ_discrete j i) [
      | yes q ↦ rw (q, ← mine j o p q) A.label
      | no ne ↦ A.others W.S.G.pct j ne W.S.private.pct ∙ M.label j o (other j o p ne)
    ];
    kept = λ j o p. elim (ℕ_discrete j i) [
      | yes q ↦ rw (q, ← mine j o p q) A.kept
      | no ne ↦ all_alike W.S.G W.S.N W.S.L (label_by W.S.ends) o
          (λ k in_n t.
          record {
            from = A.others (W.S.G.from k) j ne (W.S.private.from k);
            home = λ y b. A.others (W.S.G.home k y) j ne
                (W.S.private.home k y);
          })
          (M.kept j o (other j o p ne))
    ];
    sound = λ j o p. elim (ℕ_discrete j i) [
      | yes q ↦ rw (← mine j o p q) F
      | no ne ↦ M.sound j o (other j o p ne)
    ];
    proper = λ j o p. elim (ℕ_discrete j i) [
      | yes q ↦ rw (← mine j o p q) pr
      | no ne ↦ M.proper j o (other j o p ne)
    ];
    proper_memory = pη;
    linked = λ j o p. elim (ℕ_discrete j i) [
      | yes q ↦ rw (← mine j o p q) chain
      | no ne ↦ M.linked j o (other j o p ne)
    ];
  }
    where
      other : (j : ℕ) (o : Stack ℕ) → at (set st.threads i r) j ≡ is o → j ≢ i → at st.threads j ≡ is o
      other j o p ne = sym (at_set_other st.threads i j r ne) ∙ p

      mine : (j : ℕ) (o : Stack ℕ) → at (set st.threads i r) j ≡ is o → j ≡ i → r ≡ o
      mine j o p q = is_inj (sym (at_set_same st.threads i r (at_below st.threads i e)) ∙ (rw q at p))

  -- what select stores in ptid is no thread's
  pub mirrors_ptid : (v : Value) → Mirrors W st (stored η' W.S.G.ptid 0 v)
  mirrors_ptid v = record {
    shared = take_stored_above W.S.h η' ptid 0 v W.S.private.ptid ∙ M.shared;
    shaped = shape_stored η' ptid 0 v ∙ M.shaped;
    count = M.count;
    label = λ j o p. cell_elsewhere η' ptid 0 v W.S.G.pct j W.S.apart.pct_ptid ∙ M.label j o p;
    kept = λ j o p. all_alike W.S.G W.S.N W.S.L (label_by W.S.ends) o
        (λ k in_n t. record {
          from = cell_elsewhere η' ptid 0 v (W.S.G.from k) j (W.S.apart.from_ptid k);
          home = λ y b. cell_elsewhere η' ptid 0 v (W.S.G.home k y) j (W.S.apart.home_ptid k y);
        })
        (M.kept j o p);
    sound = M.sound;
    proper = M.proper;
    proper_memory = M.proper_memory;
    linked = M.linked;
  }
    where
      ptid : ℕ
      ptid = W.S.G.ptid

  -- by rule 7, a thread calls no procedure that runs in it
  pub mirrors_acyclic : (t m : ℕ) (ρ : Env) (c : Block ℕ) (s : Stack ℕ) → at st.threads t ≡ is (record { proc = m; env = ρ; code = c } ∷ s)
      → NoCycle m c s
  mirrors_acyclic t m ρ c s mine a q es d e =
      let K = M.linked t _ mine in
      no_cycle_lem W.source.procs W.bytes W.acyclic m q s (K.0.calls q (rw e here)) K.1 K.2

  -- and what it calls is on one call path with each that runs
  pub mirrors_chained : (t m : ℕ) (ρ : Env) (c : Block ℕ) (s : Stack ℕ) → at st.threads t ≡ is (record { proc = m; env = ρ; code = c } ∷ s)
      → Chained W m c s
  mirrors_chained t m ρ c s mine a q es d e k runs =
      let K = M.linked t _ mine in
      let calls : In q (callees_of W.source.procs m) = K.0.calls q (rw e here) in
      down (W.reached k q
      (either_passed (eqb k m) _ runs
      (λ p. rw (eqb-true k m p) (direct calls))
      (λ p. reach_on (reach_top W.source.procs W.bytes m s k K.1 K.2 p) calls)))

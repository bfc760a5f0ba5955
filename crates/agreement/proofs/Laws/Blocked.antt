-- A step that the program cannot do, the copy cannot do either, and for the same reason: the other half of the simulation of instructions.
use Rattle.std.specs.Prelude.{ℕ, zero, suc, ◌≤◌, ◌≡◌, refl, List, [], ◌∷◌, ◌++◌, Bool, true, false, length, eqb}
use Rattle.std.proofs.Common.{arith, sym, ap, ◌∙◌}
use Rattle.std.proofs.Math.Bool as B
use Rattle.value.specs.Maybe.{is, both, either, pick}
use Rattle.value.specs.Try.{Try, has, lacks, ◌⟫◌, provided, or_lacks}
use Rattle.value.specs.Lists.{all, at}
use Rattle.value.specs.declared.Value.{Value}
use Rattle.value.specs.declared.Reason.{Reason}
use Rattle.value.specs.declared.Reason.TheVariants.{WrongKind}
use Rattle.value.proofs.Laws.Maybes.{when_is}
use Rattle.value.proofs.Laws.Tries.{lacks_inj, lacking}
use Rattle.value.proofs.Laws.Tests.{both_passed, never}
use Rattle.format.specs.Syntax.{Expr, Instr, assign, write, read, while, if, call, atomic, select, Block, end, step, ◌⊕◌, Proc, Plain}
use Rattle.format.specs.Labels.{first}
use Rattle.format.specs.Rules.{Here, known, takes}
use Rattle.format.proofs.Laws.Names.{takes?}
use Rattle.format.proofs.Laws.Procs.{takes_at}
use Rattle.translation.specs.Code.{inside, inside_i}
use Rattle.translation.specs.Translate.{simulating}
use Rattle.translation.proofs.Laws.Exprs.{known_mentions}
use Rattle.semantics.specs.Memory.{Env, eval, evals, Memory, Event}
use Rattle.value.specs.Values.{truth}
use Rattle.semantics.specs.Step.{Stack, Moved, entered, instr, runs}
use Rattle.semantics.specs.Threads as P
use Rattle.agreement.proofs.Laws.Accesses.{indexed, pointed, last_link, alike, access_last}
use Rattle.agreement.proofs.Laws.Reps.{Rep}
use Rattle.agreement.proofs.Laws.Instrs.{Ready, run_choice, size_branch}
use Rattle.agreement.proofs.Laws.Halts.{Halted, halt_assigns, halt_reads, halt_writes, halt_choice, halt_tests, halt_calls}
use Rattle.agreement.proofs.Laws.Proper.{ProperEnv, ProperMemory, pointed_proper}
use Rattle.agreement.proofs.Laws.Frames.{World, Entry, Fit, FrameSound, Chained, fit_first, fit_named, fit_allowed, fit_next, fit_if}
use Rattle.agreement.proofs.Laws.Steps.{Simply, simply_assign, simply_read, simply_write, known_one}
use Rattle.agreement.proofs.Laws.Atomics.{inner, branch_tail, fit_atomic}
use Rattle.agreement.proofs.Laws.ProperSteps.{AllProper, ProperMoved, proper_instr, Simple, simple_assign, simple_read, simple_write}

module _ {W : World} {w : Here} {l i : ℕ} {K : Stack Plain} {ts : List ℕ} {η₀ : Memory} {m : ℕ} {s : Stack ℕ} {ρ : Env} {η η' : Memory} {a : ℕ}
    {c : Block ℕ}
    (R : Rep W.S i η₀ m s ρ η η') (pρ : ProperEnv W.S.h ρ) {r : Reason} (z : Stack ℕ) (evs : List Event) (Y : Block Plain) where
  -- the copy's code for an assignment, a read or a write stops where the program's instruction is blocked
  pub halt_simply : (ins : Instr ℕ) → Simple ins → Fit W w m ρ (step a ins c) → instr W.source.procs i l m ρ a ins c z η ≡ lacks r
      → (n : ℕ) × Ready W.S W.procs (Halted W.S.h W.procs r ts) l i K ts i m n (inside_i W.S.G m (W.S.L m) ins Y) η' evs
  halt_simply (assign x e) simple_assign F p =
      let q = when_is (known F.known e) _ (fit_first F).1 in
      (_, halt_assigns R evs Y x e (known_one F.known ρ e F.set q.0) (last_link (eval ρ e) _ p))
  halt_simply (read x y o) simple_read F p =
      let q = when_is (both (F.known y) (known F.known o)) _ (fit_first F).1 in
      let q' = both_passed (F.known y) (known F.known o) q.0 in (
        _,
        halt_reads R evs Y y (λ b e. pointed_proper W.S.h ρ y b pρ e) x o (known_one F.known ρ o F.set q'.1) (F.set y q'.0).1
            (access_last (indexed ρ o) (pointed ρ y) η _ p),
      )
  halt_simply (write y o e) simple_write F p =
      let q = when_is (both (F.known y) (both (known F.known o) (known F.known e))) _ (fit_first F).1 in
      let q' = both_passed (F.known y) (both (known F.known o) (known F.known e)) q.0 in
      let q'' = both_passed (known F.known o) (known F.known e) q'.1 in (
        _,
        halt_writes R evs Y y (λ b r. pointed_proper W.S.h ρ y b pρ r) o e (known_one F.known ρ e F.set q''.1)
            (known_one F.known ρ o F.set q''.0) (F.set y q'.0).1
            (alike (eval ρ e) _ _ (λ v q. access_last (indexed ρ o) (pointed ρ y) η _ q) p),
      )
  halt_simply (while _ _) x5 F p = elim x5 [ ]
  halt_simply (if _ _ _) x7 F p = elim x7 [ ]
  halt_simply (call _ _) x7 F p = elim x7 [ ]
  halt_simply (atomic _) x7 F p = elim x7 [ ]
  halt_simply (select _ _) x9 F p = elim x9 [ ]

-- an instruction counts
size_i_some : (ins : Instr ℕ) → 1 ≤ P.size_i ins
size_i_some (assign x e) = omega arith
size_i_some (write y o e) = omega arith
size_i_some (read x y o) = omega arith
size_i_some (while e b) = omega arith
size_i_some (if e b c) = omega arith
size_i_some (call m es) = omega arith
size_i_some (atomic b) = omega arith
size_i_some (select x y) = omega arith

module _ (W : World) (l i : ℕ) (K : Stack Plain) (r : Reason) (ts : List ℕ) (η₀ : Memory) (m : ℕ) (s : Stack ℕ) where
  -- the code b stops, for the reason r
  abbrev Halts : Block Plain → Memory → List Event → Type 0
  Halts b η' evs = (n : ℕ) × Ready W.S W.procs (Halted W.S.h W.procs r ts) l i K ts i m n b η' evs

  -- an assignment, a read or a write of a block, and then the rest
  halt_one : {ρ : Env} {η η' : Memory} {a : ℕ} {c : Block ℕ} (n : ℕ) (old evs : List Event) (Y : Block Plain) (R : Rep W.S i η₀ m s ρ η η')
      → ProperEnv W.S.h ρ → ProperMemory W.S.h η
      → (ins : Instr ℕ) → Simple ins → (F : Fit W (inner m) m ρ (step a ins c))
      → ((o : Moved ℕ) → instr W.source.procs i l m ρ a ins c [] η ≡ has o → Simply W i l η₀ m s [] η' ins c (fit_first F).0 o)
      → ((ρ₁ : Env) (η₁ η₁' : Memory) (old evs : List Event) → Rep W.S i η₀ m s ρ₁ η₁ η₁' → Fit W (inner m) m ρ₁ c → ProperEnv W.S.h ρ₁
      → ProperMemory W.S.h η₁
      → P.to_end W.source.procs i l n (record { proc = m; env = ρ₁; code = c } ∷ []) η₁ old ≡ lacks r
      → Halts (inside W.S.G m (W.S.L m) c Y) η₁' evs)
      → (instr W.source.procs i l m ρ a ins c [] η ⟫ λ o. P.to_end W.source.procs i l n o.stack o.memory (old ++ o.events)) ≡ lacks r
      → Halts (inside_i W.S.G m (W.S.L m) ins (inside W.S.G m (W.S.L m) c Y)) η' evs
  halt_one {ρ} {η} {η'} {a} {c} n old evs Y R pρ pη ins kind F does ih e = go (instr W.source.procs i l m ρ a ins c [] η) refl e
    where
      go : (o : Try (Moved ℕ)) → instr W.source.procs i l m ρ a ins c [] η ≡ o
          → (o ⟫ λ o. P.to_end W.source.procs i l n o.stack o.memory (old ++ o.events)) ≡ lacks r
          → Halts (inside_i W.S.G m (W.S.L m) ins (inside W.S.G m (W.S.L m) c Y)) η' evs
      go (lacks q) p e = halt_simply R pρ [] evs (inside W.S.G m (W.S.L m) c Y) ins kind F (p ∙ ap lacks (lacks_inj e))
      go (has o) p e =
          let y = does o p in
          let pr : ProperMoved W.S.h o = proper_instr W i l m ρ a c [] η F.full pρ tt pη ins (fit_named F).0 o p in
          let pρ₁ : AllProper W.S.h (record { proc = m; env = y.ρ₁; code = c } ∷ []) = rw y.stack at pr.0 in
          let g
          = ih y.ρ₁ o.memory y.η₁' (old ++ o.events) (evs ++ o.events) y.rep
          (fit_next F y.ρ₁ (y.rep.top.full ∙ sym R.top.full) y.set) pρ₁.0 pr.1 (rw y.stack at e) in
          (_, y.runs (Halted W.S.h W.procs r ts) K ts evs g.0 (inside W.S.G m (W.S.L m) c Y) g.1)

  -- the copy's code for a block stops where the block is blocked
  pub halt_block : (n : ℕ) (c : Block ℕ) {ρ : Env} {η η' : Memory} (old evs : List Event) (Y : Block Plain) (R : Rep W.S i η₀ m s ρ η η')
      → Fit W (inner m) m ρ c → ProperEnv W.S.h ρ → ProperMemory W.S.h η
      → P.size c ≤ n → P.to_end W.source.procs i l n (record { proc = m; env = ρ; code = c } ∷ []) η old ≡ lacks r
      → Halts (inside W.S.G m (W.S.L m) c Y) η' evs
  halt_block zero end old evs Y R F pρ pη h e = lacking (sym e)
  halt_block zero (step a ins c) old evs Y R F pρ pη h e = absurd (omega (arith, size_i_some ins))
  halt_block (suc n) end old evs Y R F pρ pη h e = lacking (sym e)
  halt_block (suc n) (step a (assign x v) c) old evs Y R F pρ pη h e =
      halt_one n old evs Y R pρ pη (assign x v) simple_assign F (simply_assign R [] x v F)
      (λ ρ₁ η₁ η₁' old₁ evs₁ R₁ H q₁ q₂ p. halt_block n c old₁ evs₁ Y R₁ H q₁ q₂ (omega arith) p) e
  halt_block (suc n) (step a (read x y o) c) old evs Y R F pρ pη h e =
      halt_one n old evs Y R pρ pη (read x y o) simple_read F (simply_read R [] x y o F)
      (λ ρ₁ η₁ η₁' old₁ evs₁ R₁ H q₁ q₂ p. halt_block n c old₁ evs₁ Y R₁ H q₁ q₂ (omega arith) p) e
  halt_block (suc n) (step a (write y o v) c) old evs Y R F pρ pη h e =
      halt_one n old evs Y R pρ pη (write y o v) simple_write F (simply_write R [] y o v F)
      (λ ρ₁ η₁ η₁' old₁ evs₁ R₁ H q₁ q₂ p. halt_block n c old₁ evs₁ Y R₁ H q₁ q₂ (omega arith) p) e
  halt_block (suc n) (step a (if v b d) c) {ρ} {η} {η'} old evs Y R F pρ pη h e =
      go (λ t p. halt_block n (pick t b d ⊕ c) (old ++ []) evs Y R (fit_if t F).0 pρ pη (omega (arith, size_branch t b d c)) p)
      (eval ρ v ⟫ truth) refl e
    where
      K' : (u : Bool) → known F.known v ≡ true
      K' u = (when_is (known F.known v) _ (fit_first F).1).0

      go : ((t : Bool) → P.to_end W.source.procs i l n (record { proc = m; env = ρ; code = pick t b d ⊕ c } ∷ []) η (old ++ []) ≡ lacks r
          → Halts (inside W.S.G m (W.S.L m) (pick t b d ⊕ c) Y) η' evs)
          → (t : Try Bool) → (eval ρ v ⟫ truth) ≡ t
          → ((t ⟫ λ q. has (record { stack = record { proc = m; env = ρ; code = pick q b d ⊕ c } ∷ []; memory = η; events = [] })) ⟫ λ
          (o : Moved ℕ). P.to_end W.source.procs i l n o.stack o.memory (old ++ o.events)) ≡ lacks r
          → Halts (inside W.S.G m (W.S.L m) (step a (if v b d) c) Y) η' evs
      go ih (lacks q) p e = (
        _,
        halt_choice R evs (inside W.S.G m (W.S.L m) c Y) v (inside W.S.G m (W.S.L m) b end) (inside W.S.G m (W.S.L m) d end)
            (known_one F.known ρ v F.set (K' true)) (p ∙ ap lacks (lacks_inj e)),
      )
      go ih (has t) p e =
          let g = ih t e in (
            _,
            run_choice R {r = g.0} (inside W.S.G m (W.S.L m) b end) (inside W.S.G m (W.S.L m) d end)
                (inside W.S.G m (W.S.L m) c Y) v t
                (known_one F.known ρ v F.set (K' true)) p
                (rw (branch_tail W.S.G m (W.S.L m) t b d c Y) g.1),
          )
  halt_block (suc n) (step a (while v b) c) old evs Y R F pρ pη h e = absurd (never (fit_allowed F).0)
  halt_block (suc n) (step a (call q es) c) old evs Y R F pρ pη h e = absurd (never (fit_allowed F).0)
  halt_block (suc n) (step a (atomic b) c) old evs Y R F pρ pη h e = absurd (never (fit_allowed F).0)
  halt_block (suc n) (step a (select x y) c) old evs Y R F pρ pη h e = absurd (never (fit_allowed F).0)

-- ---- the code of the top frame

-- the copy's procedure of label l, of procedure m, stops for the reason r
pub record Stops (W : World) (i : ℕ) (η' : Memory) (m l : ℕ) (r : Reason) : Type 0 where
  pub body : Block Plain
  pub found : at W.procs l ≡ is (simulating (W.S.L m) body)
  pub halts : (K : Stack Plain) (ts : List ℕ) (evs : List Event)
      → (n : ℕ) × Ready W.S W.procs (Halted W.S.h W.procs r ts) l i K ts i m n body η' evs

-- a call that the frame of m, above s, begins with is of no procedure that runs
abbrev pub NoCycle : ℕ → Block ℕ → Stack ℕ → Type 0
NoCycle m c s = (a q : ℕ) (es : List Expr) (d : Block ℕ) → c ≡ step a (call q es) d → either (eqb q m) (runs q s) ≡ false

module _ {W : World} {i : ℕ} {η' : Memory} {m : ℕ} {s : Stack ℕ} {ρ : Env} {η : Memory} (R : Rep W.S i η' m s ρ η η') (pρ : ProperEnv W.S.h ρ)
    (pη : ProperMemory W.S.h η) {r : Reason} where
  -- where the program's thread is blocked, the copy's procedure stops, for its reason
  pub stop_code : (c : Block ℕ) → FrameSound W m ρ c → NoCycle m c s → Chained W m c s → P.code W.source.procs i c m ρ s η ≡ lacks r
      → Stops W i η' m (first (W.S.ends m) c) r
  stop_code end F free on p = lacking (sym p)
  stop_code (step a (assign x e) c) F free on p =
      record { body = _; found = F.coded.0; halts = λ K ts evs. halt_simply R pρ s evs _ (assign x e) simple_assign F.fit p }
  stop_code (step a (write y o e) c) F free on p =
      record { body = _; found = F.coded.0; halts = λ K ts evs. halt_simply R pρ s evs _ (write y o e) simple_write F.fit p }
  stop_code (step a (read x y o) c) F free on p =
      record { body = _; found = F.coded.0; halts = λ K ts evs. halt_simply R pρ s evs _ (read x y o) simple_read F.fit p }
  stop_code (step a (while e b) c) F free on p =
      let q = when_is (known F.fit.known e) _ (fit_first F.fit).1 in
      record {
        body = _;
        found = F.coded.0;
        halts =
            λ K ts evs. (
              _,
              halt_tests R evs end e (first a b) (first (W.S.ends m) c) (known_one F.fit.known ρ e F.fit.set q.0)
                  (last_link (eval ρ e ⟫ truth) _ p),
            );
      }
  stop_code (step a (if e b d) c) F free on p =
      let q = when_is (known F.fit.known e) _ (fit_first F.fit).1 in
      record {
        body = _;
        found = F.coded.0;
        halts =
            λ K ts evs. (
              _,
              halt_tests R evs end e (first (first (W.S.ends m) c) b) (first (first (W.S.ends m) c) d)
                  (known_one F.fit.known ρ e F.fit.set q.0)
                  (last_link (eval ρ e ⟫ truth) _ p),
            );
      }
  stop_code (step a (call q es) c) F free on p =
      let n = both_passed (takes W.source.procs q (length es)) _ (fit_named F.fit).0 in
      let there : (o : Proc ℕ) × (at W.source.procs q ≡ is o) × (o.params ≡ length es)
      = takes_at W.source.procs q (length es) ((takes? W.source.procs q (length es)).so n.0) in
      let E : Entry W.S W.source W.procs W.begin q there.0 = W.entries q there.0 there.1 in
      let count : there.0.params ≡ length es = there.2 in
      let k = when_is (all (known F.fit.known) es) _ (fit_first F.fit).1 in
      let new : either (eqb q m) (runs q s) ≡ false = free a q es c refl in
      let none : evals ρ es ≡ lacks r = no_values (evals ρ es) there.0 there.1 new p in
      record {
        body = _;
        found = F.coded.0;
        halts = λ K ts evs.
            halt_calls q E.in_n new (on a q es c refl) R es (W.begin q) (first (W.S.ends m) c)
            (λ x e. F.fit.set x (known_mentions F.fit.known es k.0 x e)) none
            (omega (arith, E.params, E.size));
      }
    where
      called : Proc ℕ → List Value → Moved ℕ
      called o vs = record { stack = entered q o vs ∷ record { proc = m; env = ρ; code = c } ∷ s; memory = η; events = [] }

      no_values : (vs : Try (List Value)) (o : Proc ℕ) → at W.source.procs q ≡ is o → either (eqb q m) (runs q s) ≡ false
          → (vs ⟫ λ vs. or_lacks WrongKind (at W.source.procs q) ⟫ λ o. provided (B.not (either (eqb q m) (runs q s))) WrongKind (called o vs))
          ≡ lacks r → vs ≡ lacks r
      no_values (has vs) o e f p = let done : has (called o vs) ≡ lacks r = rw (e, f) at p in lacking (sym done)
      no_values (lacks q) o e f p = ap lacks (lacks_inj p)
  stop_code (step a (atomic b) c) F free on p =
      let H : Fit W (inner m) m ρ b = fit_atomic F.fit in
      record {
        body = _;
        found = F.coded.0;
        halts =
            λ K ts evs.
            halt_block W a i K r ts η' m s (P.size b) b [] evs _ R H pρ pη (omega arith)
            (last_link (P.to_end W.source.procs i a (P.size b) (record { proc = m; env = ρ; code = b } ∷ []) η []) _ p);
      }
  stop_code (step a (select x y) c) F free on p =
      let z : ◌≡◌ {A = Bool} false true = (fit_allowed F.fit).0 in let z' : ◌≡◌ {A = ℕ} 0 1 = cc in absurd (omega arith)

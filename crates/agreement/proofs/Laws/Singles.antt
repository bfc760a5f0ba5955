-- Single rounds, as Follows needs them: what a step costs is bounded, and where the program is blocked the copy is.
use Rattle.std.specs.Prelude.{ℕ, zero, suc, ◌+◌, ◌*◌, ◌≤◌, ◌<◌, ◌≡◌, refl, List, [], ◌∷◌, true, false, replicate, pos}
use Rattle.std.proofs.Common.{arith, ne_eqb, le-ltb}
use Rattle.std.proofs.Math.Decide.{ℕ_discrete}
use Rattle.std.proofs.lemmas.List.{length-replicate}
use Rattle.value.specs.Maybe.{Maybe, is, nothing}
use Rattle.value.specs.Try.{has, lacks}
use Rattle.value.specs.Lists.{at}
use Rattle.value.specs.declared.Value.{Value}
use Rattle.value.specs.declared.Value.TheVariants.{Whole, Location, Truth}
use Rattle.value.specs.declared.Reason.{Reason}
use Rattle.value.specs.declared.Reason.TheVariants.{FinishedThread}
use Rattle.value.proofs.Laws.Tests.{both_passed}
use Rattle.value.proofs.Laws.Tries.{lacks_inj}
use Rattle.format.specs.Syntax.{constant, local, assign, call, Block, end, ◌⊕◌, Proc, Plain, step}
use Rattle.format.specs.Labels.{first}
use Rattle.format.specs.Rules.{allowed, allowed_i}
use Rattle.translation.specs.Layout.{locals_of}
use Rattle.translation.specs.Code.{◌then◌, loc, tmp}
use Rattle.translation.specs.Translate.{simulating, for_each, switch, terminated, round, loop}
use Rattle.semantics.specs.Memory.{Env, Memory, cell, stored, Event}
use Rattle.semantics.specs.Step.{Stack}
use Rattle.semantics.specs.Threads as P
use Rattle.semantics.specs.Copy.{Config}
use Rattle.semantics.proofs.Laws.Cells.{cell_stored, cell_there}
use Rattle.agreement.specs.Price.{price, instr_price}
use Rattle.agreement.proofs.Laws.Runs.{frame, config, Runs, ends_here, run_assign, run_read_own, run_if, run_call}
use Rattle.agreement.proofs.Laws.Halts.{Halted}
use Rattle.agreement.proofs.Laws.Frames.{World, FrameSound, plain}
use Rattle.agreement.proofs.Laws.Linked.{Brief}
use Rattle.agreement.proofs.Laws.Cheap.{instr_cheap}
use Rattle.agreement.proofs.Laws.Blocked.{Stops, stop_code}
use Rattle.agreement.proofs.Laws.Mirrors.{Mirrors, mirrors_acyclic, mirrors_chained, mirrors_rep, mirrors_ptid}
use Rattle.agreement.proofs.Laws.Round.{zeroth, same_yes, same_no, asked, switch_tail, Zeroth, label_positive, run_select, entered_own}
use Rattle.agreement.proofs.Laws.Follows.{Stuck, Bounded, left_by}

-- the switch, as far as the call of label l, from where at most B steps are left
module _ (h : ℕ) (procs : List (Proc Plain)) {Q : Config → Type 0} {ts : List ℕ} {t : ℕ} {evs : List Event} {η : Memory} (i l : ℕ)
    (tm te : Maybe Value) where
  run_to_call : (B k j : ℕ) (c : Block Plain) → j ≤ l → l < j + k
      → ((d : Block Plain) → (n : ℕ) × (n ≤ B) ×
      Runs h procs Q n (config (frame 0 (zeroth i tm l te) (call l (local 0 ∷ []) then d) ∷ []) η ts t evs))
      → (o : ℕ) × (o ≤ k + B) × Runs h procs Q o (config (frame 0 (zeroth i tm l te) (switch j k c) ∷ []) η ts t evs)
  run_to_call B zero j c lo hi f = absurd (omega arith)
  run_to_call B (suc k) j c lo hi f = elim (ℕ_discrete l j) [
    | yes e ↦
        let g = f (switch (suc l) k c) in
        (suc g.0, omega (arith, g.1), run_if h procs {n = g.0} true (rw (← e, same_yes l)) (rw (← e) g.2))
    | no ne ↦
        let g = run_to_call B k (suc j) c (omega arith) (omega arith) f in
        (suc g.0, omega (arith, g.1), run_if h procs {n = g.0} false (rw (same_no l j ne)) g.2)
  ]

module _ (W : World) (mains : List ℕ) (L : ℕ) (Z : Zeroth W mains L) (Y : ℕ)
    (short : (l : ℕ) (q : Proc Plain) → at W.procs l ≡ is q → P.size q.body ≤ Y) where
  module _ {st : P.State} {η' : Memory} (M : Mirrors W st η') (t : ℕ) where
    -- a finished thread is not selected: its label is 0, which gives 4
    stuck_finished : at st.threads t ≡ is [] → (a b d : Maybe Value) (ts : List ℕ) (last : ℕ) (evs : List Event)
        → Stuck W (L + 2 * W.S.T + 10 + Y) FinishedThread (t ∷ ts)
        (config (frame 0 (a ∷ b ∷ d ∷ is (Truth false) ∷ []) (round W.S.G mains L ⊕ loop W.S.G mains L) ∷ []) η' (t ∷ ts) last evs)
    stuck_finished e a b d ts last evs =
        record { steps = 0; few = omega arith; runs = ends_here (record { blocks = rw (M.label t [] e); left = refl; apart = refl }) }

    -- another is, and its procedure stops, for the reason of the program's step
    stuck_inside : {why : Reason} (m : ℕ) (ρ : Env) (c : Block ℕ) (s : Stack ℕ) → (mine : at st.threads t ≡ is (record { proc = m; env = ρ; code = c } ∷ s))
        → P.thread W.source.procs t (record { proc = m; env = ρ; code = c } ∷ s) st.memory ≡ lacks why
        → (a b d : Maybe Value) (ts : List ℕ) (last : ℕ) (evs : List Event)
        → Stuck W (L + 2 * W.S.T + 10 + Y) why ts
        (config (frame 0 (a ∷ b ∷ d ∷ is (Truth false) ∷ []) (round W.S.G mains L ⊕ loop W.S.G mains L) ∷ []) η' (t ∷ ts) last evs)
    stuck_inside {why} m ρ c s mine none a b d ts last evs =
        let h : ℕ = W.S.h in
        let l : ℕ = first (W.S.ends m) c in
        let pct : ℕ = W.S.G.pct in
        let ptid : ℕ = W.S.G.ptid in
        let η₁ : Memory = stored η' ptid 0 (Whole (pos t)) in
        let M₁ : Mirrors W st η₁ = mirrors_ptid M (Whole (pos t)) in
        let F : FrameSound W m ρ c = (M.sound t _ mine).0 in
        let range : (1 ≤ l) × (l < suc L) = label_positive W mains L Z m ρ c F in
        let S : Stops W t η₁ m l why
        = stop_code (mirrors_rep M₁ t m ρ c s mine) (M.proper t _ mine).0 M.proper_memory c F (mirrors_acyclic M t m ρ c s mine)
        (mirrors_chained M t m ρ c s mine) none in
        let there : (u : Value) × (cell η' ptid 0 ≡ has u) = cell_there η' ptid 0 {n = 1} (rw M.shaped W.S.rows.ptid) (omega arith) in
        let last₁ : Block Plain = assign terminated (constant (Truth true)) then assign tmp (loc pct) then for_each asked 0 mains end in
        let to-call
        = run_to_call h W.procs {Q = Halted h W.procs why ts} {ts = ts} {t = t} {evs = evs} {η = η₁} t l (is (Location pct))
        (is (Truth false)) (suc (suc Y)) L 1
        (last₁ ⊕ loop W.S.G mains L) range.0 (omega (arith, range.1))
        (λ d.
        let K : Stack Plain = frame 0 (zeroth t (is (Location pct)) l (is (Truth false))) d ∷ [] in
        let g = S.halts K ts evs in (
          suc g.0,
          omega (arith, g.1.few, short l _ S.found),
          run_call h W.procs (Whole (pos t) ∷ []) (simulating (W.S.L m) S.body) refl S.found
              (rw (ne_eqb l 0 (λ e. absurd (omega (arith, range.0)))))
              (rw (entered_own W mains L t (W.S.L m))
              (g.1.go nothing nothing (replicate (W.S.L m) nothing) (length-replicate (W.S.L m) nothing))),
        )) in
        record {
          steps = suc (suc (suc (suc (suc to-call.0))));
          few = omega (arith, to-call.1);
          runs =
              run_select h W.procs ptid pct l (M.label t _ mine) range.0
              (run_assign h W.procs (Location ptid) refl
              (run_read_own h W.procs 0 ptid (Whole (pos t)) refl refl (cell_stored η' ptid 0 (Whole (pos t)) there.1)
              (le-ltb ptid h W.S.private.ptid)
              (run_assign h W.procs (Location pct) refl
              (run_read_own h W.procs t pct (Whole (pos l)) refl refl (M₁.label t _ mine) (le-ltb pct h W.S.private.pct)
              (rw (switch_tail 1 L last₁ (loop W.S.G mains L)) to-call.2)))));
        }

  -- the price of a thread's next step is at most twice the bytes of the table
  cheap : (st : P.State) (η' : Memory) → Mirrors W st η' → (t : ℕ) (s : Stack ℕ) → at st.threads t ≡ is s
      → price W.source t s st.memory ≤ 2 * W.bytes
  cheap st η' M t [] mine = omega arith
  cheap st η' M t (f ∷ s) mine = by f.code (M.linked t _ mine).0.brief (M.sound t _ mine).0.fit.allowed
    where
      n : ℕ
      n = locals_of (at W.source.procs f.proc)

      by : (c : Block ℕ) → Brief W.bytes c → allowed (plain f.proc) c ≡ true
          → ◌≤◌ (elim c [ end ↦ 4 | step a i c ↦ instr_price W.source.procs t a f.proc n f.env st.memory i ]) (2 * W.bytes)
      by end b al = omega (arith, W.some)
      by (step a i c) b al =
          let al₂ = both_passed (allowed_i (plain f.proc) i) (allowed (plain f.proc) c) al in
          omega (arith, b.0, instr_cheap W.source.procs t a f.proc n f.env st.memory i al₂.0)

  -- what Follows asks for
  pub bounded : 2 * W.bytes ≤ Y → Bounded W mains L Z (L + 2 * W.S.T + 10 + Y)
  bounded h = record { fits = omega arith; cheap = cheap; blocks = blocks }
    where
      blocks : (st : P.State) (η' : Memory) → Mirrors W st η' → (t : ℕ) (s : Stack ℕ) → at st.threads t ≡ is s
          → {why : Reason} → P.thread W.source.procs t s st.memory ≡ lacks why
          → (a b d : Maybe Value) (ts : List ℕ) (last : ℕ) (evs : List Event)
          → Stuck W (L + 2 * W.S.T + 10 + Y) why (left_by s t ts)
          (config (frame 0 (a ∷ b ∷ d ∷ is (Truth false) ∷ []) (round W.S.G mains L ⊕ loop W.S.G mains L) ∷ []) η' (t ∷ ts) last evs)
      blocks st η' M t [] mine p a b d ts last evs = rw (← lacks_inj p) (stuck_finished M t mine a b d ts last evs)
      blocks st η' M t (f ∷ s) mine p a b d ts last evs = stuck_inside M t f.proc f.env f.code s mine p a b d ts last evs

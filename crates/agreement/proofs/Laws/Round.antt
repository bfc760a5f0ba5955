-- A round of procedure 0: select, the switch, the call, and the test whether all threads are finished.
use Rattle.std.specs.Prelude.{ℕ, zero, suc, ◌+◌, ◌*◌, ◌-◌, ◌≤◌, ◌<◌, ◌≡◌, refl, ◌≢◌, List, [], ◌∷◌, ◌++◌, map, Bool, true, false, length, set, replicate, pos, leb}
use Rattle.std.proofs.Common.{arith, zero-add, sym, ap, ◌∙◌, ne_eqb, le-ltb, le-leb, leb-true}
use Rattle.std.proofs.Math.Decide.{ℕ_discrete}
use Rattle.std.proofs.lemmas.List.{length-replicate}
use Rattle.value.specs.Maybe.{Maybe, is, nothing, both}
use Rattle.value.specs.Try.{has}
use Rattle.value.specs.Lists.{at}
use Rattle.value.specs.Values.{equal, and}
use Rattle.value.specs.declared.Value.{Value}
use Rattle.value.specs.declared.Value.TheVariants.{Whole, Location, Truth}
use Rattle.value.proofs.Laws.Maybes.{is_inj}
use Rattle.value.proofs.Laws.Tests.{by_test, both_passed}
use Rattle.value.proofs.Laws.Lists.{at_below}
use Rattle.format.specs.Syntax.{constant, local, two, assign, read, call, select, Block, end, step, ◌⊕◌, Proc, Plain}
use Rattle.format.specs.Labels.{first}
use Rattle.translation.specs.Code.{◌then◌, num, loc, tmp}
use Rattle.translation.specs.Translate.{simulating, for_each, switch, stmt, terminated, round, loop}
use Rattle.semantics.specs.Memory.{Env, eval, Memory, cell, stored, Event}
use Rattle.semantics.specs.Step.{Frame, Stack, Moved}
use Rattle.semantics.specs.Threads.{State, thread, done}
use Rattle.semantics.specs.Copy.{Config, running}
use Rattle.semantics.proofs.Laws.Cells.{cell_stored, cell_there}
use Rattle.agreement.specs.Price.{price}
use Rattle.agreement.proofs.Laws.Runs.{frame, config, Runs, stop, before, run_assign, run_read_own, run_if, run_call, run_on, run_steps}
use Rattle.agreement.proofs.Laws.Pieces.{own}
use Rattle.agreement.proofs.Laws.Columns.{number}
use Rattle.agreement.proofs.Laws.Reps.{label_by}
use Rattle.agreement.proofs.Laws.Frames.{World, FrameSound}
use Rattle.agreement.proofs.Laws.Linked.{linked_code}
use Rattle.agreement.proofs.Laws.Steps.{Stepped}
use Rattle.agreement.proofs.Laws.ProperSteps.{ProperMoved, proper_code}
use Rattle.agreement.proofs.Laws.Mirrors.{Mirrors, mirrors_rep, mirrors_step, mirrors_ptid, mirrors_chained, step_thread}

-- ---- equal numbers, as the machine compares them

-- two whole numbers compared
abbrev pub same_number : ℕ → ℕ → Bool
same_number a b = both (leb a b) (leb b a)

-- a number is itself
pub same_yes : (a : ℕ) → same_number a a ≡ true
same_yes a = rw (le-leb a a (omega arith))

-- and no other
pub same_no : (a b : ℕ) → a ≢ b → same_number a b ≡ false
same_no a b ne =
    by_test (same_number a b)
    (λ e. let p = both_passed (leb a b) (leb b a) e in absurd (ne (between (leb-true a b p.0) (leb-true b a p.1))))
    (λ e. e)
  where
    between : a ≤ b → b ≤ a → a ≡ b
    between h k = omega arith

-- the locals of procedure 0: tid, tmp, stmt, terminated
abbrev pub zeroth : ℕ → Maybe Value → ℕ → Maybe Value → Env
zeroth i tm l te = is (Whole (pos i)) ∷ tm ∷ is (Whole (pos l)) ∷ te ∷ []

module _ (h : ℕ) (procs : List (Proc Plain)) {Q : Config → Type 0} {ts : List ℕ} {t : ℕ} where
  -- ---- the switch, at label l

  module _ (i l : ℕ) (tm te : Maybe Value) where
    -- labels other than l
    run_skip : {evs : List Event} {η : Memory} {n : ℕ} (k j : ℕ) (c : Block Plain) → ((o : ℕ) → j ≤ o → o < j + k → l ≢ o)
        → Runs h procs Q n (config (frame 0 (zeroth i tm l te) c ∷ []) η ts t evs)
        → Runs h procs Q (k + n) (config (frame 0 (zeroth i tm l te) (switch j k c) ∷ []) η ts t evs)
    run_skip zero j c ne r = run_steps (omega arith) r
    run_skip {n = n} (suc k) j c ne r = run_steps (omega arith)
        (run_if h procs {n = k + n} false (rw (same_no l j (ne j (omega arith) (omega arith))))
        (run_skip k (suc j) c (λ o p q. ne o (omega arith) (omega arith)) r))

    -- label l among k labels from j on: its call, in p steps, and the others
    pub run_switch : {evs evs' : List Event} {η η' : Memory} {n : ℕ} (p k j : ℕ) (c : Block Plain) → j ≤ l → l < j + k
        → ((c : Block Plain) (n : ℕ) → Runs h procs Q n (config (frame 0 (zeroth i tm l te) c ∷ []) η' ts t evs')
        → Runs h procs Q (p + n) (config (frame 0 (zeroth i tm l te) (call l (local 0 ∷ []) then c) ∷ []) η ts t evs))
        → Runs h procs Q n (config (frame 0 (zeroth i tm l te) c ∷ []) η' ts t evs')
        → Runs h procs Q (k + (p + n)) (config (frame 0 (zeroth i tm l te) (switch j k c) ∷ []) η ts t evs)
    run_switch p zero j c lo hi f r = absurd (omega arith)
    run_switch {n = n} p (suc k) j c lo hi f r = elim (ℕ_discrete l j) [
      | yes e ↦ run_steps (omega arith)
          (run_if h procs {n = p + (k + n)} true (rw (← e, same_yes l))
          (rw (← e) (f (switch (suc l) k c) (k + n) (run_skip k (suc l) c (λ o a b q. absurd (omega arith)) r))))
      | no ne ↦ run_steps (omega arith)
          (run_if h procs {n = k + (p + n)} false (rw (same_no l j ne)) (run_switch p k (suc j) c (omega arith) (omega arith) f r))
    ]

-- ---- are all threads finished

-- b, and each of these threads is at label 0
abbrev flags : (Stack ℕ → ℕ) → Bool → List (Stack ℕ) → Bool
flags label b [] = b
flags label b (s ∷ ss) = flags label (both b (same_number (label s) 0)) ss

-- once false, terminated stays false
flags_false : (label : Stack ℕ → ℕ) (ss : List (Stack ℕ)) → flags label false ss ≡ false
flags_false label [] = refl
flags_false label (s ∷ ss) = flags_false label ss

-- that is whether they are done, if only a finished thread is at label 0
flags_done : (label : Stack ℕ → ℕ) (ss : List (Stack ℕ)) → label [] ≡ 0
    → ((k : ℕ) (f : Frame ℕ) (s : Stack ℕ) → at ss k ≡ is (f ∷ s) → label (f ∷ s) ≢ 0)
    → flags label true ss ≡ done ss
flags_done label [] z ne = refl
flags_done label ([] ∷ ss) z ne = rw z (flags_done label ss z (λ k f s e. ne (suc k) f s e))
flags_done label ((f ∷ s) ∷ ss) z ne = rw (same_no (label (f ∷ s)) 0 (ne 0 f s refl)) (flags_false label ss)

-- whether all were so far, and this one is too: both sides have a value, so that it is `both`, also where the left one decides
flag_value : (i pct l : ℕ) (b : Bool)
    → eval (is (Whole (pos i)) ∷ is (Location pct) ∷ is (Whole (pos l)) ∷ is (Truth b) ∷ []) (two and (local terminated) (two equal (local stmt) (num 0)))
    ≡ has (Truth (both b (same_number l 0)))
flag_value i pct l true = refl
flag_value i pct l false = refl

-- the code of the test
abbrev pub asked : ℕ → ℕ → Block Plain → Block Plain
asked t m c = read stmt tmp (num t) then assign terminated (two and (local terminated) (two equal (local stmt) (num 0))) then c

module _ (h : ℕ) (procs : List (Proc Plain)) {Q : Config → Type 0} {ts : List ℕ} {t : ℕ} {evs : List Event} {η : Memory} {n : ℕ} where
  -- the tests of termination
  run_flags : (pct : ℕ) (label : Stack ℕ → ℕ) (i : ℕ) (c : Block Plain) → h ≤ pct
      → (ms : List ℕ) (ss : List (Stack ℕ)) (j : ℕ) (st : Maybe Value) (b : Bool) → length ms ≡ length ss
      → ((k : ℕ) (s : Stack ℕ) → at ss k ≡ is s → cell η pct (j + k) ≡ number (label s))
      → ((st : Maybe Value)
      → Runs h procs Q n (config (frame 0 (is (Whole (pos i)) ∷ is (Location pct) ∷ st ∷ is (Truth (flags label b ss)) ∷ []) c ∷ []) η ts t evs))
      → Runs h procs Q (2 * length ms + n)
      (config (frame 0 (is (Whole (pos i)) ∷ is (Location pct) ∷ st ∷ is (Truth b) ∷ []) (for_each asked j ms c) ∷ []) η ts t evs)
  run_flags pct label i c above [] [] j st b e at_label k = run_steps (omega arith) (k st)
  run_flags pct label i c above [] (s ∷ ss) j st b e at_label k = absurd (omega arith)
  run_flags pct label i c above (m ∷ ms) [] j st b e at_label k = absurd (omega arith)
  run_flags pct label i c above (m ∷ ms) (s ∷ ss) j st b e at_label k =
      let here : cell η pct j ≡ number (label s) = let z : j + 0 ≡ j = omega arith in rw z at (at_label 0 s refl) in
      run_steps {n = suc (suc (2 * length ms + n))} (omega arith)
      (run_read_own h procs j pct (Whole (pos (label s))) refl refl here (le-ltb pct h above)
      (run_assign h procs (Truth (both b (same_number (label s) 0))) (flag_value i pct (label s) b)
      (run_flags pct label i c above ms ss (suc j) (is (Whole (pos (label s)))) (both b (same_number (label s) 0)) (omega arith)
      (λ o r p. let z : j + suc o ≡ suc j + o = omega arith in rw z at (at_label (suc o) r p)) k)))

-- ---- code before the loop

-- what follows the switch
pub switch_tail : (l k : ℕ) (c y : Block Plain) → switch l k c ⊕ y ≡ switch l k (c ⊕ y)
switch_tail l zero c y = refl
switch_tail l (suc k) c y = rw (switch_tail (suc l) k c y)

-- they stand before what follows
asked_tail : (j : ℕ) (ms : List ℕ) (c y : Block Plain) → for_each asked j ms c ⊕ y ≡ for_each asked j ms (c ⊕ y)
asked_tail j [] c y = refl
asked_tail j (m ∷ ms) c y = rw (asked_tail (suc j) ms c y)

-- ---- select, of a thread at a label other than 0

-- a label that is not 0 is running
running_positive : (l : ℕ) → 1 ≤ l → running (Whole (pos l)) ≡ has (Whole (pos l))
running_positive zero p = absurd (omega arith)
running_positive (suc l) p = refl

-- select takes the next entry
pub run_select : (h : ℕ) (procs : List (Proc Plain)) {Q : Config → Type 0} {n : ℕ} {ρ : Env} {c : Block Plain} {η : Memory} {t : ℕ}
    {ts : List ℕ} {last : ℕ}
    {evs : List Event} (ptid pct l : ℕ)
    → cell η pct t ≡ number l → 1 ≤ l
    → Runs h procs Q n (config (frame 0 ρ c ∷ []) (stored η ptid 0 (Whole (pos t))) ts t evs)
    → Runs h procs Q (suc n) (config (frame 0 ρ (select ptid pct then c) ∷ []) η (t ∷ ts) last evs)
run_select h procs ptid pct l e p k = before k (rw (e, running_positive l p)) refl

-- ---- the round

-- procedure 0 is not a simulating one; the others are numbered by the labels, 1 to L
pub record Zeroth (W : World) (mains : List ℕ) (L : ℕ) : Type 0 where
  pub zero_params : (p : Proc Plain) × (at W.procs 0 ≡ is p) × (p.params ≡ 0)
  pub labels : length W.procs ≡ suc L
  pub threads : length mains ≡ W.S.T

module _ (W : World) (mains : List ℕ) (L : ℕ) where
  -- at the loop head
  abbrev pub head : Maybe Value → Maybe Value → Maybe Value → Bool → Memory → List ℕ → ℕ → List Event → Config
  head a b c q η ts t evs = config (frame 0 (a ∷ b ∷ c ∷ is (Truth q) ∷ []) (loop W.S.G mains L) ∷ []) η ts t evs

  -- at the loop head again, in a state that memory mirrors
  pub record Arrived (st : State) (ts : List ℕ) (t : ℕ) (evs : List Event) (d : Config) : Type 0 where
    pub tid : Maybe Value
    pub tmp : Maybe Value
    pub stmt : Maybe Value
    pub memory' : Memory
    pub mirrors : Mirrors W st memory'
    pub at_head : d ≡ head tid tmp stmt (done st.threads) memory' ts t evs

  -- the label of a thread that is not finished is no 0, and there is a procedure for it
  label_range : Zeroth W mains L → (l : ℕ) {n : ℕ} {b : Block Plain} → at W.procs l ≡ is (simulating n b) → (1 ≤ l) × (l < suc L)
  label_range Z zero {n} {b} e =
      let same : Z.zero_params.0 ≡ simulating n b = is_inj (sym Z.zero_params.1 ∙ e) in
      let z : ◌≡◌ {A = ℕ} 0 1 = sym Z.zero_params.2 ∙ ap (λ (p : Proc Plain). p.params) same in
      absurd (omega arith)
  label_range Z (suc l) e = let p : suc l < length W.procs = at_below W.procs (suc l) e in (omega arith, omega (arith, Z.labels))

  -- the label of a sound frame
  pub label_positive : Zeroth W mains L → (m : ℕ) (ρ : Env) (c : Block ℕ) → FrameSound W m ρ c
      → (1 ≤ first (W.S.ends m) c) × (first (W.S.ends m) c < suc L)
  label_positive Z m ρ end F = label_range Z (W.S.ends m) (W.entries m F.proc.0 F.proc.1).last
  label_positive Z m ρ (step a ins c) F = label_range Z a F.coded.0

  -- the locals of a simulating procedure, as it is entered
  pub entered_own : (i n : ℕ) → map is (Whole (pos i) ∷ []) ++ replicate (suc (suc (suc n)) - 1) nothing ≡ own i nothing nothing (replicate n nothing)
  entered_own i n = let e : suc (suc (suc n)) - 1 ≡ suc (suc n) = omega arith in rw e

  module _ (Z : Zeroth W mains L) {st : State} {η' : Memory} (M : Mirrors W st η') (t : ℕ) (m : ℕ) (ρ : Env) (code₀ : Block ℕ) (s : Stack ℕ)
      (mine : at st.threads t ≡ is (record { proc = m; env = ρ; code = code₀ } ∷ s))
      (r : Moved ℕ) (steps : thread W.source.procs t (record { proc = m; env = ρ; code = code₀ } ∷ s) st.memory ≡ has r) where
    abbrev h : ℕ
    h = W.S.h

    abbrev pct : ℕ
    pct = W.S.G.pct

    abbrev l : ℕ
    l = first (W.S.ends m) code₀

    abbrev η₁ : Memory
    η₁ = stored η' W.S.G.ptid 0 (Whole (pos t))

    M₁ : Mirrors W st η₁
    M₁ = mirrors_ptid M (Whole (pos t))

    F : FrameSound W m ρ code₀
    F = (M.sound t _ mine).0

    stepped : Stepped W t η₁ m l (price W.source t (record { proc = m; env = ρ; code = code₀ } ∷ s) st.memory) r
    stepped = step_thread (mirrors_rep M₁ t m ρ code₀ s mine) (M.sound t _ mine).1 r code₀ F (mirrors_chained M t m ρ code₀ s mine) steps

    abbrev after : State
    after = record { threads = set st.threads t r.stack; memory = r.memory }

    proper : ProperMoved W.S.h r
    proper = proper_code W t m ρ s st.memory (M.proper t _ mine).0 (M.proper t _ mine).1 M.proper_memory code₀ F r steps

    M₂ : Mirrors W after stepped.memory'
    M₂ =
        mirrors_step M₁ t _ mine r.stack r.memory stepped.memory' stepped.after stepped.sound proper.0 proper.1
        (linked_code W.source.procs W.bytes W.brief t m ρ s st.memory code₀ (M.linked t _ mine) r steps)

    abbrev code₁ : Block Plain
    code₁ = assign terminated (constant (Truth true)) then assign tmp (loc pct) then for_each asked 0 mains end

    -- the call of the label's procedure, before other code c
    run_step : {Q : Config → Type 0} (tm te : Maybe Value) (ts : List ℕ) (evs : List Event) (c : Block Plain) (n : ℕ)
        → Runs h W.procs Q n (config (frame 0 (zeroth t tm l te) c ∷ []) stepped.memory' ts t (evs ++ r.events))
        → Runs h W.procs Q ((2 + price W.source t (record { proc = m; env = ρ; code = code₀ } ∷ s) st.memory) + n)
        (config (frame 0 (zeroth t tm l te) (call l (local 0 ∷ []) then c) ∷ []) η₁ ts t evs)
    run_step tm te ts evs c n k =
        let K : Stack Plain = frame 0 (zeroth t tm l te) c ∷ [] in
        let range : (1 ≤ l) × (l < suc L) = label_positive Z m ρ code₀ F in
        run_steps (omega arith)
        (run_call h W.procs {n = suc (price W.source t (record { proc = m; env = ρ; code = code₀ } ∷ s) st.memory) + n} (Whole (pos t) ∷ [])
        (simulating (W.S.L m) stepped.body) refl stepped.found
        (rw (ne_eqb l 0 (λ e. absurd (omega (arith, range.0)))))
        (rw (entered_own t (W.S.L m))
        (run_on ((stepped.runs K ts evs).go nothing nothing (replicate (W.S.L m) nothing) (length-replicate (W.S.L m) nothing)) (λ d e. rw e k))))

    -- a thread of the next state that is not finished is at no label 0
    not_zero : (k : ℕ) (f : Frame ℕ) (o : Stack ℕ) → at after.threads k ≡ is (f ∷ o) → label_by W.S.ends (f ∷ o) ≢ 0
    not_zero k f o e p =
        let range : 1 ≤ first (W.S.ends f.proc) f.code = (label_positive Z f.proc f.env f.code (M₂.sound k (f ∷ o) e).0).0 in
        absurd (omega arith)

    -- from behind the loop's test to the loop head, in the next state
    pub run_round : (a b d e : Maybe Value) (ts : List ℕ) (last : ℕ) (evs : List Event)
        → Runs h W.procs (Arrived after ts t (evs ++ r.events))
        (L + 2 * W.S.T + 9 + price W.source t (record { proc = m; env = ρ; code = code₀ } ∷ s) st.memory)
        (config (frame 0 (a ∷ b ∷ d ∷ e ∷ []) (round W.S.G mains L ⊕ loop W.S.G mains L) ∷ []) η' (t ∷ ts) last evs)
    run_round a b d e ts last evs =
        let p : ℕ = price W.source t (record { proc = m; env = ρ; code = code₀ } ∷ s) st.memory in
        let range : (1 ≤ l) × (l < suc L) = label_positive Z m ρ code₀ F in
        let ptid_there : (u : Value) × (cell η' W.S.G.ptid 0 ≡ has u)
        = cell_there η' W.S.G.ptid 0 {n = 1} (rw M.shaped W.S.rows.ptid) (omega arith) in
        let label₂ : flags (label_by W.S.ends) true after.threads ≡ done after.threads
        = flags_done (label_by W.S.ends) after.threads refl not_zero in
        run_steps {n = suc (suc (suc (suc (suc (L + ((2 + p) + (2 + (2 * length mains + 0))))))))} (omega (arith, Z.threads))
        (run_select h W.procs W.S.G.ptid pct l (M.label t _ mine) range.0
        (run_assign h W.procs (Location W.S.G.ptid) refl
        (run_read_own h W.procs 0 W.S.G.ptid (Whole (pos t)) refl refl (cell_stored η' W.S.G.ptid 0 (Whole (pos t)) ptid_there.1)
        (le-ltb W.S.G.ptid h W.S.private.ptid)
        (run_assign h W.procs (Location pct) refl
        (run_read_own h W.procs t pct (Whole (pos l)) refl refl (M₁.label t _ mine) (le-ltb pct h W.S.private.pct)
        (rw (switch_tail 1 L code₁ (loop W.S.G mains L))
        (run_switch h W.procs t l (is (Location pct)) e (2 + p) L 1 (code₁ ⊕ loop W.S.G mains L) range.0 (omega (arith, range.1))
        (run_step (is (Location pct)) e ts evs)
        (run_steps {n = suc (suc (2 * length mains + 0))} (omega arith)
        (run_assign h W.procs (Truth true) refl
        (run_assign h W.procs (Location pct) refl
        (rw (asked_tail 0 mains end (loop W.S.G mains L))
        (run_flags h W.procs pct (label_by W.S.ends) t (loop W.S.G mains L) W.S.private.pct mains after.threads 0
        (is (Whole (pos l))) true
        (Z.threads ∙ sym M₂.count) (λ k o q. rw (zero-add k) (M₂.label k o q))
        (λ st'. stop (record {
          tid = is (Whole (pos t));
          tmp = is
              (Location pct);
          stmt = st';
          memory' = stepped.memory';
          mirrors = M₂;
          at_head = rw label₂;
        }))))))))))))))

-- From the loop head on, the copy follows the program: induction on the schedule.
use Rattle.std.specs.Prelude.{ℕ, zero, suc, ◌+◌, ◌*◌, ◌-◌, ◌≤◌, ◌<◌, ◌≡◌, refl, List, [], ◌∷◌, ◌++◌, Bool, true, false, length, take, get_or, set}
use Rattle.std.proofs.Common.{arith, ap, ◌∙◌}
use Rattle.value.specs.Maybe.{Maybe, is, ◌>>=◌}
use Rattle.value.specs.Try.{Try, has, lacks}
use Rattle.value.specs.Lists.{at}
use Rattle.value.specs.declared.Value.{Value}
use Rattle.value.specs.declared.Value.TheVariants.{Truth}
use Rattle.value.specs.declared.Reason.{Reason}
use Rattle.value.proofs.Laws.Maybes.{is_inj, missing}
use Rattle.value.proofs.Laws.Tries.{lacking}
use Rattle.value.proofs.Laws.Lists.{at_get_d, Each}
use Rattle.format.specs.Syntax.{◌⊕◌}
use Rattle.translation.specs.Translate.{round, loop}
use Rattle.semantics.specs.Memory.{Memory, Event}
use Rattle.semantics.specs.Step.{Frame, Stack, Moved}
use Rattle.semantics.specs.Threads as P
use Rattle.semantics.specs.Copy as C
use Rattle.semantics.proofs.Laws.Ends.{finished_run, used_run, blocked_run, step_run}
use Rattle.agreement.specs.Price.{price}
use Rattle.agreement.specs.Agreement.{is_at_head, Visit, visits, spent, prices, chosen}
use Rattle.agreement.proofs.Laws.Runs.{frame, config, Runs}
use Rattle.agreement.proofs.Laws.Halts.{Halted}
use Rattle.agreement.proofs.Laws.Frames.{World}
use Rattle.agreement.proofs.Laws.Mirrors.{Mirrors}
use Rattle.agreement.proofs.Laws.Round.{Zeroth, head, Arrived, run_round}
use Rattle.agreement.proofs.Laws.Visited.{Along, along}
use Rattle.agreement.proofs.Laws.Shows.{Shows, shows, price_step, price_blocked, price_done, start_run, chosen_done}

-- ---- a blocked step, and the budget

-- stuck: the copy ends, blocked for the reason `why`, within X steps, with the entries `left`, and is not at the loop head
pub record Stuck (W : World) (X : ℕ) (why : Reason) (left : List ℕ) (c : C.Config) : Type 0 where
  pub steps : ℕ
  pub few : suc steps ≤ X
  pub runs : Runs W.S.h W.procs (Halted W.S.h W.procs why left) steps c

-- the entries left where the step of a thread is blocked: select does not take the entry of a finished thread
abbrev pub left_by : Stack ℕ → ℕ → List ℕ → List ℕ
left_by [] t ts = t ∷ ts
left_by (f ∷ s) t ts = ts

-- budget for a schedule, X for each entry
abbrev pub room : ℕ → List ℕ → ℕ
room X [] = 3
room X (t ∷ ts) = X + room X ts

-- ---- the copy follows

module _ (W : World) (mains : List ℕ) (L : ℕ) (Z : Zeroth W mains L) (X : ℕ) where
  -- what a round costs beside the price
  abbrev each : ℕ
  each = L + 2 * W.S.T + 10

  -- the program's run
  abbrev ran : List ℕ → P.State → ℕ → List Event → P.Ran
  ran ts st kP evs = P.run W.source ts st kP evs

  -- the copy's run
  abbrev copied : ℕ → ℕ → C.Config → C.Ran
  copied n k c = C.run W.S.h W.procs n k c

  -- the copy's visits to the loop head
  abbrev seen : ℕ → ℕ → C.Config → List Visit
  seen n k c = visits W.S.h W.procs n k c

  -- after the loop's test
  abbrev behind : Maybe Value → Maybe Value → Maybe Value → Memory → List ℕ → ℕ → List Event → C.Config
  behind a b c η ts t evs =
      config (frame 0 (a ∷ b ∷ c ∷ is (Truth false) ∷ []) (round W.S.G mains L ⊕ loop W.S.G mains L) ∷ []) η ts t evs

  -- what is asked of single steps: a step that the program does has a bounded price, and one that it cannot do the copy
  -- cannot either, for the same reason
  pub record Bounded : Type 0 where
    pub fits : each + 2 * W.bytes ≤ X
    pub cheap : (st : P.State) (η' : Memory) → Mirrors W st η' → (t : ℕ) (s : Stack ℕ) → at st.threads t ≡ is s
        → price W.source t s st.memory ≤ 2 * W.bytes
    pub blocks : (st : P.State) (η' : Memory) → Mirrors W st η' → (t : ℕ) (s : Stack ℕ) → at st.threads t ≡ is s
        → {why : Reason} → P.thread W.source.procs t s st.memory ≡ lacks why
        → (a b c : Maybe Value) (ts : List ℕ) (last : ℕ) (evs : List Event) → Stuck W X why (left_by s t ts) (behind a b c η' (t ∷ ts) last evs)

  -- how the copy ends, if its last loop head was after k steps
  abbrev pub Ends : ℕ → P.Ran → C.Ran → P.End → Type 0
  Ends k r c P.finished = (c.steps ≡ k + 2) × Shows W r.state r.events c.config × (length c.config.todo ≡ r.unused)
  Ends k r c P.used = (c.steps ≡ k + 1) × Shows W r.state r.events c.config × (length c.config.todo ≡ r.unused)
  Ends k r c (P.blocked why) = k < c.steps
  Ends k r c P.spent = ⊥

  -- a visit shows the run so far, after j more steps of the program and those of their prices
  abbrev pub Shown : ℕ → List ℕ → P.State → ℕ → List Event → ℕ → Visit → Type 0
  Shown j ts st kP evs k v =
      Shows W (ran ts st kP evs).state (ran ts st kP evs).events v.config × (v.steps ≡ k + spent each (prices W.source ts st)) ×
      ((ran ts st kP evs).steps ≡ kP + j)

  -- the copy from c on, after k steps, with n to go, and the program from st on, after kP steps
  pub record Follow (ts : List ℕ) (st : P.State) (kP : ℕ) (evs : List Event) (n k : ℕ) (c : C.Config) : Type 0 where
    pub visited : kP + length (seen n k c) ≡ suc (ran ts st kP evs).steps
    pub same : (j : ℕ) (v : Visit) → at (seen n k c) j ≡ is v → Shown j (take j ts) st kP evs k v
    pub cheap : Each (λ x. x ≤ 2 * W.bytes) (prices W.source ts st)
    pub how : (copied n k c).how ≡ (ran ts st kP evs).how
    pub closing : Ends (k + spent each (prices W.source ts st)) (ran ts st kP evs) (copied n k c) (ran ts st kP evs).how
    pub least : kP ≤ (ran ts st kP evs).steps
    pub unused : (j : ℕ) → (ran ts st kP evs).steps ≡ kP + j
        → length (copied n k c).config.todo + chosen (at ts j >>= at (ran ts st kP evs).state.threads) ≡ (ran ts st kP evs).unused

  module _ {st : P.State} {η' : Memory} (M : Mirrors W st η') (kP : ℕ) (evs : List Event) (a b d : Maybe Value) (q : Bool) (last : ℕ) (k : ℕ) where
    -- the visit of the loop head itself
    abbrev visit : List ℕ → Visit
    visit ts = record { steps = k; config = head W mains L a b d q η' ts last evs }

    -- it shows the state before any step
    first_visit : (ts : List ℕ) (v : Visit) → is (visit ts) ≡ is v → Shown 0 [] st kP evs k v
    first_visit ts v e =
        let g = start_run W.source st kP evs in
        rw (g.0, g.1, g.2, ← is_inj e) (shows W st evs (visit ts).config M refl, omega arith, omega arith)

    -- it is the last one: the program's run ends here, too
    last_visit : (ts : List ℕ) (n : ℕ) (how : P.End) (left : ℕ) (end : C.Ran)
        → seen n k (visit ts).config ≡ visit ts ∷ []
        → copied n k (visit ts).config ≡ end
        → end.how ≡ how
        → ran ts st kP evs ≡ record { how = how; steps = kP; unused = left; state = st; events = evs }
        → prices W.source ts st ≡ []
        → Ends (k + 0) (record { how = how; steps = kP; unused = left; state = st; events = evs }) end how
        → length end.config.todo + chosen (at ts 0 >>= at st.threads) ≡ left
        → Follow ts st kP evs n k (visit ts).config
    last_visit ts n how left end e f f' g free closes unused = record {
      visited = rw (e, g) (omega arith);
      same = λ j v p. go j v (rw e at p);
      cheap = rw free tt;
      how = rw (f, g) f';
      closing = rw (f, g, free) closes;
      least = rw g (omega arith);
      unused = λ j p. rw (f, g) (at_zero j (rw g at p));
    }
      where
        at_zero : (j : ℕ) → kP ≡ kP + j → length end.config.todo + chosen (at ts j >>= at st.threads) ≡ left
        at_zero zero p = unused
        at_zero (suc j) p = absurd (omega arith)

        go : (j : ℕ) (v : Visit) → at (visit ts ∷ []) j ≡ is v → Shown j (take j ts) st kP evs k v
        go zero v p = first_visit ts v p
        go (suc j) v p = missing p

  -- ---- the three ends

  -- all threads are finished
  follow_finished : {st : P.State} {η' : Memory} → Mirrors W st η' → (kP : ℕ) (evs : List Event) (a b d : Maybe Value) (last k n : ℕ) (ts : List ℕ)
      → P.done st.threads ≡ true → Follow ts st kP evs (suc (suc (suc n))) k (head W mains L a b d true η' ts last evs)
  follow_finished {st} {η'} M kP evs a b d last k n ts e =
      let end : C.Config = config [] η' ts last evs in
      last_visit M kP evs a b d true last k ts (suc (suc (suc n))) P.finished (length ts)
      (record { how = P.finished; steps = suc (suc k); config = end })
      refl refl refl (finished_run W.source ts st kP evs e) (price_done W.source ts st e)
      (omega arith, shows W st evs end M refl, refl)
      (omega (arith, chosen_done st.threads ts 0 e))

  -- the schedule is used up
  follow_used : {st : P.State} {η' : Memory} → Mirrors W st η' → (kP : ℕ) (evs : List Event) (a b d : Maybe Value) (last k n : ℕ)
      → P.done st.threads ≡ false → Follow [] st kP evs (suc (suc (suc n))) k (head W mains L a b d false η' [] last evs)
  follow_used {st} {η'} M kP evs a b d last k n e =
      let end : C.Config = behind a b d η' [] last evs in
      last_visit M kP evs a b d false last k [] (suc (suc (suc n))) P.used 0 (record { how = P.used; steps = suc k; config = end })
      refl refl refl (used_run W.source st kP evs e) refl
      (omega arith, shows W st evs end M refl, refl)
      refl

  -- the next step is not possible
  stuck_visits : (n k : ℕ) (d : C.Config) {how : P.End} → C.next W.S.h W.procs d ≡ C.ended how → is_at_head d.stack ≡ false → seen n k d ≡ []
  stuck_visits zero k d e f = rw f
  stuck_visits (suc n) k d e f = rw (e, f)

  -- and the run ends there
  stuck_run : (n k : ℕ) (d : C.Config) {how : P.End} → C.next W.S.h W.procs d ≡ C.ended how
      → copied (suc n) k d ≡ record { how = how; steps = k; config = d }
  stuck_run n k d e = rw (e, C.run)

  -- the copy is blocked within the round, for the same reason
  follow_blocked : {st : P.State} {η' : Memory} → Mirrors W st η' → (kP : ℕ) (evs : List Event) (a b d : Maybe Value) (last k n t : ℕ) (ts : List ℕ)
      → P.done st.threads ≡ false → (s : Stack ℕ) → at st.threads t ≡ is s
      → {why : Reason} → P.thread_step W.source t st ≡ lacks why → Stuck W X why (left_by s t ts) (behind a b d η' (t ∷ ts) last evs) → X ≤ n
      → Follow (t ∷ ts) st kP evs (suc n) k (head W mains L a b d false η' (t ∷ ts) last evs)
  follow_blocked {st} {η'} M kP evs a b d last k n t ts e s mine {why} f S enough =
      let A : Along W.S.h W.procs (Halted W.S.h W.procs why (left_by s t ts)) S.steps (behind a b d η' (t ∷ ts) last evs)
      = along W.S.h W.procs S.runs in
      let r : ℕ = n - suc S.steps in
      let split : n ≡ S.steps + suc r = omega (arith, S.few) in
      last_visit M kP evs a b d false last k (t ∷ ts) (suc n) (P.blocked why) (suc (length ts))
      (record { how = P.blocked why; steps = suc k + S.steps; config = A.there })
      (ap (λ (vs : List Visit). visit M kP evs a b d false last k (t ∷ ts) ∷ vs)
      (rw split (A.visits_there (suc r) (suc k) ∙ stuck_visits (suc r) (suc k + S.steps) A.there A.holds.blocks A.holds.apart)))
      (rw split (A.run_there (suc r) (suc k) ∙ stuck_run r (suc k + S.steps) A.there A.holds.blocks))
      refl
      (blocked_run W.source t ts st kP evs e f) (price_blocked W.source t ts st f)
      (omega arith)
      (rw (A.holds.left, mine) (counted s))
    where
      counted : (s : Stack ℕ) → length (left_by s t ts) + chosen (is s) ≡ suc (length ts)
      counted [] = omega arith
      counted (f ∷ s) = omega arith

  -- ---- a round, and the rest

  -- a step of the program is a round of the copy
  follow_step : Bounded
      → {st : P.State} {η' : Memory} (M : Mirrors W st η') (kP : ℕ) (evs : List Event) (a b d : Maybe Value) (last k n t : ℕ) (ts : List ℕ)
      → (f : Frame ℕ) (s : Stack ℕ) (r : Moved ℕ)
      → P.done st.threads ≡ false → (mine : at st.threads t ≡ is (f ∷ s)) (steps : P.thread W.source.procs t (f ∷ s) st.memory ≡ has r)
      → ((st' : P.State) (evs' : List Event) (k' : ℕ) (c : C.Config) → Arrived W mains L st' ts t evs' c → Follow ts st' (suc kP) evs' n k' c)
      → Follow (t ∷ ts) st kP evs (each + price W.source t (f ∷ s) st.memory + n) k (head W mains L a b d false η' (t ∷ ts) last evs)
  follow_step B {st} {η'} M kP evs a b d last k n t ts f s r e mine steps ih =
      let st' : P.State = record { threads = set st.threads t r.stack; memory = r.memory } in
      let A : Along W.S.h W.procs (Arrived W mains L st' ts t (evs ++ r.events)) rest (behind a b d η' (t ∷ ts) last evs)
      = along W.S.h W.procs (run_round W mains L Z M t f.proc f.env f.code s mine r steps a b d (is (Truth false)) ts last evs) in
      let stepped : P.thread_step W.source t st ≡ has (record { state = st'; events = r.events }) = rw (mine, steps) in
      go A.there (A.visits_there n (suc k)) (A.run_there n (suc k)) stepped (ih st' (evs ++ r.events) (suc k + rest) A.there A.holds)
    where
      cost : ℕ
      cost = price W.source t (f ∷ s) st.memory

      rest : ℕ
      rest = L + 2 * W.S.T + 9 + cost

      next : P.State
      next = record { threads = set st.threads t r.stack; memory = r.memory }

      here : C.Config
      here = head W mains L a b d false η' (t ∷ ts) last evs

      -- c is where the round ends
      go : (c : C.Config) → seen (rest + n) (suc k) (behind a b d η' (t ∷ ts) last evs) ≡ seen n (suc k + rest) c
          → copied (rest + n) (suc k) (behind a b d η' (t ∷ ts) last evs) ≡ copied n (suc k + rest) c
          → P.thread_step W.source t st ≡ has (record { state = next; events = r.events })
          → Follow ts next (suc kP) (evs ++ r.events) n (suc k + rest) c → Follow (t ∷ ts) st kP evs (each + cost + n) k here
      go c sees runs stepped g =
          let split : each + cost + n ≡ suc (rest + n) = omega arith in
          let shown : seen (each + cost + n) k here ≡ visit M kP evs a b d false last k (t ∷ ts) ∷ seen n (suc k + rest) c
          = rw split (ap (λ (vs : List Visit). visit M kP evs a b d false last k (t ∷ ts) ∷ vs) sees) in
          let ends : copied (each + cost + n) k here ≡ copied n (suc k + rest) c = rw split runs in
          let one : ran (t ∷ ts) st kP evs ≡ ran ts next (suc kP) (evs ++ r.events) = step_run W.source t ts st kP evs _ e stepped in
          let costs : prices W.source (t ∷ ts) st ≡ cost ∷ prices W.source ts next = price_step W.source t ts st (f ∷ s) _ mine stepped in
          let sum : k + (each + cost + spent each (prices W.source ts next)) ≡ suc k + rest + spent each (prices W.source ts next) =
          omega arith
          in
          record {
            visited = rw (shown, one) (omega (arith, g.visited));
            same = λ j v q. later c stepped g j v (rw shown at q);
            cheap = rw costs (B.cheap st η' M t (f ∷ s) mine, g.cheap);
            how = rw (ends, one) g.how;
            closing = rw (ends, one, costs, sum) g.closing;
            least = rw one (omega (arith, g.least));
            unused = λ j p. rw (ends, one) (index g j (rw one at p));
          }
        where
          index : Follow ts next (suc kP) (evs ++ r.events) n (suc k + rest) c
              → (j : ℕ) → (ran ts next (suc kP) (evs ++ r.events)).steps ≡ kP + j
              → length (copied n (suc k + rest) c).config.todo
              + chosen (at (t ∷ ts) j >>= at (ran ts next (suc kP) (evs ++ r.events)).state.threads)
              ≡ (ran ts next (suc kP) (evs ++ r.events)).unused
          index g zero p = absurd (omega (arith, g.least))
          index g (suc j) p = g.unused j (omega arith)

          later : (c : C.Config) → P.thread_step W.source t st ≡ has (record { state = next; events = r.events })
              → Follow ts next (suc kP) (evs ++ r.events) n (suc k + rest) c
              → (j : ℕ) (v : Visit) → at (visit M kP evs a b d false last k (t ∷ ts) ∷ seen n (suc k + rest) c) j ≡ is v
              → Shown j (take j (t ∷ ts)) st kP evs k v
          later c stepped g zero v q = first_visit M kP evs a b d false last k (t ∷ ts) v q
          later c stepped g (suc j) v q =
              let u = g.same j v q in
              rw (step_run W.source t (take j ts) st kP evs _ e stepped, price_step W.source t (take j ts) st (f ∷ s) _ mine stepped)
              (u.0, omega (arith, u.1), omega (arith, u.2))

  -- some steps are always left
  room_least : (ts : List ℕ) → 3 ≤ room X ts
  room_least [] = omega arith
  room_least (t ∷ ts) = let p : 3 ≤ room X ts = room_least ts in omega arith

  -- with enough steps left, as successors
  with_three : {ts : List ℕ} {st : P.State} {kP : ℕ} {evs : List Event} {k : ℕ} {c : C.Config} (n : ℕ) → 3 ≤ n
      → ((r : ℕ) → Follow ts st kP evs (suc (suc (suc r))) k c) → Follow ts st kP evs n k c
  with_three n p g = let e : n ≡ suc (suc (suc (n - 3))) = omega arith in rw e (g (n - 3))

  -- the next entry is t, and not all threads are finished
  follow_entry : Bounded
      → {st : P.State} {η' : Memory} (M : Mirrors W st η') (kP : ℕ) (evs : List Event) (a b d : Maybe Value) (last k n t : ℕ) (ts : List ℕ)
      → P.done st.threads ≡ false → X + room X ts ≤ n
      → ((n' : ℕ) → room X ts ≤ n' → (st' : P.State) (evs' : List Event) (k' : ℕ) (c : C.Config) → Arrived W mains L st' ts t evs' c
      → Follow ts st' (suc kP) evs' n' k' c)
      → (s : Stack ℕ) → at st.threads t ≡ is s → (r : Try (Moved ℕ)) → P.thread W.source.procs t s st.memory ≡ r
      → Follow (t ∷ ts) st kP evs n k (head W mains L a b d false η' (t ∷ ts) last evs)
  follow_entry B {st} {η'} M kP evs a b d last k n t ts e enough ih s mine (lacks why) p =
      let least : 3 ≤ room X ts = room_least ts in
      let more : n ≡ suc (n - 1) = omega arith in
      let none : P.thread_step W.source t st ≡ lacks why = rw (mine, p) in
      rw more (follow_blocked M kP evs a b d last k (n - 1) t ts e s mine none (B.blocks st η' M t s mine p a b d ts last evs) (omega arith))
  follow_entry B M kP evs a b d last k n t ts e enough ih [] mine (has r) p = lacking p
  follow_entry B {st} {η'} M kP evs a b d last k n t ts e enough ih (f ∷ s) mine (has r) p =
      let cost : ℕ = each + price W.source t (f ∷ s) st.memory in
      let fits : cost ≤ X = omega (arith, B.fits, B.cheap st η' M t (f ∷ s) mine) in
      let split : n ≡ cost + (n - cost) = omega arith in
      rw split (follow_step B M kP evs a b d last k (n - cost) t ts f s r e mine p (ih (n - cost) (omega arith)))

  -- from a loop head in a state that memory mirrors, with room enough, the copy follows the program
  pub follow : Bounded → (ts : List ℕ) (st : P.State) (kP : ℕ) (evs : List Event) (n k last : ℕ) (c : C.Config)
      → ((i x : ℕ) → at ts i ≡ is x → x < W.S.T)
      → room X ts ≤ n → Arrived W mains L st ts last evs c → Follow ts st kP evs n k c
  follow B [] st kP evs n k last c below enough A = rw A.at_head (by (P.done st.threads) refl)
    where
      by : (q : Bool) → P.done st.threads ≡ q → Follow [] st kP evs n k (head W mains L A.tid A.tmp A.stmt q A.memory' [] last evs)
      by true e = with_three n enough (λ r. follow_finished A.mirrors kP evs A.tid A.tmp A.stmt last k r [] e)
      by false e = with_three n enough (λ r. follow_used A.mirrors kP evs A.tid A.tmp A.stmt last k r e)
  follow B (t ∷ ts) st kP evs n k last c below enough A = rw A.at_head (by (follow B ts) (P.done st.threads) refl)
    where
      by : ((st : P.State) (kP : ℕ) (evs : List Event) (n k last : ℕ) (c : C.Config) → ((i x : ℕ) → at ts i ≡ is x → x < W.S.T) → room X ts ≤ n
          → Arrived W mains L st ts last evs c → Follow ts st kP evs n k c)
          → (q : Bool) → P.done st.threads ≡ q
          → Follow (t ∷ ts) st kP evs n k (head W mains L A.tid A.tmp A.stmt q A.memory' (t ∷ ts) last evs)
      by ih true e =
          with_three n (let p : 3 ≤ room X ts = room_least ts in omega arith)
          (λ r. follow_finished A.mirrors kP evs A.tid A.tmp A.stmt last k r (t ∷ ts) e)
      by ih false e =
          let in_t : t < length st.threads = rw A.mirrors.count (below 0 t refl) in
          follow_entry B A.mirrors kP evs A.tid A.tmp A.stmt last k n t ts e enough
          (λ n' room' st' evs' k' c' A'. ih st' (suc kP) evs' n' k' t c' (λ i x p. below (suc i) x p) room' A')
          (get_or st.threads t []) (at_get_d st.threads t [] in_t) _ refl

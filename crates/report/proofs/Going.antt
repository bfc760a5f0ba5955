-- The run: the loop's state, step by step, and how a run ends.
use Prim.Native.Nat.{ℕ, suc, ◌+◌, ◌*◌, ◌-◌, ◌≤◌, ◌<◌}
use native.Mathlib.Omega.{arith}
use mathlib.Core.Path.{◌≡◌, refl, sym, ap, subst, ◌∙◌}
use mathlib.Core.List.{List, [], ◌∷◌, ◌++◌}
use mathlib.Core.Bool.{Bool, true, false}
use lib.ListN.{length, get_or, drop, replicate, length-drop, length-replicate}
use lib.Seq.{drop-length, drop-cons}
use Rattle.value.specs.declared.Reason.{Reason}
use Rattle.format.specs.Syntax.{Program, Plain, concurrent}
use Rattle.format.specs.Labels.{labelled}
use Rattle.format.specs.Rules.{limits}
use Rattle.semantics.specs.Memory.{Event}
use Rattle.semantics.specs.Threads.{End, finished, used, blocked}
use Rattle.semantics.specs.Threads as P
use Rattle.engine.specs.declared.ends.End as Ends
use Rattle.engine.specs.declared.ends.End.TheVariants as E
use Rattle.engine.specs.Ends.{end_of}
use Rattle.semantics.specs.Calls.{concurrent_run}
use Rattle.semantics.proofs.Laws.Cells.{shape_fresh}
use Rattle.semantics.proofs.Laws.Ends.{finished_run, used_run, blocked_run, step_run}
use Rattle.engine.specs.Laws.Logging.{logged_none, logged_long}
use Rattle.atomic.specs.Threaded.{most_threads}
use Rattle.concurrent.specs.Concurrent.{AllDone, ran_with}
use Rattle.concurrent.proofs.Beginning.{done_of}
use Rattle.concurrent.proofs.ConcurrentCall.{zeros}
use Rattle.std.specs.Prelude.{Result, Ok, Err}
use Rattle.concurrent.specs.declared.machine.Ran.{Ran}
use Rattle.report.specs.Rows.{places, Known}
use Rattle.report.specs.Stepping.{Present, Stepping, Went, Stays, Answers, Steps}
use Rattle.report.specs.Running.{Starting, Runs}

-- nothing is known yet of where blocks end
known_none : (t : List ℕ) → Known t (replicate places 0)
known_none t = record { long = length-replicate {A = ℕ} places 0; each = λ i z b j w. absurd (z (zeros places i)) }

-- ---- the state of the loop

-- after k entries of the schedule ts, with n events: what is left of the run, from the present state, is the run from the start
pub record GoingFrom (t : List ℕ) (p : Program Plain) (ts lent depths heights rows ends ls cs es : List ℕ) (k n : ℕ) : Type 0 where
  pub state : P.State
  pub so_far : List Event
  pub present : Present t p lent depths heights rows ends ls cs es n state so_far
  pub same : concurrent_run p ts ≡ P.run (labelled p) (drop k ts) state k so_far

-- whatever program it is; a step has no more events than the table has bytes
pub record Going (t : List ℕ) (records T : ℕ) (ts ss depths₀ heights₀ rows₀ ls₀ cs₀ lent depths heights rows ends ls cs es : List ℕ) (k n : ℕ) : Type 0 where
  pub start : Starting t records T ts ss depths₀ heights₀ rows₀ ls₀ cs₀
  pub from : (q : Starting t records T ts ss depths₀ heights₀ rows₀ ls₀ cs₀) → GoingFrom t q.loaded.program ts lent depths heights rows ends ls cs es k n
  pub low : k ≤ length ts
  pub counted : n ≤ (limits concurrent).bytes * k

-- the beginning
pub going_start : {t : List ℕ} {records T : ℕ} {ts ss depths heights rows ls cs es : List ℕ} → Starting t records T ts ss depths heights rows ls cs
    → Going t records T ts ss depths heights rows ls cs es depths heights rows (replicate places 0) ls cs es 0 0
going_start {t} q = record {
  start = q;
  from = λ q. record {
    state = P.start (labelled q.loaded.program);
    so_far = [];
    present = record {
      labels = q.labels;
      threads = q.threads;
      rowed = q.rowed;
      known = known_none t;
      long = q.long;
      memory = q.cells;
      sizes = shape_fresh q.loaded.program.sizes;
      events = logged_none;
    };
    same = refl;
  };
  low = omega arith;
  counted = omega arith;
}

-- ---- one law for each way through the loop

module _ {t : List ℕ} {records T : ℕ} {ts ss depths₀ heights₀ rows₀ ls₀ cs₀ lent depths heights rows ends ls cs es : List ℕ} {k n : ℕ}
    (G : Going t records T ts ss depths₀ heights₀ rows₀ ls₀ cs₀ lent depths heights rows ends ls cs es k n) where
  -- the lent buffer keeps its length
  pub going_long : length es ≡ length lent
  going_long = logged_long (G.from G.start).present.events

  -- there are not too many threads
  pub going_threads : T ≤ most_threads
  going_threads = omega (arith, G.start.count, G.start.loaded.sound.threads.high)

  -- how the run ends, with what the code answers
  ended : {cs' es' : List ℕ} {r : Ran} (e : Ends.End) → r ≡ ran_with e k n
      → ((q : Starting t records T ts ss depths₀ heights₀ rows₀ ls₀ cs₀) → (depths' : List ℕ) × (heights' : List ℕ) × (rows' : List ℕ) × (ends' : List ℕ) × (ls' : List ℕ) ×
      Present t q.loaded.program lent depths' heights' rows' ends' ls' cs' es' n (G.from q).state (G.from q).so_far)
      → ((q : Starting t records T ts ss depths₀ heights₀ rows₀ ls₀ cs₀)
      → P.run (labelled q.loaded.program) (drop k ts) (G.from q).state k (G.from q).so_far
      ≡ record { how = end_of e; steps = k; unused = length ts - k; state = (G.from q).state; events = (G.from q).so_far })
      → Runs t records T ts ss depths₀ heights₀ rows₀ ls₀ cs₀ lent cs' es' r
  ended {r = r} e z h f = rw z (record {
    ran = λ q. record {
      how = end_of e;
      state = (G.from q).state;
      so_far = (G.from q).so_far;
      same = (G.from q).same ∙ f q;
      end = refl;
      memory = (h q).5.memory;
      sizes = (h q).5.sizes;
      taken = G.low;
      events = (h q).5.events;
    };
  })

  module _ {b : Bool} (D : AllDone depths T b) where
    -- what the definition says
    done : (q : Starting t records T ts ss depths₀ heights₀ rows₀ ls₀ cs₀) → P.done (G.from q).state.threads ≡ b
    done q = done_of b (G.from q).present.threads q.count D

    -- "A finished run is answered before the schedule is asked"
    pub going_finished : {r : Ran} → b ≡ true → r ≡ ran_with E.Finished k n → Runs t records T ts ss depths₀ heights₀ rows₀ ls₀ cs₀ lent cs es r
    going_finished e f =
        ended E.Finished f (λ q. (depths, heights, rows, ends, ls, (G.from q).present))
        (λ q.
        finished_run (labelled q.loaded.program) (drop k ts) (G.from q).state k (G.from q).so_far (done q ∙ e)
        ∙ ap (λ u. record { how = finished; steps = k; unused = u; state = (G.from q).state; events = (G.from q).so_far }) (length-drop k ts))

    -- nor after the last entry
    pub going_finished_last : {r : Ran} → length ts ≤ k → b ≡ true → r ≡ ran_with E.Finished (length ts) n
        → Runs t records T ts ss depths₀ heights₀ rows₀ ls₀ cs₀ lent cs es r
    going_finished_last l e f =
        let w : length ts ≡ k = omega (arith, G.low) in
        going_finished e (f ∙ ap (λ k. ran_with E.Finished k n) w)

    module _ (e : b ≡ false) where
      -- the schedule is used up
      pub going_used : {r : Ran} → length ts ≤ k → r ≡ ran_with E.UsedUp (length ts) n → Runs t records T ts ss depths₀ heights₀ rows₀ ls₀ cs₀ lent cs es r
      going_used l g =
          let w : k ≡ length ts = omega (arith, G.low) in
          let f = g ∙ ap (λ k. ran_with E.UsedUp k n) (sym w) in
          let none : drop k ts ≡ [] = rw (w, drop-length) in
          let all : 0 ≡ length ts - k = omega arith in
          ended E.UsedUp f (λ q. (depths, heights, rows, ends, ls, (G.from q).present))
          (λ q.
          ap (λ us. P.run (labelled q.loaded.program) us (G.from q).state k (G.from q).so_far) none
          ∙ used_run (labelled q.loaded.program) (G.from q).state k (G.from q).so_far (done q ∙ e)
          ∙ ap (λ u. record { how = used; steps = k; unused = u; state = (G.from q).state; events = (G.from q).so_far }) all)

      module _ (left : k < length ts) where
        -- there is a next entry
        next : drop k ts ≡ get_or ts k 0 ∷ drop (suc k) ts
        next = drop-cons ts k 0 (omega (arith, G.low))

        -- its thread is to take a step
        abbrev stepping_of : Starting t records T ts ss depths₀ heights₀ rows₀ ls₀ cs₀ → Stepping t records ss (get_or ts k 0) depths heights rows ends ls cs es n
        stepping_of q = record {
          loaded = q.loaded;
          lent = lent;
          state = (G.from q).state;
          so_far = (G.from q).so_far;
          present = (G.from q).present;
          there = omega (arith, q.entries.below k (omega (arith, G.low)), q.count);
          few = omega (arith, G.low, G.counted, q.entries.few, ap length q.loaded.same, q.loaded.sound.size);
        }

        pub going_stepping : Stepping t records ss (get_or ts k 0) depths heights rows ends ls cs es n
        going_stepping = stepping_of G.start

        module _ {x : Result ℕ Reason} {depths' heights' rows' ends' ls' cs' es' : List ℕ}
            (S : Steps t records ss (get_or ts k 0) depths heights rows ends ls cs es n depths' heights' rows' ends' ls' cs' es' x) where
          -- the lent buffer keeps its length
          pub stepped_long : length es' ≡ length lent
          stepped_long = by x (S.steps (stepping_of G.start))
            where
              by : (x : Result ℕ Reason) → Answers (stepping_of G.start) depths' heights' rows' ends' ls' cs' es' x → length es' ≡ length lent
              by (Ok m) h = logged_long h.present.events
              by (Err why) h = logged_long h.present.events

          -- it blocks
          pub going_blocked : {r : Ran} {why : Reason} → x ≡ Err why → r ≡ ran_with (E.Blocked why) k n → Runs t records T ts ss depths₀ heights₀ rows₀ ls₀ cs₀ lent cs' es' r
          going_blocked {why = why} z f =
              let stays : (q : Starting t records T ts ss depths₀ heights₀ rows₀ ls₀ cs₀) → Stays (stepping_of q) depths' heights' rows' ends' ls' cs' es' why =
              λ q. subst (Answers (stepping_of q) depths' heights' rows' ends' ls' cs' es') z (S.steps (stepping_of q))
              in
              let left : suc (length (drop (suc k) ts)) ≡ length ts - k = omega (arith, length-drop (suc k) ts, G.low) in
              ended (E.Blocked why) f (λ q. (depths', heights', rows', ends', ls', (stays q).present))
              (λ q.
              ap (λ us. P.run (labelled q.loaded.program) us (G.from q).state k (G.from q).so_far) next
              ∙ blocked_run (labelled q.loaded.program) (get_or ts k 0) (drop (suc k) ts) (G.from q).state k (G.from q).so_far
              (done q ∙ e) (stays q).blocks
              ∙ ap (λ u. record { how = blocked why; steps = k; unused = u; state = (G.from q).state; events = (G.from q).so_far }) left)

          -- it goes on
          pub going_on : {m : ℕ} → x ≡ Ok m → Going t records T ts ss depths₀ heights₀ rows₀ ls₀ cs₀ lent depths' heights' rows' ends' ls' cs' es' (k + 1) m
          going_on {m} z =
              let went : (q : Starting t records T ts ss depths₀ heights₀ rows₀ ls₀ cs₀) → Went (stepping_of q) depths' heights' rows' ends' ls' cs' es' m =
              λ q. subst (Answers (stepping_of q) depths' heights' rows' ends' ls' cs' es') z (S.steps (stepping_of q))
              in
              let one : suc k ≡ k + 1 = omega arith in
              record {
                start = G.start;
                from = λ q. record {
                  state = (went q).step.state;
                  so_far = (G.from q).so_far ++ (went q).step.events;
                  present = (went q).present;
                  same =
                      (G.from q).same
                      ∙ ap (λ us. P.run (labelled q.loaded.program) us (G.from q).state k (G.from q).so_far) next
                      ∙ step_run (labelled q.loaded.program) (get_or ts k 0) (drop (suc k) ts) (G.from q).state k (G.from q).so_far
                      (went q).step (done q ∙ e) (went q).goes
                      ∙ ap (λ j. P.run (labelled q.loaded.program) (drop j ts) (went q).step.state j
                      ((G.from q).so_far ++ (went q).step.events)) one;
                };
                low = omega (arith, G.low);
                counted = omega (arith, (went G.start).few, G.counted, ap length G.start.loaded.same, G.start.loaded.sound.size);
              }

-- one law for each way
pub ruleset going_ways = (going_start, going_long, going_threads, going_finished, going_finished_last, going_used, going_stepping, stepped_long, going_blocked, going_on)

-- The run of the sequential machine: the loop's state, step by step, and how a run ends.
use Prim.Native.Nat.{ℕ, ◌+◌, ◌*◌, ◌-◌, ◌^◌, ◌≤◌, ◌<◌}
use native.Mathlib.Omega.{arith}
use mathlib.Core.Path.{◌≡◌, refl, sym, ap, ◌∙◌}
use mathlib.Core.List.{List, [], ◌∷◌}
use mathlib.Core.Bool.{Bool, true, false}
use lib.ListN.{length, get_or, length-replicate}
use lib.Seq.{drop-length}
use Rattle.value.specs.Maybe.{is, nothing}
use Rattle.value.specs.declared.Reason.{Reason}
use Rattle.value.proofs.Laws.Maybes.{is_inj, missing}
use Rattle.value.proofs.Laws.Lists.{each_at}
use Rattle.value.specs.Lists.{at}
use Rattle.basics.specs.Places.{number_at}
use Rattle.format.proofs.Laws.Procs.{takes_at}
use Rattle.format.proofs.Laws.Sound.{LocalsRight}
use Rattle.format.specs.Syntax.{Block, Proc, Program, Plain}
use Rattle.format.specs.Encode.{record_size}
use Rattle.semantics.specs.Step.{Frame, Stack, entered}
use Rattle.semantics.specs.Threads.{used}
use Rattle.semantics.specs.Copy as C
use Rattle.decide.specs.declared.step.Step.{Step}
use Rattle.decide.specs.declared.step.Step.TheVariants.{Blocked}
use Rattle.sequential.specs.declared.machine.State.{State}
use Rattle.sequential.specs.declared.machine.Ran.{Ran}
use Rattle.engine.specs.declared.ends.End as Ends
use Rattle.engine.specs.declared.ends.End.TheVariants as E
use Rattle.engine.specs.Ends.{end_of}
use Rattle.jumps.specs.Jumps.{positions, Settled, last, first}
use Rattle.sequential.specs.Sequential.{most_frames, Present, Due, CarriesOut, Facing, Faced}
use Rattle.sequential.specs.Sequential.{Faces, UsedUp, ran_with, Starting, run_of, Runs}
use Rattle.engine.specs.Work.{frame_words}
use Rattle.sequential.specs.Frames.{procedure_in, FrameAt, none, more}
use Rattle.semantics.proofs.Laws.Cells.{shape_fresh}
use Rattle.engine.specs.Laws.Work.{beside_same, framed_none, framed_entered}
use Rattle.engine.specs.Laws.Logging.{logged_none, logged_long}
use Rattle.sequential.proofs.Standing.{code_inside, HeadAt, head_at_lem, settled_body}
use Rattle.sequential.proofs.Framing.{stacked_few}
use Rattle.sequential.proofs.DueSteps.{tower_of, deep_of, top_frame}
use Rattle.sequential.proofs.Nexts.{next_used}
use Rattle.sequential.proofs.Facing.{View, ending, acting, choosing, view}
use Rattle.sequential.proofs.RunSteps.{run_none, run_spent, run_ended, run_goes, next_blocked}

-- ---- the state of the loop

-- after k steps, from whatever program it is
pub record GoingFrom {t : List ℕ} {records : ℕ} {js ss ls₀ bs₀ cs₀ : List ℕ} (q : Starting t records js ss ls₀ bs₀ cs₀) (ts : List ℕ) (h n : ℕ)
    (lent ls bs cs es : List ℕ) (s : State) (k : ℕ) : Type 0 where
  pub config : C.Config
  pub present : Present q.loaded.program lent ts ls bs cs es s config
  pub same : run_of q ts h n ≡ C.run h q.loaded.program.procs (n - k) k config

-- there is one
pub record Going (t : List ℕ) (records : ℕ) (ts js ss ls₀ bs₀ cs₀ : List ℕ) (h n : ℕ) (lent ls bs cs es : List ℕ) (s : State) (k : ℕ) : Type 0 where
  pub start : Starting t records js ss ls₀ bs₀ cs₀
  pub from : (q : Starting t records js ss ls₀ bs₀ cs₀) → GoingFrom q ts h n lent ls bs cs es s k
  pub low : k ≤ n
  pub counted : s.events ≤ k
  -- the counts fit their words
  pub entries : length ts < 2 ^ 64
  pub budget : n < 2 ^ 64

-- a stack with frames has a first
first_of : (s : Stack Plain) → (length s ≡ 0 → ⊥) → (f : Frame Plain) × (b : Stack Plain) × (s ≡ f ∷ b)
first_of [] n = absurd (n refl)
first_of (f ∷ b) n = (f, b, refl)

module _ {t : List ℕ} {records : ℕ} {js ss ls₀ bs₀ cs₀ : List ℕ} (q : Starting t records js ss ls₀ bs₀ cs₀) {ts : List ℕ}
    {h n : ℕ} {lent ls bs cs es : List ℕ} {s : State} {k : ℕ} (g : GoingFrom q ts h n lent ls bs cs es s k) (deep : s.depth ≡ 0 → ⊥) where
  -- its first frame
  abbrev top : (f : Frame Plain) × (b : Stack Plain) × (g.config.stack ≡ f ∷ b)
  top = first_of g.config.stack (λ e. deep (g.present.depth ∙ e))

  -- it faces a step
  pub facing_of : (get_or t s.at 0 ≡ 0x27 → s.taken < length ts) → Facing t ts ss ls cs s
  facing_of entry = record {
    records = records;
    jumps = js;
    loaded = q.loaded;
    lent = lent;
    backs = bs;
    buffer = es;
    config = g.config;
    present = g.present;
    frame = top.0;
    below = top.1;
    stack = top.2;
    entry = entry;
  }

  -- the table fits the jump table
  pub small : length t ≤ positions
  small = omega (arith, ap length q.loaded.same, q.loaded.sound.size)

  -- it is in the table
  inside : s.at < length t
  inside = at_code (top_frame (tower_of g.present top.2)).code
    where
      at_code : {x : Block Plain} → Settled q.loaded.program.procs top.0.proc s.at x → s.at < length t
      at_code (last c e) = code_inside q.loaded.same q.loaded.sound c
      at_code (first i d r c e) = code_inside q.loaded.same q.loaded.sound c

  -- there are not too many frames
  few : s.depth ≤ most_frames
  few = omega (arith, g.present.depth, stacked_few q.loaded.sound.calls g.present.frames, q.loaded.sound.procs.high)

  -- the step that was decided is due
  due_of : {ls' : List ℕ} {x : Step} (entry : get_or t s.at 0 ≡ 0x27 → s.taken < length ts) → Faced (facing_of entry) ls' x → ((y : Reason) → x ≡ Blocked y → ⊥)
      → length ts < 2 ^ 64 → s.events + 1 < 2 ^ 64 → Due t records js ls' bs cs es s x
  unfolding facing_of
  due_of entry F on room count = record {
    starts = ss;
    loaded = q.loaded;
    lent = lent;
    schedule = ts;
    config = g.config;
    present = F.present;
    frame = top.0;
    below = top.1;
    stack = top.2;
    decision = F.decision;
    args = F.args;
    going = on;
    some = omega (arith, deep_of g.present top.2);
    few = few;
    small = small;
    inside = inside;
    entries = room;
    counted = count;
  }

-- ---- the beginning

-- the first configuration has one frame
start_stack : (p : Program Plain) (ts : List ℕ) {q : Proc Plain} → at p.procs 0 ≡ is q → (C.start p ts).stack ≡ entered 0 q [] ∷ []
start_stack p ts {q} e = go p.procs refl e
  where
    go : (ps : List (Proc Plain)) → p.procs ≡ ps → at ps 0 ≡ is q → (C.start p ts).stack ≡ entered 0 q [] ∷ []
    go [] w z = missing z
    go (x ∷ xs) w z = let same : x ≡ q = is_inj z in rw (w, same)

-- "Sequential tables .. start at procedure 0"
module _ {t : List ℕ} {records : ℕ} {js ss ls bs cs : List ℕ} (q : Starting t records js ss ls bs cs) (ts es : List ℕ) {v : ℕ}
    (e : v ≡ number_at 4 t (records + 2)) where
  start_present : Present q.loaded.program es ts ls bs cs es (record { at = v; depth = 1; thread = 0; taken = 0; events = 0 })
      (C.start q.loaded.program ts)
  start_present =
      let p : Program Plain = q.loaded.program in
      let first = takes_at p.procs 0 0 q.loaded.sound.mains.0 in
      let one : (C.start p ts).stack ≡ entered 0 first.0 [] ∷ [] = start_stack p ts first.1 in
      let H : HeadAt t records p.procs 0 first.0 = head_at_lem q.loaded.same q.loaded.sound q.loaded.place first.1 in
      let here : records + record_size * 0 + 2 ≡ records + 2 = omega arith in
      let few : LocalsRight frame_words first.0 = each_at (LocalsRight frame_words) p.procs 0 q.loaded.sound.locals first.1 in
      let frame : FrameAt p.procs ls 0 v (entered 0 first.0 []) = record {
        proc = first.0;
        found = first.1;
        long = length-replicate (first.0.locals - 0) nothing ∙ omega arith;
        framed =
            framed_entered {fb = frame_words * 0} {n = first.0.locals} [] (framed_none (omega (arith, q.long))) (omega arith)
            (omega (arith, few.locals, q.long)) (record { beside = beside_same; zero = λ k l m. q.zero k });
        code = settled_body first.1 (e ∙ ap (number_at 4 t) (sym here) ∙ H.start);
      } in
      let number : procedure_in (get_or bs 0 0) ≡ 0 = rw q.zeroth in
      record {
        depth = ap length (sym one);
        frames = rw one (more frame tt number none);
        long = q.long;
        backs = q.backs;
        memory = q.cells;
        full = q.full;
        sizes = shape_fresh p.sizes;
        todo = refl;
        taken = omega arith;
        last = refl;
        events = logged_none;
      }

pub going_start : {t : List ℕ} {records : ℕ} {ts js ss ls bs cs es : List ℕ} {h n v w : ℕ} → Starting t records js ss ls bs cs → v ≡ w
    → w ≡ number_at 4 t (records + 2) → length ts < 2 ^ 64 → n < 2 ^ 64
    → Going t records ts js ss ls bs cs h n es ls bs cs es (record { at = v; depth = 1; thread = 0; taken = 0; events = 0 }) 0
going_start {ts = ts} {es = es} {h} {n} q e f room fits =
    let all : n - 0 ≡ n = omega arith in
    record {
      start = q;
      from = λ q. record {
        config = C.start q.loaded.program ts;
        present = start_present q ts es (e ∙ f);
        same = ap (λ (m : ℕ). C.run h q.loaded.program.procs m 0 (C.start q.loaded.program ts)) (sym all);
      };
      low = omega arith;
      counted = omega arith;
      entries = room;
      budget = fits;
    }

-- ---- one law for each way through the loop

module _ {t : List ℕ} {records : ℕ} {ts js ss ls₀ bs₀ cs₀ : List ℕ} {h n : ℕ} {lent ls bs cs es : List ℕ} {s : State} {k : ℕ}
    (G : Going t records ts js ss ls₀ bs₀ cs₀ h n lent ls bs cs es s k) where
  -- the lent buffer keeps its length
  pub going_long : length es ≡ length lent
  going_long = logged_long (G.from G.start).present.events

  -- no more entries were taken than there are
  pub going_taken : s.taken ≤ length ts
  going_taken = (G.from G.start).present.taken

  -- how the run ends, with what the code answers
  ended : {r : Ran} (e : Ends.End) → r ≡ ran_with e k s
      → ((q : Starting t records js ss ls₀ bs₀ cs₀)
      → C.run h q.loaded.program.procs (n - k) k (G.from q).config ≡ record { how = end_of e; steps = k; config = (G.from q).config })
      → Runs t records ts js ss ls₀ bs₀ cs₀ h n lent cs es r
  ended {r} e z f = rw z (record {
    ran = λ q.
        let g = G.from q in
        record {
          how = end_of e;
          config = g.config;
          same = g.same ∙ f q;
          end = refl;
          memory = g.present.memory;
          full = g.present.full;
          sizes = g.present.sizes;
          todo = g.present.todo;
          taken = g.present.taken;
          events = g.present.events;
        };
  })

  -- "judged finished"
  pub going_finished : {r : Ran} → s.depth ≡ 0 → r ≡ ran_with E.Finished k s → Runs t records ts js ss ls₀ bs₀ cs₀ h n lent cs es r
  going_finished e f =
      ended E.Finished f (λ q. run_none h q.loaded.program.procs (n - k) k (G.from q).config
      (empty (G.from q).config.stack (sym (G.from q).present.depth ∙ e)))
    where
      empty : (s : Stack Plain) → length s ≡ 0 → s ≡ []
      empty [] e = refl
      empty (f ∷ s) e = absurd (omega arith)

  module _ (deep : s.depth ≡ 0 → ⊥) where
    -- it stands in the table
    pub going_inside : s.at < length t
    going_inside = inside G.start (G.from G.start) deep

    -- there are not too many frames
    pub going_few : s.depth ≤ most_frames
    going_few = few G.start (G.from G.start) deep

    -- "at its budget"
    pub going_spent : {r : Ran} → k ≡ n → r ≡ ran_with E.Spent k s → Runs t records ts js ss ls₀ bs₀ cs₀ h n lent cs es r
    going_spent e f =
        ended E.Spent f (λ q. run_spent h q.loaded.program.procs (n - k) k (G.from q).config (top q (G.from q) deep).2 (omega arith))

    module _ {u : Bool} (left : k ≡ n → ⊥) (U : UsedUp t ts s u) where
      -- "used up"
      pub going_used : {r : Ran} → u ≡ true → r ≡ ran_with E.UsedUp k s → Runs t records ts js ss ls₀ bs₀ cs₀ h n lent cs es r
      going_used e f = ended E.UsedUp f (λ q. run_ended h q.loaded.program.procs (n - k) k (G.from q).config (next q) (omega (arith, G.low)))
        where
          next : (q : Starting t records js ss ls₀ bs₀ cs₀) → C.next h q.loaded.program.procs (G.from q).config ≡ C.ended used
          next q = go (view q.loaded.same q.loaded.sound (top_frame (tower_of (G.from q).present (top q (G.from q) deep).2)))
            where
              go : View t q.loaded.program (top q (G.from q) deep).0 s.at
                  → C.next h q.loaded.program.procs (G.from q).config ≡ C.ended used
              go (ending c z) = absurd (omega (arith, (U.yes e).0))
              go (acting i d r a c w z o p) = absurd (p (U.yes e).0)
              go (choosing a b d r c w z o p v y) =
                  let none : (G.from q).config.todo ≡ [] = (G.from q).present.todo ∙ rw ((U.yes e).1, drop-length) in
                  next_used h q.loaded.program.procs (G.from q).config (top q (G.from q) deep).2 w none

      -- it faces a step
      pub going_facing : u ≡ false → Facing t ts ss ls cs s
      going_facing e = facing_of G.start (G.from G.start) deep (U.no e)

      module _ {ls' : List ℕ} {x : Step} (e : u ≡ false) (F : Faces t ts ss ls cs s ls' x) where
        -- what it faces
        faced : (q : Starting t records js ss ls₀ bs₀ cs₀) → Faced (facing_of q (G.from q) deep (U.no e)) ls' x
        faced q = F.faced (facing_of q (G.from q) deep (U.no e))

        -- "blocked"
        pub going_blocked : {r : Ran} {y : Reason} → x ≡ Blocked y → r ≡ ran_with (E.Blocked y) k s → Runs t records ts js ss ls₀ bs₀ cs₀ h n lent cs es r
        unfolding facing_of
        going_blocked {y = y} z f =
            ended (E.Blocked y) f (λ q. run_ended h q.loaded.program.procs (n - k) k (G.from q).config
            (next_blocked h (top q (G.from q) deep).2 (faced q).decision z) (omega (arith, G.low)))

        module _ (on : (y : Reason) → x ≡ Blocked y → ⊥) where
          -- a step that goes on is due
          pub step_due : (q : Starting t records js ss ls₀ bs₀ cs₀) → Due t records js ls' bs cs es s x
          step_due q = due_of q (G.from q) deep (U.no e) (faced q) on G.entries (omega (arith, G.low, G.counted, G.budget))

          -- it was carried out
          pub step_on : {ls'' bs' cs' es' : List ℕ} {s' : State} → CarriesOut t records js h ls' bs cs es s x ls'' bs' cs' es' s'
              → Going t records ts js ss ls₀ bs₀ cs₀ h n lent ls'' bs' cs' es' s' (k + 1)
          unfolding step_due due_of
          step_on {s' = s'} K = record {
            start = G.start;
            from = λ q.
                let m = K.moves (step_due q) in
                let fewer : n - k - 1 ≡ n - (k + 1) = omega arith in
                record {
                  config = m.config;
                  present = m.present;
                  same =
                      (G.from q).same
                      ∙ run_goes h q.loaded.program.procs (n - k) k (G.from q).config m.config m.goes (omega (arith, G.low))
                      ∙ ap (λ (j : ℕ). C.run h q.loaded.program.procs j (k + 1) m.config) fewer;
                };
            low = omega (arith, G.low);
            counted = omega (arith, G.counted, K.most);
            entries = G.entries;
            budget = G.budget;
          }

          -- wherever the run started
          pub going_due : Due t records js ls' bs cs es s x
          going_due = step_due G.start

-- one law for each way
pub ruleset going_ways = (
  going_start,
  going_long,
  going_taken,
  going_finished,
  going_inside,
  going_few,
  going_spent,
  going_used,
  going_facing,
  going_blocked,
  going_due,
  step_on,
)

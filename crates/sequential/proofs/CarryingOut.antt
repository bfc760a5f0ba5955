-- Carrying out a step that is due, way by way.
use Prim.Native.Nat.{ℕ, suc, ◌+◌, ◌*◌, ◌-◌, ◌≤◌, ◌<◌}
use native.Mathlib.Omega.{arith}
use mathlib.Core.Path.{◌≡◌, refl, sym, ap, ◌∙◌}
use mathlib.Core.List.{List, ◌∷◌, map}
use mathlib.Core.Bool.{Bool, true, false}
use lib.ListN.{length, get_or, set, drop, length-append, length-map, length-set, length-drop, length-replicate}
use lib.Seq.{get_or-set_same, drop-drop}
use borrow.Author.Tests.{lt-ltb, le-ltb}
use lib.IntN.{pos}
use Rattle.value.specs.Maybe.{is}
use Rattle.value.specs.Try.{has}
use Rattle.value.specs.declared.Reason.{Reason}
use Rattle.basics.specs.Places.{number_at}
use Rattle.value.specs.declared.Value.{Value}
use Rattle.value.specs.declared.Value.TheVariants.{Whole}
use Rattle.value.proofs.Laws.Lists.{each_at}
use Rattle.format.specs.Syntax.{while, Block, step, ◌⊕◌, Proc, Plain}
use Rattle.format.proofs.Laws.Sound.{LocalsRight}
use Rattle.format.proofs.Laws.Calls.{Calls}
use Rattle.format.proofs.Laws.Procs.{takes_at}
use Rattle.format.specs.Encode.{record_size}
use Rattle.decide.specs.declared.step.Step.{Step}
use Rattle.decide.specs.declared.step.Step.TheVariants.{Return, Assign, Read, Write, Test, Call, Select, Blocked}
use Rattle.sequential.specs.declared.machine.State.{State}
use Rattle.semantics.specs.Memory.{Memory, stored, Event}
use Rattle.semantics.specs.Step.{entered}
use Rattle.engine.specs.Work.{Puts, Clears, frame_words, Framed}
use Rattle.engine.specs.Events.{with_event}
use Rattle.jumps.specs.Jumps.{positions, Settles, Branches}
use Rattle.sequential.specs.Frames.{word_of, place_in, procedure_in, FrameAt, Stacked, more}
use Rattle.sequential.specs.Sequential.{Due, event_in, Recorded, Enters, moved_to, selected_to, Moves, CarriesOut}
use Rattle.engine.specs.Laws.Work.{beside_put, framed_below, framed_entered}
use Rattle.engine.specs.Laws.Holding.{holds_put}
use Rattle.semantics.proofs.Laws.Cells.{shape_stored}
use Rattle.engine.specs.Laws.Logging.{logged_more}
use Rattle.decide.specs.Laws.Deciding.{evals_length}
use Rattle.sequential.proofs.Standing.{code_named, HeadAt, head_at_lem, settled_body}
use Rattle.sequential.proofs.Framing.{frame_small, stacked_back, code_calls, never_runs}
use Rattle.sequential.proofs.Nexts.{restacked, recoded, rebound, event_at, events_with, next_return, next_assign}
use Rattle.sequential.proofs.Nexts.{next_read, next_write, next_while, next_if, next_call, next_select}
use Rattle.sequential.proofs.DueSteps.{Doing, returning, assigning, reading, writing, looping, choosing, calling, selecting}
use Rattle.sequential.proofs.DueSteps.{tower, deep, within, done, to, went_on, goes_on, recodes, rebinds}
use Rattle.sequential.proofs.DueSteps.{top_rest, top_moves, code_after, code_body, code_then, cell_is, select_cell}
use Rattle.sequential.proofs.DueSteps.{call_enterable, assign_after, read_after, write_after, test_after, call_after}
use Rattle.sequential.proofs.DueSteps.{select_after, assign_room, read_room, write_room, select_room, select_counts}
pub use Rattle.sequential.proofs.DueSteps.{tower_of, deep_of, top_frame, some_size}

-- ---- one law for each step

module _ {t : List ℕ} {records : ℕ} {js : List ℕ} {h : ℕ} {ls bs cs es : List ℕ} {s : State} {x : Step} where
  -- "x := e"
  pub did_assign : {y n k : ℕ} {v : Value} {ls' : List ℕ} {s' : State} → x ≡ Assign y v n → Puts ls ls' (frame_words * (s.depth - 1) + y) v
      → Settles t js n k → s' ≡ moved_to s k s.depth s.events → CarriesOut t records js h ls bs cs es s x ls' bs cs es s'
  did_assign {y} {n} {k} {v} {ls'} e w g f = rw f (record { moves = λ d. go d (done d e); most = omega arith })
    where
      go : (d : Due t records js ls bs cs es s x) → Doing d.loaded.program d.config d.frame s.at (Assign y v n)
          → Moves d.loaded.program d.lent d.schedule h d.config ls' bs cs es (to d k)
      go d (assigning a b r o q z u) =
          let F = top_frame (tower d) in
          let low : y < length d.frame.env = omega (arith, F.long, (code_named d.loaded.same d.loaded.sound F.found o).0) in
          record {
            config = restacked d.config (rebound d.frame y v (b ⊕ r) ∷ d.below);
            goes = next_assign h d.loaded.program.procs d.config d.stack q u;
            present = went_on d (rebound d.frame y v (b ⊕ r)) (beside_put w).long (rebinds d low w (goes_on d b g (code_after o z)));
          }

  -- "while", "if, then, else"
  pub did_test : {n k : ℕ} {q : Bool} {s' : State} → x ≡ Test q n → Branches t js s.at q n k → s' ≡ moved_to s k s.depth s.events
      → CarriesOut t records js h ls bs cs es s x ls bs cs es s'
  did_test {n} {k} {q} e B f = rw f (record { moves = λ d. go d q refl (done d e); most = omega arith })
    where
      go : (d : Due t records js ls bs cs es s x) (g : Bool) → q ≡ g → Doing d.loaded.program d.config d.frame s.at (Test q n)
          → Moves d.loaded.program d.lent d.schedule h d.config ls bs cs es (to d k)
      go d true f (looping a b b' r o w z u) =
          let all : Block Plain = b ⊕ step tt (while a b) (b' ⊕ r) in
          record {
            config = restacked d.config (recoded d.frame all ∷ d.below);
            goes = next_while h d.loaded.program.procs d.config d.stack w (u ∙ ap has f);
            present = went_on d (recoded d.frame all) refl (recodes d (goes_on d b (B.yes f) (code_body o z)));
          }
      go d false f (looping a b b' r o w z u) = record {
        config = restacked d.config (recoded d.frame (b' ⊕ r) ∷ d.below);
        goes = next_while h d.loaded.program.procs d.config d.stack w (u ∙ ap has f);
        present = went_on d (recoded d.frame (b' ⊕ r)) refl (recodes d (rw (B.no f) ((d.loaded.jumps.entry _ _ _ _ o).goes (b' ⊕ r) refl)));
      }
      go d true f (choosing a b b' b'' r o w z u) =
          let all : Block Plain = b ⊕ (b'' ⊕ r) in
          record {
            config = restacked d.config (recoded d.frame all ∷ d.below);
            goes = next_if h d.loaded.program.procs d.config d.stack w (u ∙ ap has f);
            present = went_on d (recoded d.frame all) refl (recodes d (goes_on d b (B.yes f) (code_then o z)));
          }
      go d false f (choosing a b b' b'' r o w z u) =
          let all : Block Plain = b' ⊕ (b'' ⊕ r) in
          record {
            config = restacked d.config (recoded d.frame all ∷ d.below);
            goes = next_if h d.loaded.program.procs d.config d.stack w (u ∙ ap has f);
            present = went_on d (recoded d.frame all) refl (recodes d (rw (B.no f) ((d.loaded.jumps.entry _ _ _ _ o).goes all refl)));
          }

  -- the end of a body: the frame below goes on where its caller wrote
  pub did_return : {k : ℕ} {s' : State} → x ≡ Return → k ≡ place_in (get_or bs (s.depth - 1) 0) → s' ≡ moved_to s k (s.depth - 1) s.events
      → CarriesOut t records js h ls bs cs es s x ls bs cs es s'
  did_return {k} e f z = rw z (record { moves = λ d. go d (done d e); most = omega arith })
    where
      go : (d : Due t records js ls bs cs es s x) → Doing d.loaded.program d.config d.frame s.at Return
          → Moves d.loaded.program d.lent d.schedule h d.config ls bs cs es (moved_to s k (s.depth - 1) s.events)
      go d (returning q) =
          let less : s.depth - 1 ≡ length d.below = omega (arith, deep d) in
          record {
            config = restacked d.config d.below;
            goes = next_return h d.loaded.program.procs d.config d.stack q;
            present = record {
              depth = less;
              frames = rw (f, less) (top_rest (tower d));
              long = d.present.long;
              backs = d.present.backs;
              memory = d.present.memory;
              full = d.present.full;
              sizes = d.present.sizes;
              todo = d.present.todo;
              taken = d.present.taken;
              last = d.present.last;
              events = d.present.events;
            };
          }

  -- "x := y[o]"
  pub did_read : {y l i n k a : ℕ} {v : Value} {ls' es' : List ℕ} {s' : State} → x ≡ Read y l i v n → Puts ls ls' (frame_words * (s.depth - 1) + y) v
      → Recorded h es s.events (event_in bs s false l i v) es' a → Settles t js n k → s' ≡ moved_to s k s.depth a
      → CarriesOut t records js h ls bs cs es s x ls' bs cs es' s'
  did_read {y} {l} {i} {n} {k} {a} {v} {ls'} {es'} e w E g f = rw f (record { moves = λ d. go d (done d e); most = E.most })
    where
      go : (d : Due t records js ls bs cs es s x) → Doing d.loaded.program d.config d.frame s.at (Read y l i v n)
          → Moves d.loaded.program d.lent d.schedule h d.config ls' bs cs es' (moved_to s k s.depth a)
      go d (reading y' o b r p q z u u' u'') =
          let F = top_frame (tower d) in
          let low : y < length d.frame.env = omega (arith, F.long, (code_named d.loaded.same d.loaded.sound F.found p).0) in
          record {
            config = record {
              stack = rebound d.frame y v (b ⊕ r) ∷ d.below;
              memory = d.config.memory;
              todo = d.config.todo;
              last = d.config.last;
              events = events_with h d.config (event_at d.config d.frame.proc false l i v);
            };
            goes = next_read h d.loaded.program.procs d.config d.stack q u u' u'';
            present = record {
              depth = deep d;
              frames = rebinds d low w (goes_on d b g (code_after p z));
              long = (beside_put w).long ∙ d.present.long;
              backs = d.present.backs;
              memory = d.present.memory;
              full = d.present.full;
              sizes = d.present.sizes;
              todo = d.present.todo;
              taken = d.present.taken;
              last = d.present.last;
              events = rw (d.present.last, ← within d) (E.logged d.lent d.config.events d.present.events);
            };
          }

  -- "y[o] := e"
  pub did_write : {l i j n k a : ℕ} {v : Value} {cs' es' : List ℕ} {s' : State} → x ≡ Write l i j v n → Puts cs cs' j v
      → Recorded h es s.events (event_in bs s true l i v) es' a → Settles t js n k → s' ≡ moved_to s k s.depth a
      → CarriesOut t records js h ls bs cs es s x ls bs cs' es' s'
  did_write {l} {i} {j} {n} {k} {a} {v} {cs'} {es'} e w E g z = rw z (record { moves = λ d. go d (done d e); most = E.most })
    where
      go : (d : Due t records js ls bs cs es s x) → Doing d.loaded.program d.config d.frame s.at (Write l i j v n)
          → Moves d.loaded.program d.lent d.schedule h d.config ls bs cs' es' (moved_to s k s.depth a)
      go d (writing y o m b r u p q z u₀ u₁ u₂ u₃ f) = record {
        config = record {
          stack = recoded d.frame (b ⊕ r) ∷ d.below;
          memory = stored d.config.memory l i v;
          todo = d.config.todo;
          last = d.config.last;
          events = events_with h d.config (event_at d.config d.frame.proc true l i v);
        };
        goes = next_write h d.loaded.program.procs d.config d.stack q u₀ u₁ u₂ u₃;
        present = record {
          depth = deep d;
          frames = recodes d (goes_on d b g (code_after p z));
          long = d.present.long;
          backs = d.present.backs;
          memory = holds_put d.present.memory (cell_is d.config.memory l i u₃ f) w;
          full = (beside_put w).long ∙ d.present.full;
          sizes = shape_stored d.config.memory l i v ∙ d.present.sizes;
          todo = d.present.todo;
          taken = d.present.taken;
          last = d.present.last;
          events = rw (d.present.last, ← within d) (E.logged d.lent d.config.events d.present.events);
        };
      }

  -- "select"
  pub did_select : {j u n k : ℕ} {v : Value} {cs' : List ℕ} {s' : State} → x ≡ Select j u n → v ≡ Whole (pos u) → Puts cs cs' j v → Settles t js n k
      → s' ≡ selected_to s k u → CarriesOut t records js h ls bs cs es s x ls bs cs' es s'
  did_select {j} {u} {n} {k} {v} {cs'} e i w g f = rw f (record { moves = λ d. go d (done d e); most = omega arith })
    where
      go : (d : Due t records js ls bs cs es s x) → Doing d.loaded.program d.config d.frame s.at (Select j u n)
          → Moves d.loaded.program d.lent d.schedule h d.config ls bs cs' es (selected_to s k u)
      go d (selecting a b us b' r o p q z u₀ u₁ f) =
          let η : Memory = d.config.memory in
          let rest : drop s.taken d.schedule ≡ u ∷ us = sym d.present.todo ∙ u₀ in
          record {
            config = record {
              stack = recoded d.frame (b' ⊕ r) ∷ d.below;
              memory = stored η a 0 (Whole (pos u));
              todo = us;
              last = u;
              events = d.config.events;
            };
            goes = next_select h d.loaded.program.procs d.config d.stack q u₀ u₁;
            present = record {
              depth = deep d;
              frames = recodes d (goes_on d b' g (code_after p z));
              long = d.present.long;
              backs = d.present.backs;
              memory = rw (← i) (holds_put d.present.memory (select_cell d p f) w);
              full = (beside_put w).long ∙ d.present.full;
              sizes = shape_stored η a 0 (Whole (pos u)) ∙ d.present.sizes;
              todo = sym (ap (drop 1) rest) ∙ drop-drop 1 s.taken d.schedule;
              taken = omega (arith, length-drop s.taken d.schedule, ap length rest);
              last = refl;
              events = d.present.events;
            };
          }

  -- "call procedure m"
  pub did_call : {m n k v : ℕ} {ls' bs' : List ℕ} {s' : State} → x ≡ Call m n → Settles t js n k → Enters t records s.depth m k ls bs ls' bs' v
      → s' ≡ moved_to s v (s.depth + 1) s.events → CarriesOut t records js h ls bs cs es s x ls' bs' cs es s'
  did_call {m} {n} {k} {v} {ls'} {bs'} e g N f = rw f (record { moves = λ d. go d (done d e); most = omega arith })
    where
      go : (d : Due t records js ls bs cs es s x) → Doing d.loaded.program d.config d.frame s.at (Call m n)
          → Moves d.loaded.program d.lent d.schedule h d.config ls' bs' cs es (moved_to s v (s.depth + 1) s.events)
      go d (calling as' b r vs o w z u) =
          let ps : List (Proc Plain) = d.loaded.program.procs in
          let F = top_frame (tower d) in
          let callee = takes_at ps m (length as') (code_named d.loaded.same d.loaded.sound F.found o).0 in
          let q : Proc Plain = callee.0 in
          let H : HeadAt t records ps m q = head_at_lem d.loaded.same d.loaded.sound d.loaded.place callee.1 in
          let right : LocalsRight frame_words q = each_at (LocalsRight frame_words) ps m d.loaded.sound.locals callee.1 in
          let count : length vs ≡ q.params = evals_length d.frame.env as' u ∙ sym callee.2 in
          let base : frame_words * s.depth ≡ frame_words * suc (length d.below) = omega (arith, deep d) in
          let cleared : Clears ls ls' (frame_words * suc (length d.below) + length vs) (frame_words * suc (length d.below) + q.locals) =
          rw (base, H.params, H.locals, ← count) at N.clears
          in
          let passed : Framed ls (frame_words * suc (length d.below)) (map is vs) = rw base at (d.args m as' (b ⊕ r) vs w u) in
          let few = frame_small ps d.loaded.sound.locals F in
          let kept : Framed ls' (frame_words * length d.below) d.frame.env = framed_below cleared.beside (omega arith) F.framed in
          let caller : Stacked ps ls' bs k (recoded d.frame (b ⊕ r) ∷ d.below) =
          top_moves d.loaded.sound (tower d) cleared.beside (omega arith) d.frame.env (b ⊕ r) refl kept (goes_on d b g (code_after o z))
          in
          let called : Calls ps d.frame.proc m = code_calls o in
          let frame : FrameAt ps ls' (suc (length d.below)) v (entered m q vs) = record {
            proc = q;
            found = callee.1;
            long = rw (length-append, length-map, length-replicate) (omega (arith, right.params));
            framed = framed_entered vs passed (omega (arith, right.params)) (omega (arith, right.locals, d.few, deep d, d.present.long)) cleared;
            code = settled_body callee.1 (N.start ∙ H.start);
          } in
          let word : get_or bs' (suc (length d.below)) 0 ≡ word_of k m =
          rw (N.back, ← deep d) (get_or-set_same bs s.depth (word_of k m) 0 (omega (arith, d.few, d.present.backs)))
          in
          let back : place_in (word_of k m) ≡ k = omega (arith, g.below) in
          let quotient : procedure_in (word_of k m) ≡ m = omega (arith, g.below) in
          let number : procedure_in (get_or bs' (suc (length d.below)) 0) ≡ m = rw word quotient in
          let below : Stacked ps ls' bs' (place_in (get_or bs' (suc (length d.below)) 0)) (recoded d.frame (b ⊕ r) ∷ d.below) =
          rw (word, back, N.back) (stacked_back (word_of k m) (omega (arith, deep d)) caller)
          in
          record {
            config = restacked d.config (entered m q vs ∷ recoded d.frame (b ⊕ r) ∷ d.below);
            goes = next_call h ps d.config d.stack w u callee.1 (never_runs d.loaded.sound.calls m called (tower d));
            present = record {
              depth = omega (arith, deep d);
              frames = more frame called number below;
              long = N.clears.beside.long ∙ d.present.long;
              backs = rw (N.back, length-set) d.present.backs;
              memory = d.present.memory;
              full = d.present.full;
              sizes = d.present.sizes;
              todo = d.present.todo;
              taken = d.present.taken;
              last = d.present.last;
              events = d.present.events;
            };
          }

  -- a step that blocks is not carried out
  pub did_nothing : {y : Reason} → x ≡ Blocked y → CarriesOut t records js h ls bs cs es s x ls bs cs es s
  did_nothing e = record { moves = λ d. absurd (d.going _ e); most = omega arith }

-- where a run goes on there is an entry
pub settles_below : {t js : List ℕ} {k v : ℕ} → Settles t js k v → v < positions
settles_below S = S.below

-- one law for each way through a step
pub ruleset carry_ways = (
  settles_below,
  did_nothing,
  call_enterable,
  assign_after,
  read_after,
  write_after,
  test_after,
  call_after,
  select_after,
  assign_room,
  read_room,
  write_room,
  select_room,
  select_counts,
  did_assign,
  did_test,
  did_return,
  did_read,
  did_write,
  did_select,
  did_call,
)

-- ---- events

module _ {h : ℕ} {es : List ℕ} {n : ℕ} {e : Event} where
  -- of a location below h
  pub event_kept : {j : ℕ} {es' : List ℕ} → e.place < h → j ≡ e.label
      → es' ≡ with_event es n (record { thread = e.thread; way = e.way; place = e.place; index = e.index; value = e.value; label = j })
      → Recorded h es n e es' (n + 1)
  event_kept l f q = record { logged = λ lent evs L. rw (lt-ltb e.place h l) (logged_more e L (rw f at q)); most = omega arith }

  -- of another
  pub event_passed : h ≤ e.place → Recorded h es n e es n
  event_passed l = record { logged = λ lent evs L. rw (le-ltb e.place h l) L; most = omega arith }

-- one law for each way
pub ruleset event_ways = (event_kept, event_passed)

-- ---- a procedure begins

pub did_enter : {t : List ℕ} {records d m k a b u v w : ℕ} {ls bs ls' : List ℕ} → u ≡ word_of k m → a ≡ get_or t (records + record_size * m) 0
    → b ≡ get_or t (records + record_size * m + 1) 0 → Clears ls ls' (frame_words * d + a) (frame_words * d + b) → v ≡ w → w ≡ number_at 4 t (records + record_size * m + 2)
    → Enters t records d m k ls bs ls' (set bs d u) v
did_enter {d = d} {bs = bs} r e f C g h = record { back = ap (set bs d) r; clears = rw (← e, ← f) C; start = g ∙ h }

-- the one way
pub ruleset enter_ways = (did_enter)

-- Carrying out a quick step, way by way.
use Prim.Native.Nat.{ℕ, ◌+◌, ◌*◌, ◌-◌, ◌/◌, ◌≤◌, ◌<◌}
use native.Mathlib.Omega.{arith}
use mathlib.Core.Path.{◌≡◌, refl, sym, ap, ◌∙◌}
use mathlib.Core.List.{List}
use mathlib.Core.Bool.{Bool, true, false}
use lib.ListN.{length, set}
use mir.Val.{Fits}
use mir.Syntax.{w64}
use Rattle.value.specs.Try.{has, lacks}
use Rattle.value.specs.Values.{given}
use Rattle.value.specs.declared.Value.{Value}
use Rattle.value.specs.declared.Reason.{Reason}
use Rattle.std.specs.Prelude.{Result, Ok, Err}
use Rattle.value.proofs.Laws.Tests.{never}
use Rattle.value.proofs.Laws.Tries.{has_inj, lacking}
use Rattle.semantics.specs.Buffers.{event_size}
use Rattle.decide.specs.declared.step.Step.{Step}
use Rattle.quick.specs.declared.turn.Quick.{Quick}
use Rattle.quick.specs.declared.turn.Quick.TheVariants.{Assign, Read, Write, Holds, Fails, Call, Left}
use Rattle.sequential.specs.declared.machine.State.{State}
use Rattle.engine.specs.Words.{value_in}
use Rattle.engine.specs.Work.{frame_words, local_words, cell_words}
use Rattle.engine.specs.Laws.Logging.{event_past}
use Rattle.jumps.specs.Jumps.{Settles}
use Rattle.sequential.specs.Sequential.{event_in, Recorded, Enterable, Enters, moved_to, CarriesOut}
use Rattle.sequential.specs.Words.{RecordedWord, Means, assigns, reads, writes, holds, calls, Asked, one, DueWords, CarriesWords}
use Rattle.sequential.proofs.CarryingOut.{did_assign, did_read, did_write, did_test, did_call, event_kept, event_passed, settles_below}
use Rattle.sequential.proofs.DueSteps.{call_enterable, assign_after, read_after, write_after, test_after, call_after}
use Rattle.sequential.proofs.DueSteps.{assign_room, read_room, write_room}

-- ---- events of words

module _ {h : ℕ} {bs es : List ℕ} {s : State} {ws : Bool} {l i w : ℕ} where
  -- of a location that is not recorded
  pub word_passed : h ≤ l → RecordedWord h bs es s ws l i w es s.events
  word_passed g = record { recorded = λ v e. event_passed g }

  -- of one that is, with room: the word holds one value
  pub word_kept : {a : Result Value Reason} {u : Value} {es' : List ℕ} {n : ℕ} → given a ≡ value_in w → a ≡ Ok u
      → Recorded h es s.events (event_in bs s ws l i u) es' n → RecordedWord h bs es s ws l i w es' n
  word_kept {a} {u} {es'} {n} g f R = record {
    recorded = λ v e.
        let same : u ≡ v = has_inj (sym (ap given f) ∙ g ∙ rw e) in
        rw (← same) R;
  }

  -- without room it is only counted
  pub word_counted : l < h → length es / event_size ≤ s.events → RecordedWord h bs es s ws l i w es (s.events + 1)
  word_counted g f = record { recorded = λ v e. event_kept g refl (event_past es s.events (event_in bs s ws l i v) f) }

  -- a word that holds none is not asked for
  pub word_none : {a : Result Value Reason} {r : Reason} {es' : List ℕ} {n : ℕ} → given a ≡ value_in w → a ≡ Err r → RecordedWord h bs es s ws l i w es' n
  word_none {r = r} g o = record {
    recorded = λ v e.
        let none : lacks r ≡ has v = sym (ap given o) ∙ g ∙ rw e in
        lacking none;
  }

-- one law for each way
pub ruleset word_ways = (word_passed, word_kept)

-- ---- what carrying out asks

module _ {t : List ℕ} {records : ℕ} {js ls bs cs es : List ℕ} {s : State} {q : Quick} where
  -- a local of the top frame
  pub words_assign_room : {y w n : ℕ} → DueWords t records js ls bs cs es s q → q ≡ Assign y w n → frame_words * (s.depth - 1) + y < local_words
  words_assign_room {y} {w} {n} d e = go (rw e at d.asked)
    where
      go : Asked t records js ls bs cs es s (Assign y w n) → frame_words * (s.depth - 1) + y < local_words
      go (one _ (assigns h) u) = omega (arith, assign_room u refl, d.long)

  pub words_read_room : {y l i w n : ℕ} → DueWords t records js ls bs cs es s q → q ≡ Read y l i w n → frame_words * (s.depth - 1) + y < local_words
  words_read_room {y} {l} {i} {w} {n} d e = go (rw e at d.asked)
    where
      go : Asked t records js ls bs cs es s (Read y l i w n) → frame_words * (s.depth - 1) + y < local_words
      go (one _ (reads h) u) = omega (arith, read_room u refl, d.long)

  -- the number of a cell
  pub words_write_room : {l i j w n : ℕ} → DueWords t records js ls bs cs es s q → q ≡ Write l i j w n → j < cell_words
  words_write_room {l} {i} {j} {w} {n} d e = go (rw e at d.asked)
    where
      go : Asked t records js ls bs cs es s (Write l i j w n) → j < cell_words
      go (one _ (writes h) u) = omega (arith, write_room u refl, d.full)

  -- they are small
  pub words_assign_small : {y w n : ℕ} → DueWords t records js ls bs cs es s q → q ≡ Assign y w n → Fits w64 (frame_words * (s.depth - 1) + y)
  words_assign_small d e = record { fits = omega (arith, words_assign_room d e) }

  pub words_read_small : {y l i w n : ℕ} → DueWords t records js ls bs cs es s q → q ≡ Read y l i w n → Fits w64 (frame_words * (s.depth - 1) + y)
  words_read_small d e = record { fits = omega (arith, words_read_room d e) }

  -- in bytes too
  pub words_assign_bytes : {y w n : ℕ} → DueWords t records js ls bs cs es s q → q ≡ Assign y w n → Fits w64 ((frame_words * (s.depth - 1) + y) * 8)
  words_assign_bytes d e = record { fits = omega (arith, words_assign_room d e) }

  pub words_read_bytes : {y l i w n : ℕ} → DueWords t records js ls bs cs es s q → q ≡ Read y l i w n → Fits w64 ((frame_words * (s.depth - 1) + y) * 8)
  words_read_bytes d e = record { fits = omega (arith, words_read_room d e) }

  pub words_write_bytes : {l i j w n : ℕ} → DueWords t records js ls bs cs es s q → q ≡ Write l i j w n → Fits w64 (j * 8)
  words_write_bytes d e = record { fits = omega (arith, words_write_room d e) }

  -- where it goes on
  pub words_assign_after : {y w n : ℕ} → DueWords t records js ls bs cs es s q → q ≡ Assign y w n → n < length t
  words_assign_after {y} {w} {n} d e = go (rw e at d.asked)
    where
      go : Asked t records js ls bs cs es s (Assign y w n) → n < length t
      go (one _ (assigns h) u) = assign_after u refl

  pub words_read_after : {y l i w n : ℕ} → DueWords t records js ls bs cs es s q → q ≡ Read y l i w n → n < length t
  words_read_after {y} {l} {i} {w} {n} d e = go (rw e at d.asked)
    where
      go : Asked t records js ls bs cs es s (Read y l i w n) → n < length t
      go (one _ (reads h) u) = read_after u refl

  pub words_write_after : {l i j w n : ℕ} → DueWords t records js ls bs cs es s q → q ≡ Write l i j w n → n < length t
  words_write_after {l} {i} {j} {w} {n} d e = go (rw e at d.asked)
    where
      go : Asked t records js ls bs cs es s (Write l i j w n) → n < length t
      go (one _ (writes h) u) = write_after u refl

  pub words_holds_after : {n : ℕ} → DueWords t records js ls bs cs es s q → q ≡ Holds n → n < length t
  words_holds_after {n} d e = go (rw e at d.asked)
    where
      go : Asked t records js ls bs cs es s (Holds n) → n < length t
      go (one _ holds u) = test_after u refl

  pub words_call_after : {m n : ℕ} → DueWords t records js ls bs cs es s q → q ≡ Call m n → n < length t
  words_call_after {m} {n} d e = go (rw e at d.asked)
    where
      go : Asked t records js ls bs cs es s (Call m n) → n < length t
      go (one _ calls u) = call_after u refl

  -- there is room for the frame of a call
  pub words_enterable : {m n : ℕ} → DueWords t records js ls bs cs es s q → q ≡ Call m n → Enterable t records s.depth m
  words_enterable {m} {n} d e = go (rw e at d.asked)
    where
      go : Asked t records js ls bs cs es s (Call m n) → Enterable t records s.depth m
      go (one _ calls u) = call_enterable u refl

-- ---- one law for each step

-- it stands for one step; those that do not are told apart
abbrev count : Quick → ℕ
count (Assign x w n) = 1
count (Read x l i w n) = 1
count (Write l i k w n) = 1
count (Holds n) = 1
count (Fails k n) = 2
count (Call m n) = 1
count Left = 0

means_one : {q : Quick} {x : Step} → Means q x → count q ≡ 1
means_one (assigns h) = refl
means_one (reads h) = refl
means_one (writes h) = refl
means_one holds = refl
means_one calls = refl

-- tests that fail are several
alone : {G : Type 0} {q : Quick} {k n : ℕ} → count q ≡ 1 → q ≡ Fails k n → G
alone e z = absurd (omega (arith, e, ap count z))

module _ {t : List ℕ} {records : ℕ} {js : List ℕ} {h : ℕ} {ls bs cs es : List ℕ} {s : State} {q : Quick} where
  -- "x := e"
  pub words_assign : {y w n k : ℕ} {s' : State} → q ≡ Assign y w n → Settles t js n k → s' ≡ moved_to s k s.depth s.events
      → CarriesWords t records js h ls bs cs es s q (set ls (frame_words * (s.depth - 1) + y) w) bs cs es s'
  words_assign {y} {w} {n} {k} {s'} e g f = rw e (record { carried = go; passed = λ k n z. alone refl z })
    where
      go : (x : Step) → Means (Assign y w n) x → CarriesOut t records js h ls bs cs es s x (set ls (frame_words * (s.depth - 1) + y) w) bs cs es s'
      go _ (assigns o) = did_assign refl (record { word = w; holds = o; stored = refl }) g f

  -- "x := y[o]"
  pub words_read : {y l i w n k a : ℕ} {es' : List ℕ} {s' : State} → q ≡ Read y l i w n → RecordedWord h bs es s false l i w es' a → Settles t js n k
      → s' ≡ moved_to s k s.depth a → CarriesWords t records js h ls bs cs es s q (set ls (frame_words * (s.depth - 1) + y) w) bs cs es' s'
  words_read {y} {l} {i} {w} {n} {k} {a} {es'} {s'} e R g f = rw e (record { carried = go; passed = λ k n z. alone refl z })
    where
      go : (x : Step) → Means (Read y l i w n) x
          → CarriesOut t records js h ls bs cs es s x (set ls (frame_words * (s.depth - 1) + y) w) bs cs es' s'
      go _ (reads {v = v} o) = did_read refl (record { word = w; holds = o; stored = refl }) (R.recorded v o) g f

  -- "y[o] := e"
  pub words_write : {l i j w n k a : ℕ} {es' : List ℕ} {s' : State} → q ≡ Write l i j w n → RecordedWord h bs es s true l i w es' a → Settles t js n k
      → s' ≡ moved_to s k s.depth a → CarriesWords t records js h ls bs cs es s q ls bs (set cs j w) es' s'
  words_write {l} {i} {j} {w} {n} {k} {a} {es'} {s'} e R g f = rw e (record { carried = go; passed = λ k n z. alone refl z })
    where
      go : (x : Step) → Means (Write l i j w n) x → CarriesOut t records js h ls bs cs es s x ls bs (set cs j w) es' s'
      go _ (writes {v = v} o) = did_write refl (record { word = w; holds = o; stored = refl }) (R.recorded v o) g f

  -- a test that holds
  pub words_holds : {n k : ℕ} {s' : State} → q ≡ Holds n → Settles t js n k → s' ≡ moved_to s k s.depth s.events
      → CarriesWords t records js h ls bs cs es s q ls bs cs es s'
  words_holds {n} {k} {s'} e g f = rw e (record { carried = go; passed = λ k n z. alone refl z })
    where
      go : (x : Step) → Means (Holds n) x → CarriesOut t records js h ls bs cs es s x ls bs cs es s'
      go _ holds = did_test refl (record { yes = λ z. g; no = λ z. absurd (never (sym z)) }) f

  -- "call procedure m"
  pub words_call : {m n k v : ℕ} {ls' bs' : List ℕ} {s' : State} → q ≡ Call m n → Settles t js n k → Enters t records s.depth m k ls bs ls' bs' v
      → s' ≡ moved_to s v (s.depth + 1) s.events → CarriesWords t records js h ls bs cs es s q ls' bs' cs es s'
  words_call {m} {n} {k} {v} {ls'} {bs'} {s'} e g N f = rw e (record { carried = go; passed = λ k n z. alone refl z })
    where
      go : (x : Step) → Means (Call m n) x → CarriesOut t records js h ls bs cs es s x ls' bs' cs es s'
      go _ calls = did_call refl g N f

  -- tests that fail
  pub words_fails : {k n : ℕ} {s' : State} → q ≡ Fails k n → s' ≡ moved_to s k s.depth s.events
      → CarriesWords t records js h ls bs cs es s q ls bs cs es s'
  words_fails {k} {n} {s'} e f = rw e (record {
    carried = λ x m. absurd (omega (arith, means_one m));
    passed = λ i m z. (refl, refl, refl, refl, f ∙ ap (λ (j : ℕ). moved_to s j s.depth s.events) (same z));
  })
    where
      same : {i m : ℕ} → ◌≡◌ {A = Quick} (Fails k n) (Fails i m) → k ≡ i
      same z = cc

  -- nothing
  pub words_left : q ≡ Left → CarriesWords t records js h ls bs cs es s q ls bs cs es s
  words_left e = rw e (record { carried = λ x m. absurd (omega (arith, means_one m)); passed = λ k n z. absurd (omega (arith, ap count z)) })

-- one law for each way through a quick step
pub ruleset words_ways = (
  settles_below,
  words_assign_room,
  words_read_room,
  words_write_room,
  words_assign_small,
  words_read_small,
  words_assign_bytes,
  words_read_bytes,
  words_write_bytes,
  words_assign_after,
  words_read_after,
  words_write_after,
  words_holds_after,
  words_call_after,
  words_enterable,
  words_assign,
  words_read,
  words_write,
  words_holds,
  words_call,
  words_fails,
  words_left,
)

-- Events that the code writes, and the bytes that they leave in a lent buffer.
use Rattle.std.specs.Prelude.{ℕ, ◌*◌, ◌/◌, ◌≡◌, List, Bool, true, false, length, ltb}
use Rattle.std.proofs.lemmas.List.Edits.{sets}
use Rattle.value.specs.Maybe.{pick}
use Rattle.value.specs.Lists.{over}
use Rattle.engine.specs.declared.event.Event as E
use Rattle.semantics.specs.Memory.{Way, reading, writing, Event}
use Rattle.semantics.specs.Buffers.{event_size, event_bytes, log}

-- does it write
abbrev pub way_of : Bool → Way
way_of true = writing
way_of false = reading

-- the event that the code's struct is
abbrev pub event_of : E.Event → Event
event_of e = record { thread = e.thread; way = way_of e.writes; place = e.location; index = e.index; value = e.value; label = e.label }

-- a buffer with event number n; as it was, where that does not fit whole
unfoldable pub with_event : List ℕ → ℕ → Event → List ℕ
with_event o n e = pick (ltb n (length o / event_size)) (sets o (n * event_size) (event_bytes e)) o

-- a buffer es in which these events were written, and their count
pub record Logged (es : List ℕ) (evs : List Event) (o : List ℕ) (n : ℕ) : Type 0 where
  pub bytes : o ≡ over (log (length es) evs) es
  pub count : n ≡ length evs

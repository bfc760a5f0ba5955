-- The bytes of final cells and of events in lent buffers: document 01, "The two machines", last paragraph.
use Rattle.std.specs.Prelude.{ℕ, ◌/◌, List, ◌∷◌, ◌++◌, take}
use Rattle.value.specs.Values.{bytes, cell_bytes}
use Rattle.format.specs.Encode.{each}
use Rattle.semantics.specs.Memory.{Memory, Way, reading, writing, Event}

-- "Final cells are written as such values, in location order"
abbrev pub cells : Memory → List ℕ
cells η = each (each cell_bytes) η

-- "0 read or 1 write"
abbrev pub way_byte : Way → ℕ
way_byte reading = 0
way_byte writing = 1

-- "thread, 0 read or 1 write, location (2), index (2), value (5)"; request #105: "13 bytes, the last two being the label of the step"
abbrev pub event_size : ℕ
event_size = 13

-- an event as bytes: `event_size` of them
abbrev pub event_bytes : Event → List ℕ
event_bytes e = e.thread ∷ way_byte e.way ∷ bytes 2 e.place ++ (bytes 2 e.index ++ (cell_bytes e.value ++ bytes 2 e.label))

-- "Events that fit whole are written, later ones only counted": into a buffer of so many bytes
abbrev pub log : ℕ → List Event → List ℕ
log room evs = each event_bytes (take (room / event_size) evs)

-- Events written one after the other are a log.
use Rattle.std.specs.Prelude.{ℕ, suc, ◌+◌, ◌*◌, ◌/◌, ◌≤◌, ◌<◌, ◌≡◌, refl, List, [], ◌∷◌, ◌++◌, length, take, set, ltb}
use Rattle.std.proofs.Common.{add-one, arith, ap, ◌∙◌, append-nil, length-append, length-set, take_all, ltb-true, ltb-false, lt-ltb, le-ltb, le-leb}
use Rattle.std.proofs.lemmas.List.Edits.{sets}
use Rattle.std.proofs.Math.Seq.{length-sets, take-nil}
use Rattle.std.proofs.lemmas.List.{take-append-le}
use Rattle.value.specs.Values.{bytes, cell_bytes, cell_size}
use Rattle.value.proofs.Laws.Bytes.{length_cell}
use Rattle.basics.specs.Places.{with_value}
use Rattle.basics.specs.Laws.Places.{sets_append}
use Rattle.value.proofs.Laws.Tests.{by_test}
use Rattle.value.proofs.Laws.Lists.{length_over}
use Rattle.format.specs.Encode.{each}
use Rattle.format.proofs.Laws.Sections.{length_each}
use Rattle.semantics.specs.Memory.{Event}
use Rattle.semantics.specs.Buffers.{way_byte, event_size, event_bytes, log}
use Rattle.engine.specs.Events.{with_event, Logged}
use Rattle.semantics.proofs.Laws.Called.{length_event, length_log}
use Rattle.engine.specs.Laws.Writing.{each_append, over_more}

-- no events
pub logged_none : {es : List ℕ} → Logged es [] es 0
logged_none {es} = record { bytes = rw take-nil; count = refl }

-- a log does not change the length of the buffer
pub logged_long : {es : List ℕ} {evs : List Event} {o : List ℕ} {n : ℕ} → Logged es evs o n → length o ≡ length es
logged_long {es} {evs} h = ap length h.bytes ∙ length_over (log (length es) evs) es (length_log (length es) evs)

-- one more
pub logged_more : {es : List ℕ} {evs : List Event} {o o' : List ℕ} {n : ℕ} (e : Event) → Logged es evs o n → o' ≡ with_event o n e
    → Logged es (evs ++ (e ∷ [])) o' (n + 1)
unfolding with_event
logged_more {es} {evs} {o} {o'} {n} e h q = record {
  bytes = q ∙ by_test (ltb n (length o / event_size))
      (λ t.
      let below : n < length es / event_size = rw (logged_long h) at (ltb-true n (length o / event_size) t) in
      let all : take (length es / event_size) evs ≡ evs = take_all (length es / event_size) evs (omega (arith, h.count)) in
      let more : take (length es / event_size) (evs ++ (e ∷ [])) ≡ evs ++ (e ∷ []) =
      take_all (length es / event_size) (evs ++ (e ∷ [])) (omega (arith, h.count, length-append evs (e ∷ [])))
      in
      let size : length (each event_bytes evs) ≡ n * event_size = length_each event_bytes event_size length_event evs ∙ omega (arith, h.count) in
      let bytes : each event_bytes (evs ++ (e ∷ [])) ≡ each event_bytes evs ++ event_bytes e =
      each_append event_bytes evs (e ∷ []) ∙ ap (each event_bytes evs ++◌) (append-nil (event_bytes e))
      in
      let room : length (each event_bytes evs) + length (event_bytes e) ≤ length es = omega (arith, length_event e) in
      rw (t, more, bytes, ← size, h.bytes, all) (over_more (each event_bytes evs) (event_bytes e) es room))
      (λ t.
      let above : length es / event_size ≤ length evs = omega (arith, h.count, rw (logged_long h) at (ltb-false n (length o / event_size) t)) in
      rw (t, take-append-le (length es / event_size) evs (e ∷ []) above) h.bytes);
  count = omega (arith, h.count, length-append evs (e ∷ []));
}

-- ---- the bytes of an event, as they are stored

-- two bytes
pub two_stored : (o : List ℕ) (i a b : ℕ) → set (set o i a) (i + 1) b ≡ sets o i (a ∷ b ∷ [])
two_stored o i a b = rw add-one

-- an event that fits
pub event_stored : (o : List ℕ) (n : ℕ) (e : Event) {w : ℕ} {p q r x : List ℕ} → n < length o / event_size → w ≡ way_byte e.way
    → p ≡ sets (set (set o (n * event_size) e.thread) (n * event_size + 1) w) (n * event_size + 2) (bytes 2 e.place) → q ≡ sets p (n * event_size + 4) (bytes 2 e.index)
    → r ≡ with_value q (n * event_size + 6) e.value → x ≡ sets r (n * event_size + 6 + cell_size) (bytes 2 e.label) → x ≡ with_event o n e
unfolding with_event
event_stored o n e {w} {p} {q} {r} {x} h we pe qe re xe =
    let i : ℕ = n * event_size in
    let two : i + 2 ≡ suc (suc i) = omega arith in
    let four : i + 4 ≡ suc (suc (suc (suc i))) = omega arith in
    let six : i + 6 ≡ suc (suc (suc (suc (suc (suc i))))) = omega arith in
    let long : length q ≡ length o = ap length qe ∙ rw (length-sets, pe, length-sets, length-set, length-set) in
    let value : r ≡ sets q (i + 6) (cell_bytes e.value) = re ∙ rw (le-leb (i + 6 + cell_size) (length q) (omega arith)) in
    let last : i + 6 + cell_size ≡ i + 6 + length (cell_bytes e.value) = omega (arith, length_cell e.value) in
    xe
    ∙ rw (value, last, ← sets_append q (i + 6) (cell_bytes e.value) (bytes 2 e.label), lt-ltb n (length o / event_size) h, qe, pe, we, six, four, two, add-one i)

-- one that does not
pub event_past : (o : List ℕ) (n : ℕ) (e : Event) → length o / event_size ≤ n → o ≡ with_event o n e
unfolding with_event
event_past o n e h = rw (le-ltb n (length o / event_size) h)

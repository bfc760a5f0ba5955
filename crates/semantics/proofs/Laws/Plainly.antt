-- The plain run is the concurrent run but for the labels of its events: request #109.
use Rattle.std.specs.Prelude.{ℕ, zero, suc, ◌*◌, ◌-◌, ◌/◌, min, ◌≡◌, refl, List, [], ◌∷◌, ◌++◌, map, true, false, length, take, drop}
use Rattle.std.proofs.Math.Nat.{min-zero}
use Rattle.std.proofs.Common.{sym, ap, ap₂, ◌∙◌, append_assoc, length-take}
use Rattle.std.proofs.lemmas.List.{length-map}
use Rattle.value.specs.Lists.{over}
use Rattle.value.proofs.Laws.Tests.{by_test}
use Rattle.value.specs.declared.Value.{Value}
use Rattle.value.specs.declared.Value.TheVariants.{Whole, Location, Truth}
use Rattle.format.specs.Syntax.{Program, Plain, concurrent}
use Rattle.format.specs.Encode.{each}
use Rattle.format.specs.Rules.{Verdict, refused, accepted, verdict}
use Rattle.semantics.specs.Memory.{Event}
use Rattle.semantics.specs.Threads as P
use Rattle.semantics.specs.Buffers.{event_size, event_bytes, log}
use Rattle.semantics.specs.Calls.{Outcome, ran, untouched, scheduled, roomy, run_as, unlabelled, concurrent_run, concurrent_outcome, concurrent_call}
use Rattle.semantics.specs.Calls.{plain_outcome, plain_call}
use Rattle.semantics.proofs.Laws.Called.{whole_events}

-- of the first n events in a buffer the last two bytes, the label, are 0; all other bytes are as they are
abbrev pub blanked : ℕ → List ℕ → List ℕ
blanked zero bs = bs
blanked (suc n) bs = take (event_size - 2) bs ++ (0 ∷ 0 ∷ blanked n (drop event_size bs))

-- two runs with a buffer of so many bytes for events: equal answers and cells, and equal bytes of events but for their labels
pub record SameButLabels (room : ℕ) (plain first : Outcome) : Type 0 where
  pub answer : plain.answer ≡ first.answer
  pub cells : plain.cells ≡ first.cells
  pub events : plain.events ≡ blanked (min (room / event_size) first.answer.events) first.events

-- an event, and then others
event_blanked : (e : Event) (bs : List ℕ) (n : ℕ) → event_bytes (unlabelled e) ++ blanked n bs ≡ blanked (suc n) (event_bytes e ++ bs)
event_blanked e bs n = on e.value
  where
    of : Value → Event
    of v = record { thread = e.thread; way = e.way; place = e.place; index = e.index; value = v; label = e.label }

    on : (v : Value) → event_bytes (unlabelled (of v)) ++ blanked n bs ≡ blanked (suc n) (event_bytes (of v) ++ bs)
    on (Whole z) = refl
    on (Location l) = refl
    on (Truth true) = refl
    on (Truth false) = refl

-- several, before the other bytes of the buffer
events_blanked : (evs : List Event) (bs : List ℕ) → each event_bytes (map unlabelled evs) ++ bs ≡ blanked (length evs) (each event_bytes evs ++ bs)
events_blanked [] bs = refl
events_blanked (e ∷ evs) bs =
    append_assoc (event_bytes (unlabelled e)) (each event_bytes (map unlabelled evs)) bs
    ∙ ap (event_bytes (unlabelled e) ++◌) (events_blanked evs bs)
    ∙ event_blanked e (each event_bytes evs ++ bs) (length evs)
    ∙ ap (blanked (suc (length evs))) (sym (append_assoc (event_bytes e) (each event_bytes evs) bs))

-- the first ones of unlabelled events
take_unlabelled : (k : ℕ) (evs : List Event) → take k (map unlabelled evs) ≡ map unlabelled (take k evs)
take_unlabelled zero evs = refl
take_unlabelled (suc k) [] = refl
take_unlabelled (suc k) (e ∷ evs) = ap (unlabelled e ∷◌) (take_unlabelled k evs)

-- the bytes of a buffer that was lent
log_blanked : (evs : List Event) (es : List ℕ) → over (log (length es) (map unlabelled evs)) es
    ≡ blanked (min (length es / event_size) (length evs)) (over (log (length es) evs) es)
log_blanked evs es =
    let k : ℕ = length es / event_size in
    let same : length (log (length es) (map unlabelled evs)) ≡ length (log (length es) evs) =
    whole_events (length es) (map unlabelled evs)
    ∙ ap (λ (xs : List Event). event_size * length xs) (take_unlabelled k evs)
    ∙ ap (λ n. event_size * n) (length-map (take k evs) unlabelled)
    ∙ sym (whole_events (length es) evs)
    in
    ap₂ ◌++◌ (ap (each event_bytes) (take_unlabelled k evs)) (ap (λ n. drop n es) same)
    ∙ events_blanked (take k evs) (drop (length (log (length es) evs)) es)
    ∙ ap (λ n. blanked n (over (log (length es) evs) es)) (length-take k evs)

-- a run
same_outcome : (ts cs es : List ℕ) (p : Program Plain) → SameButLabels (length es) (plain_outcome ts cs es p) (concurrent_outcome ts cs es p)
same_outcome ts cs es p =
    let r : P.Ran = concurrent_run p ts in
    record {
      answer = ap (ran r.how r.steps r.unused) (length-map r.events unlabelled);
      cells = refl;
      events = log_blanked r.events es;
    }

-- a refusal has no events
same_refusal : (room n : ℕ) (cs es : List ℕ) → SameButLabels room (untouched n cs es) (untouched n cs es)
same_refusal room n cs es = record {
  answer = refl;
  cells = refl;
  events = ap (λ k. blanked k es) (sym (min-zero (room / event_size)));
}

-- through the refusals
as_same : (v : Verdict) (go first : Program Plain → Outcome) (ts cs es : List ℕ)
    → ((p : Program Plain) → SameButLabels (length es) (go p) (first p))
    → SameButLabels (length es) (run_as concurrent v go ts cs es) (run_as concurrent v first ts cs es)
as_same (refused n) go first ts cs es f = same_refusal (length es) n cs es
as_same (accepted p) go first ts cs es f =
    by_test (scheduled concurrent p ts)
    (λ a. by_test (roomy p cs)
    (λ b. rw (a, b, run_as) (f p))
    (λ b. rw (a, b, run_as) (same_refusal (length es) 12 cs es)))
    (λ a. rw (a, run_as) (same_refusal (length es) 11 cs es))

-- THE PLAIN RUN AND THE CONCURRENT RUN: "the same end, reason, cells, counts and events (0 in their label bytes)"; "It refuses exactly what the first
-- refuses".
pub plain_same : (t ts cs es : List ℕ) → SameButLabels (length es) (plain_call t ts cs es) (concurrent_call t ts cs es)
plain_same t ts cs es = as_same (verdict concurrent t) (plain_outcome ts cs es) (concurrent_outcome ts cs es) ts cs es (same_outcome ts cs es)

-- What the run calls leave: buffers of the same length, with the bytes of each cell and of each event.
use Rattle.std.specs.Prelude.{ℕ, zero, suc, ◌+◌, ◌*◌, ◌/◌, ◌≤◌, ◌<◌, ◌≡◌, refl, ◌↔◌, ◌≢◌, List, [], ◌∷◌, ◌++◌, length, take, drop}
use Rattle.std.proofs.Common.{zero-mul, suc-mul, add_comm, arith, sym, ap, ◌∙◌, length-append, length-take, drop-drop, take_at, drop_at, leb-true, leb-false, le-leb}
use Rattle.std.proofs.lemmas.Bool.{lt-leb}
use Rattle.value.specs.Maybe.{is}
use Rattle.value.specs.Try.{reason_number}
use Rattle.value.specs.Lists.{at, sum}
use Rattle.value.specs.Values.{bytes, cell_bytes, cell_size}
use Rattle.value.proofs.Laws.Maybes.{is_inj, missing}
use Rattle.value.proofs.Laws.Tests.{Decides, never, by_test, ◌and◌, le?, lt?}
use Rattle.value.proofs.Laws.Reasons.{reason_number_lem, reason_positive}
use Rattle.value.specs.declared.Reason.{Reason}
use Rattle.value.proofs.Laws.Lists.{Each, all?, at_take, length_over}
use Rattle.value.proofs.Laws.Bytes.{Bytes, length_cell}
use Rattle.format.specs.Syntax.{Program, Plain, Kind, concurrent, sequential}
use Rattle.format.specs.Encode.{each}
use Rattle.format.specs.Labels.{labelled}
use Rattle.format.specs.Rules.{Verdict, refused, accepted, verdict}
use Rattle.format.proofs.Laws.Sections.{length_each}
use Rattle.format.proofs.Laws.Refusals.{Smallest, refused_exactly}
use Rattle.semantics.specs.Memory.{Memory, Event}
use Rattle.semantics.specs.Threads.{End}
use Rattle.semantics.specs.Threads as P
use Rattle.semantics.specs.Copy as C
use Rattle.semantics.specs.Buffers.{cells, event_size, event_bytes, log}
use Rattle.semantics.specs.Calls.{ran, Outcome, result, max_entries, scheduled, roomy, run_as}
use Rattle.semantics.specs.Calls.{concurrent_run, concurrent_outcome, concurrent_call, sequential_run, sequential_outcome, sequential_call}
use Rattle.semantics.proofs.Laws.Cells.{shape, shape_fresh}
use Rattle.semantics.proofs.Laws.Shapes.{run_shape, copy_shape}

-- ---- lengths

-- memory has the bytes of a value for each cell
pub length_cells : (η : Memory) → length (cells η) ≡ cell_size * sum (shape η)
length_cells [] = refl
length_cells (row ∷ η) =
    omega (
      arith,
      length-append (each cell_bytes row) (cells η),
      length_each cell_bytes cell_size length_cell row,
      length_cells η,
    )

-- an event has as many as is said
pub length_event : (e : Event) → length (event_bytes e) ≡ event_size
length_event e = omega (arith, length-append (cell_bytes e.value) (bytes 2 e.label), length_cell e.value)

-- only whole events are written
pub whole_events : (room : ℕ) (evs : List Event) → length (log room evs) ≡ event_size * length (take (room / event_size) evs)
whole_events room evs = omega (arith, length_each event_bytes event_size length_event (take (room / event_size) evs))

-- those that are written fit
pub length_log : (room : ℕ) (evs : List Event) → length (log room evs) ≤ room
length_log room evs = omega (arith, whole_events room evs, length-take (room / event_size) evs)

-- what stands at place i of things of n bytes each
each_place : {A : Type 0} (item : A → List ℕ) (n : ℕ) → ((x : A) → length (item x) ≡ n) → (xs : List A) (i : ℕ) {x : A} → at xs i ≡ is x
    → take n (drop (i * n) (each item xs)) ≡ item x
each_place item n h [] i e = missing e
each_place item n h (y ∷ xs) zero {x} e =
    rw (zero-mul n) (take_at (item y) (each item xs) n (h y) ∙ ap item (is_inj e))
each_place item n h (y ∷ xs) (suc i) e =
    let more : suc i * n ≡ n + i * n = suc-mul i n ∙ add_comm (i * n) n in
    rw (more, ← drop-drop (i * n) n (item y ++ each item xs), drop_at (item y) (each item xs) n (h y)) (each_place item n h xs i e)

-- "Events that fit whole are written": the one at place i, if i + 1 of them fit
pub written_whole : (room : ℕ) (evs : List Event) (i : ℕ) {e : Event} → at evs i ≡ is e → (i + 1) * event_size ≤ room
    → take event_size (drop (i * event_size) (log room evs)) ≡ event_bytes e
written_whole room evs i e h =
    each_place event_bytes event_size length_event (take (room / event_size) evs) i (at_take (room / event_size) evs i (omega arith) ∙ e)

-- ---- the calls

-- lent buffers keep their lengths
pub record Lent (o : Outcome) (cs es : List ℕ) : Type 0 where
  pub cells : length o.cells ≡ length cs
  pub events : length o.events ≡ length es

-- a result that fits
result_lent : (how : End) (k u : ℕ) (η : Memory) (evs : List Event) (cs es : List ℕ) → cell_size * sum (shape η) ≤ length cs
    → Lent (result how k u η evs cs es) cs es
result_lent how k u η evs cs es h = record {
  cells = length_over (cells η) cs (omega (arith, length_cells η));
  events = length_over (log (length es) evs) es (length_log (length es) evs);
}

-- through the refusals
as_lent : (k : Kind) (v : Verdict) (go : Program Plain → Outcome) (ts cs es : List ℕ)
    → ((p : Program Plain) → cell_size * sum p.sizes ≤ length cs → Lent (go p) cs es) → Lent (run_as k v go ts cs es) cs es
as_lent k (refused n) go ts cs es f = record { cells = refl; events = refl }
as_lent k (accepted p) go ts cs es f =
    by_test (scheduled k p ts)
    (λ a. by_test (roomy p cs)
    (λ b. rw (a, b, run_as) (f p (leb-true _ _ b)))
    (λ b. rw (a, b, run_as) (record { cells = refl; events = refl })))
    (λ a. rw (a, run_as) (record { cells = refl; events = refl }))

-- THE CONCURRENT RUN KEEPS THE LENGTHS OF THE LENT BUFFERS.
pub concurrent_lent : (t ts cs es : List ℕ) → Lent (concurrent_call t ts cs es) cs es
concurrent_lent t ts cs es = as_lent concurrent (verdict concurrent t) _ ts cs es λ p h.
    let shaped : shape (concurrent_run p ts).state.memory ≡ p.sizes
    = run_shape (labelled p) ts (P.start (labelled p)) 0 [] ∙ shape_fresh p.sizes in
    result_lent (concurrent_run p ts).how _ _ (concurrent_run p ts).state.memory _ cs es (rw shaped h)

-- SO DOES THE SEQUENTIAL RUN.
pub sequential_lent : (n h : ℕ) (t ts cs es : List ℕ) → Lent (sequential_call n h t ts cs es) cs es
sequential_lent n h t ts cs es = as_lent sequential (verdict sequential t) _ ts cs es λ p r.
    let shaped : shape (sequential_run n h p ts).config.memory ≡ p.sizes
    = copy_shape h p.procs n 0 (C.start p ts) ∙ shape_fresh p.sizes in
    result_lent (sequential_run n h p ts).how _ _ (sequential_run n h p ts).config.memory _ cs es (rw shaped r)

-- "A refusal returns its number and zeros and writes nothing"
pub record Refused (o : Outcome) (cs es : List ℕ) : Type 0 where
  pub end : o.answer.end ≡ 0
  pub steps : o.answer.steps ≡ 0
  pub unused : o.answer.unused ≡ 0
  pub count : o.answer.events ≡ 0
  pub reason : o.answer.reason ≡ 0
  pub cells : o.cells ≡ cs
  pub events : o.events ≡ es

-- a call that answers another number than 0, where a run answers 0
as_refused : (k : Kind) (v : Verdict) (go : Program Plain → Outcome) (ts cs es : List ℕ) → ((p : Program Plain) → (go p).answer.number ≡ 0)
    → ((run_as k v go ts cs es).answer.number ≡ 0 → ⊥) → Refused (run_as k v go ts cs es) cs es
as_refused k (refused n) go ts cs es clean h = record { end = refl; steps = refl; unused = refl; count = refl; reason = refl; cells = refl; events = refl }
as_refused k (accepted p) go ts cs es clean h =
    by_test (scheduled k p ts)
    (λ a. by_test (roomy p cs)
    (λ b. absurd (h (rw (a, b, run_as) (clean p))))
    (λ b. rw (a, b, run_as) (record { end = refl; steps = refl; unused = refl; count = refl; reason = refl; cells = refl; events = refl })))
    (λ a. rw (a, run_as) (record { end = refl; steps = refl; unused = refl; count = refl; reason = refl; cells = refl; events = refl }))

-- THE CONCURRENT RUN REFUSES WITH ZEROS, AND WRITES NOTHING.
pub concurrent_refuses : (t ts cs es : List ℕ) → ((concurrent_call t ts cs es).answer.number ≡ 0 → ⊥) → Refused (concurrent_call t ts cs es) cs es
concurrent_refuses t ts cs es = as_refused concurrent (verdict concurrent t) _ ts cs es (λ p. refl)

-- SO DOES THE SEQUENTIAL RUN.
pub sequential_refuses : (n h : ℕ) (t ts cs es : List ℕ) → ((sequential_call n h t ts cs es).answer.number ≡ 0 → ⊥)
    → Refused (sequential_call n h t ts cs es) cs es
sequential_refuses n h t ts cs es = as_refused sequential (verdict sequential t) _ ts cs es (λ p. refl)

-- ---- which number is answered

-- 11: "schedule over 4,096 entries, or (concurrent) an entry not below T"
abbrev pub Scheduled : Kind → Program Plain → List ℕ → Type 0
Scheduled concurrent p ts = (length ts ≤ max_entries) × Each (λ t. t < length p.mains) ts
Scheduled sequential p ts = length ts ≤ max_entries

-- the test decides it
pub scheduled? : (k : Kind) (p : Program Plain) (ts : List ℕ) → Decides (scheduled k p ts) (Scheduled k p ts)
scheduled? concurrent p ts = le? _ _ and all? (λ t. lt? t (length p.mains)) ts
scheduled? sequential p ts = le? _ _

-- the number that a run of table t under schedule ts with the lent cells cs answers: the smallest that applies, or 0
pub data Answers (k : Kind) (t ts cs : List ℕ) : ℕ → Type 0 where
  -- 1 to 8
  by_rule : {n : ℕ} → Smallest k t n → Answers k t ts cs n
  -- 11
  not_scheduled : {p : Program Plain} → verdict k t ≡ accepted p → (Scheduled k p ts → ⊥) → Answers k t ts cs 11
  -- 12: "cell buffer shorter than 5 bytes a cell"
  no_room : {p : Program Plain} → verdict k t ≡ accepted p → Scheduled k p ts → length cs < cell_size * sum p.sizes → Answers k t ts cs 12
  -- 0
  runs_it : {p : Program Plain} → verdict k t ≡ accepted p → Scheduled k p ts → cell_size * sum p.sizes ≤ length cs → Answers k t ts cs 0

-- a run call answers n exactly if n is the smallest number that applies, or 0 if none does
as_exactly : (k : Kind) (t ts cs es : List ℕ) (go : Program Plain → Outcome) → ((p : Program Plain) → (go p).answer.number ≡ 0) → Bytes t
    → (n : ℕ) → ((run_as k (verdict k t) go ts cs es).answer.number ≡ n) ↔ Answers k t ts cs n
as_exactly k t ts cs es go clean h n = (λ e. by (verdict k t) refl e, of)
  where
    by : (v : Verdict) → verdict k t ≡ v → (run_as k v go ts cs es).answer.number ≡ n → Answers k t ts cs n
    by (refused m) r e = by_rule ((refused_exactly k t h n).0 (r ∙ ap refused e))
    by (accepted p) r e =
        by_test (scheduled k p ts)
        (λ a. by_test (roomy p cs)
        (λ b. let same : 0 ≡ n = sym (clean p) ∙ rw (a, b, run_as) at e in rw (← same) (runs_it r ((scheduled? k p ts).so a) (leb-true _ _ b)))
        (λ b. let same : ◌≡◌ {A = ℕ} 12 n = rw (a, b, run_as) at e in rw (← same) (no_room r ((scheduled? k p ts).so a) (leb-false _ _ b))))
        (λ a. let same : ◌≡◌ {A = ℕ} 11 n = rw (a, run_as) at e in rw (← same) (not_scheduled r (λ s. never (sym a ∙ (scheduled? k p ts).of s))))

    of : {m : ℕ} → Answers k t ts cs m → (run_as k (verdict k t) go ts cs es).answer.number ≡ m
    of {m} (by_rule s) = rw ((refused_exactly k t h m).1 s)
    of (not_scheduled {p = p} r s) = rw r (by_test (scheduled k p ts) (λ a. absurd (s ((scheduled? k p ts).so a))) (λ a. rw (a, run_as)))
    of (no_room {p = p} r s room) = rw (r, (scheduled? k p ts).of s, lt-leb _ _ room, run_as)
    of (runs_it {p = p} r s room) = rw (r, (scheduled? k p ts).of s, le-leb _ _ room, run_as) (clean p)

-- THE CONCURRENT RUN ANSWERS N EXACTLY IF N IS THE SMALLEST NUMBER THAT APPLIES, OR 0 IF NONE DOES.
pub concurrent_answers : (t ts cs es : List ℕ) → Bytes t → (n : ℕ) → ((concurrent_call t ts cs es).answer.number ≡ n) ↔ Answers concurrent t ts cs n
concurrent_answers t ts cs es h n = as_exactly concurrent t ts cs es (concurrent_outcome ts cs es) (λ p. refl) h n

-- SO DOES THE SEQUENTIAL RUN, WHATEVER ITS BUDGET.
pub sequential_answers : (b m : ℕ) (t ts cs es : List ℕ) → Bytes t → (n : ℕ)
    → ((sequential_call b m t ts cs es).answer.number ≡ n) ↔ Answers sequential t ts cs n
sequential_answers b m t ts cs es h n = as_exactly sequential t ts cs es (sequential_outcome b m ts cs es) (λ p. refl) h n

-- ---- the reason that is answered

-- A RUN ANSWERS THE NUMBER OF A REASON EXACTLY IF IT BLOCKED FOR IT.
pub reason_exactly : (how : End) (k u n : ℕ) (r : Reason) → ((ran how k u n).reason ≡ reason_number r) ↔ (how ≡ P.blocked r)
reason_exactly how k u n r = (on how, λ e. rw e refl)
  where
    on : (how : End) → (ran how k u n).reason ≡ reason_number r → how ≡ P.blocked r
    on P.finished e = absurd (omega (arith, reason_positive r))
    on P.used e = absurd (omega (arith, reason_positive r))
    on P.spent e = absurd (omega (arith, reason_positive r))
    on (P.blocked q) e = rw (reason_number_lem q r e) refl

-- "0 when not blocked": AND 0 EXACTLY IF IT DID NOT BLOCK.
pub no_reason : (how : End) (k u n : ℕ) → ((ran how k u n).reason ≡ 0) ↔ ((ran how k u n).end ≢ 2)
no_reason P.finished k u n = (λ e q. omega arith, λ q. refl)
no_reason P.used k u n = (λ e q. omega arith, λ q. refl)
no_reason P.spent k u n = (λ e q. omega arith, λ q. refl)
no_reason (P.blocked r) k u n = (λ e q. omega (arith, reason_positive r), λ q. absurd (q refl))

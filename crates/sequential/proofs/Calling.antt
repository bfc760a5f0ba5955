-- The call of the sequential machine: from an accepted table to the run, and from the run to the answer.
use Prim.Native.Nat.{ℕ, ◌+◌, ◌*◌, ◌-◌, ◌^◌, ◌≤◌, ◌<◌}
use native.Mathlib.Omega.{arith}
use mathlib.Core.Path.{◌≡◌, refl, sym, ap, subst, ◌∙◌}
use mathlib.Core.List.{List, ◌++◌}
use mathlib.Core.Bool.{true, false}
use lib.ListN.{length, get_or, replicate, length-drop, length-replicate, get_or-replicate, get_or-eq_default}
use lib.Dec.{ltb}
use borrow.Author.Tests.{ltb-true, ltb-false, le-leb, lt-leb}
use Rattle.value.specs.Lists.{sum, over}
use Rattle.value.specs.Values.{bytes, cell_size}
use Rattle.value.proofs.Laws.Tests.{by_test}
use Rattle.value.proofs.Laws.Lists.{Each, each_so}
use Rattle.value.proofs.Laws.Bytes.{Bytes}
use Rattle.format.specs.Syntax.{Program, Plain, sequential}
use Rattle.format.specs.Encode.{each, block, bodies_of, head, heads, middle_of, middle, trailer, trailer_of, table, record_size, trailer_size}
use Rattle.format.specs.Encode as E
use Rattle.format.specs.declared.ReadAnswer.{ReadAnswer}
use Rattle.format.specs.Calls.{read_as, read_call}
use Rattle.format.specs.Rules.{Verdict, refused, accepted, verdict}
use Rattle.labels.specs.Walks.{BodiesAt, BodiesIn}
use Rattle.format.proofs.Laws.Accepted.{bodies_fit, accepted_exactly}
use Rattle.format.proofs.Laws.Heads.{length_heads}
use Rattle.format.proofs.Laws.Refusals.{refused_within}
use Rattle.format.proofs.Laws.Sections.{length_each}
use Rattle.format.proofs.Laws.Stands.{Stands, whole, front, back}
use Rattle.format.proofs.Laws.TablePlaces.{records_at, all_bodies, trailer_at, length_table}
use Rattle.sequential.specs.declared.machine.Ran.{Ran}
use Rattle.semantics.specs.Memory.{Memory}
use Rattle.semantics.specs.Copy as C
use Rattle.semantics.specs.Buffers.{cells}
use Rattle.semantics.specs.declared.RunAnswer.{RunAnswer}
use Rattle.engine.specs.Ends.{end_of}
use Rattle.semantics.specs.Calls.{end_number, reason_of, Outcome, refusal, untouched, max_entries, scheduled, roomy}
use Rattle.semantics.specs.Calls.{run_as, sequential_run, sequential_outcome, sequential_call, result}
use Rattle.engine.specs.Work.{local_words, cell_words, flat, Bases, sizes_at, Starts, Writes}
use Rattle.jumps.specs.Jumps.{positions, FillsJumps}
use Rattle.sequential.specs.Sequential.{Starting, RanAs, Runs, Accepted, Outcomes}
use Rattle.basics.specs.Sizes.{stack_frames}
use Rattle.engine.specs.Laws.Holding.{length_flat, holds_fresh}
use Rattle.engine.specs.Laws.Starting.{sizes_stand}

-- ---- an accepted table

-- where its records begin, as the code computes it
abbrev pub records_from : List ℕ → ℕ → ℕ → ℕ
records_from t P M = length t - trailer_size - record_size * P - 2 * M

module _ {t : List ℕ} {P M c : ℕ} (a : Accepted t P M c) where
  -- it fits the jump table
  pub accepted_small : length t ≤ positions
  accepted_small = omega (arith, ap length a.same, a.sound.size)

  -- so do its cells the words
  pub accepted_cells : c ≤ cell_words
  accepted_cells = omega (arith, a.cells, a.sound.cells)

  -- its bodies stand first
  bodies_at : BodiesAt t 0 P a.program.procs (records_at a.program)
  bodies_at = record {
    stands = all_bodies sequential a.program a.same;
    count = sym a.procs;
    fits = bodies_fit sequential a.program a.sound;
  }

  pub accepted_bodies : BodiesIn t 0 P
  accepted_bodies = record { procs = a.program.procs; next = records_at a.program; there = bodies_at }

  -- no threads
  no_mains : length a.program.mains ≡ 0
  no_mains = omega (arith, a.sound.threads.high)

  -- where its records begin
  records_at_lem : records_from t P M ≡ records_at a.program
  records_at_lem =
      omega (arith, trailer_at sequential a.program a.same, length_table sequential a.program a.same, a.procs, a.places, no_mains)

  -- its sizes stand behind the records
  sizes_at_lem : sizes_at t (records_from t P M + record_size * P) M ≡ a.program.sizes
  sizes_at_lem =
      let p : Program Plain = a.program in
      let bodies : List ℕ = each block (bodies_of p.procs) in
      let records : List ℕ = each head (heads 0 p.procs) in
      let sizes : List ℕ = each (bytes 2) p.sizes in
      let mains : List ℕ = each (bytes 2) p.mains in
      let all : Stands t 0 (bodies ++ (records ++ (sizes ++ mains))) _ = front (E.front p) (trailer (trailer_of sequential p)) (whole a.same) in
      let numbers : Stands t (0 + length bodies + length records) (sizes ++ mains) _ =
      back records (sizes ++ mains) (back bodies (records ++ (sizes ++ mains)) all)
      in
      let long : length records ≡ record_size * length (heads 0 p.procs) = length_each head record_size (λ h. refl) (heads 0 p.procs) in
      let place : records_from t P M + record_size * P ≡ 0 + length bodies + length records =
      omega (arith, records_at_lem, length_heads 0 p.procs, a.procs)
      in
      let low : Each (λ n. n < 2 ^ 16) p.sizes = each_so (λ n w. omega (arith, w.high)) p.sizes a.sound.sizes in
      rw (place, a.places) (sizes_stand t (0 + length bodies + length records) p.sizes (front sizes mains numbers) low)

-- zeros
zeros : (n k : ℕ) → ◌≡◌ {A = ℕ} (get_or (replicate n 0) k 0) 0
zeros n k = by_test (ltb k n)
    (λ e. get_or-replicate n k 0 0 (ltb-true k n e))
    (λ e. get_or-eq_default (replicate n 0) 0 (omega (arith, ltb-false k n e, length-replicate {A = ℕ} n 0)))

-- the arrays before the first step
pub accepted_starting : {t : List ℕ} {P M c n : ℕ} {js js' ss : List ℕ} → Accepted t P M c → length js ≡ positions → FillsJumps t P js js'
    → Starts (sizes_at t (records_from t P M + record_size * P) M) ss n
    → Starting t (records_from t P M) js' ss (replicate local_words 0) (replicate stack_frames 0) (replicate cell_words (2 ^ 32))
accepted_starting {js' = js'} {ss} a e F S = record {
  loaded = record {
    program = a.program;
    same = a.same;
    sound = a.sound;
    place = records_at_lem a;
    jumps = F.gives e (accepted_small a) a.program.procs _ (bodies_at a);
    starts = subst (λ (ns : List ℕ). Bases ns ss) (sizes_at_lem a) S.bases;
  };
  inside = omega (arith, a.room, a.procs, a.sound.procs.low);
  zero = zeros local_words;
  long = length-replicate {A = ℕ} local_words 0;
  backs = length-replicate {A = ℕ} stack_frames 0;
  zeroth = zeros stack_frames 0;
  cells = holds_fresh a.program.sizes a.sound.cells;
  full = length-replicate {A = ℕ} cell_words (2 ^ 32);
}

-- ---- from the run to the answer

-- no more entries were taken than there are
pub run_taken : {t : List ℕ} {records : ℕ} {ts js ss ls bs cs : List ℕ} {h n : ℕ} {lent cs' es : List ℕ} {r : Ran} → Starting t records js ss ls bs cs
    → Runs t records ts js ss ls bs cs h n lent cs' es r → r.taken ≤ length ts
run_taken q R = (R.ran q).taken

-- the cells are as many words as before
pub run_full : {t : List ℕ} {records : ℕ} {ts js ss ls bs cs : List ℕ} {h n : ℕ} {lent cs' es : List ℕ} {r : Ran} → Starting t records js ss ls bs cs
    → Runs t records ts js ss ls bs cs h n lent cs' es r → length cs' ≡ cell_words
run_full q R = (R.ran q).full

-- the answer, the cells and the events of a run
outcome_of : {t : List ℕ} {P M c : ℕ} {records : ℕ} {ts js ss ls bs ks : List ℕ} {h n : ℕ} {cs es ms os es' : List ℕ} {r : Ran} (a : Accepted t P M c)
    → cell_size * c ≤ length cs → (q : Starting t records js ss ls bs ks) → q.loaded.program ≡ a.program → RanAs q ts h n es ms es' r
    → Writes ms c cs os
    → ◌≡◌ {A = Outcome} (record {
      answer = record { number = 0; end = end_number (end_of r.end); steps = r.steps; unused = length ts - r.taken; events = r.events; reason = reason_of (end_of r.end) };
      cells = os;
      events = es';
    }) (sequential_outcome n h ts cs es a.program)
outcome_of {c = c} {ts = ts} {h = h} {n} {cs} {es} {os = os} {es'} {r} a room q w z W =
    let η : Memory = z.config.memory in
    let same : sequential_run n h a.program ts ≡ record { how = z.how; steps = r.steps; config = z.config } = rw (← w) z.same in
    let left : length ts - r.taken ≡ length z.config.todo = sym (length-drop r.taken ts) ∙ ap length (sym z.todo) in
    let all : c ≡ length (flat η) = a.cells ∙ ap (λ (p : Program Plain). sum p.sizes) (sym w) ∙ ap sum (sym z.sizes) ∙ sym (length_flat η) in
    let wrote : os ≡ over (cells η) cs = W.written η z.memory all room in
    rw (z.end, left, z.events.count, wrote, z.events.bytes)
    (sym (ap (λ (ran : C.Ran). result ran.how ran.steps (length ran.config.todo) ran.config.memory ran.config.events cs es) same))

-- of the whole call
pub run_outcome : {t : List ℕ} {P M c : ℕ} {ts js js' ss : List ℕ} {h n k : ℕ} {cs es ms os es' : List ℕ} {r : Ran} {u v : ℕ} → length js ≡ positions
    → FillsJumps t P js js' → Starts (sizes_at t (records_from t P M + record_size * P) M) ss k
    → Runs t (records_from t P M) ts js' ss (replicate local_words 0) (replicate stack_frames 0) (replicate cell_words (2 ^ 32))
    h n es ms es' r
    → Writes ms c cs os → u ≡ end_number (end_of r.end) → v ≡ reason_of (end_of r.end)
    → Outcomes t P M c ts n h cs es (record { number = 0; end = u; steps = r.steps; unused = length ts - r.taken; events = r.events; reason = v }) os es'
unfolding accepted_starting
run_outcome e F S R W u v = rw (u, v) (record { same = λ a room. outcome_of a room (accepted_starting a e F S) refl (R.ran (accepted_starting a e F S)) W })

-- ---- the reader's answer

module _ (t : List ℕ) (h : Bytes t) {r : ReadAnswer} (q : r ≡ read_call sequential t) where
  -- a refusal has a number
  pub read_refused : (r.number ≡ 0 → ⊥) → verdict sequential t ≡ refused r.number
  read_refused n = go (verdict sequential t) refl
    where
      go : (v : Verdict) → verdict sequential t ≡ v → verdict sequential t ≡ refused r.number
      go (refused m) e = let same : r.number ≡ m = ap (λ (x : ReadAnswer). x.number) q ∙ rw e in rw same e
      go (accepted p) e = absurd (n (ap (λ (x : ReadAnswer). x.number) q ∙ rw e))

  -- with number 0 a table is accepted
  pub read_accepted : r.number ≡ 0 → Accepted t r.procedures r.locations r.cells
  read_accepted z = go (verdict sequential t) refl
    where
      go : (v : Verdict) → verdict sequential t ≡ v → Accepted t r.procedures r.locations r.cells
      go (refused m) e =
          let same : r.number ≡ m = ap (λ (x : ReadAnswer). x.number) q ∙ rw e in
          absurd (omega (arith, (refused_within sequential t m e).low))
      go (accepted p) e =
          let got = (accepted_exactly sequential t h p).0 e in
          let answer : r ≡ read_as sequential (accepted p) = q ∙ ap (read_as sequential) e in
          let procs : r.procedures ≡ length p.procs = ap (λ (x : ReadAnswer). x.procedures) answer in
          let places : r.locations ≡ length p.sizes = ap (λ (x : ReadAnswer). x.locations) answer in
          record {
            program = p;
            read = e;
            same = got.0;
            sound = got.1;
            procs = procs;
            places = places;
            cells = ap (λ (x : ReadAnswer). x.cells) answer;
            room = omega (arith, procs, places, trailer_at sequential p got.0, length_table sequential p got.0);
          }

-- ---- the call

module _ (ts cs es : List ℕ) (go : Program Plain → Outcome) (p : Program Plain) where
  -- too many entries
  as_long : scheduled sequential p ts ≡ false → run_as sequential (accepted p) go ts cs es ≡ untouched 11 cs es
  as_long e = rw (e, run_as)

  -- no room for the cells
  as_short : scheduled sequential p ts ≡ true → roomy p cs ≡ false → run_as sequential (accepted p) go ts cs es ≡ untouched 12 cs es
  as_short e f = rw (e, f, run_as)

  -- neither
  as_ran : scheduled sequential p ts ≡ true → roomy p cs ≡ true → run_as sequential (accepted p) go ts cs es ≡ go p
  as_ran e f = rw (e, f, run_as)

module _ (t : List ℕ) (h : Bytes t) (n l : ℕ) (ts cs es : List ℕ) where
  -- 1 to 8
  pub call_refused : {r : ReadAnswer} {a : RunAnswer} → r ≡ read_call sequential t → (r.number ≡ 0 → ⊥) → a ≡ refusal r.number
      → ◌≡◌ {A = Outcome} (record { answer = a; cells = cs; events = es }) (sequential_call n l t ts cs es)
  call_refused q z e = rw (read_refused t h q z, e)

  module _ {r : ReadAnswer} {a : RunAnswer} (q : r ≡ read_call sequential t) (z : r.number ≡ 0) where
    -- 11: "schedule over 4,096 entries"
    pub call_long : max_entries < length ts → a ≡ refusal 11
        → ◌≡◌ {A = Outcome} (record { answer = a; cells = cs; events = es }) (sequential_call n l t ts cs es)
    call_long m e =
        let A = read_accepted t h q z in
        rw (A.read, e) (sym (as_long ts cs es (sequential_outcome n l ts cs es) A.program (lt-leb (length ts) max_entries m)))

    -- 12: "cell buffer shorter than 5 bytes a cell"
    pub call_short : length ts ≤ max_entries → length cs < cell_size * r.cells → a ≡ refusal 12
        → ◌≡◌ {A = Outcome} (record { answer = a; cells = cs; events = es }) (sequential_call n l t ts cs es)
    call_short k m e =
        let A = read_accepted t h q z in
        let short : roomy A.program cs ≡ false = rw (← A.cells) (lt-leb (cell_size * r.cells) (length cs) m) in
        rw (A.read, e) (sym (as_short ts cs es (sequential_outcome n l ts cs es) A.program (le-leb (length ts) max_entries k) short))

    -- the run
    pub call_ran : {cs' es' : List ℕ} → length ts ≤ max_entries → cell_size * r.cells ≤ length cs
        → Outcomes t r.procedures r.locations r.cells ts n l cs es a cs' es'
        → ◌≡◌ {A = Outcome} (record { answer = a; cells = cs'; events = es' }) (sequential_call n l t ts cs es)
    call_ran k m O =
        let A = read_accepted t h q z in
        let room : roomy A.program cs ≡ true = rw (← A.cells) (le-leb (cell_size * r.cells) (length cs) m) in
        O.same A m
        ∙ sym (ap (λ (v : Verdict). run_as sequential v (sequential_outcome n l ts cs es) ts cs es) A.read
        ∙ as_ran ts cs es (sequential_outcome n l ts cs es) A.program (le-leb (length ts) max_entries k) room)

-- one law for each way
pub ruleset call_ways = (accepted_small, accepted_cells, accepted_bodies, accepted_starting, run_taken, run_outcome)

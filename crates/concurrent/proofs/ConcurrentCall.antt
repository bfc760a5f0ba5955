-- The call of the concurrent machine: from an accepted table to the run, and from the run to the answer.
use Prim.Native.Nat.{ℕ, zero, suc, ◌+◌, ◌*◌, ◌-◌, ◌^◌, ◌≤◌, ◌<◌}
use native.Mathlib.Omega.{arith}
use mathlib.Core.Path.{◌≡◌, refl, sym, ap, subst, ◌∙◌}
use mathlib.Core.List.{List, [], ◌∷◌, ◌++◌}
use mathlib.Core.Bool.{Bool, true, false}
use lib.ListN.{length, get_or, replicate, length-replicate, get_or-replicate, get_or-eq_default}
use lib.Dec.{ltb, leb}
use borrow.Author.Tests.{ltb-true, ltb-false, lt-ltb, le-ltb, le-leb, lt-leb, leb-true}
use Rattle.value.specs.Maybe.{is, both}
use Rattle.value.specs.Lists.{at, all, sum, over}
use Rattle.value.specs.Values.{bytes, cell_size}
use Rattle.basics.specs.declared.refusals.Refusal.{Refusal}
use Rattle.basics.specs.declared.refusals.Refusal.TheVariants as R
use Rattle.basics.specs.Refusals.{refusal_number}
use Rattle.basics.specs.Places.{number_at}
use Rattle.value.proofs.Laws.Tests.{by_test}
use Rattle.value.proofs.Laws.Lists.{Each, each_so, at_below, at_get_d}
use Rattle.value.proofs.Laws.Bytes.{Bytes}
use Rattle.basics.specs.Laws.Places.{number_at_lem}
use Rattle.format.specs.Syntax.{Program, Plain, concurrent}
use Rattle.format.specs.Encode.{each, block, bodies_of, head, heads, trailer, trailer_of, table, record_size, trailer_size}
use Rattle.format.specs.Encode as E
use Rattle.labels.specs.LabelMap.{Mapped}
use Rattle.format.specs.declared.ReadAnswer.{ReadAnswer}
use Rattle.format.specs.Calls.{read_as, read_call}
use Rattle.format.specs.Rules.{Verdict, refused, accepted, verdict}
use Rattle.labels.specs.Walks.{BodiesIn, MapsLabels}
use Rattle.format.proofs.Laws.Accepted.{bodies_fit, sound_formed, accepted_exactly}
use Rattle.format.proofs.Laws.Formed.{Formed}
use Rattle.format.proofs.Laws.Heads.{length_heads}
use Rattle.format.proofs.Laws.Procs.{main_at}
use Rattle.format.proofs.Laws.Refusals.{refused_within}
use Rattle.format.proofs.Laws.Sections.{length_each}
use Rattle.format.proofs.Laws.Stands.{Stands, whole, front, back}
use Rattle.format.proofs.Laws.Stands as S
use Rattle.format.proofs.Laws.TablePlaces.{records_at, all_bodies, main_stands, trailer_at, length_table}
use Rattle.semantics.specs.declared.RunAnswer.{RunAnswer}
use Rattle.concurrent.specs.declared.machine.Ran.{Ran}
use Rattle.semantics.specs.Memory.{Memory}
use Rattle.semantics.specs.Threads as P
use Rattle.semantics.specs.Buffers.{cells}
use Rattle.engine.specs.Ends.{end_of}
use Rattle.semantics.specs.Calls.{end_number, reason_of, Outcome, refusal, untouched, max_entries, scheduled, roomy, run_as, concurrent_outcome, result}
use Rattle.engine.specs.Work.{frame_words, thread_words, program_words, flat, Bases, sizes_at, Starts, Writes}
use Rattle.atomic.specs.Threaded.{thread_frames}
pub use Rattle.atomic.proofs.Carrying.{handed_on}
use Rattle.concurrent.specs.Concurrent.{scheduled_below, SaysScheduled, Entries, MainsAt, Begins, Starting, RanAs, Runs, Accepted, Outcomes}
use Rattle.engine.specs.Laws.Holding.{length_flat, holds_fresh}
use Rattle.engine.specs.Laws.Starting.{sizes_stand}
use Rattle.concurrent.proofs.Beginning.{starts_threaded}

-- ---- an accepted table

module _ {t : List ℕ} {P M T c : ℕ} (a : Accepted t P M T c) where
  -- its cells fit the words
  pub accepted_cells : c ≤ program_words
  accepted_cells = omega (arith, a.cells, a.sound.cells)

  -- its bodies stand first
  pub accepted_bodies : BodiesIn t 0 P
  accepted_bodies = record {
    procs = a.program.procs;
    next = records_at a.program;
    there = record {
      stands = all_bodies concurrent a.program a.same;
      count = sym a.procs;
      fits = bodies_fit concurrent a.program a.sound;
    };
  }

  -- the label map is that of its program
  pub accepted_map : {map bounds : List ℕ} {n : ℕ} → MapsLabels t P map bounds n → Mapped a.program map bounds
  accepted_map W =
      let formed : Formed concurrent t a.program = rw a.same (sound_formed concurrent a.program a.sound) in
      (W.gives a.program formed (sym a.procs) a.sound.labels).0

  -- where its mains stand
  pub mains_at : length t - trailer_size - 2 * T ≡ records_at a.program + record_size * length a.program.procs + 2 * length a.program.sizes
  mains_at = omega (arith, trailer_at concurrent a.program a.same, length_table concurrent a.program a.same, a.threads)

  -- the main of thread k
  pub main_read : (k m : ℕ) → at a.program.mains k ≡ is m → number_at 2 t (length t - trailer_size - 2 * T + 2 * k) ≡ m
  main_read k m e =
      let found = main_at a.sound k m e in
      let low : m < 256 ^ 2 = omega (arith, at_below a.program.procs m found.1, a.sound.procs.high) in
      rw mains_at (number_at_lem 2 t (records_at a.program + record_size * length a.program.procs + 2 * length a.program.sizes + 2 * k)
      ∙ S.number_at_lem 2 m (main_stands concurrent a.program a.same k e) low)

  -- each is a procedure's number
  pub accepted_mains : MainsAt t (length t - trailer_size - 2 * T) T
  accepted_mains = record {
    inside = omega (arith, a.room);
    few = omega (arith, a.threads, a.sound.threads.high);
    below = λ k l.
        let there = at_get_d a.program.mains k 0 (omega (arith, a.threads)) in
        let found = main_at a.sound k (get_or a.program.mains k 0) there in
        let low : get_or a.program.mains k 0 < length a.program.procs =
        at_below a.program.procs (get_or a.program.mains k 0) found.1
        in
        omega (arith, main_read k (get_or a.program.mains k 0) there, a.sound.procs.high);
  }

  -- its sizes stand before them
  pub sizes_at_lem : sizes_at t (length t - trailer_size - 2 * T - 2 * M) M ≡ a.program.sizes
  sizes_at_lem =
      let p : Program Plain = a.program in
      let bodies : List ℕ = each block (bodies_of p.procs) in
      let records : List ℕ = each head (heads 0 p.procs) in
      let sizes : List ℕ = each (bytes 2) p.sizes in
      let mains : List ℕ = each (bytes 2) p.mains in
      let all : Stands t 0 (bodies ++ (records ++ (sizes ++ mains))) _ = front (E.front p) (trailer (trailer_of concurrent p)) (whole a.same) in
      let numbers : Stands t (0 + length bodies + length records) (sizes ++ mains) _ =
      back records (sizes ++ mains) (back bodies (records ++ (sizes ++ mains)) all)
      in
      let long : length records ≡ record_size * length (heads 0 p.procs) = length_each head record_size (λ h. refl) (heads 0 p.procs) in
      let place : length t - trailer_size - 2 * T - 2 * M ≡ 0 + length bodies + length records =
      omega (arith, mains_at, length_heads 0 p.procs, a.places)
      in
      let low : Each (λ n. n < 2 ^ 16) p.sizes = each_so (λ n w. omega (arith, w.high)) p.sizes a.sound.sizes in
      rw (place, a.places) (sizes_stand t (0 + length bodies + length records) p.sizes (front sizes mains numbers) low)

-- zeros
pub zeros : (n k : ℕ) → ◌≡◌ {A = ℕ} (get_or (replicate n 0) k 0) 0
zeros n k = by_test (ltb k n)
    (λ e. get_or-replicate n k 0 0 (ltb-true k n e))
    (λ e. get_or-eq_default (replicate n 0) 0 (omega (arith, ltb-false k n e, length-replicate {A = ℕ} n 0)))

-- the arrays before the first step
pub accepted_starting : {t : List ℕ} {P M T c n l : ℕ} {ts map bounds ss labels depths : List ℕ} → Accepted t P M T c → Entries T ts
    → MapsLabels t P map bounds l → Starts (sizes_at t (length t - trailer_size - 2 * T - 2 * M) M) ss n
    → Begins t (length t - trailer_size - 2 * T) T bounds labels depths
    → Starting t T ts map bounds ss labels depths (replicate thread_words 0) (replicate program_words (2 ^ 32))
accepted_starting {t} {T = T} {bounds = bounds} {ss} {labels} {depths} a es W S B = record {
  loaded = record {
    program = a.program;
    same = a.same;
    sound = a.sound;
    mapped = accepted_map a W;
    starts = subst (λ (ns : List ℕ). Bases ns ss) (sizes_at_lem a) S.bases;
  };
  count = a.threads;
  entries = es;
  threads =
      starts_threaded a.sound (accepted_map a W) (main_read a)
      (subst (λ (n : ℕ). Begins t (length t - trailer_size - 2 * T) n bounds labels depths) a.threads B) (λ k x l m. zeros thread_words (frame_words * (thread_frames * k) + x))
      (length-replicate {A = ℕ} thread_words 0);
  long = length-replicate {A = ℕ} thread_words 0;
  cells = holds_fresh a.program.sizes {n = program_words} (omega (arith, a.sound.cells));
}

-- ---- from the run to the answer

-- no more entries were taken than there are
pub run_taken : {t : List ℕ} {T : ℕ} {ts map bounds ss labels depths ls cs lent cs' es : List ℕ} {r : Ran}
    → Starting t T ts map bounds ss labels depths ls cs → Runs t T ts map bounds ss labels depths ls cs lent cs' es r → r.taken ≤ length ts
run_taken q R = (R.ran q).taken

-- the answer, the cells and the events of a run
outcome_of : {p : Program Plain} {c : ℕ} {ts cs es ms os es' : List ℕ} {r : Ran} → c ≡ sum p.sizes → cell_size * c ≤ length cs
    → RanAs p ts es ms es' r → Writes ms c cs os
    → ◌≡◌ {A = Outcome} (record {
      answer = record { number = 0; end = end_number (end_of r.end); steps = r.taken; unused = length ts - r.taken; events = r.events; reason = reason_of (end_of r.end) };
      cells = os;
      events = es';
    }) (concurrent_outcome ts cs es p)
outcome_of {p} {c} {ts} {cs} {es} {os = os} {es'} {r} size room z W =
    let η : Memory = z.state.memory in
    let all : c ≡ length (flat η) = size ∙ ap sum (sym z.sizes) ∙ sym (length_flat η) in
    let wrote : os ≡ over (cells η) cs = W.written η z.memory all room in
    rw (z.end, z.events.count, wrote, z.events.bytes)
    (sym (ap (λ (ran : P.Ran). result ran.how ran.steps ran.unused ran.state.memory ran.events cs es) z.same))

-- of the whole call
pub run_outcome : {t : List ℕ} {P M T c n l : ℕ} {ts map bounds ss labels depths cs es ms os es' : List ℕ} {r : Ran} {u v : ℕ}
    → MapsLabels t P map bounds l → Starts (sizes_at t (length t - trailer_size - 2 * T - 2 * M) M) ss n
    → Begins t (length t - trailer_size - 2 * T) T bounds labels depths
    → Runs t T ts map bounds ss labels depths (replicate thread_words 0) (replicate program_words (2 ^ 32)) es ms es' r
    → Writes ms c cs os → u ≡ end_number (end_of r.end) → v ≡ reason_of (end_of r.end)
    → Outcomes t P M T c ts cs es (record { number = 0; end = u; steps = r.taken; unused = length ts - r.taken; events = r.events; reason = v }) os es'
unfolding accepted_starting
run_outcome W S B R O u v = rw (u, v) (record { same = λ a e room. outcome_of a.cells room (R.ran (accepted_starting a e W S B)) O })

-- ---- the schedule

-- all entries are below n
all_below : (n : ℕ) (ts : List ℕ) → ((k : ℕ) → k < length ts → get_or ts k 0 < n) → all (λ t. ltb t n) ts ≡ true
all_below n [] h = refl
all_below n (t ∷ ts) h = rw (lt-ltb t n (h 0 (omega arith))) (all_below n ts (λ k l. h (suc k) (omega arith)))

-- one is not
all_not : (n : ℕ) (ts : List ℕ) (k : ℕ) → k < length ts → n ≤ get_or ts k 0 → all (λ t. ltb t n) ts ≡ false
all_not n [] k l h = absurd (omega arith)
all_not n (t ∷ ts) zero l h = rw (le-ltb t n h)
all_not n (t ∷ ts) (suc k) l h = rw (all_not n ts k (omega arith) h) (none (ltb t n))
  where
    none : (b : Bool) → both b false ≡ false
    none true = refl
    none false = refl

-- as the code says
pub says_scheduled : (n : ℕ) (ts : List ℕ) (b : Bool) → SaysScheduled n ts b → scheduled_below n ts ≡ b
says_scheduled n ts true h =
    rw (le-leb (length ts) max_entries (h.every refl).few) (all_below n ts (h.every refl).below)
says_scheduled n ts false h = by_test (leb (length ts) max_entries)
    (λ e.
    let w = h.some refl (leb-true (length ts) max_entries e) in
    rw e (all_not n ts w.0 w.1 w.2))
    (λ e. rw e)

-- ---- the reader's answer

-- a refusal has a number
pub numbered : (why : Refusal) → refusal_number why ≡ 0 → ⊥
numbered R.Trailer e = omega arith
numbered R.Counts e = omega arith
numbered R.Records e = omega arith
numbered R.Bodies e = omega arith
numbered R.Names e = omega arith
numbered R.Labels e = omega arith
numbered R.Cycle e = omega arith
numbered R.Unset e = omega arith
numbered R.TooLong e = omega arith
numbered R.NoRoom e = omega arith
numbered R.Schedule e = omega arith
numbered R.NoCells e = omega arith
numbered R.Allotments e = omega arith
numbered R.NoChoice e = omega arith
numbered R.Choices e = omega arith
numbered R.NotOurs e = omega arith

module _ (t : List ℕ) (h : Bytes t) {r : ReadAnswer} (q : r ≡ read_call concurrent t) where
  -- a refusal has a number
  pub read_refused : (r.number ≡ 0 → ⊥) → verdict concurrent t ≡ refused r.number
  read_refused n = go (verdict concurrent t) refl
    where
      go : (v : Verdict) → verdict concurrent t ≡ v → verdict concurrent t ≡ refused r.number
      go (refused m) e = let same : r.number ≡ m = ap (λ (x : ReadAnswer). x.number) q ∙ rw e in rw same e
      go (accepted p) e = absurd (n (ap (λ (x : ReadAnswer). x.number) q ∙ rw e))

  -- with number 0 a table is accepted
  pub read_accepted : r.number ≡ 0 → Accepted t r.procedures r.locations r.threads r.cells
  read_accepted z = go (verdict concurrent t) refl
    where
      go : (v : Verdict) → verdict concurrent t ≡ v → Accepted t r.procedures r.locations r.threads r.cells
      go (refused m) e =
          let same : r.number ≡ m = ap (λ (x : ReadAnswer). x.number) q ∙ rw e in
          absurd (omega (arith, (refused_within concurrent t m e).low))
      go (accepted p) e =
          let got = (accepted_exactly concurrent t h p).0 e in
          let answer : r ≡ read_as concurrent (accepted p) = q ∙ ap (read_as concurrent) e in
          let procs : r.procedures ≡ length p.procs = ap (λ (x : ReadAnswer). x.procedures) answer in
          let places : r.locations ≡ length p.sizes = ap (λ (x : ReadAnswer). x.locations) answer in
          let threads : r.threads ≡ length p.mains = ap (λ (x : ReadAnswer). x.threads) answer in
          record {
            program = p;
            read = e;
            same = got.0;
            sound = got.1;
            procs = procs;
            places = places;
            threads = threads;
            cells = ap (λ (x : ReadAnswer). x.cells) answer;
            room = omega (arith, procs, places, threads, trailer_at concurrent p got.0, length_table concurrent p got.0);
          }

-- ---- the call

module _ (ts cs es : List ℕ) (go : Program Plain → Outcome) (p : Program Plain) where
  -- no schedule of it
  as_unscheduled : scheduled concurrent p ts ≡ false → run_as concurrent (accepted p) go ts cs es ≡ untouched 11 cs es
  as_unscheduled e = rw (e, run_as)

  -- no room for the cells
  as_short : scheduled concurrent p ts ≡ true → roomy p cs ≡ false → run_as concurrent (accepted p) go ts cs es ≡ untouched 12 cs es
  as_short e f = rw (e, f, run_as)

  -- neither
  as_ran : scheduled concurrent p ts ≡ true → roomy p cs ≡ true → run_as concurrent (accepted p) go ts cs es ≡ go p
  as_ran e f = rw (e, f, run_as)

-- what a call leaves
abbrev left : RunAnswer → List ℕ → List ℕ → Outcome
left a cs es = record { answer = a; cells = cs; events = es }

-- of the first engine or of another one, whose runs of accepted tables leave `go`
module _ (t : List ℕ) (h : Bytes t) (ts cs es : List ℕ) (go : Program Plain → Outcome) where
  -- what the call is to leave
  abbrev call : Outcome
  call = run_as concurrent (verdict concurrent t) go ts cs es

  -- 1 to 8
  pub call_refused : {r : ReadAnswer} {a : RunAnswer} → r ≡ read_call concurrent t → (r.number ≡ 0 → ⊥) → a ≡ refusal r.number → left a cs es ≡ call
  call_refused q z e = rw (read_refused t h q z, e)

  module _ {r : ReadAnswer} {b : Bool} (q : r ≡ read_call concurrent t) (z : r.number ≡ 0) (s : SaysScheduled r.threads ts b) where
    -- the schedule, by the number of mains
    asked_of : (A : Accepted t r.procedures r.locations r.threads r.cells) → scheduled concurrent A.program ts ≡ b
    asked_of A = ap (λ n. scheduled_below n ts) (sym A.threads) ∙ says_scheduled r.threads ts b s

    -- 11: "schedule over 4,096 entries, or (concurrent) an entry not below T"
    pub call_unscheduled : {a : RunAnswer} → b ≡ false → a ≡ refusal 11 → left a cs es ≡ call
    call_unscheduled n e =
        let A = read_accepted t h q z in
        rw (A.read, e) (sym (as_unscheduled ts cs es go A.program (asked_of A ∙ n)))

    module _ (k : b ≡ true) where
      -- the entries of the schedule
      pub call_entries : Entries r.threads ts
      call_entries = s.every k

      -- 12: "cell buffer shorter than 5 bytes a cell"
      pub call_short : {a : RunAnswer} → length cs < cell_size * r.cells → a ≡ refusal 12 → left a cs es ≡ call
      call_short m e =
          let A = read_accepted t h q z in
          let short : roomy A.program cs ≡ false = rw (← A.cells) (lt-leb (cell_size * r.cells) (length cs) m) in
          rw (A.read, e) (sym (as_short ts cs es go A.program (asked_of A ∙ k) short))

      -- the run
      pub call_ran : {a : RunAnswer} {cs' es' : List ℕ} → cell_size * r.cells ≤ length cs
          → ((A : Accepted t r.procedures r.locations r.threads r.cells) → Entries r.threads ts → cell_size * r.cells ≤ length cs
          → left a cs' es' ≡ go A.program)
          → left a cs' es' ≡ call
      call_ran m O =
          let A = read_accepted t h q z in
          let room : roomy A.program cs ≡ true = rw (← A.cells) (le-leb (cell_size * r.cells) (length cs) m) in
          O A call_entries m
          ∙ sym (ap (λ (v : Verdict). run_as concurrent v go ts cs es) A.read ∙ as_ran ts cs es go A.program (asked_of A ∙ k) room)

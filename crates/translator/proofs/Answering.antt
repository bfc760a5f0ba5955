-- One law for each way through the translator's call.
use Prim.Native.Nat.{ℕ, ◌+◌, ◌-◌, ◌≤◌, ◌<◌}
use native.Mathlib.Omega.{arith}
use native.Mathlib.Decide.{dec_le}
use native.Mathlib.Nat.{zero-add}
use mathlib.Core.Path.{◌≡◌, refl, sym, ap, ap₂, ◌∙◌}
use mathlib.Core.List.{List, ◌++◌}
use lib.ListN.{length, get_or, drop}
use lib.Seq.{sets-eq}
use borrow.Author.Tests.{lt-ltb, le-ltb}
use Rattle.std.specs.Prelude.{Result, Ok, Err}
use Rattle.value.specs.Lists.{over}
use Rattle.value.proofs.Laws.Bytes.{bytes_at}
use Rattle.format.specs.Syntax.{Program, Plain, concurrent, sequential}
use Rattle.format.specs.Encode.{table, trailer_size, distance}
use Rattle.labels.specs.LabelMap.{Mapped}
use Rattle.format.specs.Rules.{Verdict, refused, accepted, verdict, limits}
use Rattle.format.specs.Calls.{read_as, read_call}
use Rattle.labels.specs.Walks.{MapsLabels}
use Rattle.format.specs.Labels.{counts}
use Rattle.format.specs.declared.ReadAnswer.{ReadAnswer}
use Rattle.basics.specs.Refusals.{refusal_number}
use Rattle.basics.specs.declared.refusals.Refusal.{Refusal}
use Rattle.basics.specs.declared.refusals.Refusal.TheVariants.{Trailer, Records, Bodies, Names, Labels, Cycle, Unset, TooLong, NoRoom}
use Rattle.basics.specs.declared.refusals.Refusal.TheVariants.{Schedule, NoCells, Allotments, NoChoice, Choices, NotOurs}
use Rattle.basics.specs.declared.refusals.Refusal.TheVariants as R
use Rattle.reader.specs.declared.verdict.Counts.{Counts}
use Rattle.reader.specs.Answers as reader
use Rattle.answers.specs.Answers.{answer_of}
use Rattle.format.proofs.Laws.Sound.{Sound}
use Rattle.format.proofs.Laws.Formed.{Formed}
use Rattle.format.proofs.Laws.Accepted.{accepted_exactly, bodies_fit, sound_formed}
use Rattle.format.proofs.Laws.Refusals.{refused_within}
use Rattle.format.proofs.Laws.TablePlaces.{records_at, all_bodies, length_table, trailer_at}
use Rattle.translation.specs.Translate.{translate_in}
use Rattle.translation.specs.Calls.{Written, refusal, written, writes, writes_table, translate_as, translate_call}
use Rattle.writer.specs.Laws.Put.{Put}
use Rattle.emit.specs.Laws.Shapes.{Shaped}
use Rattle.translator.specs.Laws.Tables.{TableOf}
use Rattle.translator.specs.Laws.Answers.{Accepts, AcceptedIn, WritesCopy}
use Rattle.translation.specs.declared.WriteAnswer.{WriteAnswer}
use Rattle.basics.specs.Sizes.{too_long}
use Rattle.translation.specs.declared.Mode.{Mode}
use Rattle.emit.specs.declared.layout.Shape.{Shape}
use Rattle.places.specs.declared.Places.{Places}
use Rattle.places.specs.Placed.{Of, Source, PlacesOf}

-- ---- the reader's answer

-- an answer, and the buffer as it is
abbrev left : WriteAnswer → List ℕ → Written
left r o = record { answer = r; out = o }

-- a refusal has a number
numbered : (why : Refusal) → refusal_number why ≡ 0 → ⊥
numbered Trailer e = omega arith
numbered R.Counts e = omega arith
numbered Records e = omega arith
numbered Bodies e = omega arith
numbered Names e = omega arith
numbered Labels e = omega arith
numbered Cycle e = omega arith
numbered Unset e = omega arith
numbered TooLong e = omega arith
numbered NoRoom e = omega arith
numbered Schedule e = omega arith
numbered NoCells e = omega arith
numbered Allotments e = omega arith
numbered NoChoice e = omega arith
numbered Choices e = omega arith
numbered NotOurs e = omega arith

-- a refusal is passed on
pub call_refused : (t : List ℕ) (mode : Mode) (o : List ℕ) (why : Refusal) → reader.answer_of (Err why) ≡ read_call concurrent t
    → left (answer_of (Err why)) o ≡ translate_call mode t o
call_refused t mode o why same = by (verdict concurrent t) refl
  where
    by : (v : Verdict) → verdict concurrent t ≡ v → left (refusal (refusal_number why)) o ≡ translate_call mode t o
    by (refused n) q =
        let number : refusal_number why ≡ n =
        ap (λ (x : ReadAnswer). x.number) same ∙ ap (λ (v : Verdict). (read_as concurrent v).number) q
        in
        ap (λ (k : ℕ). left (refusal k) o) number ∙ sym (ap (λ (v : Verdict). translate_as mode v o) q)
    by (accepted p) q =
        absurd (numbered why (ap (λ (x : ReadAnswer). x.number) same ∙ ap (λ (v : Verdict). (read_as concurrent v).number) q))

-- counts are found of an accepted table
pub call_accepts : (t : List ℕ) {a : Counts} → ((i : ℕ) → i < length t → get_or t i 0 < 256) → reader.answer_of (Ok a) ≡ read_call concurrent t
    → Accepts t a
call_accepts t {a} bytes same = by (verdict concurrent t) refl
  where
    by : (v : Verdict) → verdict concurrent t ≡ v → Accepts t a
    by (refused n) q =
        let number : 0 ≡ n = ap (λ (x : ReadAnswer). x.number) same ∙ ap (λ (v : Verdict). (read_as concurrent v).number) q in
        absurd (omega (arith, number, (refused_within concurrent t n q).low))
    by (accepted p) q =
        let both : (t ≡ table concurrent p) × Sound concurrent p = (accepted_exactly concurrent t (bytes_at t bytes) p).0 q in
        let answer : reader.answer_of (Ok a) ≡ read_as concurrent (accepted p) = same ∙ ap (read_as concurrent) q in
        let sound : Sound concurrent p = both.1 in
        let long : length t ≡ length (table concurrent p) = ap length both.0 in
        let procs : a.procedures ≡ length p.procs = ap (λ (x : ReadAnswer). x.procedures) answer in
        let places : a.locations ≡ length p.sizes = ap (λ (x : ReadAnswer). x.locations) answer in
        let threads : a.threads ≡ length p.mains = ap (λ (x : ReadAnswer). x.threads) answer in
        let labels : a.labels ≡ counts p.procs = ap (λ (x : ReadAnswer). x.labels) answer in
        record {
          program = p;
          verdict = q;
          same = both.0;
          sound = sound;
          answer = answer;
          procedures = omega (arith, procs, sound.procs.high);
          locations = omega (arith, places, sound.places);
          threads = omega (arith, threads, sound.threads.high);
          labels = omega (arith, labels, sound.labels);
          long = omega (arith, long, sound.size);
          room = omega (arith, trailer_at concurrent p both.0, length_table concurrent p both.0, procs, places, threads);
        }

-- where its records begin
abbrev records_in : List ℕ → Counts → ℕ
records_in t a = length t - trailer_size - distance a.procedures a.locations a.threads

module _ {t : List ℕ} {a : Counts} (A : Accepts t a) where
  -- the counts
  procs : a.procedures ≡ length A.program.procs
  procs = ap (λ (x : ReadAnswer). x.procedures) A.answer

  places : a.locations ≡ length A.program.sizes
  places = ap (λ (x : ReadAnswer). x.locations) A.answer

  threads : a.threads ≡ length A.program.mains
  threads = ap (λ (x : ReadAnswer). x.threads) A.answer

  -- and the records
  records : records_in t a ≡ records_at A.program
  records = omega (arith, trailer_at concurrent A.program A.same, procs, places, threads)

  -- what is known of it for its places
  source_of : Of t a.procedures (records_in t a) A.program
  source_of = record { is = A.same; sound = A.sound; procedures = procs; records = records }

  pub source : Source t a.procedures (records_in t a)
  source = record {
    program = A.program;
    of = source_of;
    few = A.procedures;
    long = A.long;
    inside = omega (arith, A.room);
  }

  -- its shape
  pub shapes : {mode : Mode} {b : Places} → PlacesOf t a.procedures (records_in t a) mode b
      → AcceptedIn t mode (record {
        records = records_in t a;
        procedures = a.procedures;
        locations = a.locations;
        threads = a.threads;
        labels = a.labels;
        mode = mode;
        starts = b.starts;
        row = b.row;
      })
  shapes B =
      let p : Program Plain = A.program in
      let placed = B.gives p source_of in
      record {
        shape = record {
          program = p;
          verdict = A.verdict;
          shaped = record {
            is = A.same;
            sound = A.sound;
            records = records;
            procedures = procs;
            locations = places;
            threads = threads;
            labels = ap (λ (x : ReadAnswer). x.labels) A.answer;
            starts = placed.starts;
            row = placed.row;
          };
          few = A.labels;
          bodies = record {
            procs = p.procs;
            next = records_at p;
            there = record { stands = all_bodies concurrent p A.same; count = sym procs; fits = bodies_fit concurrent p A.sound };
          };
        };
        same = refl;
      }

-- ---- the copy

module _ {t : List ℕ} {h : Shape} {map bounds : List ℕ} {n k : ℕ} (count : k ≡ h.procedures) (M : MapsLabels t k map bounds n) where
  -- the map is that of the program
  mapped : (q : Program Plain) → Shaped t h q → Mapped q map bounds
  mapped q w =
      let formed : Formed concurrent t q = rw w.is (sound_formed concurrent q w.sound) in
      (M.gives q formed (sym w.procedures ∙ sym count) w.sound.labels).0

  module _ {o₁ o₂ : List ℕ} {l : ℕ} (T : TableOf t h map bounds o₁ o₂ l) where
    -- counted right, as far as counting goes
    long : (q : Program Plain) → Shaped t h q → l ≤ (limits sequential).bytes → l ≡ length (table sequential (translate_in h.mode q))
    long q w less =
        let P : Put o₁ 0 (table sequential (translate_in h.mode q)) o₂ l = T.gives q w (mapped q w) in
        elim (dec_le too_long (0 + length (table sequential (translate_in h.mode q)))) [
          | yes far ↦ absurd (omega (arith, P.far far))
          | no near ↦ omega (arith, P.next (omega arith))
        ]

    -- 9
    pub over_limit : {o : List ℕ} → (limits sequential).bytes < l → WritesCopy t h o o (Err TooLong)
    over_limit {o} more = record { gives = λ q w. gives q w }
      where
        gives : (q : Program Plain) → Shaped t h q → left (refusal 9) o ≡ writes_table (table sequential (translate_in h.mode q)) o
        gives q w =
            let P : Put o₁ 0 (table sequential (translate_in h.mode q)) o₂ l = T.gives q w (mapped q w) in
            let passes : (limits sequential).bytes < length (table sequential (translate_in h.mode q)) =
            elim (dec_le (0 + length (table sequential (translate_in h.mode q))) too_long) [
              | yes near ↦ omega (arith, P.next near)
              | no far ↦ omega arith
            ] in
            rw (lt-ltb (limits sequential).bytes (length (table sequential (translate_in h.mode q))) passes, writes_table)

    -- 10
    pub no_room : {o : List ℕ} → l ≤ (limits sequential).bytes → length o < l → WritesCopy t h o o (Err NoRoom)
    no_room {o} less short = record { gives = λ q w. gives q w }
      where
        gives : (q : Program Plain) → Shaped t h q → left (refusal 10) o ≡ writes_table (table sequential (translate_in h.mode q)) o
        gives q w =
            let new : List ℕ = table sequential (translate_in h.mode q) in
            let is : l ≡ length new = long q w less in
            rw (le-ltb (limits sequential).bytes (length new) (omega arith), writes_table, lt-ltb (length o) (length new) (omega arith), writes)

    -- written
    pub copied : {o o' : List ℕ} {k : ℕ} → l ≤ (limits sequential).bytes → l ≤ length o → TableOf t h map bounds o o' k
        → WritesCopy t h o o' (Ok l)
    copied {o} {o'} {k} less room W = record { gives = λ q w. gives q w }
      where
        gives : (q : Program Plain) → Shaped t h q → left (written l) o' ≡ writes_table (table sequential (translate_in h.mode q)) o
        gives q w =
            let new : List ℕ = table sequential (translate_in h.mode q) in
            let is : l ≡ length new = long q w less in
            let P : Put o 0 new o' k = W.gives q w (mapped q w) in
            let out : o' ≡ over new o =
            P.wrote (omega arith) ∙ sets-eq new o 0 (omega arith) ∙ ap (λ (i : ℕ). new ++ drop i o) (zero-add (length new))
            in
            ap₂ (λ (x : ℕ) (y : List ℕ). left (written x) y) is out
            ∙ rw (le-ltb (limits sequential).bytes (length new) (omega arith), writes_table, le-ltb (length o) (length new) (omega arith), writes)

-- the call
pub call_copies : (t : List ℕ) {mode : Mode} {h : Shape} (o : List ℕ) {o' : List ℕ} {r : Result ℕ Refusal} → AcceptedIn t mode h
    → WritesCopy t h o o' r → left (answer_of r) o' ≡ translate_call mode t o
call_copies t {mode} o A W =
    let p : Program Plain = A.shape.program in
    W.gives p A.shape.shaped ∙ ap (λ (x : Mode). writes_table (table sequential (translate_in x p)) o) A.same
    ∙ sym (ap (λ (v : Verdict). translate_as mode v o) A.shape.verdict)

-- one law for each way
pub ruleset answer_ways = (source, shapes, over_limit, no_room, copied)

-- One law for each way through the printer's call.
use Prim.Native.Nat.{ℕ, suc, ◌+◌, ◌^◌, ◌≤◌, ◌<◌}
use native.Mathlib.Omega.{arith}
use native.Mathlib.Nat.{zero-add}
use mathlib.Core.Path.{◌≡◌, refl, sym, ap, ap₂, ◌∙◌}
use mathlib.Core.List.{List, [], ◌∷◌, ◌++◌}
use mathlib.Core.Bool.{true, false}
use lib.ListN.{length, get_or, set, drop}
use lib.Seq.{sets, sets-eq}
use lib.Dec.{ltb}
use borrow.Author.Tests.{lt-ltb, le-ltb, ltb-true, ltb-false}
use Rattle.std.specs.Prelude.{Option, Some, None, Ok, Err}
use Rattle.value.specs.Lists.{over}
use Rattle.value.proofs.Laws.Bytes.{bytes_at}
use Rattle.value.proofs.Laws.Tests.{by_test}
use Rattle.format.specs.Syntax.{Program, Plain, sequential}
use Rattle.format.specs.Encode.{table}
use Rattle.format.specs.Rules.{Verdict, refused, accepted, verdict}
use Rattle.format.specs.Calls.{read_as, read_call}
use Rattle.format.specs.declared.ReadAnswer.{ReadAnswer}
use Rattle.format.proofs.Laws.Sound.{Sound}
use Rattle.format.proofs.Laws.Accepted.{accepted_exactly}
use Rattle.format.proofs.Laws.Refusals.{refused_within}
use Rattle.format.proofs.Laws.TablePlaces.{trailer_at, length_table}
use Rattle.translation.specs.Calls.{Written, refusal, written, writes}
use Rattle.translation.specs.declared.WriteAnswer.{WriteAnswer}
use Rattle.ctext.specs.Text.{text}
use Rattle.ctext.specs.Calls.{print_as, print_call}
use Rattle.typeset.specs.declared.pieces.Page.{Page}
use Rattle.typeset.specs.Page.{onward, set_one, set_all, place, Begins, Put}
use Rattle.typeset.proofs.Setting.{differs_past, onward_none, onward_same, set_nowhere}
use Rattle.frame.specs.Frames.{ShowsText}
use Rattle.basics.specs.declared.refusals.Refusal.{Refusal}
use Rattle.basics.specs.declared.refusals.Refusal.TheVariants.{Trailer, Counts, Records, Bodies, Names, Labels, Cycle, Unset, TooLong, NoRoom}
use Rattle.basics.specs.declared.refusals.Refusal.TheVariants.{Schedule, NoCells, Allotments, NoChoice, Choices, NotOurs}
use Rattle.basics.specs.Refusals.{refusal_number}
use Rattle.answers.specs.Answers.{answer_of}
use Rattle.reader.specs.declared.verdict.Counts as counts
use Rattle.reader.specs.Answers as reader
use Rattle.printer.specs.Accepted.{Accepts}

-- an answer, and the buffer as it is
abbrev left : WriteAnswer → List ℕ → Written
left r o = record { answer = r; out = o }

-- ---- the reader's answer

-- no refusal has the number 0
refusal_some : (e : Refusal) → 0 < refusal_number e
refusal_some Trailer = omega arith
refusal_some Counts = omega arith
refusal_some Records = omega arith
refusal_some Bodies = omega arith
refusal_some Names = omega arith
refusal_some Labels = omega arith
refusal_some Cycle = omega arith
refusal_some Unset = omega arith
refusal_some TooLong = omega arith
refusal_some NoRoom = omega arith
refusal_some Schedule = omega arith
refusal_some NoCells = omega arith
refusal_some Allotments = omega arith
refusal_some NoChoice = omega arith
refusal_some Choices = omega arith
refusal_some NotOurs = omega arith

-- nor is a refusal's answer that of an accepted table
pub refusal_not : (t : List ℕ) (e : Refusal) {p : Program Plain} → reader.answer_of (Err e) ≡ read_call sequential t → verdict sequential t ≡ accepted p → ⊥
refusal_not t e same q =
    let number : refusal_number e ≡ 0 = ap (λ (x : ReadAnswer). x.number) same ∙ ap (λ (v : Verdict). (read_as sequential v).number) q in
    omega (arith, number, refusal_some e)

-- a refusal is passed on
pub call_refused : (t o : List ℕ) (e : Refusal) → reader.answer_of (Err e) ≡ read_call sequential t → left (answer_of (Err e)) o ≡ print_call t o
unfolding print_call
call_refused t o e same = by (verdict sequential t) refl
  where
    by : (v : Verdict) → verdict sequential t ≡ v → left (answer_of (Err e)) o ≡ print_as (verdict sequential t) o
    by (refused n) q =
        let number : refusal_number e ≡ n = ap (λ (x : ReadAnswer). x.number) same ∙ ap (λ (v : Verdict). (read_as sequential v).number) q in
        ap (λ n. left (refusal n) o) number ∙ sym (ap (λ (v : Verdict). print_as v o) q)
    by (accepted p) q = absurd (refusal_not t e same q)

-- the counts of an accepted table
pub call_accepts : (t : List ℕ) {a : counts.Counts} → reader.answer_of (Ok a) ≡ read_call sequential t → ((i : ℕ) → i < length t → get_or t i 0 < 256)
    → Accepts t a
call_accepts t {a} same bytes = by (verdict sequential t) refl
  where
    by : (v : Verdict) → verdict sequential t ≡ v → Accepts t a
    by (refused n) q =
        let number : 0 ≡ n = ap (λ (x : ReadAnswer). x.number) same ∙ ap (λ (v : Verdict). (read_as sequential v).number) q in
        absurd (omega (arith, number, (refused_within sequential t n q).low))
    by (accepted p) q =
        let both : (t ≡ table sequential p) × Sound sequential p = (accepted_exactly sequential t (bytes_at t bytes) p).0 q in
        let answer : reader.answer_of (Ok a) ≡ read_as sequential (accepted p) = same ∙ ap (read_as sequential) q in
        record {
          program = p;
          verdict = q;
          same = both.0;
          sound = both.1;
          procedures = ap (λ (x : ReadAnswer). x.procedures) answer;
          locations = ap (λ (x : ReadAnswer). x.locations) answer;
          room = omega (
            arith,
            trailer_at sequential p both.0,
            length_table sequential p both.0,
            ap (λ (x : ReadAnswer). x.procedures) answer,
            ap (λ (x : ReadAnswer). x.locations) answer,
          );
        }

-- ---- what was set, held against no text

-- one byte
set_next : (o : List ℕ) (p b : ℕ) {r : Option ℕ} → onward p 1 ≡ r → set_one [] (record { out = o; at = Some p }) b ≡ record { out = set o p b; at = r }
unfolding set_one
set_next o p b e = rw (sym (differs_past [] p b (omega arith)), set_one) (ap (λ r. record { out = set o p b; at = r }) e)

-- where they end
set_ends : (bs o : List ℕ) (p : ℕ) → p < 2 ^ 64 → (set_all [] (record { out = o; at = Some p }) bs).at ≡ onward p (length bs)
unfolding onward
set_ends [] o p l = sym (onward_none p l)
set_ends (b ∷ bs) o p l = by_test (ltb (p + 1) (2 ^ 64))
    (λ e.
    ap (λ s. (set_all [] s bs).at) (set_next o p b {r = Some (p + 1)} (rw (e, onward) refl)) ∙ set_ends bs (set o p b) (p + 1) (ltb-true _ _ e)
    ∙ onward_same (p + 1) p (length bs) (suc (length bs)) (omega arith))
    (λ e.
    let far : 2 ^ 64 ≤ p + 1 = ltb-false _ _ e in
    let farther : ltb (p + suc (length bs)) (2 ^ 64) ≡ false = le-ltb _ _ (omega arith) in
    ap (λ s. (set_all [] s bs).at) (set_next o p b {r = None} (rw (e, onward) refl)) ∙ ap (λ s. s.at) (set_nowhere [] (set o p b) bs) ∙ rw (farther, onward) refl)

-- what is in the buffer then
set_near : (bs o : List ℕ) (p : ℕ) → p + length bs < 2 ^ 64 → (set_all [] (record { out = o; at = Some p }) bs).out ≡ sets o p bs
unfolding onward
set_near [] o p l = refl
set_near (b ∷ bs) o p l =
    let next : p + 1 ≡ suc p = omega arith in
    let near : ltb (p + 1) (2 ^ 64) ≡ true = lt-ltb _ _ (omega arith) in
    ap (λ s. (set_all [] s bs).out) (set_next o p b {r = Some (p + 1)} (rw (near, onward) refl)) ∙ rw next (set_near bs (set o p b) (suc p) (omega arith))

-- a place that was found
onward_some : (n : ℕ) {l : ℕ} → Some l ≡ onward 0 n → (l ≡ n) × (n < 2 ^ 64)
unfolding onward
onward_some n {l} e = by_test (ltb (0 + n) (2 ^ 64))
    (λ t.
    let h : ◌≡◌ {A = Option ℕ} (Some l) (Some (0 + n)) = e ∙ rw (t, onward) refl in
    let i : l ≡ 0 + n = cc h in
    (omega arith, omega (arith, ltb-true _ _ t)))
    (λ t. let h : ◌≡◌ {A = Option ℕ} (Some l) None = e ∙ rw (t, onward) refl in cc h)

onward_far : (n : ℕ) → None ≡ onward 0 n → 2 ^ 64 ≤ n
unfolding onward
onward_far n e = by_test (ltb (0 + n) (2 ^ 64))
    (λ t. let h : ◌≡◌ {A = Option ℕ} None (Some (0 + n)) = e ∙ rw (t, onward) refl in cc h)
    (λ t. omega (arith, ltb-false _ _ t))

module _ {o : List ℕ} {b q : Page} (bs : List ℕ) (B : Begins [] o b) (P : Put b bs q) where
  -- from the start on
  whole : place q ≡ set_all [] (record { out = o; at = Some 0 }) bs
  whole = P.puts ∙ ap₂ (λ x s. set_all x s bs) B.text (ap₂ (λ o r. record { out = o; at = r }) B.out B.at)

  -- where it ends
  ends : q.at ≡ onward 0 (length bs)
  ends = ap (λ s. s.at) whole ∙ set_ends bs o 0 (omega arith)

  -- written
  wrote : length bs < 2 ^ 64 → length bs ≤ length o → q.out.now ≡ over bs o
  wrote h l =
      ap (λ s. s.out) whole ∙ set_near bs o 0 (omega arith) ∙ sets-eq bs o 0 (omega arith)
      ∙ ap (λ (i : ℕ). bs ++ drop i o) (zero-add (length bs))

-- ---- the call

module _ {t : List ℕ} {a : counts.Counts} (A : Accepts t a) {m : List ℕ} {b q : Page} (B : Begins [] m b) (C : ShowsText t a.procedures a.locations b q) where
  -- what was counted
  count : q.at ≡ onward 0 (length (text A.program))
  count = ends (text A.program) B (C.shown A.program A.same A.sound A.procedures A.locations)

  -- a text that is too long for the buffer
  short : (o : List ℕ) → length o < length (text A.program) → left (answer_of (Err NoRoom)) o ≡ print_call t o
  unfolding print_call
  short o long = rw A.verdict (rw (lt-ltb (length o) (length (text A.program)) long, writes))

  -- 10
  pub no_place : {r : Option ℕ} (o : List ℕ) → length o < 2 ^ 63 → r ≡ q.at → r ≡ None → left (answer_of (Err NoRoom)) o ≡ print_call t o
  no_place o h e f = let far : 2 ^ 64 ≤ length (text A.program) = onward_far _ (sym f ∙ e ∙ count) in short o (omega arith)

  -- 10
  pub no_room : {r : Option ℕ} {l : ℕ} (o : List ℕ) → r ≡ q.at → r ≡ Some l → length o < l → left (answer_of (Err NoRoom)) o ≡ print_call t o
  no_room o e f less = let is = onward_some (length (text A.program)) (sym f ∙ e ∙ count) in short o (omega arith)

  -- printed
  pub printed : {r : Option ℕ} {l : ℕ} {o : List ℕ} {d u : Page} → length o < 2 ^ 63 → r ≡ q.at → r ≡ Some l → l ≤ length o → Begins [] o d
      → ShowsText t a.procedures a.locations d u
      → left (answer_of (Ok l)) u.out.now ≡ print_call t o
  unfolding print_call
  printed {l = l} {o} {d} {u} h e f room D W =
      let new : List ℕ = text A.program in
      let is = onward_some (length new) (sym f ∙ e ∙ count) in
      let P : Put d new u = W.shown A.program A.same A.sound A.procedures A.locations in
      let out : u.out.now ≡ over new o = wrote new D P (omega arith) (omega arith) in
      ap₂ (λ (x : ℕ) (y : List ℕ). left (written x) y) is.0 out
      ∙ rw A.verdict (rw (le-ltb (length o) (length new) (omega arith), writes))

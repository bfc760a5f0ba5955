-- One law for each way through the text reader's call.
use Prim.Native.Nat.{ℕ, suc, ◌+◌, ◌^◌, ◌≤◌, ◌<◌}
use native.Mathlib.Omega.{arith}
use native.Mathlib.Nat.{zero-add}
use mathlib.Core.Path.{◌≡◌, refl, sym, ap, ap₂, subst, ◌∙◌}
use mathlib.Core.List.{List, [], ◌∷◌, ◌++◌}
use mathlib.Core.Bool.{Bool, true, false, not}
use lib.ListN.{length, get_or, set, take, drop}
use lib.Seq.{sets-eq, slice, drop-cons, drop-length, take-append_seam}
use lib.Dec.{eqb, ltb}
use native.Mathlib.Decide.{dec_le}
use borrow.Author.Tests.{lt-ltb, le-ltb, eqb-true, eq-eqb}
use Rattle.std.specs.Prelude.{Option, Some, None, Result, Ok, Err}
use Rattle.std.specs.Option.{option_eq}
use Rattle.basics.specs.declared.refusals.Refusal.{Refusal}
use Rattle.basics.specs.declared.refusals.Refusal.TheVariants.{NoRoom, NotOurs}
use Rattle.answers.specs.Answers.{answer_of}
use Rattle.reader.specs.declared.verdict.Counts.{Counts}
use Rattle.reader.specs.Answers as reader
use Rattle.value.specs.Maybe.{Maybe, is, nothing}
use Rattle.value.specs.Lists.{over}
use Rattle.value.proofs.Laws.Maybes.{missing}
use Rattle.value.proofs.Laws.Tests.{by_test, never}
use Rattle.value.proofs.Laws.Bytes.{Bytes}
use Rattle.format.specs.Syntax.{Program, Plain, sequential}
use Rattle.format.specs.Encode.{table}
use Rattle.format.specs.Rules.{Verdict, refused, accepted}
use Rattle.format.specs.Calls.{read_call}
use Rattle.format.proofs.Laws.Sound.{Sound}
use Rattle.format.proofs.Laws.Accepted.{accepted_exactly}
use Rattle.translation.specs.Calls.{Written, written, writes}
use Rattle.translation.specs.declared.WriteAnswer.{WriteAnswer}
use Rattle.ctext.specs.Text.{text}
use Rattle.ctext.specs.Calls.{read_text_call, untext}
use Rattle.ctext.proofs.Laws.Reads.{TextOf, untext_exactly, reads, refuses}
use Rattle.typeset.specs.declared.pieces.Page.{Page}
use Rattle.typeset.specs.Page.{onward, otherwise, set_one, set_all, Begins}
use Rattle.typeset.proofs.Setting.{set_nowhere}
use Rattle.writer.specs.Laws.Put.{Put}
use Rattle.frame.specs.Frames.{ShowsText}
use Rattle.printer.specs.Accepted.{Accepts}
use Rattle.printer.proofs.Printing.{refusal_not}
use Rattle.retable.specs.Laws.Whole.{Reparses}
use Rattle.fromtext.specs.Judged.{Judges}

-- an answer, and the buffer as it is
abbrev left : WriteAnswer → List ℕ → Written
left r o = record { answer = r; out = o }

-- ---- what was set, held against the text

-- where bytes that are set from p on, if there is a place, end
ends_at : List ℕ → List ℕ → Option ℕ → List ℕ → Option ℕ
ends_at x o p bs = (set_all x (record { out = o; at = p }) bs).at

-- one byte
module _ (x o : List ℕ) (p b : ℕ) where
  -- another stands there
  one_other : otherwise x p b ≡ true → set_one x (record { out = o; at = Some p }) b ≡ record { out = o; at = None }
  unfolding set_one
  one_other t = rw (t, set_one) refl

  -- it stands there, or the text has ended
  one_so : {r : Option ℕ} → otherwise x p b ≡ false → onward p 1 ≡ r → set_one x (record { out = o; at = Some p }) b ≡ record { out = set o p b; at = r }
  unfolding set_one
  one_so t e = rw (t, set_one) (ap (λ r. record { out = set o p b; at = r }) e)

-- there is a next place
next_near : (p : ℕ) → p + 1 < 2 ^ 64 → onward p 1 ≡ Some (p + 1)
unfolding onward
next_near p l = let e : ltb (p + 1) (2 ^ 64) ≡ true = lt-ltb _ _ l in rw (e, onward) refl

-- there is none
next_far : (p : ℕ) → 2 ^ 64 ≤ p + 1 → onward p 1 ≡ None
unfolding onward
next_far p l = let e : ltb (p + 1) (2 ^ 64) ≡ false = le-ltb _ _ l in rw (e, onward) refl

-- from no place nothing is found
found_none : (x bs o : List ℕ) {k : ℕ} → ends_at x o None bs ≡ Some k → ⊥
unfolding ends_at
found_none x bs o {k} e = let none : ◌≡◌ {A = Option ℕ} None (Some k) = sym (ap (λ s. s.at) (set_nowhere x o bs)) ∙ e in cc none

-- places never go back
grows : (x bs o : List ℕ) (p k : ℕ) → ends_at x o (Some p) bs ≡ Some k → p ≤ k
unfolding ends_at
grows x [] o p k e = let same : p ≡ k = cc e in omega arith
grows x (b ∷ bs) o p k e = by_test (otherwise x p b)
    (λ t. absurd (found_none x bs o (sym (ap (λ s. (set_all x s bs).at) (one_other x o p b t)) ∙ e)))
    (λ t. elim (dec_le (2 ^ 64) (p + 1)) [
      | yes far ↦ absurd (found_none x bs (set o p b) (sym (ap (λ s. (set_all x s bs).at) (one_so x o p b t (next_far p far))) ∙ e))
      | no near ↦
          let more = grows x bs (set o p b) (p + 1) k (sym (ap (λ s. (set_all x s bs).at) (one_so x o p b t (next_near p (omega arith)))) ∙ e) in
          omega arith
    ])

-- where they end with the text, they stand in it
match_so : (x bs o : List ℕ) (p : ℕ) → p ≤ length x → length x < 2 ^ 63 → ends_at x o (Some p) bs ≡ Some (length x) → drop p x ≡ bs
unfolding ends_at otherwise
match_so x [] o p l h e = let same : p ≡ length x = cc e in rw same (drop-length x)
match_so x (b ∷ bs) o p l h e = by_test (otherwise x p b)
    (λ t. absurd (found_none x bs o (sym (ap (λ s. (set_all x s bs).at) (one_other x o p b t)) ∙ e)))
    (λ t.
    let end : ends_at x (set o p b) (Some (p + 1)) bs ≡ Some (length x) = sym (ap (λ s. (set_all x s bs).at) (one_so x o p b t (next_near p (omega arith)))) ∙ e in
    let more = grows x bs (set o p b) (p + 1) (length x) end in
    let inside : p < length x = omega arith in
    let byte : get_or x p 0 ≡ b = eqb-true (get_or x p 0) b (not_not (eqb (get_or x p 0) b) (rw (lt-ltb p (length x) inside) at t)) in
    let next : p + 1 ≡ suc p = omega arith in
    drop-cons x p 0 inside ∙ ap₂ (◌∷◌) byte (rw next at (match_so x bs (set o p b) (p + 1) (omega arith) h end)))
  where
    not_not : (b : Bool) → not b ≡ false → b ≡ true
    not_not true e = refl
    not_not false e = absurd (never (sym e))

-- where they stand in it, they end with it
match_of : (x bs o : List ℕ) (p : ℕ) → p + length bs ≡ length x → length x < 2 ^ 63 → drop p x ≡ bs → ends_at x o (Some p) bs ≡ Some (length x)
unfolding ends_at otherwise
match_of x [] o p l h e = ap (λ n. Some n) (omega arith)
match_of x (b ∷ bs) o p l h e =
    let inside : p < length x = omega arith in
    let parts : get_or x p 0 ∷ drop (suc p) x ≡ b ∷ bs = sym (drop-cons x p 0 inside) ∙ e in
    let byte : get_or x p 0 ≡ b = ap (λ l. get_or l 0 0) parts in
    let t : otherwise x p b ≡ false = rw (lt-ltb p (length x) inside, eq-eqb (get_or x p 0) b byte) in
    let next : p + 1 ≡ suc p = omega arith in
    ap (λ s. (set_all x s bs).at) (one_so x o p b t (next_near p (omega arith))) ∙ match_of x bs (set o p b) (p + 1) (omega arith) h (rw next (ap (drop 1) parts))

-- as the code asks for it
pub end_same : (r : Option ℕ) (n : ℕ) {d : Bool} → d ≡ not (option_eq eqb r (Some n)) → d ≡ false → r ≡ Some n
end_same None n e f = absurd (never (sym (sym e ∙ f)))
end_same (Some k) n e f = by_test (eqb k n) (λ t. ap (λ k. Some k) (eqb-true k n t)) (λ t. absurd (never (sym (ap not (sym t) ∙ sym e ∙ f))))

pub end_differs : (r : Option ℕ) (n : ℕ) {d : Bool} → d ≡ not (option_eq eqb r (Some n)) → d ≡ true → r ≡ Some n → ⊥
end_differs r n {d} e f g =
    let same : option_eq eqb r (Some n) ≡ true = rw g (eq-eqb n n refl) in
    never (ap not (sym same) ∙ sym e ∙ f)

-- ---- an accepted table

module _ {x t m : List ℕ} {a : Counts} (A : Accepts t a) {b q : Page} (B : Begins x m b) (C : ShowsText t a.procedures a.locations b q) (h : length x < 2 ^ 63) where
  -- what was compared
  ends : q.at ≡ ends_at x m (Some 0) (text A.program)
  unfolding ends_at
  ends =
      ap (λ s. s.at)
      ((C.shown A.program A.same A.sound A.procedures A.locations).puts
      ∙ ap₂ (λ x s. set_all x s (text A.program)) B.text (ap₂ (λ o r. record { out = o; at = r }) B.out B.at))

  -- another text
  pub judge_other : {o : List ℕ} {r : Option ℕ} → r ≡ q.at → (r ≡ Some (length x) → ⊥) → Judges x t o o (Err NotOurs)
  judge_other {o} e differs = record {
    yes = λ w.
        let one : A.program ≡ w.p = accepted_one (sym A.verdict ∙ w.read) in
        let same : x ≡ text A.program = sym w.same ∙ ap text (sym one) in
        absurd
        (differs (e ∙ ends ∙ match_of x (text A.program) m 0 (zero-add (length (text A.program)) ∙ ap length (sym same)) (omega arith) same));
    no = λ w. refl;
  }
    where
      accepted_one : {p q : Program Plain} → accepted p ≡ accepted q → p ≡ q
      accepted_one {p} e = ap program e
        where
          program : Verdict → Program Plain
          program (refused n) = p
          program (accepted q) = q

  -- its text
  module _ (bytes : Bytes t) {r : Option ℕ} (e : r ≡ q.at) (same : r ≡ Some (length x)) where
    found : TextOf t x
    found = record {
      bytes = bytes;
      p = A.program;
      read = A.verdict;
      same = sym (match_so x (text A.program) m 0 (omega arith) (omega arith) (sym ends ∙ sym e ∙ same));
    }

    -- 10
    pub judge_room : {o : List ℕ} → length o < length t → Judges x t o o (Err NoRoom)
    judge_room {o} short = record {
      yes = λ w. rw (lt-ltb (length o) (length t) short, writes) refl;
      no = λ w. absurd (w found);
    }

    -- written
    pub judge_writes : {o o' : List ℕ} {k : ℕ} → length t ≤ length o → Put o 0 (slice 0 (length t) t) o' k → Judges x t o o' (Ok (length t))
    judge_writes {o} {o'} {k} room P = record {
      yes = λ w.
          let all : slice 0 (length t) t ≡ t = take_all t in
          let few : length t ≤ 65536 = rw A.same A.sound.size in
          let Q : Put o 0 t o' k = rw all at P in
          let out : o' ≡ over t o =
          Q.wrote (omega arith) ∙ sets-eq t o 0 (omega arith) ∙ ap (λ (i : ℕ). t ++ drop i o) (zero-add (length t))
          in
          ap (λ o. left (written (length t)) o) out ∙ rw (le-ltb (length o) (length t) room, writes);
      no = λ w. absurd (w found);
    }
      where
        take_all : (l : List ℕ) → take (length l) l ≡ l
        take_all [] = refl
        take_all (b ∷ l) = ap (λ l. b ∷ l) (take_all l)

-- ---- a table that may be refused

pub judge_refused : {x : List ℕ} (t o : List ℕ) (e : Refusal) → reader.answer_of (Err e) ≡ read_call sequential t → Judges x t o o (Err NotOurs)
judge_refused t o e same = record { yes = λ w. absurd (refusal_not t e same w.read); no = λ w. refl }

-- ---- the call

-- the parser found the table, if there is one
parsed : {x o o' : List ℕ} {n : ℕ} → Reparses x o o' n → length o ≡ 65536 → (u : List ℕ) → TextOf u x → (n ≤ 65536) × (take n o' ≡ u)
parsed {x} {o} {o'} {n} R wide u w =
    let both : (u ≡ table sequential w.p) × Sound sequential w.p = (accepted_exactly sequential u w.bytes w.p).0 w.read in
    let t : List ℕ = table sequential w.p in
    let few : length t ≤ 65536 = both.1.size in
    let P : Put o 0 t o' n = R.gives w.p both.1 (sym w.same) in
    let long : n ≡ length t = (P).next (omega arith) ∙ omega arith in
    let wrote : o' ≡ t ++ drop (0 + length t) o = (P).wrote (omega arith) ∙ sets-eq t o 0 (omega arith) in
    (omega arith, rw (long, wrote) (take-append_seam t (drop (0 + length t) o)) ∙ sym both.0)

module _ {x s s' : List ℕ} {n : ℕ} (R : Reparses x s s' n) (wide : length s ≡ 65536) where
  -- no table is so long
  pub call_long : {o : List ℕ} → 65536 < n → left (answer_of (Err NotOurs)) o ≡ read_text_call x o
  call_long {o} far = sym (refuses x o (λ u w. omega (arith, (parsed R wide u w).0)))

  -- judged
  pub call_judged : {o o' : List ℕ} {r : Result ℕ Refusal} → Judges x (take n s') o o' r → left (answer_of r) o' ≡ read_text_call x o
  call_judged {o} {o'} {r} K = by (untext x) refl
    where
      by : (m : Maybe (List ℕ)) → untext x ≡ m → left (answer_of r) o' ≡ read_text_call x o
      by nothing e =
          let none : (u : List ℕ) → TextOf u x → ⊥ = λ u w. missing (sym e ∙ (untext_exactly x u).1 w) in
          K.no (none (take n s')) ∙ sym (refuses x o none)
      by (is u) e =
          let w : TextOf u x = (untext_exactly x u).0 e in
          let same : take n s' ≡ u = (parsed R wide u w).1 in
          let found : TextOf (take n s') x = subst (λ u. TextOf u x) (sym same) w in
          K.yes found ∙ sym (reads x (take n s') o found)

-- What the translator's call leaves is the copy's table, and it reads back as the copy.
use Rattle.std.specs.Prelude.{ℕ, ◌≤◌, ◌<◌, ◌≡◌, refl, ◌↔◌, List, length, take, ltb}
use Rattle.std.proofs.Common.{arith, ap, ◌∙◌, take_at, ltb-true, ltb-false, lt-ltb, le-ltb}
use Rattle.value.specs.Lists.{at, over}
use Rattle.value.proofs.Laws.Tests.{by_test}
use Rattle.value.proofs.Laws.Lists.{length_over, over_rest}
use Rattle.format.specs.Syntax.{Program, Plain, concurrent, sequential}
use Rattle.format.specs.Encode.{table}
use Rattle.format.specs.Rules.{Verdict, refused, accepted, verdict, limits}
use Rattle.value.proofs.Laws.Bytes.{Bytes}
use Rattle.format.proofs.Laws.Refusals.{Smallest, refused_exactly}
use Rattle.translation.specs.declared.Mode.{Mode}
use Rattle.translation.specs.Translate.{translate_in}
use Rattle.translation.specs.Calls.{written, writes, writes_table, translate_call}
use Rattle.translation.proofs.Laws.Copy.{copy_accepted}

-- ---- which number is answered

-- the number that is answered, in a mode, on table t with the lent buffer out: the smallest that applies, or 0
pub data Answers (mode : Mode) (t out : List ℕ) : ℕ → Type 0 where
  -- 1 to 8
  by_rule : {n : ℕ} → Smallest concurrent t n → Answers mode t out n
  -- 9: "the sequential table would pass 65,536 bytes"
  over_limit : {p : Program Plain} → verdict concurrent t ≡ accepted p → (limits sequential).bytes < length (table sequential (translate_in mode p))
      → Answers mode t out 9
  -- 10: "output buffer too short for it"
  no_room : {p : Program Plain} → verdict concurrent t ≡ accepted p → length (table sequential (translate_in mode p)) ≤ (limits sequential).bytes
      → length out < length (table sequential (translate_in mode p)) → Answers mode t out 10
  -- 0
  writes_it : {p : Program Plain} → verdict concurrent t ≡ accepted p → length (table sequential (translate_in mode p)) ≤ (limits sequential).bytes
      → length (table sequential (translate_in mode p)) ≤ length out → Answers mode t out 0

-- THE TRANSLATOR ANSWERS N EXACTLY IF N IS THE SMALLEST NUMBER THAT APPLIES, OR 0 IF NONE DOES.
pub answers_exactly : (mode : Mode) (t out : List ℕ) → Bytes t → (n : ℕ) → ((translate_call mode t out).answer.number ≡ n) ↔ Answers mode t out n
answers_exactly mode t out h n = (λ e. by (verdict concurrent t) refl e, of)
  where
    by : (v : Verdict) → verdict concurrent t ≡ v → (translate_call mode t out).answer.number ≡ n → Answers mode t out n
    by (refused m) r e = let same : m ≡ n = rw r at e in by_rule ((refused_exactly concurrent t h n).0 (r ∙ ap refused same))
    by (accepted p) r e =
        let new : List ℕ = table sequential (translate_in mode p) in
        by_test (ltb (limits sequential).bytes (length new))
        (λ a. let same : ◌≡◌ {A = ℕ} 9 n = rw (r, a, writes_table) at e in rw (← same) (over_limit r (ltb-true _ _ a)))
        λ a.
        by_test (ltb (length out) (length new))
        (λ b. let same : ◌≡◌ {A = ℕ} 10 n = rw (r, a, writes_table, b, writes) at e in rw (← same) (no_room r (ltb-false _ _ a) (ltb-true _ _ b)))
        (λ b. let same : ◌≡◌ {A = ℕ} 0 n = rw (r, a, writes_table, b, writes) at e in rw (← same) (writes_it r (ltb-false _ _ a) (ltb-false _ _ b)))

    of : {m : ℕ} → Answers mode t out m → (translate_call mode t out).answer.number ≡ m
    of {m} (by_rule s) = rw ((refused_exactly concurrent t h m).1 s)
    of (over_limit r long) = rw (r, lt-ltb _ _ long, writes_table)
    of (no_room r short room) = rw (r, le-ltb _ _ short, writes_table, lt-ltb _ _ room, writes)
    of (writes_it r short room) = rw (r, le-ltb _ _ short, writes_table, le-ltb _ _ room, writes)

-- "A refusal returns its number and zeros and writes nothing"
pub record Refused (mode : Mode) (t out : List ℕ) : Type 0 where
  pub length : (translate_call mode t out).answer.length ≡ 0
  pub stays : (translate_call mode t out).out ≡ out

-- A REFUSAL ANSWERS 0 FOR THE LENGTH, AND WRITES NOTHING.
pub call_refuses : (mode : Mode) (t out : List ℕ) → ((translate_call mode t out).answer.number ≡ 0 → ⊥) → Refused mode t out
call_refuses mode t out h = by (verdict concurrent t) refl
  where
    by : (v : Verdict) → verdict concurrent t ≡ v → Refused mode t out
    by (refused m) r = record { length = rw r; stays = rw r }
    by (accepted p) r =
        let new : List ℕ = table sequential (translate_in mode p) in
        by_test (ltb (limits sequential).bytes (length new))
        (λ a. record { length = rw (r, a, writes_table); stays = rw (r, a, writes_table) })
        λ a.
        by_test (ltb (length out) (length new))
        (λ b. record { length = rw (r, a, writes_table, b, writes); stays = rw (r, a, writes_table, b, writes) })
        (λ b. absurd (h (rw (r, a, writes_table, b, writes))))

-- ---- what is written

-- the program of a table whose translation was written
pub record Copied (mode : Mode) (t out : List ℕ) (n : ℕ) (p : Program Plain) : Type 0 where
  pub reads : verdict concurrent t ≡ accepted p
  pub count : n ≡ length (table sequential (translate_in mode p))
  pub short : length (table sequential (translate_in mode p)) ≤ (limits sequential).bytes
  -- the first n bytes of the lent buffer are the copy's table, and read back as the copy; the others stay
  pub bytes : take n (translate_call mode t out).out ≡ table sequential (translate_in mode p)
  pub back : verdict sequential (take n (translate_call mode t out).out) ≡ accepted (translate_in mode p)
  pub rest : (i : ℕ) → n ≤ i → at (translate_call mode t out).out i ≡ at out i
  pub length : length (translate_call mode t out).out ≡ length out

-- THE TRANSLATOR'S CALL WRITES THE COPY'S TABLE, WHICH READS BACK AS THE COPY.
pub call_copies : (mode : Mode) (t out : List ℕ) → Bytes t → (translate_call mode t out).answer.number ≡ 0
    → (p : Program Plain) × Copied mode t out (translate_call mode t out).answer.length p
call_copies mode t out h e = by ((answers_exactly mode t out h 0).0 e)
  where
    by : Answers mode t out 0 → (p : Program Plain) × Copied mode t out (translate_call mode t out).answer.length p
    by (by_rule s) = absurd (omega (arith, s.within.low))
    by (writes_it {p = p} r short fits) =
        let new : List ℕ = table sequential (translate_in mode p) in
        let done : translate_call mode t out ≡ record { answer = written (length new); out = over new out }
        = rw (r, le-ltb _ _ short, writes_table, le-ltb _ _ fits, writes) in
        let bytes : take (translate_call mode t out).answer.length (translate_call mode t out).out ≡ new = rw done (take_at new _ _ refl) in (
          p,
          record {
            reads = r;
            count = rw done;
            short = short;
            bytes = bytes;
            back = ap (verdict sequential) bytes ∙ copy_accepted mode t h p r short;
            rest = λ i low. rw done (over_rest new out i (rw done at low));
            length = rw done (length_over new out fits);
          },
        )

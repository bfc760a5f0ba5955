-- One law for each way through the writer.
use Prim.Native.Nat.{ℕ, zero, suc, ◌+◌, ◌≤◌, ◌<◌}
use native.Mathlib.Omega.{arith}
use native.Mathlib.Decide.{dec_le}
use native.Mathlib.Numerals.{add-one}
use mathlib.Core.Path.{◌≡◌, refl, sym, ap, ◌∙◌}
use mathlib.Core.List.{List, [], ◌∷◌, ◌++◌}
use lib.ListN.{length, get_or, take, drop, length-append, length-take}
use lib.Seq.{sets, slice, slice-cons, drop-nil}
use Rattle.basics.specs.Sizes.{too_long}
use Rattle.basics.specs.Laws.Places.{sets_append}
use Rattle.writer.specs.Laws.Put.{Put, Onto}

-- ---- one byte

-- ---- parts one after the other

-- nothing
pub put_none : {o : List ℕ} {p : ℕ} → Put o p [] o p
put_none = record { wrote = λ l. refl; next = λ l. omega arith; far = λ l. omega arith; kept = refl }

-- one part, then another
pub put_then : {o o' o'' : List ℕ} {p q r : ℕ} (a b : List ℕ) → Put o p a o' q → Put o' q b o'' r → Put o p (a ++ b) o'' r
put_then {o} {o'} {o''} {p} {q} {r} a b A B =
    let n : length (a ++ b) ≡ length a + length b = length-append a b in
    record {
      wrote = λ l.
          B.wrote (omega (arith, A.next (omega arith))) ∙ ap (λ (k : ℕ). sets o' k b) (A.next (omega arith))
          ∙ ap (λ (x : List ℕ). sets x (p + length a) b) (A.wrote (omega arith)) ∙ sym (sets_append o p a b);
      next = λ l. let first : q ≡ p + length a = A.next (omega arith) in omega (arith, B.next (omega arith));
      far = λ l. elim (dec_le (p + length a) too_long) [
        | yes h ↦ B.far (omega (arith, A.next h))
        | no h ↦ B.far (omega (arith, A.far (omega arith)))
      ];
      kept = B.kept ∙ A.kept;
    }

-- a byte, then others
pub put_cons : {o o' o'' : List ℕ} {p q r b : ℕ} {bs : List ℕ} → Put o p (b ∷ []) o' q → Put o' q bs o'' r → Put o p (b ∷ bs) o'' r
put_cons {b = b} {bs = bs} A B = put_then (b ∷ []) bs A B

-- the same bytes
pub put_same : {o o' : List ℕ} {p r : ℕ} {a b : List ℕ} → a ≡ b → Put o p a o' r → Put o p b o' r
put_same e P = rw (← e) P

-- ---- what remains

-- at the start, all of it
pub onto_start : {o : List ℕ} {p : ℕ} {all : List ℕ} → Onto o p all o p all
onto_start = record { then = λ P. P; kept = refl }

-- a part more
pub onto_next : {o o' o'' : List ℕ} {p q r : ℕ} {all : List ℕ} (a rest : List ℕ) → Onto o p all o' q (a ++ rest) → Put o' q a o'' r
    → Onto o p all o'' r rest
onto_next a rest O P = record { then = λ Q. O.then (put_then a rest P Q); kept = P.kept ∙ O.kept }

-- at the end, nothing
pub onto_end : {o o' : List ℕ} {p q : ℕ} {all : List ℕ} → Onto o p all o' q [] → Put o p all o' q
onto_end O = O.then put_none

-- ---- numbers

-- ---- a part of a list

-- a byte more
pub part_next : {o o' o'' : List ℕ} {p q r : ℕ} {all : List ℕ} (t : List ℕ) (i until : ℕ) → Onto o p all o' q (slice i until t) → i < until
    → until ≤ length t
    → Put o' q (get_or t i 0 ∷ []) o'' r → Onto o p all o'' r (slice (i + 1) until t)
part_next t i until O l h P =
    rw add-one (onto_next (get_or t i 0 ∷ []) (slice (suc i) until t) (rw (slice-cons i until t 0 l h) at O) P)

-- past its end a list has nothing
drop_all : (i : ℕ) (l : List ℕ) → length l ≤ i → drop i l ≡ []
drop_all i [] h = drop-nil i
drop_all zero (x ∷ l) h = absurd (omega arith)
drop_all (suc i) (x ∷ l) h = drop_all i l (omega arith)

-- the end
pub part_end : {o o' : List ℕ} {p q : ℕ} {all : List ℕ} (t : List ℕ) (i until : ℕ) → Onto o p all o' q (slice i until t) → until ≤ i
    → Put o p all o' q
part_end t i until O h =
    let few : length (take until t) ≤ i = rw length-take (omega arith) in
    onto_end (rw (drop_all i (take until t) few) at O)

-- one law for each way
pub ruleset put_ways = (put_none, put_cons, onto_start, part_next, part_end)

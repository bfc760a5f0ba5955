-- The words of brief expressions: what stands where, and one law for each way.
use Prim.Native.Nat.{ℕ, ◌+◌, ◌*◌, ◌-◌, ◌%◌, ◌^◌, ◌≤◌, ◌<◌}
use native.Mathlib.Omega.{arith}
use mathlib.Core.Path.{◌≡◌, refl, sym, ap, ap₂, subst, ◌∙◌}
use mathlib.Core.List.{List}
use mathlib.Core.Bool.{Bool, true, false}
use lib.ListN.{length, get_or}
use lib.IntN.{ℤ}
use lib.Dec.{ltb}
use borrow.Author.Tests.{ltb-true, ltb-false, lt-ltb}
use mir.Syntax.{w32}
use mir.Val.{SFits}
use mir.Facts.{to_z-of_z}
use Rattle.value.specs.Maybe.{Maybe, is, nothing}
use Rattle.value.specs.Try.{or_lacks}
use Rattle.value.specs.Values.{One, not, neg, Two, add, sub, mul, less, equal, and, given, unword}
use Rattle.value.specs.Marks.{mark₁, mark₂}
use Rattle.value.proofs.Laws.Bytes.{word_unword}
use Rattle.value.proofs.Laws.Maybes.{missing}
use Rattle.value.specs.declared.Value.{Value}
use Rattle.value.specs.declared.Value.TheVariants.{Whole, Location, Truth}
use Rattle.std.specs.Prelude.{Ok}
use Rattle.value.specs.declared.Reason.TheVariants.{WrongKind}
use Rattle.basics.specs.Places.{number_at}
use Rattle.basics.specs.Columns.{operands_of}
use Rattle.format.specs.Syntax.{Expr, constant, local, one, two}
use Rattle.format.proofs.Laws.Stands.{first}
use Rattle.format.proofs.Laws.Grammar.{ExprAt}
use Rattle.engine.specs.Words.{held, value_in}
use Rattle.engine.specs.Evaluated.{operated₂, Ready, valued, Evaluates}
use Rattle.engine.specs.Laws.Words.{held_word}
use Rattle.engine.proofs.Evaluating as E
use Rattle.quick.specs.Brief.{Shows, Shown, answer_of, answer_in, Operated, Operates, worded, Standing, LocalAt, NumberAt, LocationAt, Words, Sure}
use Rattle.quick.specs.declared.brief.Worded.{Worded}
use Rattle.quick.proofs.Operating.{number_held, true_held, false_held}

-- ---- words

-- what a word holds, as the evaluator reads it
pub answer_given : (m : Maybe Value) → given (answer_of m) ≡ or_lacks WrongKind m
answer_given (is v) = refl
answer_given nothing = refl

-- a word that holds something is not NOTHING
pub held_some : {w : ℕ} {v : Value} → held w ≡ is v → w ≡ 0 → ⊥
unfolding held
held_some {w} h e = missing (sym (ap held e) ∙ h)

-- two operands have values, and so has what an operator gives of them
operated_given : (m l r w : ℕ) → Operated m l r w → given (answer_in w) ≡ operated₂ m (given (answer_in l)) (given (answer_in r))
operated_given m l r w o =
    ap (λ m. given (answer_of m)) o.holds ∙ sym o.gives
    ∙ sym (ap₂ (λ x y. operated₂ m (given (answer_of x)) (given (answer_of y))) o.holds_left o.holds_right)

-- a number's
pub number_is : {t : List ℕ} {i w : ℕ} → NumberAt t i w → held w ≡ is (Whole (unword (number_at 4 t i)))
number_is {t} {i} {w} n =
    let same : w ≡ 2 ^ 32 * 1 + number_at 4 t i = omega (arith, n.same) in
    rw same (held_word 1 (number_at 4 t i) (omega arith) n.small)

-- a location's
pub location_is : (n : ℕ) → n < 2 ^ 16 → held (2 ^ 32 * 2 + n) ≡ is (Location n)
location_is n l = held_word 2 n (omega arith) (omega arith) ∙ rw (lt-ltb n (2 ^ 16) l)

-- one that shows what it holds
pub shown_none : {w : ℕ} → Shown w 0
shown_none = record { same = λ n. absurd (n refl); shows = λ n. absurd (n refl) }

pub shown_some : {w : ℕ} → 4294967296 ≤ w → w < 8590000128 → Shown w w
shown_some {w} h l = record { same = λ n. refl; shows = λ n. shows (ltb w 8589934592) refl }
  where
    shows : (q : Bool) → ltb w 8589934592 ≡ q → Shows w
    shows true e =
        let low = ltb-true w 8589934592 e in
        record { value = Whole (unword (w % 2 ^ 32)); holds = number_held w (omega arith) }
    shows false e =
        let high = ltb-false w 8589934592 e in
        let same : w ≡ 2 ^ 32 * 2 + (w - 8589934592) = omega arith in
        record { value = Location (w - 8589934592); holds = ap held same ∙ location_is (w - 8589934592) (omega arith) }

-- a local's
pub local_is : (t ls : List ℕ) (fb i k : ℕ) → k ≡ get_or t i 0 → get_or ls (fb + k) 0 ≡ get_or ls (fb + get_or t i 0) 0
local_is t ls fb i k e = ap (λ k. get_or ls (fb + k) 0) e

-- ---- what stands there

-- operators of two operands have the marks from 10 to 15, those of one 16 and 17
two_marks : (o : Two) → (6 ≤ mark₂ o) × (mark₂ o < 22) × (operands_of (mark₂ o) ≡ 2)
two_marks add = (omega arith, omega arith, refl)
two_marks sub = (omega arith, omega arith, refl)
two_marks mul = (omega arith, omega arith, refl)
two_marks less = (omega arith, omega arith, refl)
two_marks equal = (omega arith, omega arith, refl)
two_marks and = (omega arith, omega arith, refl)

one_marks : (o : One) → (22 ≤ mark₁ o) × (mark₁ o < 24)
one_marks not = omega arith
one_marks neg = omega arith

module _ {t ls : List ℕ} {fb i : ℕ} where
  -- an operator of two operands
  two_here : {d : ℕ} → Ready t ls fb i d → 6 ≤ get_or t i 0 → get_or t i 0 < 22 → operands_of (get_or t i 0) ≡ 2
  two_here {d} h l u = go h.e h.here
    where
      go : (e : Expr) {j : ℕ} → ExprAt t i d e j → operands_of (get_or t i 0) ≡ 2
      go (constant (Whole z)) h = absurd (omega (arith, first h.stands))
      go (constant (Location k)) h = absurd (omega (arith, first h.stands))
      go (constant (Truth true)) h = absurd (omega (arith, first h.stands))
      go (constant (Truth false)) h = absurd (omega (arith, first h.stands))
      go (local x) h = absurd (omega (arith, first h.stands))
      go (one o a) h = absurd (omega (arith, first h.stands, one_marks o))
      go (two o a b) h = ap operands_of (first h.stands) ∙ (two_marks o).2

  -- no leaf, and no operator of one operand
  nested_mark : Standing t ls fb i → (get_or t i 0 ≡ 5 → ⊥) → (get_or t i 0 ≡ 1 → ⊥) → (get_or t i 0 ≡ 2 → ⊥) → (get_or t i 0 ≡ 3 → ⊥)
      → (get_or t i 0 ≡ 4 → ⊥) → (get_or t i 0 ≡ 22 → ⊥) → (get_or t i 0 ≡ 23 → ⊥) → (6 ≤ get_or t i 0) × (get_or t i 0 < 22)
  nested_mark h n₁ n₂ n₃ n₄ n₅ n₆ n₇ = go h.ready.e h.ready.here
    where
      go : (e : Expr) {j : ℕ} → ExprAt t i h.d e j → (6 ≤ get_or t i 0) × (get_or t i 0 < 22)
      go (constant (Whole z)) h = absurd (n₂ (first h.stands))
      go (constant (Location k)) h = absurd (n₃ (first h.stands))
      go (constant (Truth false)) h = absurd (n₄ (first h.stands))
      go (constant (Truth true)) h = absurd (n₅ (first h.stands))
      go (local x) h = absurd (n₁ (first h.stands))
      go (one o a) h = absurd (single o (first h.stands))
        where
          single : (o : One) → get_or t i 0 ≡ mark₁ o → ⊥
          single not e = n₆ e
          single neg e = n₇ e
      go (two o a b) h = omega (arith, first h.stands, (two_marks o).0, (two_marks o).1)

  pub nested_low : Standing t ls fb i → (get_or t i 0 ≡ 5 → ⊥) → (get_or t i 0 ≡ 1 → ⊥) → (get_or t i 0 ≡ 2 → ⊥) → (get_or t i 0 ≡ 3 → ⊥)
      → (get_or t i 0 ≡ 4 → ⊥) → (get_or t i 0 ≡ 22 → ⊥) → (get_or t i 0 ≡ 23 → ⊥) → 6 ≤ get_or t i 0
  nested_low h n₁ n₂ n₃ n₄ n₅ n₆ n₇ = (nested_mark h n₁ n₂ n₃ n₄ n₅ n₆ n₇).0

  pub nested_high : Standing t ls fb i → (get_or t i 0 ≡ 5 → ⊥) → (get_or t i 0 ≡ 1 → ⊥) → (get_or t i 0 ≡ 2 → ⊥) → (get_or t i 0 ≡ 3 → ⊥)
      → (get_or t i 0 ≡ 4 → ⊥) → (get_or t i 0 ≡ 22 → ⊥) → (get_or t i 0 ≡ 23 → ⊥) → get_or t i 0 < 22
  nested_high h n₁ n₂ n₃ n₄ n₅ n₆ n₇ = (nested_mark h n₁ n₂ n₃ n₄ n₅ n₆ n₇).1

  -- it has a byte
  pub standing_inside : Standing t ls fb i → i < length t
  standing_inside h = E.inside h.ready

  -- the first operand, and the second
  pub first_standing : Standing t ls fb i → 6 ≤ get_or t i 0 → Standing t ls fb (i + 1)
  first_standing h l = record { d = h.d - 1; ready = E.operand h.ready l }

  pub second_standing : {a : Worded} → Standing t ls fb i → 6 ≤ get_or t i 0 → get_or t i 0 < 22 → Words t ls fb (i + 1) a → (a.word ≡ 0 → ⊥)
      → Standing t ls fb a.next
  second_standing h l u A n = record { d = h.d - 1; ready = E.right h.ready l refl (two_here h.ready l u) ((A).says n (h.d - 1)) }

  -- a leaf's bytes
  leaf_ready : Standing t ls fb i → get_or t i 0 < 6 → Ready t ls fb i 1
  leaf_ready h l = E.shallow l h.ready

  pub number_room : Standing t ls fb i → get_or t i 0 ≡ 1 → i + 1 + 4 ≤ length t
  number_room h e = E.whole_room (leaf_ready h (omega arith)) e

  pub location_room : Standing t ls fb i → get_or t i 0 ≡ 2 → i + 1 + 2 ≤ length t
  location_room h e = E.location_room (leaf_ready h (omega arith)) e

  pub local_room : Standing t ls fb i → get_or t i 0 ≡ 5 → LocalAt t ls fb (i + 1)
  local_room h e =
      let r = leaf_ready h (omega arith) in
      record {
        inside = E.local_room r (λ q. omega arith) (λ q. omega arith) (λ q. omega arith) (λ q. omega arith);
        word = E.local_word r (λ q. omega arith) (λ q. omega arith) (λ q. omega arith) (λ q. omega arith);
      }

  -- ---- what they give

  -- NOTHING
  pub words_none : {r : Worded} {j : ℕ} → r ≡ worded 0 j → Words t ls fb i r
  words_none e = rw e (record { says = λ n. absurd (n refl) })

  pub sure_none : {r : Worded} {j : ℕ} → r ≡ worded 0 j → Sure t ls fb i r
  sure_none e = record { words = words_none e; shows = λ n. absurd (n (ap (λ (r : Worded). r.word) e)) }

  -- of a leaf whose value is v, at whatever depth
  leaf_sure : {w j : ℕ} {v : Value} → get_or t i 0 < 6 → held w ≡ is v → Evaluates t ls fb i 1 (valued (Ok v) j) → Sure t ls fb i (worded w j)
  leaf_sure {w} {j} {v} l h X = record {
    words = record { says = λ n d. subst (λ a. Evaluates t ls fb i d (valued a j)) (sym (ap answer_of h)) (E.as_leaf l X) };
    shows = λ n. record { value = v; holds = h };
  }

  -- of a local, whatever it holds
  pub local_eval : {w : ℕ} (d : ℕ) → get_or t i 0 ≡ 5 → w ≡ get_or ls (fb + get_or t (i + 1) 0) 0 → Evaluates t ls fb i d (valued (answer_in w) (i + 2))
  local_eval {w} d e q =
      E.as_leaf (omega arith)
      (E.eval_local (λ q. omega arith) (λ q. omega arith) (λ q. omega arith) (λ q. omega arith) (answer_given (held w) ∙ ap value_in q))

  pub words_local : {w : ℕ} → get_or t i 0 ≡ 5 → w ≡ get_or ls (fb + get_or t (i + 1) 0) 0 → Words t ls fb i (worded w (i + 2))
  words_local e q = record { says = λ n d. local_eval d e q }

  pub sure_local : {w r : ℕ} → get_or t i 0 ≡ 5 → w ≡ get_or ls (fb + get_or t (i + 1) 0) 0 → Shown w r → Sure t ls fb i (worded r (i + 2))
  sure_local {w} {r} e q s = record {
    words = record { says = λ n. (words_local e (s.same n ∙ q)).says n };
    shows = s.shows;
  }

  pub sure_number : {w : ℕ} → get_or t i 0 ≡ 1 → NumberAt t (i + 1) w → Sure t ls fb i (worded w (i + 5))
  sure_number {w} e n =
      let z : ℤ = unword (number_at 4 t (i + 1)) in
      let f : SFits w32 z = record { sfits = (word_unword (number_at 4 t (i + 1)) n.small).1 } in
      leaf_sure (omega arith) (number_is n)
      (subst (λ z. Evaluates t ls fb i 1 (valued (Ok (Whole z)) (i + 5))) (to_z-of_z f) (E.eval_whole e refl refl f))

  pub words_number : {w : ℕ} → get_or t i 0 ≡ 1 → NumberAt t (i + 1) w → Words t ls fb i (worded w (i + 5))
  words_number e n = (sure_number e n).words

  pub sure_location : {w : ℕ} → get_or t i 0 ≡ 2 → LocationAt t (i + 1) w → Sure t ls fb i (worded w (i + 3))
  sure_location {w} e n =
      leaf_sure (omega arith) (ap held n.same ∙ location_is (number_at 2 t (i + 1)) n.small) (E.eval_location e refl)

  pub sure_no : get_or t i 0 ≡ 3 → Sure t ls fb i (worded 12884901888 (i + 1))
  sure_no e = leaf_sure (omega arith) false_held (E.eval_no e)

  pub sure_yes : get_or t i 0 ≡ 4 → Sure t ls fb i (worded 17179869184 (i + 1))
  sure_yes e = leaf_sure (omega arith) true_held (E.eval_yes e)

  -- what is sure is said
  pub sure_words : {r : Worded} → Sure t ls fb i r → Words t ls fb i r
  sure_words s = s.words

  -- an operator
  module _ {a b : Worded} {w : ℕ} (l : 6 ≤ get_or t i 0) (u : get_or t i 0 < 22) (A : Words t ls fb (i + 1) a) (B : Words t ls fb a.next b)
      (O : Operates (get_or t i 0) a.word b.word w) where
    two_says : (w ≡ 0 → ⊥) → (d : ℕ) → Ready t ls fb i d → Evaluates t ls fb i d (valued (answer_in w) b.next)
    two_says n d h =
        let o = O.operated n in
        E.eval_two l refl (two_here h l u) ((A).says (held_some o.holds_left) (d - 1)) (B.says (held_some o.holds_right) (d - 1)) (operated_given (get_or t i 0) a.word b.word w o)

    pub sure_two : Sure t ls fb i (worded w b.next)
    sure_two = record {
      words = record { says = λ n d. record { value = λ h. (two_says n d h).value h; next = λ h. (two_says n d h).next h } };
      shows = λ n. record { value = (O.operated n).value; holds = (O.operated n).holds };
    }

-- "op 05 x 01 n"
module _ {t ls : List ℕ} {fb i : ℕ} where
  -- its local
  pub plain_local : Standing t ls fb i → 6 ≤ get_or t i 0 → get_or t (i + 1) 0 ≡ 5 → LocalAt t ls fb (i + 2)
  plain_local h l e =
      let at : i + 1 + 1 ≡ i + 2 = omega arith in
      subst (LocalAt t ls fb) at (local_room (first_standing h l) e)

  -- the byte of an operator's first operand
  pub plain_inside : Standing t ls fb i → 6 ≤ get_or t i 0 → i + 1 < length t
  plain_inside h l = standing_inside (first_standing h l)

  -- after it stands the second operand, whatever the local holds
  plain_next : Standing t ls fb i → 6 ≤ get_or t i 0 → get_or t i 0 < 22 → get_or t (i + 1) 0 ≡ 5 → Standing t ls fb (i + 3)
  plain_next h l u e =
      let to : i + 1 + 2 ≡ i + 3 = omega arith in
      subst (Standing t ls fb) to
      (record { d = h.d - 1; ready = E.right h.ready l refl (two_here h.ready l u) (local_eval (h.d - 1) e refl) })

  pub plain_second : Standing t ls fb i → 6 ≤ get_or t i 0 → get_or t i 0 < 22 → get_or t (i + 1) 0 ≡ 5 → i + 3 < length t
  plain_second h l u e = standing_inside (plain_next h l u e)

  -- a number
  pub plain_number : Standing t ls fb i → 6 ≤ get_or t i 0 → get_or t i 0 < 22 → get_or t (i + 1) 0 ≡ 5 → get_or t (i + 3) 0 ≡ 1 → i + 4 + 4 ≤ length t
  plain_number h l u e f = omega (arith, number_room (plain_next h l u e) f)

  -- the operator on both
  pub sure_plain : {v n w : ℕ} → 6 ≤ get_or t i 0 → get_or t i 0 < 22 → get_or t (i + 1) 0 ≡ 5 → get_or t (i + 3) 0 ≡ 1
      → v ≡ get_or ls (fb + get_or t (i + 2) 0) 0 → NumberAt t (i + 4) n → Operates (get_or t i 0) v n w → Sure t ls fb i (worded w (i + 8))
  sure_plain {v} {n} {w} l u e f q N O =
      let second : i + 1 + 1 ≡ i + 2 = omega arith in
      let third : i + 1 + 2 ≡ i + 3 = omega arith in
      let fourth : i + 3 + 1 ≡ i + 4 = omega arith in
      let eighth : i + 3 + 5 ≡ i + 8 = omega arith in
      let A : Words t ls fb (i + 1) (worded v (i + 3)) =
      subst (λ k. Words t ls fb (i + 1) (worded v k)) third (words_local e (q ∙ ap (λ k. get_or ls (fb + get_or t k 0) 0) (sym second)))
      in
      let B : Words t ls fb (i + 3) (worded n (i + 8)) =
      subst (λ k. Words t ls fb (i + 3) (worded n k)) eighth (words_number f (subst (λ k. NumberAt t k n) (sym fourth) N))
      in
      sure_two {a = worded v (i + 3)} {b = worded n (i + 8)} l u A B O

-- one law for each way
pub ruleset brief_ways = (
  local_is,
  shown_none,
  shown_some,
  standing_inside,
  first_standing,
  second_standing,
  number_room,
  location_room,
  local_room,
  nested_low,
  nested_high,
  words_none,
  sure_none,
  words_local,
  sure_local,
  words_number,
  sure_number,
  sure_location,
  sure_no,
  sure_yes,
  sure_words,
  sure_two,
  plain_local,
  plain_inside,
  plain_second,
  plain_number,
  sure_plain,
)

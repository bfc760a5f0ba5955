-- One law for each way through an operator on two words.
use Prim.Native.Nat.{ℕ, ◌+◌, ◌/◌, ◌%◌, ◌^◌}
use native.Mathlib.Omega.{arith}
use mathlib.Core.Path.{◌≡◌, refl, sym, ap, ap₂, subst, ◌∙◌}
use mathlib.Core.Bool.{Bool, true, false}
use lib.IntN.{ℤ, pos, negsuc, ◌+ℤ◌, ◌-ℤ◌, ◌*ℤ◌}
use lib.Signed.{lt_z}
use lib.Dec.{eqb}
use borrow.Author.Tests.{eqb-true, eqb-false, eq-eqb, ne_eqb}
use mir.Syntax.{w32, w64}
use mir.Val.{SFits, of_z, to_z}
use mir.Facts.{to_z-of_z}
use Rattle.value.specs.Maybe.{is, pick}
use Rattle.value.specs.Try.{Try, has, ◌⟫◌}
use Rattle.value.specs.Values.{add, sub, mul, less, equal, and, whole, same_z, word, unword}
use Rattle.value.specs.Marks.{Mark, whole_mark, location_mark, no_mark, yes_mark, local_mark, one_mark, two_mark, no_expr, mark_of}
use Rattle.value.proofs.Laws.Tests.{by_test}
use Rattle.value.proofs.Laws.Tries.{lacking}
use Rattle.value.proofs.Laws.Bytes.{word_unword}
use Rattle.value.specs.declared.Value.{Value}
use Rattle.value.specs.declared.Value.TheVariants.{Whole, Truth}
use Rattle.basics.specs.Columns.{applied₂}
use Rattle.basics.proofs.Wide.{read, widened, large_asks, large_gives, large_add, large_sub, large_mul}
use Rattle.basics.proofs.Ways.{within, same_bits}
use Rattle.engine.specs.Words.{held}
use Rattle.engine.specs.Evaluated.{suited, decided_at, operated₂}
use Rattle.quick.specs.Brief.{Claims, Wholes, SaysTruth, Operates}

-- ---- words

-- a word of kind 1 holds a number
pub number_held : (w : ℕ) → w / 2 ^ 32 ≡ 1 → held w ≡ is (Whole (unword (w % 2 ^ 32)))
unfolding held
number_held w e = let kind : w / 2 ^ 32 % 256 ≡ 1 = omega arith in rw kind

-- the words of the truth values
pub false_held : held 12884901888 ≡ is (Truth false)
unfolding held
false_held = refl

pub true_held : held 17179869184 ≡ is (Truth true)
unfolding held
true_held = refl

pub truth_true : {b : Bool} → b ≡ true → held 17179869184 ≡ is (Truth b)
truth_true e = rw e true_held

pub truth_false : {b : Bool} → b ≡ false → held 12884901888 ≡ is (Truth b)
truth_false e = rw e false_held

-- ---- claims

-- NOTHING
pub claims_none : {a : Try Value} → Claims 0 a
claims_none = record { worth = λ n. absurd (n refl) }

-- a word that holds the value
pub claims_some : {w : ℕ} {v : Value} {a : Try Value} → held w ≡ is v → a ≡ has v → Claims w a
claims_some {v = v} h e = record { worth = λ n. record { value = v; holds = h; same = e } }

-- of a number that has 32 bits
pub narrowed : {w : ℕ} {z x : ℤ} → SFits w32 x → z ≡ x → held w ≡ is (Whole z) → Claims w (whole x)
narrowed {x = x} f e h = claims_some h (sym (within f) ∙ ap (λ z. has (Whole z)) (sym e))

-- ---- the operators on two whole numbers

-- they fit 64 bits
pub asks_wide : (a : ℤ) → SFits w32 a → SFits w64 (to_z w32 (of_z w32 a))
asks_wide a f = widened f

pub asks_add : (a b : ℤ) → SFits w32 a → SFits w32 b → SFits w64 (read a +ℤ read b)
asks_add a b f g = large_asks ◌+ℤ◌ large_add f g

pub asks_sub : (a b : ℤ) → SFits w32 a → SFits w32 b → SFits w64 (read a -ℤ read b)
asks_sub a b f g = large_asks ◌-ℤ◌ large_sub f g

pub asks_mul : (a b : ℤ) → SFits w32 a → SFits w32 b → SFits w64 (read a *ℤ read b)
asks_mul a b f g = large_asks ◌*ℤ◌ large_mul f g

module _ {m : ℕ} {a b : ℤ} {w : ℕ} (f : SFits w32 a) (g : SFits w32 b) where
  pub wholes_add : m ≡ 0x10 → Claims w (whole (to_z w64 (of_z w64 (read a +ℤ read b)))) → Wholes m a b w
  wholes_add e c = rw e (subst (λ z. Claims w (whole z)) (large_gives ◌+ℤ◌ large_add f g) c)

  pub wholes_sub : m ≡ 0x11 → Claims w (whole (to_z w64 (of_z w64 (read a -ℤ read b)))) → Wholes m a b w
  wholes_sub e c = rw e (subst (λ z. Claims w (whole z)) (large_gives ◌-ℤ◌ large_sub f g) c)

  pub wholes_mul : m ≡ 0x12 → Claims w (whole (to_z w64 (of_z w64 (read a *ℤ read b)))) → Wholes m a b w
  wholes_mul e c = rw e (subst (λ z. Claims w (whole z)) (large_gives ◌*ℤ◌ large_mul f g) c)

  pub wholes_less : m ≡ 0x13 → held w ≡ is (Truth (lt_z (to_z w32 (of_z w32 a)) (to_z w32 (of_z w32 b)))) → Wholes m a b w
  wholes_less e h = rw e (claims_some (rw (to_z-of_z f, to_z-of_z g) at h) refl)

-- ---- operators on two words

-- NOTHING
pub operates_none : {m l r : ℕ} → Operates m l r 0
operates_none = record { operated = λ n. absurd (n refl) }

-- the bits of a number are its word
bits_word : (z : ℤ) → of_z w32 z ≡ word z
bits_word (pos n) = refl
bits_word (negsuc n) = refl

-- two numbers are equal, if their words are
same_words : (l r : ℕ) → l / 2 ^ 32 ≡ 1 → r / 2 ^ 32 ≡ 1 → eqb l r ≡ same_z (unword (l % 2 ^ 32)) (unword (r % 2 ^ 32))
same_words l r e f =
    let left = word_unword (l % 2 ^ 32) (omega arith) in
    let right = word_unword (r % 2 ^ 32) (omega arith) in
    let bits : eqb (of_z w32 (unword (l % 2 ^ 32))) (of_z w32 (unword (r % 2 ^ 32))) ≡ same_z (unword (l % 2 ^ 32)) (unword (r % 2 ^ 32)) =
    same_bits (unword (l % 2 ^ 32)) (unword (r % 2 ^ 32)) (record { sfits = left.1 }) (record { sfits = right.1 })
    in
    let low : l ≡ 2 ^ 32 + l % 2 ^ 32 = omega arith in
    let high : r ≡ 2 ^ 32 + r % 2 ^ 32 = omega arith in
    let words : eqb l r ≡ eqb (l % 2 ^ 32) (r % 2 ^ 32) = by_test (eqb (l % 2 ^ 32) (r % 2 ^ 32))
    (λ q. let same = eqb-true (l % 2 ^ 32) (r % 2 ^ 32) q in eq-eqb l r (omega arith) ∙ sym q)
    (λ q. let other = eqb-false (l % 2 ^ 32) (r % 2 ^ 32) q in ne_eqb l r (λ z. other (omega arith)) ∙ sym q)
    in
    words ∙ sym (ap₂ eqb (bits_word (unword (l % 2 ^ 32)) ∙ left.0) (bits_word (unword (r % 2 ^ 32)) ∙ right.0)) ∙ bits

-- equal
pub operates_equal : {l r w : ℕ} → l / 2 ^ 32 ≡ 1 → r / 2 ^ 32 ≡ 1 → held w ≡ is (Truth (eqb l r)) → Operates 0x14 l r w
unfolding operated₂
operates_equal {l} {r} e f h = record {
  operated = λ n. record {
    left = Whole (unword (l % 2 ^ 32));
    right = Whole (unword (r % 2 ^ 32));
    value = Truth (eqb l r);
    holds_left = number_held l e;
    holds_right = number_held r f;
    holds = h;
    gives = ap (λ b. has (Truth b)) (sym (same_words l r e f));
  };
}

-- and, of two truth values
both_truths : (a b : Bool) (v : Bool) {l r w : ℕ} → held l ≡ is (Truth a) → held r ≡ is (Truth b) → held w ≡ is (Truth v)
    → operated₂ 0x15 (has (Truth a)) (has (Truth b)) ≡ has (Truth v) → Operates 0x15 l r w
both_truths a b v x y z e = record {
  operated = λ n. record {
    left = Truth a;
    right = Truth b;
    value = Truth v;
    holds_left = x;
    holds_right = y;
    holds = z;
    gives = e;
  };
}

-- the left side is false
pub and_false : {l r : ℕ} {q : Bool} → SaysTruth r q → q ≡ true → l ≡ 12884901888 → Operates 0x15 l r 12884901888
unfolding operated₂
and_false s e f = let right = s.yes e in rw f (both_truths false right.truth false false_held right.holds false_held refl)

-- it is true
pub and_true : {l r : ℕ} {q : Bool} → SaysTruth r q → q ≡ true → l ≡ 17179869184 → Operates 0x15 l r r
unfolding operated₂
and_true s e f = let right = s.yes e in rw f (both_truths true right.truth right.truth true_held right.holds right.holds refl)

-- the words of truth values
pub truth_no : {w : ℕ} → w ≡ 12884901888 → SaysTruth w true
truth_no e = rw e (record { yes = λ q. record { truth = false; holds = false_held } })

pub truth_yes : {w : ℕ} {q : Bool} → q ≡ eqb w 17179869184 → SaysTruth w q
truth_yes {w} e = record { yes = λ q. let same = eqb-true w 17179869184 (sym e ∙ q) in rw same (record { truth = true; holds = true_held }) }

-- the operators on whole numbers
works : (k : Mark) (a b : ℤ) (v : Value) → applied₂ k (Whole a) (Whole b) ≡ has v
    → (has (Whole a) ⟫ suited k ⟫ λ u. pick (decided_at k u) (has (Truth false)) (has (Whole b) ⟫ λ v. applied₂ k u v)) ≡ has v
works (two_mark add) a b v h = h
works (two_mark sub) a b v h = h
works (two_mark mul) a b v h = h
works (two_mark less) a b v h = h
works (two_mark equal) a b v h = h
works (two_mark and) a b v h = lacking h
works (one_mark o) a b v h = lacking h
works whole_mark a b v h = lacking h
works location_mark a b v h = lacking h
works no_mark a b v h = lacking h
works yes_mark a b v h = lacking h
works local_mark a b v h = lacking h
works no_expr a b v h = lacking h

pub operates_wholes : {m l r w : ℕ} {a b : ℤ} → l / 2 ^ 32 ≡ 1 → r / 2 ^ 32 ≡ 1 → a ≡ unword (l % 2 ^ 32) → b ≡ unword (r % 2 ^ 32)
    → Wholes m a b w → Operates m l r w
unfolding operated₂
operates_wholes {m} {l} {r} {w} {a} {b} e f x y c = record {
  operated = λ n.
      let h = c.worth n in
      record {
        left = Whole a;
        right = Whole b;
        value = h.value;
        holds_left = rw x (number_held l e);
        holds_right = rw y (number_held r f);
        holds = h.holds;
        gives = works (mark_of m) a b h.value h.same;
      };
}

-- the others, by their marks
pub operates_mark : {m n l r w : ℕ} → m ≡ n → Operates n l r w → Operates m l r w
operates_mark {l = l} {r} {w} e o = subst (λ m. Operates m l r w) (sym e) o

-- one law for each way
pub ruleset operate_ways = (
  truth_true,
  truth_false,
  truth_no,
  truth_yes,
  claims_none,
  asks_wide,
  asks_add,
  asks_sub,
  asks_mul,
  wholes_add,
  wholes_sub,
  wholes_mul,
  wholes_less,
  operates_none,
  operates_equal,
  and_false,
  and_true,
  operates_wholes,
  operates_mark,
)

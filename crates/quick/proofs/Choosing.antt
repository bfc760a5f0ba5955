-- Tests in a row of one local that fail: what stands there, and one law for each way.
use Prim.Native.Nat.{ℕ, suc, ◌+◌, ◌*◌, ◌/◌, ◌%◌, ◌^◌, ◌≤◌, ◌<◌}
use native.Mathlib.Numerals.{add-one}
use native.Mathlib.Omega.{arith}
use mathlib.Core.Path.{◌≡◌, refl, sym, ap, subst, ◌∙◌}
use mathlib.Core.Logic.{inl, inr, ⊎_elim}
use mathlib.Core.List.{List}
use mathlib.Core.Bool as B
use mathlib.Core.Bool.{Bool, true, false}
use lib.ListN.{length, get_or}
use lib.Dec.{eqb}
use borrow.Author.Tests.{eqb-true, eq-eqb, ne_eqb}
use Rattle.value.specs.Maybe.{is}
use Rattle.value.specs.declared.Value.TheVariants.{Truth}
use Rattle.std.specs.Prelude.{Ok}
use Rattle.basics.specs.Places.{number_at}
use Rattle.format.specs.Decode.{max_depth}
use Rattle.engine.specs.Words.{held}
use Rattle.engine.specs.Evaluated.{valued, Evaluates}
use Rattle.decide.specs.declared.step.Step.TheVariants as S
use Rattle.decide.specs.Decided.{Lies, DecidesAll, Tests}
use Rattle.decide.proofs.Deciding as D
use Rattle.jumps.specs.Jumps.{positions}
use Rattle.quick.specs.declared.brief.Worded.{Worded}
use Rattle.quick.specs.declared.turn.Quick.{Quick}
use Rattle.quick.specs.declared.turn.Quick.TheVariants.{Holds, Fails, Left}
use Rattle.quick.specs.Brief.{worded, Standing, LocalAt, NumberAt, Sure}
use Rattle.quick.specs.Quick.{Row, none, more, Tested, Testing}
use Rattle.quick.specs.Quick.{Choice, SaysChoice, Another, SaysAnother, Chooses}
use Rattle.quick.proofs.Operating.{true_held, false_held, operates_equal, operates_mark}
use Rattle.quick.proofs.Turning.{sure_known}
use Rattle.value.proofs.Laws.Tests.{never}
use Rattle.quick.specs.Brief.{Operates}
use Rattle.quick.proofs.Wording as W

-- ---- what stands there

-- the same byte, at a place that is written in another way
byte : (t : List ℕ) (k l : ℕ) {n : ℕ} → k ≡ l → get_or t l 0 ≡ n → get_or t k 0 ≡ n
byte t k l e f = ap (λ k. get_or t k 0) e ∙ f

module _ {t ls : List ℕ} {fb i : ℕ} where
  pub test_standing : Testing t ls fb i → Standing t ls fb (i + 1)
  test_standing h = record { d = max_depth; ready = D.test_ready h.poised h.mark }

  pub test_low : Testing t ls fb i → length t ≤ positions → i < positions
  test_low h l = omega (arith, W.standing_inside (test_standing h))

  pub choice_first : Testing t ls fb i → i + 1 < length t
  choice_first h = W.standing_inside (test_standing h)

  pub choice_second : Testing t ls fb i → get_or t (i + 1) 0 ≡ 0x14 → i + 2 < length t
  choice_second h e = omega (arith, W.plain_inside (test_standing h) (omega arith))

  pub choice_fourth : Testing t ls fb i → get_or t (i + 1) 0 ≡ 0x14 → get_or t (i + 2) 0 ≡ 5 → i + 4 < length t
  choice_fourth h e f = omega (arith, W.plain_second (test_standing h) (omega arith) (omega arith) (byte t (i + 1 + 1) (i + 2) (omega arith) f))

  pub choice_head : Testing t ls fb i → Choice t i → i + 4 ≤ length t
  choice_head h c = omega (arith, choice_fourth h c.equal c.local)

  pub choice_local : Testing t ls fb i → Choice t i → LocalAt t ls fb (i + 3)
  choice_local h c =
      let low : 6 ≤ get_or t (i + 1) 0 = omega (arith, c.equal) in
      let at : i + 1 + 2 ≡ i + 3 = omega arith in
      subst (LocalAt t ls fb) at (W.plain_local (test_standing h) low (byte t (i + 1 + 1) (i + 2) (omega arith) c.local))

  pub choice_number : Testing t ls fb i → Choice t i → i + 5 + 4 ≤ length t
  choice_number h c =
      let low : 6 ≤ get_or t (i + 1) 0 = omega (arith, c.equal) in
      let high : get_or t (i + 1) 0 < 22 = omega (arith, c.equal) in
      omega (arith, W.plain_number (test_standing h) low high (byte t (i + 1 + 1) (i + 2) (omega arith) c.local) (byte t (i + 1 + 3) (i + 4) (omega arith) c.number))

  pub choice_room : {r : Bool} → Testing t ls fb i → SaysChoice t i r → r ≡ true → i + 9 ≤ length t
  choice_room h s e = omega (arith, choice_number h (s.yes e))

module _ {t : List ℕ} {i : ℕ} where
  pub choice_told : {r : Bool} → SaysChoice t i r → r ≡ true → Choice t i
  choice_told s e = s.yes e

  pub says_none : SaysChoice t i false
  says_none = record { yes = λ e. absurd (never e) }

  pub says_some : {r : Bool} → get_or t (i + 1) 0 ≡ 0x14 → get_or t (i + 2) 0 ≡ 5 → r ≡ eqb (get_or t (i + 4) 0) 1 → SaysChoice t i r
  says_some e f g = record { yes = λ y. record { equal = e; local = f; number = eqb-true (get_or t (i + 4) 0) 1 (sym g ∙ y) } }

-- ---- the step of such a test

-- the word of a truth value
abbrev truth_word : Bool → ℕ
truth_word true = 17179869184
truth_word false = 12884901888

truth_word_lem : (b : Bool) → held (truth_word b) ≡ is (Truth b)
truth_word_lem true = true_held
truth_word_lem false = false_held

truth_some : (b : Bool) → truth_word b ≡ 0 → ⊥
truth_some true e = omega arith
truth_some false e = omega arith

choice_step : {t ls bs cs : List ℕ} {fb k w : ℕ} (b : Bool) → Tests t k → Choice t k → w ≡ get_or ls (fb + get_or t (k + 3) 0) 0 → w / 2 ^ 32 ≡ 1
    → number_at 4 t (k + 5) < 2 ^ 32 → eqb w (2 ^ 32 + number_at 4 t (k + 5)) ≡ b → DecidesAll t ls ls fb k (Lies bs cs) (S.Test b (k + 9))
choice_step {t} {ls} {bs} {cs} {fb} {k} {w} b m c q e l z =
    let n : ℕ = 2 ^ 32 + number_at 4 t (k + 5) in
    let low : 6 ≤ get_or t (k + 1) 0 = omega (arith, c.equal) in
    let high : get_or t (k + 1) 0 < 22 = omega (arith, c.equal) in
    let third : k + 1 + 2 ≡ k + 3 = omega arith in
    let fifth : k + 1 + 4 ≡ k + 5 = omega arith in
    let ninth : k + 1 + 8 ≡ k + 9 = omega arith in
    let kind : n / 2 ^ 32 ≡ 1 = omega arith in
    let N : NumberAt t (k + 1 + 4) n = subst (λ j. NumberAt t j n) (sym fifth) (record { same = refl; small = l }) in
    let O : Operates (get_or t (k + 1) 0) w n (truth_word b) =
    operates_mark c.equal (operates_equal e kind (truth_word_lem b ∙ ap (λ b. is (Truth b)) (sym z)))
    in
    let s : Sure t ls fb (k + 1) (worded (truth_word b) (k + 1 + 8)) =
    W.sure_plain low high (byte t (k + 1 + 1) (k + 2) (omega arith) c.local) (byte t (k + 1 + 3) (k + 4) (omega arith) c.number)
    (q ∙ ap (λ j. get_or ls (fb + get_or t j 0) 0) (sym third)) N O
    in
    let E : Evaluates t ls fb (k + 1) max_depth (valued (Ok (Truth b)) (k + 9)) =
    subst (λ j. Evaluates t ls fb (k + 1) max_depth (valued (Ok (Truth b)) j)) ninth (sure_known (Truth b) s (truth_some b) (truth_word_lem b))
    in
    D.decides_test m E (record { step = refl })

-- ---- another one

-- a number's lowest byte, and the others
digit : (a x b y : ℕ) → a < 256 → b < 256 → a + 256 * x ≡ b + 256 * y → (a ≡ b) × (x ≡ y)
digit a x b y h l e = omega arith

-- four bytes are those of their number
same_four : (t : List ℕ) (i k : ℕ) → ((k : ℕ) → get_or t k 0 < 256) → number_at 4 t i ≡ number_at 4 t k
    → (get_or t i 0 ≡ get_or t k 0) × (get_or t (i + 1) 0 ≡ get_or t (k + 1) 0) × (get_or t (i + 2) 0 ≡ get_or t (k + 2) 0) × (get_or t (i + 3) 0 ≡ get_or t (k + 3) 0)
same_four t i k b e =
    let one = digit (get_or t i 0) (number_at 3 t (i + 1)) (get_or t k 0) (number_at 3 t (k + 1)) (b i) (b k) e in
    let two = digit (get_or t (i + 1) 0) (number_at 2 t (i + 1 + 1)) (get_or t (k + 1) 0) (number_at 2 t (k + 1 + 1)) (b (i + 1)) (b (k + 1)) one.1 in
    let three = digit (get_or t (i + 1 + 1) 0) (number_at 1 t (i + 1 + 1 + 1)) (get_or t (k + 1 + 1) 0) (number_at 1 t (k + 1 + 1 + 1)) (b (i + 1 + 1)) (b (k + 1 + 1)) two.1 in
    let four = digit (get_or t (i + 1 + 1 + 1) 0) 0 (get_or t (k + 1 + 1 + 1) 0) 0 (b (i + 1 + 1 + 1)) (b (k + 1 + 1 + 1)) three.1 in
    (one.0, two.0, shifted 1 three.0, shifted₂ four.0)
  where
    shifted : (u : ℕ) → get_or t (i + 1 + 1) 0 ≡ get_or t (k + 1 + 1) 0 → get_or t (i + 2) 0 ≡ get_or t (k + 2) 0
    shifted u e = ap (λ j. get_or t j 0) (omega arith) ∙ e ∙ ap (λ j. get_or t j 0) (omega arith)

    shifted₂ : get_or t (i + 1 + 1 + 1) 0 ≡ get_or t (k + 1 + 1 + 1) 0 → get_or t (i + 3) 0 ≡ get_or t (k + 3) 0
    shifted₂ e = ap (λ j. get_or t j 0) (omega arith) ∙ e ∙ ap (λ j. get_or t j 0) (omega arith)

-- one has the same head, another number, and fails
module _ {t : List ℕ} {k h v : ℕ} where
  pub another_none : SaysAnother t k h v false
  another_none = record { yes = λ e. absurd (never e) }

  pub another_some : {x y : ℕ} {r : Bool} → x ≡ number_at 4 t k → x ≡ h → get_or t (k + 4) 0 ≡ 1 → y ≡ number_at 4 t (k + 5) → y < 2 ^ 32
      → r ≡ B.not (eqb y v) → SaysAnother t k h v r
  another_some {x} {y} {r} a b c d l e = record {
    yes = λ q. record {
      head = sym a ∙ b;
      number = c;
      small = omega arith;
      other = λ z. differs (sym e ∙ q) (eq-eqb y v (d ∙ z));
    };
  }
    where
      differs : B.not (eqb y v) ≡ true → eqb y v ≡ true → ⊥
      differs n z = absurd (never (sym (ap B.not z) ∙ n))

-- ---- the row

-- the first of them: what is known of the local's word w, the number v and the head h
pub record Chosen (t ls : List ℕ) (fb i h v : ℕ) : Type 0 where
  pub mark : Tests t i
  pub choice : Choice t i
  pub head : h ≡ number_at 4 t i
  pub w : ℕ
  pub word : w ≡ get_or ls (fb + get_or t (i + 3) 0) 0
  pub kind : w / 2 ^ 32 ≡ 1
  pub same : v ≡ w % 2 ^ 32
  pub bytes : (k : ℕ) → get_or t k 0 < 256

-- n of them were passed, and the run goes on at k
pub record Choosing (t js ls : List ℕ) (fb i left h v k n : ℕ) : Type 0 where
  pub first : Chosen t ls fb i h v
  pub row : (bs cs : List ℕ) → Row t js ls bs cs fb i n k
  pub some : 1 ≤ n
  pub few : n ≤ left
  pub low : k < positions

-- two numbers that are not the same have other words
apart : {v : ℕ} (w x : ℕ) → w / 2 ^ 32 ≡ 1 → v ≡ w % 2 ^ 32 → (x ≡ v → ⊥) → eqb w (2 ^ 32 + x) ≡ false
apart w x e q n = ne_eqb w (2 ^ 32 + x) (λ z. n (omega arith))

-- what stands at another one
other_mark : {t ls : List ℕ} {fb i h v k : ℕ} → Chosen t ls fb i h v → Another t k h v → Tests t k × Choice t k × (get_or t (k + 3) 0 ≡ get_or t (i + 3) 0)
other_mark {t} {i = i} {k = k} c a =
    let f = same_four t k i c.bytes (a.head ∙ c.head) in (
      ⊎_elim (λ m. inl (f.0 ∙ m)) (λ m. inr (f.0 ∙ m)) c.mark,
      record { equal = f.1 ∙ c.choice.equal; local = f.2 ∙ c.choice.local; number = a.number },
      f.3,
    )

module _ {t js ls : List ℕ} {fb i left h v : ℕ} where
  pub choosing_start : {x k : ℕ} → Chosen t ls fb i h v → x ≡ number_at 4 t (i + 5) → x < 2 ^ 32 → (x ≡ v → ⊥) → k ≡ get_or js i 0 → k < positions
      → 1 ≤ left → Choosing t js ls fb i left h v k 1
  choosing_start {x} {k} c q l n z p o = record {
    first = c;
    row = λ bs cs.
        subst (Row t js ls bs cs fb i 1) (sym z)
        (more none c.mark (choice_step false c.mark c.choice c.word c.kind (omega arith) (apart c.w (number_at 4 t (i + 5)) c.kind c.same (λ y. n (q ∙ y)))));
    some = omega arith;
    few = o;
    low = p;
  }

  pub choosing_more : {k m n : ℕ} {r : Bool} → Choosing t js ls fb i left h v k n → n < left → SaysAnother t k h v r → r ≡ true → m ≡ get_or js k 0
      → m < positions → Choosing t js ls fb i left h v m (n + 1)
  choosing_more {k} {m} {n} C l s e q p =
      let a = s.yes e in
      let c = C.first in
      let o = other_mark c a in
      record {
        first = c;
        row = λ bs cs.
            subst (λ n. Row t js ls bs cs fb i n m) (sym (add-one n))
            (subst (Row t js ls bs cs fb i (suc n)) (sym q)
            (more (C.row bs cs) o.0 (choice_step false o.0 o.1 (c.word ∙ ap (λ x. get_or ls (fb + x) 0) (sym o.2)) c.kind a.small
            (apart c.w (number_at 4 t (k + 5)) c.kind c.same a.other))));
        some = omega (arith, C.some);
        few = omega arith;
        low = p;
      }

  pub choosing_on : {k m n : ℕ} {r : Bool} → Choosing t js ls fb i left h v k n → n < left → SaysAnother t k h v r → B.not r ≡ false → m ≡ get_or js k 0
      → m < positions → Choosing t js ls fb i left h v m (n + 1)
  choosing_on {r = r} C l s e q p = choosing_more C l s (held_true r e) q p
    where
      held_true : (r : Bool) → B.not r ≡ false → r ≡ true
      held_true true e = refl
      held_true false e = absurd (never (sym e))

  pub choosing_low : {k n : ℕ} → Choosing t js ls fb i left h v k n → k < positions
  choosing_low C = C.low

  pub chooses_fails : {k n : ℕ} → Choosing t js ls fb i left h v k n → Chooses t js ls fb i left (Fails k n)
  chooses_fails C = record { turned = λ bs cs. (refl, C.some, C.few, C.row bs cs) }

  pub chooses_holds : {x : ℕ} → Chosen t ls fb i h v → x ≡ number_at 4 t (i + 5) → x < 2 ^ 32 → x ≡ v → Chooses t js ls fb i left (Holds (i + 9))
  chooses_holds {x} c q l e = record {
    turned = λ bs cs. choice_step true c.mark c.choice c.word c.kind (omega arith) (eq-eqb c.w (2 ^ 32 + number_at 4 t (i + 5)) (omega (arith, c.kind, c.same)));
  }

pub chooses_left : {t js ls : List ℕ} {fb i left : ℕ} → Chooses t js ls fb i left Left
chooses_left = record { turned = λ bs cs. tt }

-- any other test
pub chooses_test : {t js ls : List ℕ} {fb i left : ℕ} {e : Worded} {q : Quick} → Testing t ls fb i → 1 ≤ left → Sure t ls fb (i + 1) e → Tested js i e q
    → Chooses t js ls fb i left q
chooses_test {t} {js} {ls} {fb} {i} {left} h l s A = record { turned = λ bs cs. A.turned t ls bs cs fb left h.mark l s }

pub ruleset probe_ways = (test_standing, test_low, choice_first, choice_room, choice_told, chooses_test)

pub ruleset choice_ways = (choice_first, choice_second, choice_fourth, choice_head, choice_local, choice_number, says_none, says_some, another_none, another_some)

pub ruleset choosing_ways = (choosing_more, choosing_on, choosing_low, chooses_fails, chooses_left)

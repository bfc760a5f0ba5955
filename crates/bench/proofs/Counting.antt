-- How many allotments there are, and the counts of one, way by way.
use Prim.Native.Nat.{ℕ, suc, ◌+◌, ◌*◌, ◌-◌, ◌/◌, ◌%◌, ◌^◌, ◌≤◌, ◌<◌}
use native.Mathlib.Nat.{pow-le-pow_left, pow-le-pow_right, mul-le-mul, mul-le-mul_left, mod-lt}
use native.Mathlib.Omega.{arith}
use mathlib.Core.Path.{◌≡◌, refl, sym, ap, subst, ◌∙◌}
use mathlib.Core.List.{List, [], ◌∷◌, ◌++◌, append_assoc}
use mathlib.Core.Bool.{true, false}
use lib.ListN.{length, drop, set, length-set}
use lib.Seq.{drop-cons, drop-set-lt, get_or-set_same}
use lib.Dec.{eqb, leb, ltb}
use Rattle.std.specs.Prelude.{None}
use Rattle.value.proofs.Laws.Tests.{by_test}
use borrow.Author.Tests.{le-leb, lt-leb, ltb-true, ltb-false, eqb-true, eqb-false}
use Rattle.basics.specs.Sizes.{most_threads}
use Rattle.allotments.specs.Allotments.{counts}
use Rattle.allotments.specs.Bench.{most_steps, most_allotments, places, allotments, benched}
use Rattle.bench.specs.Counting.{Based, Threads, SaysAllotments, Filling, Fills}

-- ---- the number of allotments

module _ (T k s : ℕ) where
  -- the first test passes
  rounds : (k ≡ 0 → ⊥) → leb 1 k ≡ true
  rounds r = le-leb 1 k (omega arith)

  -- the first three
  tested : (k ≡ 0 → ⊥) → (s ≡ 0 → ⊥) → s ≤ most_steps → benched T k s ≡ leb (allotments T k s) most_allotments
  tested r p l = rw (rounds r, le-leb 1 s (omega arith), le-leb s most_steps l)

  -- "more than 1,000,000 allotments"
  too_many : (k ≡ 0 → ⊥) → (s ≡ 0 → ⊥) → s ≤ most_steps → suc most_allotments ≤ allotments T k s → benched T k s ≡ false
  too_many r p l m = tested r p l ∙ lt-leb (allotments T k s) most_allotments m

  -- 20 counts are too many
  far : 1 ≤ T → places < k → (s ≡ 0 → ⊥) → suc most_allotments ≤ allotments T k s
  far h m p =
      let counts : k * 1 ≤ k * T = mul-le-mul_left k h in
      let many : 20 ≤ k * T = omega arith in
      let low : 2 ^ 20 ≤ 2 ^ (k * T) = pow-le-pow_right (omega arith) many in
      let high : 2 ^ (k * T) ≤ suc s ^ (k * T) = pow-le-pow_left (omega arith) (k * T) in
      omega arith

module _ {T k s : ℕ} where
  -- "k below 1", "s not 1..64", and from 20 counts on
  pub refused_counts : Threads T → ((k ≡ 0 → ⊥) → (s ≡ 0 → ⊥) → s ≤ most_steps → k ≤ places → ⊥) → SaysAllotments T k s None
  refused_counts h z = record { none = λ _. go; some = λ n q. cc }
    where
      go : benched T k s ≡ false
      go = by_test (eqb k 0)
          (λ e. let none : k ≡ 0 = eqb-true k 0 e in rw none)
          (λ e.
          let r = eqb-false k 0 e in
          by_test (eqb s 0)
          (λ f. let none : s ≡ 0 = eqb-true s 0 f in rw (rounds T k s r, none))
          (λ f.
          let p = eqb-false s 0 f in
          by_test (ltb most_steps s)
          (λ l. rw (rounds T k s r, le-leb 1 s (omega arith), lt-leb s most_steps (ltb-true most_steps s l)))
          (λ l.
          let few : s ≤ most_steps = ltb-false most_steps s l in
          by_test (ltb places k)
          (λ m. too_many T k s r p few (far T k s h.some (ltb-true places k m) p))
          (λ m. absurd (z r p few (ltb-false places k m))))))

-- a base
pub steps_based : {s : ℕ} → (s ≡ 0 → ⊥) → s ≤ most_steps → Based (s + 1)
steps_based p l = record { some = omega arith; few = omega arith }

-- so many counts are a word
pub counts_fit : {T k : ℕ} → Threads T → k ≤ places → k * T < 2 ^ 64
counts_fit {T} {k} h l = let most : k * T ≤ places * most_threads = mul-le-mul l h.few in omega arith

-- ---- the counts of an allotment

-- all but the first j counts stand in their places
pub record Placing (i b n : ℕ) (cs₀ cs : List ℕ) (rest j : ℕ) : Type 0 where
  pub based : Based b
  pub same : counts b j rest ++ drop j cs ≡ counts b n i ++ drop n cs₀
  pub long : length cs ≡ places
  pub low : j ≤ n
  pub few : n ≤ places

module _ {i b n : ℕ} {cs₀ : List ℕ} where
  -- the loop begins
  pub placing_none : Filling b n cs₀ → Placing i b n cs₀ cs₀ i n
  placing_none h = record { based = h.based; same = refl; long = h.long; low = omega arith; few = h.few }

  module _ {cs : List ℕ} {rest j : ℕ} (h : Placing i b n cs₀ cs rest j) where
    -- a digit is a byte
    pub placing_small : rest % b < 256
    placing_small = let low : rest % b < b = mod-lt rest (omega (arith, h.based.some)) in omega (arith, h.based.few)

    -- there is a base
    pub placing_base : b ≡ 0 → ⊥
    placing_base e = omega (arith, h.based.some)

    -- there is a place
    pub placing_there : (j ≡ 0 → ⊥) → j - 1 < length cs
    placing_there z = omega (arith, h.long, h.low, h.few)

    -- one more
    pub placing_more : (j ≡ 0 → ⊥) → Placing i b n cs₀ (set cs (j - 1) (rest % b)) (rest / b) (j - 1)
    placing_more z =
        let m : ℕ = j - 1 in
        let v : ℕ = rest % b in
        let one : j ≡ suc m = omega arith in
        let there : m < length (set cs m v) = omega (arith, length-set cs m v, placing_there z) in
        let first : drop m (set cs m v) ≡ v ∷ drop (suc m) cs =
        drop-cons (set cs m v) m 0 there
        ∙ rw (get_or-set_same cs m v 0 (placing_there z), drop-set-lt (suc m) cs m v (omega arith))
        in
        let before : counts b (suc m) rest ++ drop (suc m) cs ≡ counts b n i ++ drop n cs₀ =
        subst (λ (x : ℕ). counts b x rest ++ drop x cs ≡ counts b n i ++ drop n cs₀) one h.same
        in
        record {
          based = h.based;
          same = ap (counts b m (rest / b) ++◌) first ∙ sym (append_assoc (counts b m (rest / b)) (v ∷ []) (drop (suc m) cs)) ∙ before;
          long = length-set cs m v ∙ h.long;
          low = omega (arith, h.low);
          few = h.few;
        }

    -- all
    pub placing_all : j ≡ 0 → Fills i b n cs₀ cs
    placing_all e = record { filled = subst (λ (x : ℕ). counts b x rest ++ drop x cs ≡ counts b n i ++ drop n cs₀) e h.same }

-- one law for each way
pub ruleset place_ways = (placing_none, placing_small, placing_base, placing_there, placing_more, placing_all)

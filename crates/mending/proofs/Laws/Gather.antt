-- Lists made for each number of a range, and their members.
use Rattle.std.specs.Prelude.{ℕ, zero, suc, ◌+◌, ◌-◌, ◌≤◌, ◌<◌, ◌≡◌, refl, List, [], ◌∷◌, length, eqb}
use Rattle.std.proofs.Common.{arith, ap, append-nil, eqb-true}
use Rattle.std.proofs.lemmas.Bool.{eqb-false}
use Rattle.value.specs.Lists.{upto}
use Rattle.value.proofs.Laws.Tests.{by_test}
use Rattle.value.proofs.Laws.Lists.{In, here, there, in_front, in_back, in_either}
use Rattle.mending.specs.Mending.{range, gather}

-- ---- members

-- of a list that has none
pub in_none : {A : Type 0} {x : A} {xs : List A} → xs ≡ [] → In x xs → ⊥
in_none e here = let long = ap length e in omega arith
in_none e (there p) = let long = ap length e in omega arith

-- the first, or one of the others
pub in_cons : {A G : Type 0} {x y : A} {ys : List A} → In x (y ∷ ys) → (x ≡ y → G) → (In x ys → G) → G
in_cons here f g = f refl
in_cons (there p) f g = g p

-- of a list that has one
pub in_single : {A : Type 0} {x y : A} → In x (y ∷ []) → x ≡ y
in_single p = in_cons p (λ e. e) (λ q. absurd (in_none refl q))

-- ---- for each of some numbers, one after the other

module _ {B : Type 0} (f : ℕ → List B) where
  -- nothing, where each number gives nothing
  pub upto_none : (i n : ℕ) → ((m : ℕ) → i ≤ m → m < i + n → f m ≡ []) → gather (upto i n) f ≡ []
  upto_none i zero h = refl
  upto_none i (suc n) h = rw (h i (omega arith) (omega arith)) (upto_none (suc i) n (λ m l r. h m (omega arith) (omega arith)))

  -- where one number alone gives something
  pub upto_one : (i n m : ℕ) → i ≤ m → m < i + n → ((j : ℕ) → i ≤ j → j < i + n → (j ≡ m → ⊥) → f j ≡ []) → gather (upto i n) f ≡ f m
  upto_one i zero m l r h = absurd (omega arith)
  upto_one i (suc n) m l r h =
      by_test (eqb i m)
      (λ e.
      let same : i ≡ m = eqb-true i m e in
      rw (upto_none (suc i) n (λ j a b. h j (omega arith) (omega arith) (λ z. omega arith)), append-nil (f i), same))
      (λ e.
      let other : i ≡ m → ⊥ = eqb-false i m e in
      rw (h i (omega arith) (omega arith) other)
      (upto_one (suc i) n m (omega arith) (omega arith) (λ j a b z. h j (omega arith) (omega arith) z)))

  -- what is there comes from a number
  pub from_upto : (i n : ℕ) {x : B} → In x (gather (upto i n) f) → (m : ℕ) × (i ≤ m) × (m < i + n) × In x (f m)
  from_upto i (suc n) {x} p =
      in_either (f i) (gather (upto (suc i) n) f) p
      (λ q. (i, omega arith, omega arith, q))
      (λ q.
      let later : (m : ℕ) × (suc i ≤ m) × (m < suc i + n) × In x (f m) = from_upto (suc i) n q in
      (later.0, omega arith, omega arith, later.3))
  from_upto i zero {x = x} p = elim p [ ]

  -- and what comes from one is there
  pub into_upto : (i n m : ℕ) {x : B} → i ≤ m → m < i + n → In x (f m) → In x (gather (upto i n) f)
  into_upto i zero m l r p = absurd (omega arith)
  into_upto i (suc n) m {x} l r p =
      by_test (eqb i m)
      (λ e. let same : i ≡ m = eqb-true i m e in in_front (f i) (gather (upto (suc i) n) f) (rw same p))
      (λ e.
      let other : i ≡ m → ⊥ = eqb-false i m e in
      in_back (f i) (gather (upto (suc i) n) f) (into_upto (suc i) n m (omega arith) (omega arith) p))

-- functions that agree
pub upto_same : {B : Type 0} (f g : ℕ → List B) (i n : ℕ) → ((m : ℕ) → i ≤ m → m < i + n → f m ≡ g m) → gather (upto i n) f ≡ gather (upto i n) g
upto_same f g i zero h = refl
upto_same f g i (suc n) h = rw (h i (omega arith) (omega arith), upto_same f g (suc i) n (λ m l r. h m (omega arith) (omega arith)))

-- ---- of a range

module _ {B : Type 0} (f : ℕ → List B) (lo hi : ℕ) where
  -- nothing, where each number gives nothing
  pub range_none : ((m : ℕ) → lo ≤ m → m ≤ hi → f m ≡ []) → gather (range lo hi) f ≡ []
  range_none h = upto_none f lo (suc hi - lo) (λ m l r. h m l (omega arith))

  -- where one number alone gives something
  pub range_one : (m : ℕ) → lo ≤ m → m ≤ hi → ((j : ℕ) → lo ≤ j → j ≤ hi → (j ≡ m → ⊥) → f j ≡ []) → gather (range lo hi) f ≡ f m
  range_one m l r h = upto_one f lo (suc hi - lo) m l (omega arith) (λ j a b other. h j a (omega arith) other)

  -- what is there comes from a number
  pub from_range : {x : B} → In x (gather (range lo hi) f) → (m : ℕ) × (lo ≤ m) × (m ≤ hi) × In x (f m)
  from_range {x} p =
      let found : (m : ℕ) × (lo ≤ m) × (m < lo + (suc hi - lo)) × In x (f m) = from_upto f lo (suc hi - lo) p in
      (found.0, found.1, omega arith, found.3)

  -- and what comes from one is there
  pub into_range : (m : ℕ) {x : B} → lo ≤ m → m ≤ hi → In x (f m) → In x (gather (range lo hi) f)
  into_range m l r p = into_upto f lo (suc hi - lo) m l (omega arith) p

-- functions that agree
pub range_same : {B : Type 0} (f g : ℕ → List B) (lo hi : ℕ) → ((m : ℕ) → lo ≤ m → m ≤ hi → f m ≡ g m)
    → gather (range lo hi) f ≡ gather (range lo hi) g
range_same f g lo hi h = upto_same f g lo (suc hi - lo) (λ m l r. h m l (omega arith))

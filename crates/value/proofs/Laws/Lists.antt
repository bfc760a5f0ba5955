-- Lists: what stands at a place, what each thing has, members.
use Rattle.std.specs.Prelude.{ℕ, zero, suc, ◌+◌, ◌≤◌, ◌<◌, ◌≡◌, refl, ◌≢◌, List, [], ◌∷◌, ◌++◌, map, Bool, true, length, get_or, set, take, drop, replicate, eqb}
use Rattle.std.proofs.Common.{le_of_suc-le-suc, not-suc-le-zero, zero-add, suc-add, arith, ap, subst, length-append, length-drop, drop_of_length-le, eqb-true}
use Rattle.std.proofs.lemmas.Bool.{eqb-false}
use Rattle.value.specs.Maybe.{is}
use Rattle.value.specs.Lists.{at, all, any, upto, over}
use Rattle.value.proofs.Laws.Maybes.{is_inj, missing}
use Rattle.value.proofs.Laws.Tests.{Decides, never, either_passed, either_left, either_right, by_test, itself, always, ◌and◌}

-- ---- by place

module _ {A : Type 0} where
  -- what stands at i is below the length
  pub at_below : (l : List A) (i : ℕ) {a : A} → at l i ≡ is a → i < length l
  at_below [] i e = missing e
  at_below (x ∷ l) zero e = omega arith
  at_below (x ∷ l) (suc i) e = let h : i < length l = at_below l i e in omega arith

  -- and below the length something stands
  pub at_get_d : (l : List A) (i : ℕ) (d : A) → i < length l → at l i ≡ is (get_or l i d)
  at_get_d [] i d h = absurd (not-suc-le-zero h)
  at_get_d (x ∷ l) zero d h = refl
  at_get_d (x ∷ l) (suc i) d h = at_get_d l i d (le_of_suc-le-suc h)

  -- what was put at i stands there
  pub at_set_same : (l : List A) (i : ℕ) (a : A) → i < length l → at (set l i a) i ≡ is a
  at_set_same [] i a h = absurd (not-suc-le-zero h)
  at_set_same (x ∷ l) zero a h = refl
  at_set_same (x ∷ l) (suc i) a h = at_set_same l i a (le_of_suc-le-suc h)

  -- and nothing else moves
  pub at_set_other : (l : List A) (i j : ℕ) (a : A) → j ≢ i → at (set l i a) j ≡ at l j
  at_set_other [] i j a h = refl
  at_set_other (x ∷ l) zero zero a h = absurd (h refl)
  at_set_other (x ∷ l) zero (suc j) a h = refl
  at_set_other (x ∷ l) (suc i) zero a h = refl
  at_set_other (x ∷ l) (suc i) (suc j) a h = at_set_other l i j a (λ e. h (ap suc e))

  -- in the first n things
  pub at_take : (n : ℕ) (l : List A) (i : ℕ) → i < n → at (take n l) i ≡ at l i
  at_take zero l i h = absurd (not-suc-le-zero h)
  at_take (suc n) [] i h = refl
  at_take (suc n) (x ∷ l) zero h = refl
  at_take (suc n) (x ∷ l) (suc i) h = at_take n l i (le_of_suc-le-suc h)

  -- in the first of two lists
  pub at_front : (xs ys : List A) (i : ℕ) {x : A} → at xs i ≡ is x → at (xs ++ ys) i ≡ is x
  at_front [] ys i e = missing e
  at_front (a ∷ xs) ys zero e = e
  at_front (a ∷ xs) ys (suc i) e = at_front xs ys i e

  -- and in the second
  pub at_after : (xs ys : List A) (k : ℕ) → at (xs ++ ys) (length xs + k) ≡ at ys k
  at_after [] ys k = rw (zero-add k)
  at_after (x ∷ xs) ys k = rw (suc-add (length xs) k) (at_after xs ys k)

  -- the same thing everywhere
  pub at_replicate : (n i : ℕ) (a : A) → i < n → at (replicate n a) i ≡ is a
  at_replicate zero i a h = absurd (omega arith)
  at_replicate (suc n) zero a h = refl
  at_replicate (suc n) (suc i) a h = at_replicate n i a (omega arith)

-- a lent buffer keeps its length
pub length_over : {A : Type 0} (new old : List A) → length new ≤ length old → length (over new old) ≡ length old
length_over new old h = simp (length-append, length-drop) (omega arith)

-- the new things come first
pub over_front : {A : Type 0} (new old : List A) (i : ℕ) {x : A} → at new i ≡ is x → at (over new old) i ≡ is x
over_front new old i e = at_front new (drop (length new) old) i e

-- "All other bytes stay"
pub over_rest : {A : Type 0} (new old : List A) (i : ℕ) → length new ≤ i → at (over new old) i ≡ at old i
over_rest [] old i h = refl
over_rest (x ∷ new) old zero h = absurd (not-suc-le-zero h)
over_rest (x ∷ new) (y ∷ old) (suc i) h = over_rest new old i (le_of_suc-le-suc h)
over_rest {A} (x ∷ new) [] (suc i) h =
    let none : drop {A = A} (length new) [] ≡ [] = drop_of_length-le [] {i = length new} (omega arith) in
    rw none at (over_rest new [] i (le_of_suc-le-suc h))

-- functions that agree make the same list
pub map_same : {A B : Type 0} (f g : A → B) (xs : List A) → ((x : A) → f x ≡ g x) → map f xs ≡ map g xs
map_same f g [] h = refl
map_same f g (x ∷ xs) h = rw (h x, map_same f g xs h)

-- ---- what each thing has

-- each thing of a list has the property
abbrev pub Each : {A : Type 0} → (A → Type 0) → List A → Type 0
Each P [] = Unit {0}
Each P (x ∷ xs) = P x × Each P xs

-- what follows of each thing
pub each_so : {A : Type 0} {P Q : A → Type 0} → ((x : A) → P x → Q x) → (xs : List A) → Each P xs → Each Q xs
each_so f [] h = tt
each_so f (x ∷ xs) h = (f x h.0, each_so f xs h.1)

-- what all have, the one at i has
pub each_at : {A : Type 0} (P : A → Type 0) (xs : List A) (i : ℕ) {x : A} → Each P xs → at xs i ≡ is x → P x
each_at P [] i h e = missing e
each_at P (y ∷ xs) zero h e = subst P (is_inj e) h.0
each_at P (y ∷ xs) (suc i) h e = each_at P xs i h.1 e

-- the first of two lists, then the second
pub each_append : {A : Type 0} (P : A → Type 0) (xs ys : List A) → Each P xs → Each P ys → Each P (xs ++ ys)
each_append P [] ys h k = k
each_append P (x ∷ xs) ys h k = (h.0, each_append P xs ys h.1 k)

-- a test of each thing in a list
pub all? : {A : Type 0} {f : A → Bool} {P : A → Type 0} → ((x : A) → Decides (f x) (P x)) → (xs : List A) → Decides (all f xs) (Each P xs)
all? d [] = always
all? d (x ∷ xs) = d x and all? d xs

-- a test that each thing of a list passes
pub all_pass : {A : Type 0} (f : A → Bool) (xs : List A) → Each (λ x. f x ≡ true) xs → all f xs ≡ true
all_pass f xs h = (all? (λ x. itself (f x)) xs).of h

-- and the other way
pub all_passed : {A : Type 0} (f : A → Bool) (xs : List A) → all f xs ≡ true → Each (λ x. f x ≡ true) xs
all_passed f xs h = (all? (λ x. itself (f x)) xs).so h

-- the numbers from i on
pub each_upto : (P : ℕ → Type 0) (i n : ℕ) → Each P (upto i n) → (m : ℕ) → i ≤ m → m < i + n → P m
each_upto P i zero h m low high = absurd (omega arith)
each_upto P i (suc n) h m low high =
    by_test (eqb i m)
    (λ e. subst P (eqb-true i m e) h.0)
    (λ e. let other : i ≢ m = eqb-false i m e in each_upto P (suc i) n h.1 m (omega arith) (omega arith))

-- and the other way
pub upto_each : (P : ℕ → Type 0) → ((m : ℕ) → P m) → (i n : ℕ) → Each P (upto i n)
upto_each P h i zero = tt
upto_each P h i (suc n) = (h i, upto_each P h (suc i) n)

-- ---- members

-- x is one of them
pub data In {A : Type 0} (x : A) : List A → Type 0 where
  here : {xs : List A} → In x (x ∷ xs)
  there : {y : A} {xs : List A} → In x xs → In x (y ∷ xs)

module _ {A : Type 0} {x : A} where
  -- of the first of two lists
  pub in_front : (xs ys : List A) → In x xs → In x (xs ++ ys)
  in_front (x ∷ xs) ys here = here
  in_front (y ∷ xs) ys (there p) = there (in_front xs ys p)
  in_front [] ys x'' = elim x'' [ ]

  -- of the second
  pub in_back : (xs ys : List A) → In x ys → In x (xs ++ ys)
  in_back [] ys p = p
  in_back (y ∷ xs) ys p = there (in_back xs ys p)

  -- of one of them
  pub in_either : {G : Type 0} (xs ys : List A) → In x (xs ++ ys) → (In x xs → G) → (In x ys → G) → G
  in_either [] ys p f g = g p
  in_either (y ∷ xs) ys here f g = f here
  in_either (y ∷ xs) ys (there p) f g = in_either xs ys p (λ q. f (there q)) g

  -- what all have, each has
  pub each_in : (P : A → Type 0) (xs : List A) → Each P xs → In x xs → P x
  each_in P (x ∷ xs) h here = h.0
  each_in P (y ∷ xs) h (there p) = each_in P xs h.1 p
  each_in P [] h x3 = elim x3 [ ]

  -- a test that some thing passes
  pub some_pass : (f : A → Bool) (xs : List A) → In x xs → f x ≡ true → any f xs ≡ true
  some_pass f (x ∷ xs) here e = either_left (any f xs) e
  some_pass f (y ∷ xs) (there p) e = either_right (f y) (some_pass f xs p e)
  some_pass f [] x3 e = elim x3 [ ]

-- what stands at a place is one of them
pub in_at : {A : Type 0} {x : A} (xs : List A) (i : ℕ) → at xs i ≡ is x → In x xs
in_at [] i e = missing e
in_at (y ∷ xs) zero e = rw (is_inj e) here
in_at (y ∷ xs) (suc i) e = there (in_at xs i e)

-- if some thing passes, one of them does
pub some_passed : {A : Type 0} (f : A → Bool) (xs : List A) → any f xs ≡ true → (x : A) × In x xs × (f x ≡ true)
some_passed f [] h = absurd (never h)
some_passed {A} f (y ∷ xs) h =
    either_passed (f y) (any f xs) h
    (λ e. (y, here, e))
    (λ m. let later : (x : A) × In x xs × (f x ≡ true) = some_passed f xs m in (later.0, there later.1, later.2))

-- is the number x one of them
abbrev pub member : ℕ → List ℕ → Bool
member x ys = any (λ y. eqb y x) ys

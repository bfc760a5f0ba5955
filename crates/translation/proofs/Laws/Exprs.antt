-- Expressions of the source, moved into the copy.
use Rattle.std.specs.Prelude.{ℕ, zero, suc, ◌+◌, ◌≤◌, ◌<◌, ◌≡◌, refl, List, [], ◌∷◌, Bool, true, false}
use Rattle.std.proofs.Common.{arith, ap, eq-eqb, eqb-true}
use Rattle.std.proofs.Math.Decide.{ℕ_discrete}
use Rattle.value.specs.Lists.{all}
use Rattle.value.specs.declared.Value.TheVariants.{Whole, Location, Truth}
use Rattle.value.proofs.Laws.Tests.{either_left, either_right, pass_both, either_passed, never, both_passed}
use Rattle.value.proofs.Laws.Lists.{Each, In, here, there, each_in}
use Rattle.format.specs.Syntax.{Expr, constant, local, one, two}
use Rattle.format.specs.Rules.{Known, known}
use Rattle.format.proofs.Laws.Names.{InRange}
use Rattle.format.proofs.Laws.Depths.{depth, WholesRight}
use Rattle.translation.specs.Code.{mentioned, mentions, keep, variables, shift, moved}

-- ---- moving

-- a moved expression is as deep, with the same whole numbers
pub shift_right : (e : Expr) → WholesRight e → (depth (shift e) ≡ depth e) × WholesRight (shift e)
shift_right (constant v) f = (refl, f)
shift_right (local x) f = (refl, tt)
shift_right (one o a) f = let r : (depth (shift a) ≡ depth a) × WholesRight (shift a) = shift_right a f in (ap suc r.0, r.1)
shift_right (two o a b) f =
    let r : (depth (shift a) ≡ depth a) × WholesRight (shift a) = shift_right a f.0 in
    let q : (depth (shift b) ≡ depth b) × WholesRight (shift b) = shift_right b f.1 in
    (rw (r.0, q.0), (r.1, q.1))

-- its names are in the copy's ranges
pub shift_named : (e : Expr) (n M N : ℕ) → M ≤ N → InRange n M e → InRange (moved n) N (shift e)
shift_named (constant (Whole z)) n M N h i = tt
shift_named (constant (Location l)) n M N h i = omega arith
shift_named (constant (Truth b)) n M N h i = tt
shift_named (local x) n M N h i = omega arith
shift_named (one o a) n M N h i = shift_named a n M N h i
shift_named (two o a b) n M N h i = (shift_named a n M N h i.0, shift_named b n M N h i.1)

-- it is known where each of its variables was loaded
pub shift_known : (e : Expr) (n M : ℕ) (u : Known) → InRange n M e → ((x : ℕ) → x < n → mentioned x e ≡ true → u (moved x) ≡ true)
    → known u (shift e) ≡ true
shift_known (constant v) n M u i h = refl
shift_known (local x) n M u i h = h x i (eq-eqb x x refl)
shift_known (one o a) n M u i h = shift_known a n M u i h
shift_known (two o a b) n M u i h =
    pass_both
    (shift_known a n M u i.0 (λ x l k. h x l (either_left (mentioned x b) k)))
    (shift_known b n M u i.1 (λ x l k. h x l (either_right (mentioned x a) k)))

-- ---- the variables of expressions

-- they are in the range
pub variables_below : (i n N : ℕ) (es : List Expr) → i + n ≤ N → Each (λ x. x < N) (variables i n es)
variables_below i zero N es h = tt
variables_below i (suc n) N es h = go (mentions i es) (variables_below (suc i) n N es (omega arith))
  where
    go : (b : Bool) → Each (λ x. x < N) (variables (suc i) n es) → Each (λ x. x < N) (keep b i (variables (suc i) n es))
    go true r = (omega arith, r)
    go false r = r

-- with the next variable before them
keep_in_lem : {x : ℕ} {xs : List ℕ} (b : Bool) (y : ℕ) → In x xs → In x (keep b y xs)
keep_in_lem true y p = there p
keep_in_lem false y p = p

-- a variable that is mentioned is among them
pub variables_in : (x y k : ℕ) (es : List Expr) → mentions x es ≡ true → y ≤ x → x < y + k → In x (variables y k es)
variables_in x y zero es m lo hi = absurd (omega arith)
variables_in x y (suc k) es m lo hi = elim (ℕ_discrete x y) [
  | yes e ↦ rw (← e, m) here
  | no ne ↦ keep_in_lem (mentions y es) y (variables_in x (suc y) k es m (omega arith) (omega arith))
]

-- a property of them all
keep_out : {x y : ℕ} {xs : List ℕ} (b : Bool) (P : ℕ → Type 0) → (b ≡ true → P y) → (In x xs → P x) → In x (keep b y xs) → P x
keep_out true P p q here = p refl
keep_out true P p q (there i) = q i
keep_out false P p q i = q i

-- and what is among them is mentioned
pub variables_out : (x y k : ℕ) (es : List Expr) → In x (variables y k es) → mentions x es ≡ true
variables_out x y (suc k) es i = keep_out (mentions y es) (λ z. mentions z es ≡ true) (λ e. e) (variables_out x (suc y) k es) i
variables_out x y zero es i = elim i [ ]

-- so what they all have, each that is mentioned has
pub variables_all : (P : ℕ → Type 0) (i n : ℕ) (es : List Expr) → Each P (variables i n es) → (x : ℕ) → i ≤ x → x < i + n → mentions x es ≡ true → P x
variables_all P i n es h x low high m = each_in P (variables i n es) h (variables_in x i n es m low high)

-- ---- what is set

-- an expression whose variables are known mentions only known ones
pub known_mentioned : (s : Known) (e : Expr) → known s e ≡ true → (x : ℕ) → mentioned x e ≡ true → s x ≡ true
known_mentioned s (constant v) k x m = absurd (never m)
known_mentioned s (local y) k x m = rw (eqb-true x y m) k
known_mentioned s (one o a) k x m = known_mentioned s a k x m
known_mentioned s (two o a b) k x m =
    let q : (known s a ≡ true) × (known s b ≡ true) = both_passed (known s a) (known s b) k in
    either_passed (mentioned x a) (mentioned x b) m (known_mentioned s a q.0 x) (known_mentioned s b q.1 x)

-- so do several
pub known_mentions : (s : Known) (es : List Expr) → all (known s) es ≡ true → (x : ℕ) → mentions x es ≡ true → s x ≡ true
known_mentions s [] k x m = absurd (never m)
known_mentions s (e ∷ es) k x m =
    let q : (known s e ≡ true) × (all (known s) es ≡ true) = both_passed (known s e) (all (known s) es) k in
    either_passed (mentioned x e) (mentions x es) m (known_mentioned s e q.0 x) (known_mentions s es q.1 x)

-- The evaluator: what stands where, and one law for each way through it.
use Prim.Native.Nat.{ℕ, ◌+◌, ◌-◌, ◌≤◌, ◌<◌}
use native.Mathlib.Omega.{arith}
use mathlib.Core.Path.{◌≡◌, refl, sym, ap, ap₂, subst, ◌∙◌}
use mathlib.Core.List.{List}
use mathlib.Core.Bool.{true, false}
use lib.ListN.{length, get_or}
use lib.IntN.{ℤ}
use Rattle.std.specs.Prelude.{Result, Ok}
use lib.Dec.{eqb}
use borrow.Author.Tests.{eqb-true, eqb-false}
use mir.Syntax.{w32}
use mir.Val.{SFits, of_z, to_z}
use mir.Facts.{to_z-of_z}
use Rattle.value.specs.Maybe.{pick}
use Rattle.value.specs.Try.{has, ◌⟫◌, provided, or_lacks}
use Rattle.value.specs.Values.{One, not, neg, Two, add, sub, mul, less, equal, and, apply₂, given, unword}
use Rattle.basics.specs.Places.{number_at}
use Rattle.value.specs.Marks.{mark₁, mark₂, two_mark, mark_of, left_kind, of_kind, decided}
use Rattle.basics.specs.Columns.{row_of, operands_of, applied₁, applied₂}
use Rattle.value.specs.declared.Value.{Value}
use Rattle.value.specs.declared.Value.TheVariants.{Whole, Location, Truth}
use Rattle.value.specs.declared.Reason.{Reason}
use Rattle.value.specs.declared.Reason.TheVariants.{WrongKind}
use Rattle.value.proofs.Laws.Tests.{by_test}
use Rattle.basics.specs.Laws.Places.{number_at_lem}
use Rattle.value.proofs.Laws.Marks.{mark₁_marks, mark₂_marks}
use Rattle.format.specs.Syntax.{Expr, constant, local, one, two}
use Rattle.format.proofs.Laws.Exprs.{depth_pos}
use Rattle.format.proofs.Laws.Stands.{first, others}
use Rattle.format.proofs.Laws.Grammar.{ExprAt, OneAt, TwoAt, whole_here, location_here, no_here, yes_here, one_here, two_here, expr_inside, expr_deep}
use Rattle.semantics.specs.Memory.{eval}
use Rattle.engine.specs.Words.{value_in}
use Rattle.engine.specs.Evaluated.{suited, decided_at, operated₁, operated₂, Below, Ready, valued, Evaluates}
use Rattle.engine.specs.declared.evaluate.Valued.{Valued}
use Rattle.engine.specs.Laws.Work.{framed_get}

-- ---- marks

-- an operator's mark is no leaf's, and in the table
operator₁ : (o : One) → (6 ≤ mark₁ o) × (mark₁ o < 24)
operator₁ not = omega arith
operator₁ neg = omega arith

operator₂ : (o : Two) → (6 ≤ mark₂ o) × (mark₂ o < 24)
operator₂ add = omega arith
operator₂ sub = omega arith
operator₂ mul = omega arith
operator₂ less = omega arith
operator₂ equal = omega arith
operator₂ and = omega arith

-- a constant's is at most 04
constant_low : {t : List ℕ} {i d : ℕ} (v : Value) {j : ℕ} → ExprAt t i d (constant v) j → get_or t i 0 ≤ 4
constant_low (Whole z) h = omega (arith, first h.stands)
constant_low (Location l) h = omega (arith, first h.stands)
constant_low (Truth true) h = omega (arith, first h.stands)
constant_low (Truth false) h = omega (arith, first h.stands)

-- operators by their count of operands
count₁ : (o : One) → operands_of (mark₁ o) ≡ 1
count₁ not = refl
count₁ neg = refl

count₂ : (o : Two) → operands_of (mark₂ o) ≡ 2
count₂ add = refl
count₂ sub = refl
count₂ mul = refl
count₂ less = refl
count₂ equal = refl
count₂ and = refl

-- what the table says of the left operand's kind
takes_left : (o : Two) → (row_of (two_mark o)).takes ≡ left_kind o
takes_left add = refl
takes_left sub = refl
takes_left mul = refl
takes_left less = refl
takes_left equal = refl
takes_left and = refl

-- ---- what stands there

-- a leaf has depth 1
leaf_at : {t : List ℕ} {i d : ℕ} (e : Expr) {j : ℕ} → ExprAt t i d e j → get_or t i 0 < 6 → ExprAt t i 1 e j
leaf_at (constant v) h l = record { stands = h.stands; fits = (omega arith, h.fits.1) }
leaf_at (local x) h l = record { stands = h.stands; fits = (omega arith, h.fits.1) }
leaf_at (one o a) h l = absurd (omega (arith, first h.stands, operator₁ o))
leaf_at (two o a b) h l = absurd (omega (arith, first h.stands, operator₂ o))

-- a local, if it is no constant and no operator
local_at : {t : List ℕ} {i : ℕ} (e : Expr) {j : ℕ} → ExprAt t i 1 e j → (get_or t i 0 ≡ 1 → ⊥) → (get_or t i 0 ≡ 2 → ⊥) → (get_or t i 0 ≡ 3 → ⊥)
    → (get_or t i 0 ≡ 4 → ⊥) → (e ≡ local (get_or t (i + 1) 0)) × (j ≡ i + 2)
local_at (constant (Whole z)) h n₁ n₂ n₃ n₄ = absurd (n₁ (first h.stands))
local_at (constant (Location l)) h n₁ n₂ n₃ n₄ = absurd (n₂ (first h.stands))
local_at (constant (Truth false)) h n₁ n₂ n₃ n₄ = absurd (n₃ (first h.stands))
local_at (constant (Truth true)) h n₁ n₂ n₃ n₄ = absurd (n₄ (first h.stands))
local_at (local x) h n₁ n₂ n₃ n₄ = (ap local (sym (first (others h.stands))), h.stands.ends)
local_at (one o a) h n₁ n₂ n₃ n₄ = absurd (omega (arith, h.fits.0, depth_pos a))
local_at (two o a b) h n₁ n₂ n₃ n₄ = absurd (omega (arith, h.fits.0, depth_pos a, depth_pos b))

-- the operator of one or of two operands, if it is no leaf
one_at : {t : List ℕ} {i d : ℕ} (e : Expr) {j : ℕ} → ExprAt t i d e j → 6 ≤ get_or t i 0 → (operands_of (get_or t i 0) ≡ 2 → ⊥)
    → (o : One) × (get_or t i 0 ≡ mark₁ o) × OneAt t i d o e j
one_at (constant v) h l n = absurd (omega (arith, constant_low v h))
one_at (local x) h l n = absurd (omega (arith, first h.stands))
one_at (one o a) h l n =
    let mark = first h.stands in
    (o, mark, one_here h (ap mark_of mark ∙ mark₁_marks o))
one_at (two o a b) h l n = absurd (n (ap operands_of (first h.stands) ∙ count₂ o))

two_at_lem : {t : List ℕ} {i d : ℕ} (e : Expr) {j : ℕ} → ExprAt t i d e j → 6 ≤ get_or t i 0 → operands_of (get_or t i 0) ≡ 2
    → (o : Two) × (get_or t i 0 ≡ mark₂ o) × TwoAt t i d o e j
two_at_lem (constant v) h l n = absurd (omega (arith, constant_low v h))
two_at_lem (local x) h l n = absurd (omega (arith, first h.stands))
two_at_lem (one o a) h l n = absurd (omega (arith, sym (ap operands_of (first h.stands) ∙ count₁ o) ∙ n))
two_at_lem (two o a b) h l n =
    let mark = first h.stands in
    (o, mark, two_here h (ap mark_of mark ∙ mark₂_marks o))

-- ---- an expression over a frame

-- the same, as a leaf
pub shallow : {t ls : List ℕ} {fb i d : ℕ} → get_or t i 0 < 6 → Ready t ls fb i d → Ready t ls fb i 1
shallow l h = record { env = h.env; framed = h.framed; e = h.e; j = h.j; here = leaf_at h.e h.here l; below = h.below }

module _ {t ls : List ℕ} {fb i d : ℕ} where
  -- it has a byte
  pub inside : Ready t ls fb i d → i < length t
  inside h = omega (arith, expr_inside h.here)

  -- and some depth
  pub deep : Ready t ls fb i d → 1 ≤ d
  deep h = expr_deep h.here

  -- an operator's mark is in the table
  pub listed : Ready t ls fb i d → 6 ≤ get_or t i 0 → get_or t i 0 < 24
  listed h l = go h.e h.here
    where
      go : (e : Expr) {j : ℕ} → ExprAt t i d e j → get_or t i 0 < 24
      go (constant v) h = omega (arith, constant_low v h)
      go (local x) h = omega (arith, first h.stands)
      go (one o a) h = omega (arith, first h.stands, operator₁ o)
      go (two o a b) h = omega (arith, first h.stands, operator₂ o)

  -- an operand's locals are the operator's
  one_below : (h : Ready t ls fb i d) {o : One} (w : OneAt t i d o h.e h.j) → Below (length h.env) w.a
  one_below h w = subst (Below (length h.env)) w.is h.below

  two_below : (h : Ready t ls fb i d) {o : Two} (w : TwoAt t i d o h.e h.j) → Below (length h.env) w.a × Below (length h.env) w.b
  two_below h w = subst (Below (length h.env)) w.is h.below

  -- the operand of one
  only : Ready t ls fb i d → 6 ≤ get_or t i 0 → (operands_of (get_or t i 0) ≡ 2 → ⊥) → Ready t ls fb (i + 1) (d - 1)
  only h l n =
      let w = (one_at h.e h.here l n).2 in
      record { env = h.env; framed = h.framed; e = w.a; j = h.j; here = w.inner; below = one_below h w }

  -- the left operand of two
  left : Ready t ls fb i d → 6 ≤ get_or t i 0 → operands_of (get_or t i 0) ≡ 2 → Ready t ls fb (i + 1) (d - 1)
  left h l n =
      let w = (two_at_lem h.e h.here l n).2 in
      record { env = h.env; framed = h.framed; e = w.a; j = w.k; here = w.left; below = (two_below h w).0 }

  -- the first operand
  pub operand : Ready t ls fb i d → 6 ≤ get_or t i 0 → Ready t ls fb (i + 1) (d - 1)
  operand h l = by_test (eqb (operands_of (get_or t i 0)) 2)
      (λ e. left h l (eqb-true (operands_of (get_or t i 0)) 2 e))
      (λ e. only h l (eqb-false (operands_of (get_or t i 0)) 2 e))

  -- the right one
  pub right : {x : Valued} {k : ℕ} → Ready t ls fb i d → 6 ≤ get_or t i 0 → k ≡ operands_of (get_or t i 0) → k ≡ 2 → Evaluates t ls fb (i + 1) (d - 1) x
      → Ready t ls fb x.next (d - 1)
  unfolding left
  right {x} h l c n X =
      let w = (two_at_lem h.e h.here l (sym c ∙ n)).2 in
      let k : x.next ≡ w.k = X.next (left h l (sym c ∙ n)) in
      record { env = h.env; framed = h.framed; e = w.b; j = h.j; here = rw k w.right; below = (two_below h w).1 }

  -- a leaf's answer
  pub as_leaf : {r : Valued} → get_or t i 0 < 6 → Evaluates t ls fb i 1 r → Evaluates t ls fb i d r
  unfolding shallow
  as_leaf l E = record { value = λ h. E.value (shallow l h); next = λ h. E.next (shallow l h) }

  -- an operator's
  pub eval_one : {x : Valued} {k : ℕ} {a : Result Value Reason} → 6 ≤ get_or t i 0 → k ≡ operands_of (get_or t i 0) → (k ≡ 2 → ⊥) → Evaluates t ls fb (i + 1) (d - 1) x
      → given a ≡ operated₁ (get_or t i 0) (given x.answer) → Evaluates t ls fb i d (valued a x.next)
  unfolding operated₁ only
  eval_one {x} {k} {a} l c n X g = record {
    value = λ h.
        let s = one_at h.e h.here l (λ q. n (c ∙ q)) in
        let o = s.0 in
        let w = s.2 in
        let v = X.value (only h l (λ q. n (c ∙ q))) in
        g ∙ ap₂ (λ a m. a ⟫ applied₁ (mark_of m)) v s.1 ∙ ap (λ k. eval h.env w.a ⟫ applied₁ k) (mark₁_marks o)
        ∙ sym (ap (eval h.env) w.is);
    next = λ h. X.next (only h l (λ q. n (c ∙ q)));
  }

  pub eval_two : {x y : Valued} {k : ℕ} {a : Result Value Reason} → 6 ≤ get_or t i 0 → k ≡ operands_of (get_or t i 0) → k ≡ 2 → Evaluates t ls fb (i + 1) (d - 1) x
      → Evaluates t ls fb x.next (d - 1) y → given a ≡ operated₂ (get_or t i 0) (given x.answer) (given y.answer)
      → Evaluates t ls fb i d (valued a y.next)
  unfolding operated₂ left right
  eval_two {x} {y} {k} {a} l c n X Y g = record {
    value = λ h.
        let s = two_at_lem h.e h.here l (sym c ∙ n) in
        let o = s.0 in
        let w = s.2 in
        let u = X.value (left h l (sym c ∙ n)) in
        let v = Y.value (right h l c n X) in
        let no = has (Truth false) in
        g ∙ ap₂ (λ a m. a ⟫ suited (mark_of m) ⟫ λ u. pick (decided_at (mark_of m) u) no (given y.answer ⟫ λ v. applied₂ (mark_of m) u v)) u s.1
        ∙ ap₂ (λ b k. eval h.env w.a ⟫ suited k ⟫ λ u. pick (decided_at k u) no (b ⟫ λ v. applied₂ k u v)) v (mark₂_marks o)
        ∙ ap (λ k. eval h.env w.a ⟫ (λ u. provided (of_kind k u) WrongKind u) ⟫ λ u.
        pick (decided o u) no (eval h.env w.b ⟫ λ v. apply₂ o u v)) (takes_left o)
        ∙ sym (ap (eval h.env) w.is);
    next = λ h. Y.next (right h l c n X);
  }

-- ---- leaves

module _ {t ls : List ℕ} {fb i : ℕ} where
  -- their bytes are there
  pub whole_room : Ready t ls fb i 1 → get_or t i 0 ≡ 1 → i + 1 + 4 ≤ length t
  whole_room h e = omega (arith, (whole_here h.here e).1, expr_inside h.here)

  pub location_room : Ready t ls fb i 1 → get_or t i 0 ≡ 2 → i + 1 + 2 ≤ length t
  location_room h e = omega (arith, (location_here h.here e).1, expr_inside h.here)

  local_here : (h : Ready t ls fb i 1) → (get_or t i 0 ≡ 1 → ⊥) → (get_or t i 0 ≡ 2 → ⊥) → (get_or t i 0 ≡ 3 → ⊥) → (get_or t i 0 ≡ 4 → ⊥)
      → (h.e ≡ local (get_or t (i + 1) 0)) × (h.j ≡ i + 2)
  local_here h n₁ n₂ n₃ n₄ = local_at h.e h.here n₁ n₂ n₃ n₄

  pub local_room : Ready t ls fb i 1 → (get_or t i 0 ≡ 1 → ⊥) → (get_or t i 0 ≡ 2 → ⊥) → (get_or t i 0 ≡ 3 → ⊥) → (get_or t i 0 ≡ 4 → ⊥) → i + 1 < length t
  local_room h n₁ n₂ n₃ n₄ = omega (arith, (local_here h n₁ n₂ n₃ n₄).1, expr_inside h.here)

  -- a local is one of its frame
  local_below : (h : Ready t ls fb i 1) → (get_or t i 0 ≡ 1 → ⊥) → (get_or t i 0 ≡ 2 → ⊥) → (get_or t i 0 ≡ 3 → ⊥) → (get_or t i 0 ≡ 4 → ⊥)
      → get_or t (i + 1) 0 < length h.env
  local_below h n₁ n₂ n₃ n₄ = subst (Below (length h.env)) (local_here h n₁ n₂ n₃ n₄).0 h.below

  pub local_word : Ready t ls fb i 1 → (get_or t i 0 ≡ 1 → ⊥) → (get_or t i 0 ≡ 2 → ⊥) → (get_or t i 0 ≡ 3 → ⊥) → (get_or t i 0 ≡ 4 → ⊥)
      → fb + get_or t (i + 1) 0 < length ls
  local_word h n₁ n₂ n₃ n₄ = (framed_get h.framed (get_or t (i + 1) 0) (local_below h n₁ n₂ n₃ n₄)).0

  -- what they give
  pub eval_whole : {n : ℕ} {z : ℤ} → get_or t i 0 ≡ 1 → n ≡ number_at 4 t (i + 1) → z ≡ unword n → SFits w32 z
      → Evaluates t ls fb i 1 (valued (Ok (Whole (to_z w32 (of_z w32 z)))) (i + 5))
  eval_whole {n} {z} e q u f = record {
    value = λ h.
        let w = whole_here h.here e in
        ap (λ z. has (Whole z)) (to_z-of_z f ∙ u ∙ ap unword (q ∙ number_at_lem 4 t (i + 1))) ∙ sym (ap (eval h.env) w.0);
    next = λ h. sym (whole_here h.here e).1;
  }

  pub eval_location : {n : ℕ} → get_or t i 0 ≡ 2 → n ≡ number_at 2 t (i + 1) → Evaluates t ls fb i 1 (valued (Ok (Location n)) (i + 3))
  eval_location e q = record {
    value = λ h. ap (λ l. has (Location l)) (q ∙ number_at_lem 2 t (i + 1)) ∙ sym (ap (eval h.env) (location_here h.here e).0);
    next = λ h. sym (location_here h.here e).1;
  }

  pub eval_no : get_or t i 0 ≡ 3 → Evaluates t ls fb i 1 (valued (Ok (Truth false)) (i + 1))
  eval_no e = record { value = λ h. sym (ap (eval h.env) (no_here h.here e).0); next = λ h. sym (no_here h.here e).1 }

  pub eval_yes : get_or t i 0 ≡ 4 → Evaluates t ls fb i 1 (valued (Ok (Truth true)) (i + 1))
  eval_yes e = record { value = λ h. sym (ap (eval h.env) (yes_here h.here e).0); next = λ h. sym (yes_here h.here e).1 }

  pub eval_local : {a : Result Value Reason} → (get_or t i 0 ≡ 1 → ⊥) → (get_or t i 0 ≡ 2 → ⊥) → (get_or t i 0 ≡ 3 → ⊥) → (get_or t i 0 ≡ 4 → ⊥)
      → given a ≡ value_in (get_or ls (fb + get_or t (i + 1) 0) 0) → Evaluates t ls fb i 1 (valued a (i + 2))
  eval_local n₁ n₂ n₃ n₄ g = record {
    value = λ h.
        g ∙ ap (or_lacks WrongKind) (framed_get h.framed (get_or t (i + 1) 0) (local_below h n₁ n₂ n₃ n₄)).1 ∙ sym (ap (eval h.env) (local_here h n₁ n₂ n₃ n₄).0);
    next = λ h. sym (local_here h n₁ n₂ n₃ n₄).1;
  }

-- one law for each way through a leaf, and through the evaluator
pub ruleset leaf_ways = (inside, whole_room, location_room, local_room, local_word, eval_whole, eval_location, eval_no, eval_yes, eval_local)

pub ruleset eval_ways = (inside, deep, shallow, operand, right, as_leaf, eval_one, eval_two)

-- One law for each way through the copy of an expression.
use Rattle.std.proofs.Common.{◌≡◌, ℕ, suc, ◌+◌, ◌-◌, ◌%◌, ◌<◌, ◌≤◌, true, false, List, [], ◌∷◌, length, get_or, take, drop, sym, refl, ap, ◌∙◌, subst, take_at, arith}
use Rattle.value.specs.Values.{One, not, neg, Two, add, sub, mul, less, equal, and}
use Rattle.value.specs.Marks.{Mark, whole_mark, location_mark, no_mark, yes_mark, local_mark, one_mark, two_mark, no_expr, mark₁, mark₂, mark_of}
use Rattle.basics.specs.Columns.{row_of}
use Rattle.basics.specs.Columns.{operands_of, payload_of}
use Rattle.basics.specs.Laws.Columns.{Says, row_says}
use Rattle.value.specs.declared.Value.TheVariants.{Whole, Location, Truth}
use Rattle.format.specs.Syntax.{Expr, constant, local, one, two}
use Rattle.format.specs.Encode.{expr}
use Rattle.format.proofs.Laws.Stands.{Stands, first}
use Rattle.format.proofs.Laws.ExprGrammar.{ExprAt, OneAt, TwoAt, one_here, two_here, local_here, expr_inside, expr_deep}
use Rattle.format.specs.Rules.{max_locals}
use Rattle.translation.specs.Code.{shift}
use Rattle.writer.specs.Laws.Pages.{Puts}
use Rattle.emit.specs.Laws.Sources.{Low, Copies}
use Rattle.writer.specs.declared.page.Page.{Page}
use Rattle.writer.proofs.Paging.{puts_then, puts_cons}

-- ---- what the table of marks says

-- what the row of mark k says is so
says : (m : ℕ) {k : Mark} → mark_of m ≡ k → Says k (row_of k)
says m e = subst (λ (k : Mark). Says k (row_of k)) e (row_says m)

-- a mark of one operand
one_mark_lem : (m : ℕ) → operands_of m ≡ 1 → (o : One) × (mark_of m ≡ one_mark o)
one_mark_lem m = go (mark_of m) refl
  where
    go : (k : Mark) → mark_of m ≡ k → (row_of k).operands ≡ 1 → (o : One) × (mark_of m ≡ one_mark o)
    go (one_mark o) q e = (o, q)
    go (two_mark o) q e = absurd (omega (arith, (says m q).count))
    go whole_mark q e = absurd (omega arith)
    go location_mark q e = absurd (omega arith)
    go no_mark q e = absurd (omega arith)
    go yes_mark q e = absurd (omega arith)
    go local_mark q e = absurd (omega arith)
    go no_expr q e = absurd (omega arith)

-- a mark of two
two_mark_lem : (m : ℕ) → operands_of m ≡ 2 → (o : Two) × (mark_of m ≡ two_mark o)
two_mark_lem m = go (mark_of m) refl
  where
    go : (k : Mark) → mark_of m ≡ k → (row_of k).operands ≡ 2 → (o : Two) × (mark_of m ≡ two_mark o)
    go (one_mark o) q e = absurd (omega (arith, (says m q).count))
    go (two_mark o) q e = (o, q)
    go whole_mark q e = absurd (omega arith)
    go location_mark q e = absurd (omega arith)
    go no_mark q e = absurd (omega arith)
    go yes_mark q e = absurd (omega arith)
    go local_mark q e = absurd (omega arith)
    go no_expr q e = absurd (omega arith)

-- an operator has operands
one_operands : (o : One) → operands_of (mark₁ o) ≡ 1
one_operands not = refl
one_operands neg = refl

-- of two values too
two_operands : (o : Two) → operands_of (mark₂ o) ≡ 2
two_operands add = refl
two_operands sub = refl
two_operands mul = refl
two_operands less = refl
two_operands equal = refl
two_operands and = refl

-- what stands between two positions is that part of the table
pub slice_is : {t : List ℕ} {i : ℕ} {bs : List ℕ} {j : ℕ} → Stands t i bs j → take (j - i) (drop i t) ≡ bs
slice_is {t} {i} {bs} {j} s = ap (take (j - i)) s.same ∙ take_at bs (drop j t) (j - i) (omega (arith, s.ends))

-- a leaf: it is as long as the row says, and a constant stays as it is
pub record Leaf (t : List ℕ) (i : ℕ) (e : Expr) (j : ℕ) : Type 0 where
  pub long : j ≡ i + 1 + payload_of (get_or t i 0)
  pub stays : (get_or t i 0 ≡ 0x05 → ⊥) → shift e ≡ e

-- an expression whose mark has no operands is one
leaf_here : {t : List ℕ} {i d : ℕ} (e : Expr) {j : ℕ} → ExprAt t i d e j → (operands_of (get_or t i 0) ≡ 1 → ⊥) → (operands_of (get_or t i 0) ≡ 2 → ⊥)
    → Leaf t i e j
leaf_here (constant (Whole z)) h f g = record { long = rw (first h.stands) (omega (arith, h.stands.ends)); stays = λ n. refl }
leaf_here (constant (Location l)) h f g = record { long = rw (first h.stands) (omega (arith, h.stands.ends)); stays = λ n. refl }
leaf_here (constant (Truth false)) h f g = record { long = rw (first h.stands) (omega (arith, h.stands.ends)); stays = λ n. refl }
leaf_here (constant (Truth true)) h f g = record { long = rw (first h.stands) (omega (arith, h.stands.ends)); stays = λ n. refl }
leaf_here (local x) h f g = record { long = rw (first h.stands) (omega (arith, h.stands.ends)); stays = λ n. absurd (n (first h.stands)) }
leaf_here (one o a) h f g = absurd (f (rw (first h.stands) (one_operands o)))
leaf_here (two o a b) h f g = absurd (g (rw (first h.stands) (two_operands o)))

module _ {t : List ℕ} {i d : ℕ} where
  -- ---- nothing stands there

  -- nothing is asked where no expression can stand
  none : {o o' : Page} → ((e : Expr) (j : ℕ) → ExprAt t i d e j → ⊥) → Copies t i d o o' i
  none f = record { copied = λ e j h l. absurd (f e j h); ends = λ e j h l. absurd (f e j h); forward = omega arith }

  -- no depth is left
  pub copy_deep : {o o' : Page} → d ≡ 0 → Copies t i d o o' i
  copy_deep z = none (λ e j h. omega (arith, expr_deep h))

  -- the table ends
  pub copy_past : {o o' : Page} → length t ≤ i → Copies t i d o o' i
  copy_past z = none (λ e j h. omega (arith, (expr_inside h).0, (expr_inside h).1))

  -- the payload is cut off
  pub copy_cut : {o o' : Page} {k m n : ℕ} → k ≡ operands_of (get_or t i 0) → (k ≡ 1 → ⊥) → (k ≡ 2 → ⊥) → m ≡ payload_of (get_or t i 0) → n ≡ m
      → length t < i + 1 + n → Copies t i d o o' i
  copy_cut a f g q s z = none (λ e j h. omega (arith, s, (leaf_here e h (λ b. f (a ∙ b)) (λ b. g (a ∙ b))).long, (expr_inside h).1))

  -- ---- leaves

  -- a local
  pub copy_local : {o o' : Page} {k n x : ℕ} → get_or t i 0 ≡ 5 → k ≡ payload_of (get_or t i 0) → n ≡ k → x ≡ (get_or t (i + 1) 0 + 3) % 256
      → Puts o (get_or t i 0 ∷ x ∷ []) o' → Copies t i d o o' (i + 1 + n)
  copy_local {o} {o'} {k} {n} {x} m long wide same P = record {
    copied = λ e j h low.
        let is : e ≡ local (get_or t (i + 1) 0) = (local_here h m).0 in
        let small : get_or t (i + 1) 0 < max_locals = rw is at low in
        let moved : x ≡ suc (suc (suc (get_or t (i + 1) 0))) = omega (arith, same) in
        rw is (rw (m, moved) at P);
    ends = λ e j h low. let one : payload_of (get_or t i 0) ≡ 1 = rw m refl in omega (arith, wide, (local_here h m).1);
    forward = omega arith;
  }

  -- a constant
  pub copy_constant : {o o' : Page} {k l n : ℕ} → k ≡ operands_of (get_or t i 0) → (k ≡ 1 → ⊥) → (k ≡ 2 → ⊥) → (get_or t i 0 ≡ 5 → ⊥)
      → l ≡ payload_of (get_or t i 0) → n ≡ l → Puts o (take (i + 1 + n - i) (drop i t)) o' → Copies t i d o o' (i + 1 + n)
  copy_constant {o} {o'} {k} {l} {n} a f g m long wide P = record {
    copied = λ e j h low.
        let leaf : Leaf t i e j = leaf_here e h (λ b. f (a ∙ b)) (λ b. g (a ∙ b)) in
        let ends : i + 1 + n ≡ j = omega (arith, wide, leaf.long) in
        rw (leaf.stays m, ← slice_is h.stands, ← ends) P;
    ends = λ e j h low. omega (arith, wide, (leaf_here e h (λ b. f (a ∙ b)) (λ b. g (a ∙ b))).long);
    forward = omega arith;
  }

  -- ---- operators

  -- on one value
  pub copy_one_lem : {o o' o'' : Page} {k : ℕ} {r : ℕ} → k ≡ operands_of (get_or t i 0) → k ≡ 1 → Puts o (get_or t i 0 ∷ []) o'
      → Copies t (i + 1) (d - 1) o' o'' r → Copies t i d o o'' r
  copy_one_lem {o} {o'' = o''} {k = k} {r} a b P C = record {
    copied = λ e j h low. copied e j h low (here e j h);
    ends = λ e j h low. ends e j h low (here e j h);
    forward = omega (arith, C.forward);
  }
    where
      mark : (o : One) × (mark_of (get_or t i 0) ≡ one_mark o)
      mark = one_mark_lem (get_or t i 0) (sym a ∙ b)

      here : (e : Expr) (j : ℕ) → ExprAt t i d e j → OneAt t i d mark.0 e j
      here e j h = one_here h mark.1

      copied : (e : Expr) (j : ℕ) → ExprAt t i d e j → Low max_locals e → OneAt t i d mark.0 e j → Puts o (expr (shift e)) o''
      copied e j h low w =
          let byte : get_or t i 0 ≡ mark₁ mark.0 = first (rw w.is at h.stands) in
          rw w.is (rw byte at (puts_cons P (C.copied w.a j w.inner (rw w.is at low))))

      ends : (e : Expr) (j : ℕ) → ExprAt t i d e j → Low max_locals e → OneAt t i d mark.0 e j → r ≡ j
      ends e j h low w = C.ends w.a j w.inner (rw w.is at low)

  -- on two
  pub copy_two : {o o' o'' o''' : Page} {k : ℕ} {x y : ℕ} → k ≡ operands_of (get_or t i 0) → k ≡ 2 → Puts o (get_or t i 0 ∷ []) o'
      → Copies t (i + 1) (d - 1) o' o'' x → Copies t x (d - 1) o'' o''' y → Copies t i d o o''' y
  copy_two {o} {o''' = o'''} {k = k} {x} {y} a b P X Y = record {
    copied = λ e j h low. copied e j h low (here e j h);
    ends = λ e j h low. ends e j h low (here e j h);
    forward = omega (arith, X.forward, Y.forward);
  }
    where
      mark : (o : Two) × (mark_of (get_or t i 0) ≡ two_mark o)
      mark = two_mark_lem (get_or t i 0) (sym a ∙ b)

      here : (e : Expr) (j : ℕ) → ExprAt t i d e j → TwoAt t i d mark.0 e j
      here e j h = two_here h mark.1

      copied : (e : Expr) (j : ℕ) → ExprAt t i d e j → Low max_locals e → TwoAt t i d mark.0 e j → Puts o (expr (shift e)) o'''
      copied e j h low w =
          let byte : get_or t i 0 ≡ mark₂ mark.0 = first (rw w.is at h.stands) in
          let lows : Low max_locals w.a × Low max_locals w.b = rw w.is at low in
          let mid : x ≡ w.k = X.ends w.a w.k w.left lows.0 in
          rw w.is
          (rw byte at (puts_cons P (puts_then (expr (shift w.a)) (expr (shift w.b))
          (X.copied w.a w.k w.left lows.0) (Y.copied w.b j (rw mid w.right) lows.1))))

      ends : (e : Expr) (j : ℕ) → ExprAt t i d e j → Low max_locals e → TwoAt t i d mark.0 e j → y ≡ j
      ends e j h low w =
          let lows : Low max_locals w.a × Low max_locals w.b = rw w.is at low in
          let mid : x ≡ w.k = X.ends w.a w.k w.left lows.0 in
          Y.ends w.b j (rw mid w.right) lows.1

-- the byte of a local is there
pub local_inside : (t : List ℕ) (i m : ℕ) {k n : ℕ} → k ≡ payload_of m → n ≡ k → m ≡ 5 → i + 1 + n ≤ length t → i + 1 < length t
local_inside t i m long wide e l = let one : payload_of m ≡ 1 = rw e refl in omega arith

-- one law for each way
pub ruleset copy_ways = (local_inside, copy_deep, copy_past, copy_cut, copy_local, copy_constant, copy_one_lem, copy_two)

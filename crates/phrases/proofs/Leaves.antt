-- One law for each way to show an expression.
use Prim.Native.Nat.{ℕ, zero, suc, ◌+◌, ◌-◌, ◌≤◌, ◌<◌}
use native.Mathlib.Omega.{arith}
use mathlib.Core.Path.{◌≡◌, refl, sym, ap, subst, ◌∙◌}
use mathlib.Core.List.{List, [], ◌∷◌}
use mathlib.Core.Bool.{true, false}
use lib.ListN.{length, get_or}
use borrow.Author.Tests.{eq-eqb, ne_eqb}
use Rattle.value.specs.Values.{One, not, neg, Two, add, sub, mul, less, equal, and, unword}
use Rattle.value.specs.Marks.{mark₁, mark₂}
use Rattle.value.specs.declared.Value.TheVariants.{Whole, Location, Truth}
use Rattle.format.specs.Syntax.{Expr, constant, local, one, two}
use Rattle.format.specs.Encode as E
use Rattle.format.proofs.Laws.Stands.{first, others, front, back}
use Rattle.format.proofs.Laws.ExprGrammar.{ExprAt, expr_inside, expr_deep, whole_here, location_here, no_here, yes_here, local_here}
use Rattle.basics.specs.Places.{number_at}
use Rattle.basics.specs.Laws.Places.{number_at_lem}
use Rattle.ctext.specs.Pieces.{say, decimal, whole}
use Rattle.ctext.specs.Text.{var, name₁, name₂, sep, expr_in}
use Rattle.typeset.specs.declared.pieces.Page.{Page}
use Rattle.typeset.specs.Page.{Put}
use Rattle.typeset.proofs.Setting.{put_then, put_cons, put_same}
use Rattle.phrases.specs.Shows.{name_of, Shows, ShowsLeaf}

-- ---- names

module _ {p r : Page} (m : ℕ) where
  -- z_equal(
  pub name_equal : m ≡ 20 → Put p (122 ∷ 95 ∷ 101 ∷ 113 ∷ 117 ∷ 97 ∷ 108 ∷ 40 ∷ []) r → Put p (name_of m) r
  unfolding name_of say
  name_equal e P = rw (eq-eqb _ _ e) P

  -- z_add(
  pub name_add : (m ≡ 20 → ⊥) → m ≡ 16 → Put p (122 ∷ 95 ∷ 97 ∷ 100 ∷ 100 ∷ 40 ∷ []) r → Put p (name_of m) r
  unfolding name_of say
  name_add n0 e P = rw (ne_eqb _ _ n0, eq-eqb _ _ e) P

  -- z_and(
  pub name_and : (m ≡ 20 → ⊥) → (m ≡ 16 → ⊥) → m ≡ 21 → Put p (122 ∷ 95 ∷ 97 ∷ 110 ∷ 100 ∷ 40 ∷ []) r → Put p (name_of m) r
  unfolding name_of say
  name_and n0 n1 e P = rw (ne_eqb _ _ n0, ne_eqb _ _ n1, eq-eqb _ _ e) P

  -- z_not(
  pub name_not : (m ≡ 20 → ⊥) → (m ≡ 16 → ⊥) → (m ≡ 21 → ⊥) → m ≡ 22 → Put p (122 ∷ 95 ∷ 110 ∷ 111 ∷ 116 ∷ 40 ∷ []) r → Put p (name_of m) r
  unfolding name_of say
  name_not n0 n1 n2 e P = rw (ne_eqb _ _ n0, ne_eqb _ _ n1, ne_eqb _ _ n2, eq-eqb _ _ e) P

  -- z_less(
  pub name_less : (m ≡ 20 → ⊥) → (m ≡ 16 → ⊥) → (m ≡ 21 → ⊥) → (m ≡ 22 → ⊥) → m ≡ 19 → Put p (122 ∷ 95 ∷ 108 ∷ 101 ∷ 115 ∷ 115 ∷ 40 ∷ []) r → Put p (name_of m) r
  unfolding name_of say
  name_less n0 n1 n2 n3 e P = rw (ne_eqb _ _ n0, ne_eqb _ _ n1, ne_eqb _ _ n2, ne_eqb _ _ n3, eq-eqb _ _ e) P

  -- z_sub(
  pub name_sub : (m ≡ 20 → ⊥) → (m ≡ 16 → ⊥) → (m ≡ 21 → ⊥) → (m ≡ 22 → ⊥) → (m ≡ 19 → ⊥) → m ≡ 17 → Put p (122 ∷ 95 ∷ 115 ∷ 117 ∷ 98 ∷ 40 ∷ []) r → Put p (name_of m) r
  unfolding name_of say
  name_sub n0 n1 n2 n3 n4 e P = rw (ne_eqb _ _ n0, ne_eqb _ _ n1, ne_eqb _ _ n2, ne_eqb _ _ n3, ne_eqb _ _ n4, eq-eqb _ _ e) P

  -- z_mul(
  pub name_mul : (m ≡ 20 → ⊥) → (m ≡ 16 → ⊥) → (m ≡ 21 → ⊥) → (m ≡ 22 → ⊥) → (m ≡ 19 → ⊥) → (m ≡ 17 → ⊥) → m ≡ 18 → Put p (122 ∷ 95 ∷ 109 ∷ 117 ∷ 108 ∷ 40 ∷ []) r → Put p (name_of m) r
  unfolding name_of say
  name_mul n0 n1 n2 n3 n4 n5 e P = rw (ne_eqb _ _ n0, ne_eqb _ _ n1, ne_eqb _ _ n2, ne_eqb _ _ n3, ne_eqb _ _ n4, ne_eqb _ _ n5, eq-eqb _ _ e) P

  -- z_neg(
  pub name_neg : (m ≡ 20 → ⊥) → (m ≡ 16 → ⊥) → (m ≡ 21 → ⊥) → (m ≡ 22 → ⊥) → (m ≡ 19 → ⊥) → (m ≡ 17 → ⊥) → (m ≡ 18 → ⊥) → Put p (122 ∷ 95 ∷ 110 ∷ 101 ∷ 103 ∷ 40 ∷ []) r → Put p (name_of m) r
  unfolding name_of say
  name_neg n0 n1 n2 n3 n4 n5 n6 P = rw (ne_eqb _ _ n0, ne_eqb _ _ n1, ne_eqb _ _ n2, ne_eqb _ _ n3, ne_eqb _ _ n4, ne_eqb _ _ n5, ne_eqb _ _ n6) P

-- they are those of the operators
name_one : (o : One) → name_of (mark₁ o) ≡ name₁ o
unfolding name_of
name_one not = refl
name_one neg = refl

-- of two operands
name_two : (o : Two) → name_of (mark₂ o) ≡ name₂ o
unfolding name_of
name_two add = refl
name_two sub = refl
name_two mul = refl
name_two less = refl
name_two equal = refl
name_two and = refl

-- ---- small pieces

-- a separator that ends the line
pub sep_far : {p r : Page} (n : ℕ) → n ≡ 0 → Put p (44 ∷ 10 ∷ []) r → Put p (sep n) r
unfolding say
sep_far n e P = rw e P

-- one that does not
pub sep_near : {p r : Page} (n : ℕ) → (n ≡ 0 → ⊥) → Put p (44 ∷ 32 ∷ []) r → Put p (sep n) r
unfolding say
sep_near zero z P = absurd (z refl)
sep_near (suc n) z P = P

-- a local
pub var_put : {p q r : Page} (i : ℕ) → Put p (120 ∷ []) q → Put q (decimal i) r → Put p (var i) r
unfolding say
var_put i A B = put_cons A B

-- ---- leaves

module _ {t : List ℕ} {i m : ℕ} {p : Page} where
  -- a local
  pub leaf_local : {q : Page} {v : ℕ} → m ≡ 5 → v ≡ get_or t (i + 1) 0 → Put p (var v) q
      → ShowsLeaf t i m p q (i + 2)
  leaf_local {q} {v} e s P = record {
    gives = λ d n w l. record {
      shown = λ f j h. rw ((local_here h (sym w ∙ e)).0, sym s) P;
      ends = λ f j h. sym (local_here h (sym w ∙ e)).1;
      forward = omega arith;
      kept = P.kept;
    };
    forward = omega arith;
    kept = P.kept;
  }

  -- z_num(<n>)
  pub leaf_whole : {q r s : Page} {w : ℕ} → m ≡ 1 → Put p (122 ∷ 95 ∷ 110 ∷ 117 ∷ 109 ∷ 40 ∷ []) q → w ≡ number_at 4 t (i + 1)
      → Put q (whole (unword w)) r → Put r (41 ∷ []) s
      → ShowsLeaf t i m p s (i + 5)
  unfolding say
  leaf_whole {w = w} e A v B C =
      let P = put_then (122 ∷ 95 ∷ 110 ∷ 117 ∷ 109 ∷ 40 ∷ []) _ A (put_then (whole (unword w)) _ B C) in
      record {
        gives = λ d n b l. record {
          shown = λ f j h. rw ((whole_here h (sym b ∙ e)).0, sym (v ∙ number_at_lem 4 t (i + 1))) P;
          ends = λ f j h. sym (whole_here h (sym b ∙ e)).1;
          forward = omega arith;
          kept = P.kept;
        };
        forward = omega arith;
        kept = P.kept;
      }

  -- z_loc(<l>)
  pub leaf_location : {q r s : Page} {w : ℕ} → m ≡ 2 → Put p (122 ∷ 95 ∷ 108 ∷ 111 ∷ 99 ∷ 40 ∷ []) q → w ≡ number_at 2 t (i + 1)
      → Put q (decimal w) r → Put r (41 ∷ []) s
      → ShowsLeaf t i m p s (i + 3)
  unfolding say
  leaf_location {w = w} e A v B C =
      let P = put_then (122 ∷ 95 ∷ 108 ∷ 111 ∷ 99 ∷ 40 ∷ []) _ A (put_then (decimal w) _ B C) in
      record {
        gives = λ d n b l. record {
          shown = λ f j h. rw ((location_here h (sym b ∙ e)).0, sym (v ∙ number_at_lem 2 t (i + 1))) P;
          ends = λ f j h. sym (location_here h (sym b ∙ e)).1;
          forward = omega arith;
          kept = P.kept;
        };
        forward = omega arith;
        kept = P.kept;
      }

  -- z_false()
  pub leaf_false : {q : Page} → m ≡ 3 → Put p (122 ∷ 95 ∷ 102 ∷ 97 ∷ 108 ∷ 115 ∷ 101 ∷ 40 ∷ 41 ∷ []) q
      → ShowsLeaf t i m p q (i + 1)
  unfolding say
  leaf_false e P = record {
    gives = λ d n b l. record {
      shown = λ f j h. rw (no_here h (sym b ∙ e)).0 P;
      ends = λ f j h. sym (no_here h (sym b ∙ e)).1;
      forward = omega arith;
      kept = P.kept;
    };
    forward = omega arith;
    kept = P.kept;
  }

  -- z_true(): the mark that is left
  pub leaf_true : {q : Page} → (m ≡ 5 → ⊥) → (m ≡ 1 → ⊥) → (m ≡ 2 → ⊥) → (m ≡ 3 → ⊥)
      → Put p (122 ∷ 95 ∷ 116 ∷ 114 ∷ 117 ∷ 101 ∷ 40 ∷ 41 ∷ []) q
      → ShowsLeaf t i m p q (i + 1)
  unfolding say
  leaf_true {q} a b c d P = record {
    gives = λ k n e l. record {
      shown = λ f j h. rw (yes_here h (sym e ∙ last f h e l)).0 P;
      ends = λ f j h. sym (yes_here h (sym e ∙ last f h e l)).1;
      forward = omega arith;
      kept = P.kept;
    };
    forward = omega arith;
    kept = P.kept;
  }
    where
      last : {k : ℕ} (f : Expr) {j : ℕ} → ExprAt t i k f j → m ≡ get_or t i 0 → m < 16 → m ≡ 4
      last (constant (Whole z)) h e l = absurd (b (e ∙ first h.stands))
      last (constant (Location z)) h e l = absurd (c (e ∙ first h.stands))
      last (constant (Truth false)) h e l = absurd (d (e ∙ first h.stands))
      last (constant (Truth true)) h e l = e ∙ first h.stands
      last (local z) h e l = absurd (a (e ∙ first h.stands))
      last (one not z) h e l = absurd (omega (arith, e, l, first h.stands))
      last (one neg z) h e l = absurd (omega (arith, e, l, first h.stands))
      last (two add y z) h e l = absurd (omega (arith, e, l, first h.stands))
      last (two sub y z) h e l = absurd (omega (arith, e, l, first h.stands))
      last (two mul y z) h e l = absurd (omega (arith, e, l, first h.stands))
      last (two less y z) h e l = absurd (omega (arith, e, l, first h.stands))
      last (two equal y z) h e l = absurd (omega (arith, e, l, first h.stands))
      last (two and y z) h e l = absurd (omega (arith, e, l, first h.stands))

-- ---- operators

module _ {t : List ℕ} {i d n : ℕ} {p : Page} where
  -- nothing is asked where no expression can stand
  none : ((e : Expr) (j : ℕ) → ExprAt t i d e j → ⊥) → Shows t i d n p p i
  none f = record { shown = λ e j h. absurd (f e j h); ends = λ e j h. absurd (f e j h); forward = omega arith; kept = refl }

  -- no depth is left
  pub show_deep : d ≡ 0 → Shows t i d n p p i
  show_deep z = none (λ e j h. omega (arith, z, expr_deep h))

  -- the table ends
  pub show_past : length t ≤ i → Shows t i d n p p i
  show_past z = none (λ e j h. omega (arith, z, (expr_inside h).0, (expr_inside h).1))

  -- a leaf
  pub show_leaf : {r : Page} {nr : ℕ} → get_or t i 0 < 16 → ShowsLeaf t i (get_or t i 0) p r nr → Shows t i d n p r nr
  show_leaf l S = S.gives d n refl l

  -- one operand
  pub show_one : {q r : Page} {k : ℕ} {s : Page} {ns : ℕ} → 21 < get_or t i 0 → k ≡ n - 1 → Put p (name_of (get_or t i 0)) q
      → Shows t (i + 1) (d - 1) k q s ns → Put s (41 ∷ []) r
      → Shows t i d n p r ns
  unfolding say
  show_one {q} {r} {k} {s} {ns} l v A S C = record {
    shown = shown;
    ends = ends;
    forward = omega (arith, S.forward);
    kept = C.kept ∙ S.kept ∙ A.kept;
  }
    where
      inner : (o' : One) (a : Expr) {j : ℕ} → ExprAt t i d (one o' a) j → ExprAt t (i + 1) (d - 1) a j
      inner o' a h = record { stands = others h.stands; fits = (omega (arith, h.fits.0), h.fits.1) }

      big₁ : (f : One) → 21 < mark₁ f
      big₁ not = omega arith
      big₁ neg = omega arith

      small₂ : (f : Two) → mark₂ f ≤ 21
      small₂ add = omega arith
      small₂ sub = omega arith
      small₂ mul = omega arith
      small₂ less = omega arith
      small₂ equal = omega arith
      small₂ and = omega arith

      shown : (e : Expr) (j : ℕ) → ExprAt t i d e j → Put p (expr_in n e) r
      shown (constant (Whole z)) j h = absurd (omega (arith, l, first h.stands))
      shown (constant (Location z)) j h = absurd (omega (arith, l, first h.stands))
      shown (constant (Truth false)) j h = absurd (omega (arith, l, first h.stands))
      shown (constant (Truth true)) j h = absurd (omega (arith, l, first h.stands))
      shown (local z) j h = absurd (omega (arith, l, first h.stands))
      shown (one f a) j h =
          let name : name_of (get_or t i 0) ≡ name₁ f = ap name_of (first h.stands) ∙ name_one f in
          put_then (name₁ f) _ (put_same name A) (put_then (expr_in (n - 1) a) _ (rw v at (S.shown a j (inner f a h))) C)
      shown (two f a b) j h = absurd (omega (arith, l, first h.stands, small₂ f))

      ends : (e : Expr) (j : ℕ) → ExprAt t i d e j → ns ≡ j
      ends (constant (Whole z)) j h = absurd (omega (arith, l, first h.stands))
      ends (constant (Location z)) j h = absurd (omega (arith, l, first h.stands))
      ends (constant (Truth false)) j h = absurd (omega (arith, l, first h.stands))
      ends (constant (Truth true)) j h = absurd (omega (arith, l, first h.stands))
      ends (local z) j h = absurd (omega (arith, l, first h.stands))
      ends (one f a) j h = S.ends a j (inner f a h)
      ends (two f a b) j h = absurd (omega (arith, l, first h.stands, small₂ f))

  -- two operands
  pub show_two : {q u r : Page} {k : ℕ} {s v : Page} {ns nv : ℕ} → 16 ≤ get_or t i 0 → get_or t i 0 ≤ 21 → k ≡ n - 1
      → Put p (name_of (get_or t i 0)) q
      → Shows t (i + 1) (d - 1) k q s ns → Put s (sep n) u → Shows t ns (d - 1) k u v nv → Put v (41 ∷ []) r
      → Shows t i d n p r nv
  unfolding say
  show_two {q} {u} {r} {k} {s} {v} {ns} {nv} l m w A S B U C = record {
    shown = shown;
    ends = ends;
    forward = omega (arith, S.forward, U.forward);
    kept = C.kept ∙ U.kept ∙ B.kept ∙ S.kept ∙ A.kept;
  }
    where
      big₁ : (f : One) → 21 < mark₁ f
      big₁ not = omega arith
      big₁ neg = omega arith

      left : (f : Two) (a b : Expr) {j : ℕ} → ExprAt t i d (two f a b) j → ExprAt t (i + 1) (d - 1) a (i + 1 + length (E.expr a))
      left f a b h =
          record { stands = front (E.expr a) (E.expr b) (others h.stands); fits = (omega (arith, h.fits.0), h.fits.1.0) }

      right : (f : Two) (a b : Expr) {j : ℕ} → ExprAt t i d (two f a b) j → ExprAt t ns (d - 1) b j
      right f a b {j} h =
          subst (λ k. ExprAt t k (d - 1) b j) (sym (S.ends a _ (left f a b h)))
          (record { stands = back (E.expr a) (E.expr b) (others h.stands); fits = (omega (arith, h.fits.0), h.fits.1.1) })

      shown : (e : Expr) (j : ℕ) → ExprAt t i d e j → Put p (expr_in n e) r
      shown (constant (Whole z)) j h = absurd (omega (arith, l, first h.stands))
      shown (constant (Location z)) j h = absurd (omega (arith, l, first h.stands))
      shown (constant (Truth false)) j h = absurd (omega (arith, l, first h.stands))
      shown (constant (Truth true)) j h = absurd (omega (arith, l, first h.stands))
      shown (local z) j h = absurd (omega (arith, l, first h.stands))
      shown (one f a) j h = absurd (omega (arith, m, first h.stands, big₁ f))
      shown (two f a b) j h =
          let name : name_of (get_or t i 0) ≡ name₂ f = ap name_of (first h.stands) ∙ name_two f in
          put_then (name₂ f) _ (put_same name A)
          (put_then (expr_in (n - 1) a) _ (rw w at (S.shown a _ (left f a b h)))
          (put_then (sep n) _ B
          (put_then (expr_in (n - 1) b) _ (rw w at (U.shown b j (right f a b h))) C)))

      ends : (e : Expr) (j : ℕ) → ExprAt t i d e j → nv ≡ j
      ends (constant (Whole z)) j h = absurd (omega (arith, l, first h.stands))
      ends (constant (Location z)) j h = absurd (omega (arith, l, first h.stands))
      ends (constant (Truth false)) j h = absurd (omega (arith, l, first h.stands))
      ends (constant (Truth true)) j h = absurd (omega (arith, l, first h.stands))
      ends (local z) j h = absurd (omega (arith, l, first h.stands))
      ends (one f a) j h = absurd (omega (arith, m, first h.stands, big₁ f))
      ends (two f a b) j h = U.ends b j (right f a b h)

-- one law for each way
pub ruleset leaf_ways = (
  name_equal,
  name_add,
  name_and,
  name_not,
  name_less,
  name_sub,
  name_mul,
  name_neg,
  sep_far,
  sep_near,
  var_put,
  leaf_local,
  leaf_whole,
  leaf_location,
  leaf_false,
  leaf_true,
  show_deep,
  show_past,
  show_leaf,
  show_one,
  show_two,
)

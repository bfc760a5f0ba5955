-- What expression's text stands at a position, by the bytes there.
use Rattle.std.specs.Prelude.{ℕ, zero, suc, ◌+◌, ◌-◌, ◌^◌, ◌≤◌, ◌<◌, ◌≡◌, refl, List, [], ◌∷◌, ◌++◌, true, false, length, get_or, drop, ℤ, eqb}
use Rattle.std.proofs.Common.{arith, sym, ap, ap₂, subst, ◌∙◌, get_or-drop}
use Rattle.std.proofs.Math.ListN.{get_or-append}
use Rattle.std.specs.Int.Signed.{mag}
use Rattle.value.specs.Maybe.{pick}
use Rattle.value.specs.Values.{One, not, neg, Two, add, sub, mul, less, equal, and}
use Rattle.value.specs.Marks.{Mark, whole_mark, location_mark, no_mark, yes_mark, local_mark, one_mark, two_mark, no_expr, marks, mark₁, mark₂}
use Rattle.value.proofs.Laws.Marks.{mark₁_marks, mark₂_marks}
use Rattle.value.specs.declared.Value.TheVariants.{Whole, Location, Truth}
use Rattle.format.specs.Syntax.{Expr, constant, local, one, two}
use Rattle.format.proofs.Laws.Fits.{ExprFits}
use Rattle.format.proofs.Laws.Exprs.{depth_pos}
use Rattle.format.proofs.Laws.Stands.{Stands, first, others, front, back}
use Rattle.ctext.specs.Pieces.{say, decimal, whole}
use Rattle.ctext.specs.Text.{name₁, name₂, sep, expr_in}
use Rattle.ctext.proofs.Laws.Numbers.{Stops, stops_at, number_same, whole_same}

-- ---- pieces

-- the same position, written in another way
pub shift : {t : List ℕ} {i k : ℕ} {bs : List ℕ} {j : ℕ} → Stands t i bs j → i ≡ k → Stands t k bs j
shift {t} {bs = bs} {j} s e = subst (λ i. Stands t i bs j) e s

-- what stands behind the first n bytes
pub behind : {x : List ℕ} {i : ℕ} (a b : List ℕ) (n : ℕ) {j : ℕ} → length a ≡ n → Stands x i (a ++ b) j → Stands x (i + n) b j
behind {i = i} a b n e s = shift (back a b s) (ap (λ n. i + n) e)

-- each byte of what stands there
pub byte_in : {x : List ℕ} {i : ℕ} {bs : List ℕ} {j : ℕ} (k : ℕ) → Stands x i bs j → k < length bs → get_or x (i + k) 0 ≡ get_or bs k 0
byte_in {x} {i} {bs} {j} k s l = sym (get_or-drop i x k 0) ∙ ap (λ l. get_or l k 0) s.same ∙ get_or-append bs (drop j x) 0 k l

-- ---- which expression

-- the mark byte of what begins with these bytes: the third and the fourth
abbrev pub name_key : ℕ → ℕ → ℕ
name_key b c =
    pick (eqb b 110) (pick (eqb c 117) 0x01 (pick (eqb c 111) 0x16 0x17))
    (pick (eqb b 108) (pick (eqb c 111) 0x02 0x13)
    (pick (eqb b 102) 0x03
    (pick (eqb b 116) 0x04
    (pick (eqb b 97) (pick (eqb c 100) 0x10 0x15)
    (pick (eqb b 115) 0x11
    (pick (eqb b 109) 0x12 0x14))))))

-- the first decides alone whether it is a local
abbrev pub key_of : ℕ → ℕ → ℕ → ℕ
key_of a b c = pick (eqb a 120) 0x05 (name_key b c)

-- the mark byte of the expression whose text stands at i
unfoldable pub key_at : List ℕ → ℕ → ℕ
key_at x i = key_of (get_or x i 0) (get_or x (i + 2) 0) (get_or x (i + 3) 0)

-- how long a name is, with its parenthesis: by the mark byte
abbrev pub name_length : ℕ → ℕ
name_length m = pick (eqb m 0x13) 7 (pick (eqb m 0x14) 8 6)

-- ---- what stands there

-- the text of an expression at most d deep, of which n levels keep to their line; no digit follows
pub record ExprText (x : List ℕ) (i d n : ℕ) (e : Expr) (j : ℕ) : Type 0 where
  pub stands : Stands x i (expr_in n e) j
  pub fits : ExprFits d e
  pub stops : Stops x j

module _ (x : List ℕ) (i d n : ℕ) (e : Expr) (j : ℕ) where
  -- z_num(<n>)
  pub record WholeIn : Type 0 where
    pub z : ℤ
    pub is : e ≡ constant (Whole z)
    pub k : ℕ
    pub number : Stands x (i + 6) (whole z) k
    pub stops : Stops x k
    pub fits : mag z < 2 ^ 31
    pub ends : j ≡ k + 1

  -- z_loc(<l>)
  pub record LocationIn : Type 0 where
    pub l : ℕ
    pub is : e ≡ constant (Location l)
    pub k : ℕ
    pub number : Stands x (i + 6) (decimal l) k
    pub stops : Stops x k
    pub fits : l < 2 ^ 16
    pub ends : j ≡ k + 1

  -- x<i>
  pub record LocalIn : Type 0 where
    pub v : ℕ
    pub is : e ≡ local v
    pub number : Stands x (i + 1) (decimal v) j
    pub stops : Stops x j
    pub fits : v < 2 ^ 8

  -- an operator of one operand
  pub record OneIn (o : One) : Type 0 where
    pub a : Expr
    pub is : e ≡ one o a
    pub mark : key_at x i ≡ mark₁ o
    pub k : ℕ
    pub inner : ExprText x (i + name_length (key_at x i)) (d - 1) (n - 1) a k
    pub ends : j ≡ k + 1

  -- of two
  pub record TwoIn (o : Two) : Type 0 where
    pub a : Expr
    pub b : Expr
    pub is : e ≡ two o a b
    pub mark : key_at x i ≡ mark₂ o
    pub k : ℕ
    pub l : ℕ
    pub left : ExprText x (i + name_length (key_at x i)) (d - 1) (n - 1) a k
    pub right : ExprText x (k + 2) (d - 1) (n - 1) b l
    pub ends : j ≡ l + 1

  -- by the mark
  abbrev pub ByName : Mark → Type 0
  ByName whole_mark = WholeIn
  ByName location_mark = LocationIn
  ByName no_mark = (e ≡ constant (Truth false)) × (j ≡ i + 9)
  ByName yes_mark = (e ≡ constant (Truth true)) × (j ≡ i + 8)
  ByName local_mark = LocalIn
  ByName (one_mark o) = OneIn o
  ByName (two_mark o) = TwoIn o
  ByName no_expr = ⊥

-- ---- it is that of the bytes there

-- the bytes that tell it
tells : {x : List ℕ} {i : ℕ} {bs : List ℕ} {j : ℕ} → Stands x i bs j → 4 ≤ length bs → key_at x i ≡ key_of (get_or bs 0 0) (get_or bs 2 0) (get_or bs 3 0)
unfolding key_at
tells {x} {i} s l =
    let none : i + 0 ≡ i = omega arith in
    let a : get_or x i 0 ≡ _ = rw none at (byte_in 0 s (omega arith)) in
    rw (a, byte_in 2 s (omega arith), byte_in 3 s (omega arith))

-- a local, whatever follows
local_key : (x : List ℕ) (i : ℕ) → get_or x i 0 ≡ 120 → key_at x i ≡ 0x05
unfolding key_at
local_key x i e = rw e

-- a name of six letters or more, and how long it is
one_name : {x : List ℕ} {i : ℕ} (o : One) (r : List ℕ) {j : ℕ} → Stands x i (name₁ o ++ r) j
    → (key_at x i ≡ mark₁ o) × Stands x (i + name_length (mark₁ o)) r j
unfolding say
one_name not r s = (tells s (omega arith), behind (say "z_not(") r 6 refl s)
one_name neg r s = (tells s (omega arith), behind (say "z_neg(") r 6 refl s)

-- so with two operands
two_name : {x : List ℕ} {i : ℕ} (o : Two) (r : List ℕ) {j : ℕ} → Stands x i (name₂ o ++ r) j
    → (key_at x i ≡ mark₂ o) × Stands x (i + name_length (mark₂ o)) r j
unfolding say
two_name add r s = (tells s (omega arith), behind (say "z_add(") r 6 refl s)
two_name sub r s = (tells s (omega arith), behind (say "z_sub(") r 6 refl s)
two_name mul r s = (tells s (omega arith), behind (say "z_mul(") r 6 refl s)
two_name less r s = (tells s (omega arith), behind (say "z_less(") r 7 refl s)
two_name equal r s = (tells s (omega arith), behind (say "z_equal(") r 8 refl s)
two_name and r s = (tells s (omega arith), behind (say "z_and(") r 6 refl s)

-- a separator has two bytes, the first a comma
pub sep_bytes : (n : ℕ) → (c : ℕ) × (sep n ≡ 44 ∷ c ∷ [])
unfolding say
sep_bytes zero = (10, refl)
sep_bytes (suc n) = (32, refl)

-- the expression whose text stands there is that of the bytes there
by_name : {x : List ℕ} {i d n : ℕ} (e : Expr) {j : ℕ} → ExprText x i d n e j → ByName x i d n e j (get_or marks (key_at x i) no_expr)
unfolding say
by_name {x} {i} (constant (Whole z)) {j} h =
    let key : key_at x i ≡ 0x01 = tells h.stands (omega arith) in
    let rest : Stands x (i + 6) (whole z ++ say ")") j = behind (say "z_num(") (whole z ++ say ")") 6 refl h.stands in
    let close : Stands x (i + 6 + length (whole z)) (say ")") j = back (whole z) (say ")") rest in
    rw key
    (record {
      z = z;
      is = refl;
      k = _;
      number = front (whole z) (say ")") rest;
      stops = stops_at 41 (first close) (omega arith);
      fits = h.fits.1;
      ends = close.ends;
    })
by_name {x} {i} (constant (Location l)) {j} h =
    let key : key_at x i ≡ 0x02 = tells h.stands (omega arith) in
    let rest : Stands x (i + 6) (decimal l ++ say ")") j = behind (say "z_loc(") (decimal l ++ say ")") 6 refl h.stands in
    let close : Stands x (i + 6 + length (decimal l)) (say ")") j = back (decimal l) (say ")") rest in
    rw key
    (record {
      l = l;
      is = refl;
      k = _;
      number = front (decimal l) (say ")") rest;
      stops = stops_at 41 (first close) (omega arith);
      fits = h.fits.1;
      ends = close.ends;
    })
by_name {x} {i} (constant (Truth false)) h = let key : key_at x i ≡ 0x03 = tells h.stands (omega arith) in rw key (refl, h.stands.ends)
by_name {x} {i} (constant (Truth true)) h = let key : key_at x i ≡ 0x04 = tells h.stands (omega arith) in rw key (refl, h.stands.ends)
by_name {x} {i} (local v) {j} h =
    let key : key_at x i ≡ 0x05 = local_key x i (first h.stands) in
    rw key (record { v = v; is = refl; number = others h.stands; stops = h.stops; fits = h.fits.1 })
by_name {x} {i} {d} {n} (one o a) {j} h =
    let named = one_name o (expr_in (n - 1) a ++ say ")") h.stands in
    let close : Stands x (i + name_length (mark₁ o) + length (expr_in (n - 1) a)) (say ")") j = back (expr_in (n - 1) a) (say ")") named.1 in
    rw (named.0, mark₁_marks o)
    (record {
      a = a;
      is = refl;
      mark = named.0;
      k = i + name_length (mark₁ o) + length (expr_in (n - 1) a);
      inner = rw named.0 (record {
        stands = front (expr_in (n - 1) a) (say ")") named.1;
        fits = (omega (arith, h.fits.0), h.fits.1);
        stops = stops_at 41 (first close) (omega arith);
      });
      ends = close.ends;
    })
by_name {x} {i} {d} {n} (two o a b) {j} h =
    let named = two_name o (expr_in (n - 1) a ++ (sep n ++ (expr_in (n - 1) b ++ say ")"))) h.stands in
    let k : ℕ = i + name_length (mark₂ o) + length (expr_in (n - 1) a) in
    let between : Stands x k (sep n ++ (expr_in (n - 1) b ++ say ")")) j = back (expr_in (n - 1) a) (sep n ++ (expr_in (n - 1) b ++ say ")")) named.1 in
    let comma : Stands x k (44 ∷ (sep_bytes n).0 ∷ (expr_in (n - 1) b ++ say ")")) j = rw (sep_bytes n).1 at between in
    let rest : Stands x (k + 2) (expr_in (n - 1) b ++ say ")") j = shift (others (others comma)) (omega arith) in
    let close : Stands x (k + 2 + length (expr_in (n - 1) b)) (say ")") j = back (expr_in (n - 1) b) (say ")") rest in
    rw (named.0, mark₂_marks o)
    (record {
      a = a;
      b = b;
      is = refl;
      mark = named.0;
      k = k;
      l = _;
      left = rw named.0 (record {
        stands = front (expr_in (n - 1) a) (sep n ++ (expr_in (n - 1) b ++ say ")")) named.1;
        fits = (omega (arith, h.fits.0), h.fits.1.0);
        stops = stops_at 44 (first comma) (omega arith);
      });
      right = record {
        stands = front (expr_in (n - 1) b) (say ")") rest;
        fits = (omega (arith, h.fits.0), h.fits.1.1);
        stops = stops_at 41 (first close) (omega arith);
      };
      ends = close.ends;
    })

module _ {x : List ℕ} {i d n : ℕ} {e : Expr} {j : ℕ} (h : ExprText x i d n e j) where
  -- by the mark
  mark_in : {m : Mark} → get_or marks (key_at x i) no_expr ≡ m → ByName x i d n e j m
  mark_in q = subst (ByName x i d n e j) q (by_name e h)

  -- by its byte
  byte_mark : {b : ℕ} → key_at x i ≡ b → ByName x i d n e j (get_or marks b no_expr)
  byte_mark q = mark_in (ap (λ b. get_or marks b no_expr) q)

  -- it is at least a leaf
  pub expr_deep : 0 < d
  expr_deep = omega (arith, depth_pos e, h.fits.0)

  -- z_num
  pub whole_in : key_at x i ≡ 0x01 → WholeIn x i d n e j
  whole_in q = byte_mark q

  -- z_loc
  pub location_in : key_at x i ≡ 0x02 → LocationIn x i d n e j
  location_in q = byte_mark q

  -- z_false
  pub no_in : key_at x i ≡ 0x03 → (e ≡ constant (Truth false)) × (j ≡ i + 9)
  no_in q = byte_mark q

  -- z_true
  pub yes_in : key_at x i ≡ 0x04 → (e ≡ constant (Truth true)) × (j ≡ i + 8)
  yes_in q = byte_mark q

  -- a local
  pub local_in : key_at x i ≡ 0x05 → LocalIn x i d n e j
  local_in q = byte_mark q

  -- an operator of one operand
  pub one_in : {o : One} → get_or marks (key_at x i) no_expr ≡ one_mark o → OneIn x i d n e j o
  one_in q = mark_in q

  -- of two
  pub two_in : {o : Two} → get_or marks (key_at x i) no_expr ≡ two_mark o → TwoIn x i d n e j o
  two_in q = mark_in q

  -- no other
  pub none_in : get_or marks (key_at x i) no_expr ≡ no_expr → ⊥
  none_in q = mark_in q

-- ---- one expression stands there

-- of at most f levels
pub record OneExpr (x : List ℕ) (f : ℕ) : Type 0 where
  pub same : {i d c n m : ℕ} {a b : Expr} {j k : ℕ} → d ≤ f → ExprText x i d n a j → ExprText x i c m b k → (a ≡ b) × (j ≡ k)

-- from another position on
pub moved : {x : List ℕ} {i k d n : ℕ} {e : Expr} {j : ℕ} → ExprText x i d n e j → i ≡ k → ExprText x k d n e j
moved {x} {d = d} {n} {e} {j} h q = subst (λ i. ExprText x i d n e j) q h

module _ {x : List ℕ} {f : ℕ} (less : OneExpr x f) (i d c n m : ℕ) {a b : Expr} {j k : ℕ} (l : d ≤ suc f) where
  -- by their marks
  by_marks : (t : Mark) → ByName x i d n a j t → ByName x i c m b k t → (a ≡ b) × (j ≡ k)
  by_marks whole_mark p q =
      let one = whole_same p.z q.z p.number q.number p.stops q.stops p.fits q.fits in
      (p.is ∙ ap (λ z. constant (Whole z)) one.0 ∙ sym q.is, omega (arith, one.1, p.ends, q.ends))
  by_marks location_mark p q =
      let one = number_same p.l q.l p.number q.number p.stops q.stops (omega (arith, p.fits)) (omega (arith, q.fits)) in
      (p.is ∙ ap (λ l. constant (Location l)) one.0 ∙ sym q.is, omega (arith, one.1, p.ends, q.ends))
  by_marks no_mark p q = (p.0 ∙ sym q.0, p.1 ∙ sym q.1)
  by_marks yes_mark p q = (p.0 ∙ sym q.0, p.1 ∙ sym q.1)
  by_marks local_mark p q =
      let one = number_same p.v q.v p.number q.number p.stops q.stops (omega (arith, p.fits)) (omega (arith, q.fits)) in
      (p.is ∙ ap local one.0 ∙ sym q.is, one.1)
  by_marks (one_mark o) p q =
      let inner = less.same (omega arith) p.inner q.inner in
      (p.is ∙ ap (one o) inner.0 ∙ sym q.is, omega (arith, inner.1, p.ends, q.ends))
  by_marks (two_mark o) p q =
      let left = less.same (omega arith) p.left q.left in
      let right = less.same (omega arith) p.right (moved q.right (ap (λ k. k + 2) (sym left.1))) in
      (p.is ∙ ap₂ (two o) left.0 right.0 ∙ sym q.is, omega (arith, right.1, p.ends, q.ends))
  by_marks no_expr p q = absurd p

-- by fewer levels
one_expr : (x : List ℕ) (f : ℕ) → OneExpr x f
one_expr x zero = record { same = λ l h g. absurd (omega (arith, l, expr_deep h)) }
one_expr x (suc f) = record {
  same = λ {i} {d} {c} {n} {m} {a} {b} l h g. by_marks (one_expr x f) i d c n m l (get_or marks (key_at x i) no_expr) (by_name a h) (by_name b g);
}

-- one expression's text stands there
pub expr_same_lem : {x : List ℕ} {i d c n m : ℕ} {a b : Expr} {j k : ℕ} → ExprText x i d n a j → ExprText x i c m b k → (a ≡ b) × (j ≡ k)
expr_same_lem {x} {d = d} h g = (one_expr x d).same (omega arith) h g

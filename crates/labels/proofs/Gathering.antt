-- One law for each way through the gatherer of variables.
use Prim.Native.Nat.{ℕ, zero, suc, ◌+◌, ◌*◌, ◌-◌, ◌/◌, ◌%◌, ◌^◌, ◌≤◌, ◌<◌}
use native.Mathlib.Omega.{arith}
use native.Mathlib.Nat.{pow-succ', div-eq_of_lt}
use lib.Pow.{pow_mono, pow-lt}
use mathlib.Core.Path.{◌≡◌, refl, sym, ap, ap₂, subst, ◌∙◌}
use mathlib.Core.List.{List, []}
use mathlib.Core.Bool.{Bool, true, false}
use mathlib.Core.Logic.{◌⊎◌, inl, inr}
use lib.ListN.{length, get_or}
use lib.Bits.{bit_or}
use lib.Count.{ones, ones_step, ones-le}
use lib.Dec.{eqb, ltb}
use borrow.Author.Tests.{eqb-true, eqb-false, eq-eqb, ne_eqb, le-ltb}
use Rattle.value.specs.Maybe.{either}
use Rattle.value.specs.Values.{One, not, neg, Two, add, sub, mul, less, equal, and}
use Rattle.value.specs.Marks.{mark₁, mark₂}
use Rattle.basics.specs.Columns.{operands_of, payload_of}
use Rattle.basics.specs.BitSets.{bit, bits}
use Rattle.basics.specs.Laws.BitSets.{half, bit_zero, bit_pow, bit_shift, bits_none, bits_or}
use Rattle.value.specs.declared.Value.TheVariants.{Whole, Location, Truth}
use Rattle.value.proofs.Laws.Tests.{by_test, either_false}
use Rattle.format.specs.Syntax.{Expr, constant, local, one, two}
use Rattle.format.specs.Encode.{expr}
use Rattle.format.specs.Variables.{mentioned, mentions, variables}
use Rattle.labels.specs.Walks.{arity, Only, Gathers, GathersLeaf, GathersMore, GathersEach, Gathering, CountsSet}
use Rattle.format.proofs.Laws.Stands.{first, others, front, back}
use Rattle.format.proofs.Laws.ExprGrammar.{ExprAt, MoreAt, exprs_none_lem, exprs_more, expr_inside, expr_deep}
use Rattle.format.specs.Decode.{max_depth}
use Rattle.format.specs.Rules.{max_locals}
use Rattle.labels.specs.declared.variables.Gathered.{Gathered}

-- ---- one variable

-- a variable below 16
pub only_low : {x : ℕ} → x < max_locals → Only x (1 * 2 ^ x % 65536)
unfolding bits
only_low {x} h =
    let small : 2 ^ x < 2 ^ 16 = pow-lt {i = x} {j = 16} h in
    let one : 1 * 2 ^ x % 65536 ≡ 2 ^ x = omega arith in
    record { is = λ y k. rw one (bit_pow x y ∙ turned x y) }
  where
    turned : (x y : ℕ) → eqb x y ≡ eqb y x
    turned x y = by_test (eqb y x) (λ e. eq-eqb x y (sym (eqb-true y x e)) ∙ sym e) (λ e. ne_eqb x y (λ q. eqb-false y x e (sym q)) ∙ sym e)

-- no other is in the set
pub only_high : {x : ℕ} → max_locals ≤ x → Only x 0
unfolding bits
only_high {x} h = record { is = λ y k. bit_zero y ∙ sym (ne_eqb y x (λ e. omega arith)) }

pub ruleset only_ways = (only_low, only_high)

-- ---- one of a set

-- a variable below 16
pub has_low : (s x : ℕ) → x < max_locals → eqb (s / 2 ^ x % 2) 1 ≡ bits s x
unfolding bits
has_low s x h = sym (bit_shift s x)

-- no other
pub has_high : (s x : ℕ) → s < 65536 → max_locals ≤ x → ltb x max_locals ≡ bits s x
unfolding bits
has_high s x f h =
    let most : 2 ^ 16 ≤ 2 ^ x = pow_mono h in
    let none : s / 2 ^ x ≡ 0 = div-eq_of_lt (omega arith) in
    le-ltb x max_locals h ∙ sym (rw (bit_shift s x, none))

pub ruleset has_ways = (has_low, has_high)

-- ---- how many

-- a set of variables from x on has as many bits
ones_count : (k s x : ℕ) (es : List Expr) → s < 2 ^ k → ((y : ℕ) → y < k → bit s y ≡ mentions (x + y) es) → ones s ≡ length (variables x k es)
unfolding ones
ones_count zero s x es l h = let none : s ≡ 0 = omega arith in ap ones none
ones_count (suc k) s x es l h =
    let more : 2 ^ suc k ≡ 2 * 2 ^ k = pow-succ' 2 k in
    let rest : ones (s / 2) ≡ length (variables (suc x) k es) =
    ones_count k (s / 2) (suc x) es (omega arith) (λ y q. h (suc y) (omega arith) ∙ ap (λ (z : ℕ). mentions z es) (omega arith))
    in
    let here : bit s 0 ≡ mentions x es = h 0 (omega arith) ∙ ap (λ (z : ℕ). mentions z es) (omega arith) in
    ones_step s ∙ half s
    (λ q. let off : mentions x es ≡ false = sym here ∙ rw q in rw (q, off) (omega (arith, rest)))
    (λ q. let on : mentions x es ≡ true = sym here ∙ rw q in rw (q, on) (omega (arith, rest)))

-- there are at most 16
pub ones_few : (s : ℕ) → s < 65536 → ones s < 18446744073709551616
ones_few s f = omega (arith, ones-le 16 s f)

-- the count of ones
pub counts_ones : (s : ℕ) {r : ℕ} → s < 65536 → r ≡ ones s → CountsSet s r
unfolding bits
counts_ones s f e = rw e (record {
  few = ones-le 16 s f;
  counts = λ es h. ones_count max_locals s 0 es f (λ y q. h y q ∙ ap (λ (z : ℕ). mentions z es) (omega arith));
})

pub ruleset count_set_ways = (counts_ones)

-- ---- expressions by their marks

module _ {t : List ℕ} {i d j : ℕ} where
  -- the operands that the table of marks gives are those of the expression
  operands_are : (e : Expr) → ExprAt t i d e j → operands_of (get_or t i 0) ≡ arity e
  operands_are (constant (Whole z)) h = rw (first h.stands)
  operands_are (constant (Location l)) h = rw (first h.stands)
  operands_are (constant (Truth true)) h = rw (first h.stands)
  operands_are (constant (Truth false)) h = rw (first h.stands)
  operands_are (local x) h = rw (first h.stands)
  operands_are (one o a) h = ap operands_of (first h.stands) ∙ one_operand o
    where
      one_operand : (o : One) → operands_of (mark₁ o) ≡ 1
      one_operand not = refl
      one_operand neg = refl
  operands_are (two o a b) h = ap operands_of (first h.stands) ∙ two_operands o
    where
      two_operands : (o : Two) → operands_of (mark₂ o) ≡ 2
      two_operands add = refl
      two_operands sub = refl
      two_operands mul = refl
      two_operands less = refl
      two_operands equal = refl
      two_operands and = refl

  -- a leaf ends behind its payload
  leaf_ends : (e : Expr) → ExprAt t i d e j → arity e ≡ 0 → i + 1 + payload_of (get_or t i 0) ≡ j
  leaf_ends (constant (Whole z)) h k = rw (first h.stands) (omega (arith, h.stands.ends))
  leaf_ends (constant (Location l)) h k = rw (first h.stands) (omega (arith, h.stands.ends))
  leaf_ends (constant (Truth true)) h k = rw (first h.stands) (omega (arith, h.stands.ends))
  leaf_ends (constant (Truth false)) h k = rw (first h.stands) (omega (arith, h.stands.ends))
  leaf_ends (local x) h k = rw (first h.stands) (omega (arith, h.stands.ends))
  leaf_ends (one o a) h k = absurd (omega arith)
  leaf_ends (two o a b) h k = absurd (omega arith)

-- ---- leaves

-- the set and the end
abbrev pub gathered : ℕ → ℕ → Gathered
gathered s j = record { set = s; next = j }

module _ {t : List ℕ} {i k n : ℕ} (payload : k ≡ payload_of (get_or t i 0)) (wide : n ≡ k) where
  -- it ends behind its payload
  ends_behind : (e : Expr) (d j : ℕ) → ExprAt t i d e j → arity e ≡ 0 → i + 1 + n ≡ j
  ends_behind e d j h none = ap (λ (x : ℕ). i + 1 + x) (wide ∙ payload) ∙ leaf_ends e h none

  -- "05 + 1 byte: local variable"
  pub leaf_local : {s : ℕ} → get_or t i 0 ≡ 0x05 → Only (get_or t (i + 1) 0) s → GathersLeaf t i (gathered s (i + 1 + n))
  leaf_local {s} q f = record { set = set; ends = ends_behind }
    where
      set : (e : Expr) (d j : ℕ) → ExprAt t i d e j → arity e ≡ 0 → (x : ℕ) → x < max_locals → bits s x ≡ mentioned x e
      set (constant (Whole z)) d j h k = absurd (omega (arith, first h.stands))
      set (constant (Location l)) d j h k = absurd (omega (arith, first h.stands))
      set (constant (Truth true)) d j h k = absurd (omega (arith, first h.stands))
      set (constant (Truth false)) d j h k = absurd (omega (arith, first h.stands))
      set (local y) d j h k = λ x l. f.is x l ∙ ap (eqb x) (first (others h.stands))
      set (one o a) d j h k = absurd (omega arith)
      set (two o a b) d j h k = absurd (omega arith)

  -- its byte is cut off
  pub leaf_cut : {s : ℕ} → get_or t i 0 ≡ 0x05 → length t ≤ i + 1 → GathersLeaf t i (gathered s (i + 1 + n))
  leaf_cut q l = record { set = λ e d j h k. absurd (omega (arith, behind e h k, h.stands.fits)); ends = ends_behind }
    where
      behind : (e : Expr) {d j : ℕ} → ExprAt t i d e j → arity e ≡ 0 → i + 2 ≡ j
      behind e h k = let one : payload_of (get_or t i 0) ≡ 1 = rw q in omega (arith, leaf_ends e h k)

  -- a constant
  pub leaf_constant : (get_or t i 0 ≡ 0x05 → ⊥) → GathersLeaf t i (gathered 0 (i + 1 + n))
  leaf_constant q = record { set = set; ends = ends_behind }
    where
      set : (e : Expr) (d j : ℕ) → ExprAt t i d e j → arity e ≡ 0 → (x : ℕ) → x < max_locals → bits 0 x ≡ mentioned x e
      set (constant v) d j h k = λ x l. bits_none x
      set (local x) d j h k = absurd (q (first h.stands))
      set (one o a) d j h k = absurd (omega arith)
      set (two o a b) d j h k = absurd (omega arith)

pub ruleset leaf_ways = (leaf_local, leaf_cut, leaf_constant)

-- ---- expressions

module _ {t : List ℕ} {i d : ℕ} where
  -- nothing stands there
  pub gathers_none : {r : Gathered} → (d ≡ 0) ⊎ ((d ≡ 0 → ⊥) × (length t ≤ i)) → Gathers t i d r
  gathers_none {r} none = record { set = λ e j h. absurd (no_room h none); ends = λ e j h. absurd (no_room h none) }
    where
      no_room : {e : Expr} {j : ℕ} → ExprAt t i d e j → (d ≡ 0) ⊎ ((d ≡ 0 → ⊥) × (length t ≤ i)) → ⊥
      no_room h (inl z) = omega (arith, expr_deep h)
      no_room h (inr l) = omega (arith, expr_inside h, l.1)

  -- one operand
  pub gathers_one : {k : ℕ} {x : Gathered} → k ≡ operands_of (get_or t i 0) → k ≡ 1 → Gathers t (i + 1) (d - 1) x → Gathers t i d x
  gathers_one {k} {x} o z X = record { set = set; ends = ends }
    where
      inner : {a : Expr} {p : One} {j : ℕ} → ExprAt t i d (one p a) j → ExprAt t (i + 1) (d - 1) a j
      inner h = record { stands = others h.stands; fits = (omega (arith, h.fits.0), h.fits.1) }

      set : (e : Expr) (j : ℕ) → ExprAt t i d e j → (n : ℕ) → n < max_locals → bits x.set n ≡ mentioned n e
      set (constant v) j h = absurd (omega (arith, operands_are (constant v) h))
      set (local y) j h = absurd (omega (arith, operands_are (local y) h))
      set (one p a) j h = X.set a j (inner h)
      set (two p a b) j h = absurd (omega (arith, operands_are (two p a b) h))

      ends : (e : Expr) (j : ℕ) → ExprAt t i d e j → x.next ≡ j
      ends (constant v) j h = absurd (omega (arith, operands_are (constant v) h))
      ends (local y) j h = absurd (omega (arith, operands_are (local y) h))
      ends (one p a) j h = X.ends a j (inner h)
      ends (two p a b) j h = absurd (omega (arith, operands_are (two p a b) h))

  -- two
  pub gathers_two : {k : ℕ} {x y : Gathered} → k ≡ operands_of (get_or t i 0) → k ≡ 2 → Gathers t (i + 1) (d - 1) x
      → Gathers t x.next (d - 1) y → Gathers t i d (gathered (bit_or x.set y.set) y.next)
  gathers_two {k} {x} {y} o z X Y = record { set = set; ends = ends }
    where
      left : {p : Two} (a b : Expr) {j : ℕ} → ExprAt t i d (two p a b) j → ExprAt t (i + 1) (d - 1) a (i + 1 + length (expr a))
      left a b h = record { stands = front (expr a) (expr b) (others h.stands); fits = (omega (arith, h.fits.0), h.fits.1.0) }

      right : {p : Two} (a b : Expr) {j : ℕ} → ExprAt t i d (two p a b) j → ExprAt t x.next (d - 1) b j
      right a b {j} h =
          subst (λ (n : ℕ). ExprAt t n (d - 1) b j) (sym (X.ends a _ (left a b h)))
          (record { stands = back (expr a) (expr b) (others h.stands); fits = (omega (arith, h.fits.0), h.fits.1.1) })

      set : (e : Expr) (j : ℕ) → ExprAt t i d e j → (n : ℕ) → n < max_locals → bits (bit_or x.set y.set) n ≡ mentioned n e
      set (constant v) j h = absurd (omega (arith, operands_are (constant v) h))
      set (local n) j h = absurd (omega (arith, operands_are (local n) h))
      set (one p a) j h = absurd (omega (arith, operands_are (one p a) h))
      set (two p a b) j h = λ n l. bits_or x.set y.set n ∙ ap₂ either (X.set a _ (left a b h) n l) (Y.set b j (right a b h) n l)

      ends : (e : Expr) (j : ℕ) → ExprAt t i d e j → y.next ≡ j
      ends (constant v) j h = absurd (omega (arith, operands_are (constant v) h))
      ends (local n) j h = absurd (omega (arith, operands_are (local n) h))
      ends (one p a) j h = absurd (omega (arith, operands_are (one p a) h))
      ends (two p a b) j h = Y.ends b j (right a b h)

  -- none
  pub gathers_leaf : {k : ℕ} {r : Gathered} → k ≡ operands_of (get_or t i 0) → (k ≡ 1 → ⊥) → (k ≡ 2 → ⊥) → GathersLeaf t i r → Gathers t i d r
  gathers_leaf {k} {r} o n₁ n₂ L = record { set = λ e j h. L.set e d j h (leaf e h); ends = λ e j h. L.ends e d j h (leaf e h) }
    where
      leaf : (e : Expr) {j : ℕ} → ExprAt t i d e j → arity e ≡ 0
      leaf (constant v) h = refl
      leaf (local x) h = refl
      leaf (one p a) h = absurd (n₁ (o ∙ operands_are (one p a) h))
      leaf (two p a b) h = absurd (n₂ (o ∙ operands_are (two p a b) h))

pub ruleset gather_ways = (gathers_none, gathers_one, gathers_two, gathers_leaf)

-- ---- several expressions

-- one or two others
either_assoc : (a b c : Bool) → either (either a b) c ≡ either a (either b c)
either_assoc true b c = refl
either_assoc false b c = refl

module _ {t : List ℕ} where
  -- before the first
  pub each_start : {i k : ℕ} → Gathering t i k 0 i 0
  each_start {k = k} = let all : k - 0 ≡ k = omega arith in record {
    back = λ M. record {
      gives = λ es j at x l. (rw all at M).gives es j at x l ∙ ap (λ (b : Bool). either b (mentions x es)) (bits_none x);
    };
  }

  -- one more
  pub each_next : {i k i' done s : ℕ} {g : Gathered} → Gathering t i k s i' done → done < k → Gathers t i' max_depth g
      → Gathering t i k (bit_or s g.set) g.next (done + 1)
  each_next {i} {k} {i'} {done} {s} {g} F some A = record {
    back = λ M. F.back (record { gives = λ es j at x l. one es j x l (exprs_more at (omega arith)) (rw less at M) });
  }
    where
      less : k - (done + 1) ≡ k - done - 1
      less = omega arith

      one : {r : ℕ} (es : List Expr) (j x : ℕ) → x < max_locals → MoreAt t i' (k - done) es j → GathersMore t g.next (k - done - 1) (bit_or s g.set) r
          → bits r x ≡ either (bits s x) (mentions x es)
      one {r} es j x l w M =
          let next : g.next ≡ w.k = A.ends w.e w.k w.here in
          let here : bits (bit_or s g.set) x ≡ either (bits s x) (mentioned x w.e) =
          bits_or s g.set x ∙ ap (either (bits s x)) (A.set w.e w.k w.here x l)
          in
          M.gives w.rest j (rw next w.after) x l ∙ ap (λ (b : Bool). either b (mentions x w.rest)) here
          ∙ either_assoc (bits s x) (mentioned x w.e) (mentions x w.rest)
          ∙ ap (λ (fs : List Expr). either (bits s x) (mentions x fs)) (sym w.is)

  -- after the last
  pub each_end : {i k i' done s : ℕ} → Gathering t i k s i' done → k ≤ done → GathersEach t i k s
  each_end {s = s} F none = F.back (record {
    gives = λ es j at x l.
        let empty : es ≡ [] = (exprs_none_lem at (omega arith)).0 in
        sym (ap (λ (fs : List Expr). either (bits s x) (mentions x fs)) empty ∙ either_false (bits s x));
  })

pub ruleset each_ways = (each_start, each_next, each_end)

-- Rule 8 on expressions, as the code judges it: a row of expressions is read mark by mark.
use Rattle.std.specs.Prelude.{ℕ, ◌+◌, ◌-◌, ◌≤◌, ◌<◌, ◌≡◌, Bool, true, false, length, eqb, leb}
use native.Mathlib.Omega.{arith}
use Rattle.std.proofs.Math.Path.{refl}
use Rattle.std.proofs.Common.{sym, ap, ◌∙◌, ne_eqb, eqb-true, leb-true}
use mathlib.Core.List.{List, [], ◌∷◌, ◌++◌, append_assoc, append-nil}
use Rattle.std.proofs.Math.Bool as B
use Rattle.std.proofs.Math.ListN.{get_or}
use Rattle.std.proofs.lemmas.Bool.{not-true, not-false}
use Rattle.value.specs.Maybe.{pick, both, either}
use Rattle.value.specs.Lists.{all}
use Rattle.value.specs.Values.{One, not, neg, Two, add, sub, mul, less, equal, and, bytes, word}
use Rattle.value.specs.Marks.{mark₁, mark₂, no_expr, marks}
use Rattle.basics.specs.Columns.{row_of, operands_of, payload_of}
use Rattle.value.proofs.Laws.Lists.{Each}
use Rattle.value.proofs.Laws.Tests.{either_passed}
use Rattle.value.proofs.Laws.Tables.{looked_up}
use Rattle.value.specs.declared.Value.TheVariants.{Whole, Location, Truth}
use Rattle.std.specs.Prelude.{Option, Some, None}
use Rattle.format.specs.Syntax.{Expr, constant, local, one, two}
use Rattle.format.specs.Encode.{each}
use Rattle.format.specs.Encode as E
use Rattle.format.specs.Rules.{Known, known}
use Rattle.basics.specs.BitSets.{bits}
use Rattle.reader.specs.Laws.BitSets.{has_bit, no_bit}
use Rattle.format.proofs.Laws.Depths.{depth}
use Rattle.format.proofs.Laws.Fits.{ExprFits}
use Rattle.format.proofs.Laws.Stands.{Stands, first, others, back, join}
use Rattle.format.proofs.Laws.ExprGrammar.{ExprAt, ExprsAt, exprs_none_lem, exprs_more, expr_inside}
use Rattle.format.specs.Decode.{max_depth}
use Rattle.scan.specs.Laws.Tokens.{shift}
use Rattle.scan.specs.Laws.NameScans.{both_both, both_true}

-- ---- expressions

-- is the variable at i set, if a variable stands there
unfoldable pub leaf_known : List ℕ → ℕ → Known → Bool
leaf_known t i s = pick (eqb (get_or t i 0) 0x05) (s (get_or t (i + 1) 0)) true

-- where n expressions end, if each of their variables is set
pub record Knows (t : List ℕ) (i n s : ℕ) (r : Option ℕ) : Type 0 where
  pub ahead : (j : ℕ) → r ≡ Some j → i ≤ j
  pub gives : (es : List Expr) (j : ℕ) → ExprsAt t i n es j → r ≡ pick (all (known (bits s)) es) (Some j) None

-- behind the first mark of n expressions other expressions stand
record NextExprs (t : List ℕ) (i n : ℕ) (s : Known) (es : List Expr) (j : ℕ) : Type 0 where
  rest : List Expr
  after : ExprsAt t (i + 1 + payload_of (get_or t i 0)) (n - 1 + operands_of (get_or t i 0)) rest j
  same : all (known s) es ≡ both (leaf_known t i s) (all (known s) rest)
  few : operands_of (get_or t i 0) ≤ 2

-- the row of an operator
record Operator (m n : ℕ) : Type 0 where
  operands : operands_of m ≡ n
  payload : payload_of m ≡ 0
  name : eqb m 0x05 ≡ false

-- of one operand
operator₁ : (o : One) → Operator (mark₁ o) 1
operator₁ not = record { operands = refl; payload = refl; name = refl }
operator₁ neg = record { operands = refl; payload = refl; name = refl }

-- of two
operator₂ : (o : Two) → Operator (mark₂ o) 2
operator₂ add = record { operands = refl; payload = refl; name = refl }
operator₂ sub = record { operands = refl; payload = refl; name = refl }
operator₂ mul = record { operands = refl; payload = refl; name = refl }
operator₂ less = record { operands = refl; payload = refl; name = refl }
operator₂ equal = record { operands = refl; payload = refl; name = refl }
operator₂ and = record { operands = refl; payload = refl; name = refl }

module _ {t : List ℕ} {i j : ℕ} (n : ℕ) (s : Known) where
  -- a mark m, the bytes bs that belong to it, and then the rest
  behind : (m : ℕ) (bs : List ℕ) {es : List Expr} (rest : List Expr) → payload_of m ≡ length bs → operands_of m ≤ 2 → n - 1 + operands_of m ≡ length rest
      → Each (ExprFits max_depth) rest → all (known s) es ≡ both (leaf_known t i s) (all (known s) rest) → Stands t i (m ∷ bs ++ each E.expr rest) j
      → NextExprs t i n s es j
  behind m bs rest e few c f same h = record {
    rest = rest;
    after = record { stands = shift (back (m ∷ bs) (each E.expr rest) h) (rw (first h, e) (omega arith)); count = rw (first h) (sym c); fits = f };
    same = same;
    few = rw (first h) few;
  }

  -- what stands behind the first mark
  next_exprs : (es : List Expr) → 0 < n → ExprsAt t i n es j → NextExprs t i n s es j
  unfolding leaf_known
  next_exprs [] l h = absurd (omega (arith, h.count))
  next_exprs (constant (Whole z) ∷ es) l h =
      let z₁ : get_or t i 0 ≡ 0x01 = first h.stands in
      behind 0x01 (bytes 4 (word z)) es refl (omega arith) (omega (arith, h.count)) h.fits.1 (rw z₁) h.stands
  next_exprs (constant (Location l) ∷ es) some h =
      let z₁ : get_or t i 0 ≡ 0x02 = first h.stands in
      behind 0x02 (bytes 2 l) es refl (omega arith) (omega (arith, h.count)) h.fits.1 (rw z₁) h.stands
  next_exprs (constant (Truth false) ∷ es) l h =
      let z₁ : get_or t i 0 ≡ 0x03 = first h.stands in
      behind 0x03 [] es refl (omega arith) (omega (arith, h.count)) h.fits.1 (rw z₁) h.stands
  next_exprs (constant (Truth true) ∷ es) l h =
      let z₁ : get_or t i 0 ≡ 0x04 = first h.stands in
      behind 0x04 [] es refl (omega arith) (omega (arith, h.count)) h.fits.1 (rw z₁) h.stands
  next_exprs (local x ∷ es) l h =
      let z₁ : get_or t i 0 ≡ 0x05 = first h.stands in
      let z₂ : get_or t (i + 1) 0 ≡ x = first (others h.stands) in
      behind 0x05 (x ∷ []) es refl (omega arith) (omega (arith, h.count)) h.fits.1 (rw (z₁, z₂)) h.stands
  next_exprs (one o a ∷ es) l h =
      let z₁ : get_or t i 0 ≡ mark₁ o = first h.stands in
      let op : Operator (mark₁ o) 1 = operator₁ o in
      let fits : Each (ExprFits max_depth) (a ∷ es) = ((omega (arith, h.fits.0.0), h.fits.0.1), h.fits.1) in
      behind (mark₁ o) [] (a ∷ es) op.payload (omega (arith, op.operands)) (omega (arith, h.count, op.operands)) fits
      (rw (z₁, op.name)) h.stands
  next_exprs (two o a b ∷ es) l h =
      let z₁ : get_or t i 0 ≡ mark₂ o = first h.stands in
      let op : Operator (mark₂ o) 2 = operator₂ o in
      let deep : depth (two o a b) ≤ max_depth = h.fits.0.0 in
      let fits : Each (ExprFits max_depth) (a ∷ b ∷ es) = ((omega arith, h.fits.0.1.0), ((omega arith, h.fits.0.1.1), h.fits.1)) in
      let whole : Stands t i (mark₂ o ∷ E.expr a ++ (E.expr b ++ each E.expr es)) j = rw append_assoc at h.stands in
      behind (mark₂ o) [] (a ∷ b ∷ es) op.payload (omega (arith, op.operands)) (omega (arith, h.count, op.operands)) fits
      (rw (z₁, op.name) (both_both (known s a) (known s b) (all (known s) es))) whole

-- ---- the loop over the marks of expressions

-- nowhere is not somewhere
nowhere : {G : Type 0} {j : ℕ} → None ≡ Some j → G
nowhere e = let z : ◌≡◌ {A = ℕ} 0 1 = cc in absurd (omega arith)

-- one place
at_inj : {j k : ℕ} → Some j ≡ Some k → j ≡ k
at_inj e = cc

-- a mark has at most 2 operands
few_operands : (m : ℕ) → (operands_of m ≡ 9 → ⊥) → operands_of m ≤ 2
few_operands m some =
    either_passed (eqb (operands_of m) 9) (leb (operands_of m) 2)
    (looked_up (λ n a. either (eqb (row_of a).operands 9) (leb (row_of a).operands 2)) marks no_expr (λ n. refl) refl m)
    (λ e. absurd (some (eqb-true _ _ e)))
    (λ e. leb-true _ _ e)

-- expressions begin in the table
exprs_inside : {t : List ℕ} {j : ℕ} (i n : ℕ) (es : List Expr) → 0 < n → ExprsAt t i n es j → i < length t
exprs_inside i n es some h = let more = exprs_more h some in omega (arith, expr_inside more.here)

-- what is answered from k on, for l expressions, is the answer from i on
pub record KnowsFrom (t : List ℕ) (i n s k l : ℕ) : Type 0 where
  pub ahead : i ≤ k
  pub few : i + l ≤ n + k
  pub back : (r : Option ℕ) → Knows t k l s r → Knows t i n s r

-- a row of which nothing stands there
no_exprs : {t : List ℕ} {i n s : ℕ} → ((es : List Expr) (j : ℕ) → ExprsAt t i n es j → ⊥) → Knows t i n s None
no_exprs none = record { ahead = λ j e. nowhere e; gives = λ es j h. absurd (none es j h) }

module _ (t : List ℕ) (i n s : ℕ) where
  -- the first
  pub knows_start : KnowsFrom t i n s i n
  knows_start = record { ahead = omega arith; few = omega arith; back = λ r h. h }

  module _ {k l : ℕ} (from : KnowsFrom t i n s k l) where
    -- no bytes are left
    pub knows_past : 0 < l → length t ≤ k → Knows t i n s None
    knows_past some p = from.back None (no_exprs λ es j h. omega (arith, exprs_inside k l es some h))

    -- no mark
    pub knows_none : {o : ℕ} → 0 < l → o ≡ operands_of (get_or t k 0) → o ≡ 9 → Knows t i n s None
    knows_none some e nine = from.back None (no_exprs λ es j h. omega (arith, (next_exprs l (bits s) es some h).few))

    -- a variable that is not set
    pub knows_unset : {b : Bool} → 0 < l → b ≡ leaf_known t k (bits s) → B.not b ≡ true → Knows t i n s None
    knows_unset {b} some e unset = from.back None (record { ahead = λ j e. nowhere e; gives = gives })
      where
        gives : (es : List Expr) (j : ℕ) → ExprsAt t k l es j → None ≡ pick (all (known (bits s)) es) (Some j) None
        gives es j h = rw ((next_exprs l (bits s) es some h).same, ← e, not-true b unset)

    -- any other mark
    pub knows_next : {o q : ℕ} {b : Bool} → 0 < l → o ≡ operands_of (get_or t k 0) → (o ≡ 9 → ⊥) → b ≡ leaf_known t k (bits s) → B.not b ≡ false
        → q ≡ payload_of (get_or t k 0) → KnowsFrom t i n s (k + 1 + q) (l - 1 + o)
    knows_next {o} {q} {b} some e nine leaf set p = record {
      ahead = omega (arith, from.ahead);
      few = omega (arith, from.few, few_operands (get_or t k 0) (λ q. nine (e ∙ q)), e);
      back = λ r h. from.back r (record { ahead = λ j w. omega (arith, h.ahead j w); gives = gives r h });
    }
      where
        gives : (r : Option ℕ) → Knows t (k + 1 + q) (l - 1 + o) s r → (es : List Expr) (j : ℕ) → ExprsAt t k l es j
            → r ≡ pick (all (known (bits s)) es) (Some j) None
        gives r h es j x =
            let next : NextExprs t k l (bits s) es j = next_exprs l (bits s) es some x in
            let after : ExprsAt t (k + 1 + q) (l - 1 + o) next.rest j = rw (p, e) next.after in
            h.gives next.rest j after ∙ rw (next.same, ← leaf, not-false b set)

    -- no expression is left
    pub knows_end : l ≤ 0 → Knows t i n s (Some k)
    knows_end none = from.back (Some k) (record { ahead = λ j e. omega (arith, at_inj e); gives = gives })
      where
        gives : (es : List Expr) (j : ℕ) → ExprsAt t k l es j → Some k ≡ pick (all (known (bits s)) es) (Some j) None
        gives es j h =
            let empty : (es ≡ []) × (j ≡ k) = exprs_none_lem h (omega arith) in
            rw (empty.0, empty.1)

-- ---- one variable

-- a variable
pub leaf_local : (t : List ℕ) (i s : ℕ) {b : Bool} {m x : ℕ} → m ≡ get_or t i 0 → m ≡ 0x05 → x ≡ get_or t (i + 1) 0 → b ≡ bits s x
    → b ≡ leaf_known t i (bits s)
unfolding leaf_known
leaf_local t i s m e ex eb = rw (← m, e) (eb ∙ ap (bits s) ex)

-- no variable
pub leaf_other : (t : List ℕ) (i s : ℕ) {m : ℕ} → m ≡ get_or t i 0 → (m ≡ 0x05 → ⊥) → true ≡ leaf_known t i (bits s)
unfolding leaf_known
leaf_other t i s {m} e q = rw (← e, ne_eqb m 0x05 q)

-- ---- what was found, if expressions stand there

-- one expression as a row
pub alone : {t : List ℕ} {i : ℕ} {e : Expr} {j : ℕ} → ExprAt t i max_depth e j → ExprsAt t i 1 (e ∷ []) j
alone h = record { stands = rw append-nil h.stands; count = refl; fits = (h.fits, tt) }

-- two of them
pub pair : {t : List ℕ} {i : ℕ} {a b : Expr} {k j : ℕ} → ExprAt t i max_depth a k → ExprAt t k max_depth b j → ExprsAt t i 2 (a ∷ b ∷ []) j
pair h g = record { stands = join h.stands (rw append-nil g.stands); count = refl; fits = (h.fits, (g.fits, tt)) }

-- the end of expressions, if their variables are set
pick_at : (b : Bool) {k : ℕ} (j : ℕ) → Some k ≡ pick b (Some j) None → (b ≡ true) × (k ≡ j)
pick_at true j e = (refl, at_inj e)
pick_at false j e = nowhere (sym e)

-- or not
pick_not : (b : Bool) (j : ℕ) → None ≡ pick b (Some j) None → b ≡ false
pick_not true j e = nowhere e
pick_not false j e = refl

module _ {t : List ℕ} {i s : ℕ} {f : Option ℕ} (F : Knows t i 1 s f) where
  -- the variables of a test are set, and it ends at k
  pub test_set : {k : ℕ} → f ≡ Some k → (e : Expr) {j : ℕ} → ExprAt t i max_depth e j → (known (bits s) e ≡ true) × (k ≡ j)
  test_set {k} q e {j} h =
      let same : Some k ≡ pick (both (known (bits s) e) true) (Some j) None = sym q ∙ F.gives (e ∷ []) j (alone h) in
      pick_at (known (bits s) e) j (rw both_true at same)

  -- or not
  pub test_unset : f ≡ None → (e : Expr) {j : ℕ} → ExprAt t i max_depth e j → known (bits s) e ≡ false
  test_unset q e {j} h =
      let same : None ≡ pick (both (known (bits s) e) true) (Some j) None = sym q ∙ F.gives (e ∷ []) j (alone h) in
      pick_not (known (bits s) e) j (rw both_true at same)

-- one law for each way through the walk over expressions
pub ruleset known_ways = (has_bit, no_bit, leaf_local, leaf_other, knows_start, knows_past, knows_none, knows_unset, knows_next, knows_end)

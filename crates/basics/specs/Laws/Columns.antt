-- The table by mark byte: what each row says of an operator is so, and what a row's number says.
use Rattle.std.specs.Prelude.{ℕ, zero, suc, ◌/◌, ◌%◌, ◌≤◌, ◌<◌, ◌≡◌, refl, ◌≢◌, List, [], ◌∷◌, map, Bool, true, false, length, get_or, ℤ, neg_ℤ, ◌+ℤ◌, ◌-ℤ◌, ◌*ℤ◌, ltb}
use Rattle.std.proofs.Common.{le_of_suc-le-suc, not-suc-le-zero, sym, ap, ◌∙◌, eqb-true}
use Rattle.std.proofs.Math.ListN.{get_or-eq_default}
use Rattle.std.specs.Int.Signed.{mag}
use Rattle.value.specs.Maybe.{both}
use Rattle.value.specs.Try.{Try, has, lacks}
use Rattle.value.specs.Values.{One, not, neg, Two, add, sub, mul, less, equal, and, whole, wholes, same, truths, apply₁, apply₂}
use Rattle.value.specs.Marks.{Mark, whole_mark, location_mark, no_mark, yes_mark, local_mark, one_mark, two_mark, no_expr, marks, mark_of, kind_of, of_kind}
use Rattle.value.proofs.Laws.Tries.{has_inj, lacking, provided_has}
use Rattle.value.proofs.Laws.Tests.{never}
use Rattle.value.proofs.Laws.Marks.{marks?, mark_right}
use Rattle.value.specs.declared.Value.{Value}
use Rattle.value.specs.declared.Value.TheVariants.{Whole, Location, Truth}
use Rattle.value.specs.declared.Reason.TheVariants.{OutOfRange, WrongKind}
use Rattle.basics.specs.Columns.{Row, row_of, operands_of, takes_of, packed, packed_of, applied₁, applied₂}

-- ---- bytes that are no marks of operators

-- a byte that is no mark of an operator on one value gives nothing
pub no_one : (m : ℕ) (v : Value) → m ≢ 0x16 → m ≢ 0x17 → lacks WrongKind ≡ applied₁ (mark_of m) v
no_one m v n₁ n₂ = go (mark_of m) (mark_right m)
  where
    go : (k : Mark) → marks? m k ≡ true → lacks WrongKind ≡ applied₁ k v
    go (one_mark not) e = absurd (n₁ (eqb-true m 0x16 e))
    go (one_mark neg) e = absurd (n₂ (eqb-true m 0x17 e))
    go (two_mark o) e = refl
    go whole_mark e = refl
    go location_mark e = refl
    go no_mark e = refl
    go yes_mark e = refl
    go local_mark e = refl
    go no_expr e = refl

-- and on two
pub no_two : (m : ℕ) (v w : Value) → m ≢ 0x10 → m ≢ 0x11 → m ≢ 0x12 → m ≢ 0x13 → m ≢ 0x14 → m ≢ 0x15 → lacks WrongKind ≡ applied₂ (mark_of m) v w
no_two m v w n₁ n₂ n₃ n₄ n₅ n₆ = go (mark_of m) (mark_right m)
  where
    go : (k : Mark) → marks? m k ≡ true → lacks WrongKind ≡ applied₂ k v w
    go (two_mark add) e = absurd (n₁ (eqb-true m 0x10 e))
    go (two_mark sub) e = absurd (n₂ (eqb-true m 0x11 e))
    go (two_mark mul) e = absurd (n₃ (eqb-true m 0x12 e))
    go (two_mark less) e = absurd (n₄ (eqb-true m 0x13 e))
    go (two_mark equal) e = absurd (n₅ (eqb-true m 0x14 e))
    go (two_mark and) e = absurd (n₆ (eqb-true m 0x15 e))
    go (one_mark o) e = refl
    go whole_mark e = refl
    go location_mark e = refl
    go no_mark e = refl
    go yes_mark e = refl
    go local_mark e = refl
    go no_expr e = refl

-- ---- the rows

-- what is computed of each thing of a list stands at its place
mapped : {A B : Type 0} (f : A → B) (xs : List A) (d : A) (e : B) (n : ℕ) → n < length xs → get_or (map f xs) n e ≡ f (get_or xs n d)
mapped f [] d e n h = absurd (not-suc-le-zero h)
mapped f (x ∷ xs) d e zero h = refl
mapped f (x ∷ xs) d e (suc n) h = mapped f xs d e n (le_of_suc-le-suc h)

module _ (f : Row → ℕ) (m : ℕ) where
  -- a column of the table, one entry after the other, is right at each
  pub column : m < 24 → get_or (map (λ k. f (row_of k)) marks) m 0 ≡ f (row_of (mark_of m))
  column h = mapped (λ k. f (row_of k)) marks no_expr 0 m h

  -- past the table there is no mark
  pub past_table : 24 ≤ m → f (row_of no_expr) ≡ f (row_of (mark_of m))
  past_table h = ap (λ (k : Mark). f (row_of k)) (sym (get_or-eq_default marks no_expr h))

-- what a row says of an operator on one value: one operand; "of the wrong kind, has none itself"; and the kind of a result
pub record Says₁ (o : One) (r : Row) : Type 0 where
  pub count : r.operands ≡ 1
  pub wrong : (v : Value) → of_kind r.takes v ≡ false → apply₁ o v ≡ lacks WrongKind
  pub result : (v : Value) {u : Value} → apply₁ o v ≡ has u → kind_of u ≡ r.gives

-- and on two
pub record Says₂ (o : Two) (r : Row) : Type 0 where
  pub count : r.operands ≡ 2
  pub wrong : (v w : Value) → both (of_kind r.takes v) (of_kind r.takes w) ≡ false → apply₂ o v w ≡ lacks WrongKind
  pub result : (v w : Value) {u : Value} → apply₂ o v w ≡ has u → kind_of u ≡ r.gives

-- what a row says of a mark
abbrev pub Says : Mark → Row → Type 0
Says (one_mark o) r = Says₁ o r
Says (two_mark o) r = Says₂ o r
Says whole_mark r = (r.operands ≡ 0) × (r.payload ≡ 4)
Says location_mark r = (r.operands ≡ 0) × (r.payload ≡ 2)
Says no_mark r = (r.operands ≡ 0) × (r.payload ≡ 0)
Says yes_mark r = (r.operands ≡ 0) × (r.payload ≡ 0)
Says local_mark r = (r.operands ≡ 0) × (r.payload ≡ 1)
Says no_expr r = r.operands ≡ 9

-- a whole number is one
whole_kind : (z : ℤ) {u : Value} → whole z ≡ has u → kind_of u ≡ 1
whole_kind z e = ap kind_of (sym (provided_has (ltb (mag z) 2147483648) OutOfRange (Whole z) e).1)

-- a truth value is one
truth_kind : {b : Bool} {u : Value} → has (Truth b) ≡ has u → kind_of u ≡ 3
truth_kind e = ap kind_of (sym (has_inj e))

module _ (g : ℤ → ℤ → Try Value) where
  -- an operator on whole numbers gives nothing of other values
  wholes_wrong : (v w : Value) → both (of_kind 1 v) (of_kind 1 w) ≡ false → wholes g v w ≡ lacks WrongKind
  wholes_wrong (Whole a) (Whole b) e = absurd (never (sym e))
  wholes_wrong (Whole a) (Location l) e = refl
  wholes_wrong (Whole a) (Truth t) e = refl
  wholes_wrong (Location l) w e = refl
  wholes_wrong (Truth t) w e = refl

  -- and its results are of one kind, if those of numbers are
  wholes_result : (k : ℕ) → ((a b : ℤ) (u : Value) → g a b ≡ has u → kind_of u ≡ k) → (v w : Value) {u : Value} → wholes g v w ≡ has u → kind_of u ≡ k
  wholes_result k h (Whole a) (Whole b) e = h a b _ e
  wholes_result k h (Whole a) (Location l) e = lacking e
  wholes_result k h (Whole a) (Truth t) e = lacking e
  wholes_result k h (Location l) w e = lacking e
  wholes_result k h (Truth t) w e = lacking e

-- "equal (two of one kind)"
pub same_kind : (v w : Value) {u : Value} → same v w ≡ has u → kind_of v ≡ kind_of w
same_kind (Whole a) (Whole b) e = refl
same_kind (Whole a) (Location l) e = lacking e
same_kind (Whole a) (Truth t) e = lacking e
same_kind (Location a) (Location b) e = refl
same_kind (Location a) (Whole z) e = lacking e
same_kind (Location a) (Truth t) e = lacking e
same_kind (Truth a) (Truth b) e = refl
same_kind (Truth a) (Whole z) e = lacking e
same_kind (Truth a) (Location l) e = lacking e

-- it gives a truth value
same_result : (v w : Value) {u : Value} → same v w ≡ has u → kind_of u ≡ 3
same_result (Whole a) (Whole b) e = truth_kind e
same_result (Whole a) (Location l) e = lacking e
same_result (Whole a) (Truth t) e = lacking e
same_result (Location a) (Location b) e = truth_kind e
same_result (Location a) (Whole z) e = lacking e
same_result (Location a) (Truth t) e = lacking e
same_result (Truth a) (Truth b) e = truth_kind e
same_result (Truth a) (Whole z) e = lacking e
same_result (Truth a) (Location l) e = lacking e

-- "and" gives nothing of other values than truth values
truths_wrong : (v w : Value) → both (of_kind 3 v) (of_kind 3 w) ≡ false → truths v w ≡ lacks WrongKind
truths_wrong (Truth a) (Truth b) e = absurd (never (sym e))
truths_wrong (Truth a) (Whole z) e = refl
truths_wrong (Truth a) (Location l) e = refl
truths_wrong (Whole z) w e = refl
truths_wrong (Location l) w e = refl

-- and of those a truth value
truths_result : (v w : Value) {u : Value} → truths v w ≡ has u → kind_of u ≡ 3
truths_result (Truth a) (Truth b) e = truth_kind e
truths_result (Truth a) (Whole z) e = lacking e
truths_result (Truth a) (Location l) e = lacking e
truths_result (Whole z) w e = lacking e
truths_result (Location l) w e = lacking e

-- the operators on one value
one_says : (o : One) → Says₁ o (row_of (one_mark o))
one_says not = record { count = refl; wrong = wrong; result = result }
  where
    wrong : (v : Value) → of_kind 3 v ≡ false → apply₁ not v ≡ lacks WrongKind
    wrong (Truth b) e = absurd (never (sym e))
    wrong (Whole z) e = refl
    wrong (Location l) e = refl

    result : (v : Value) {u : Value} → apply₁ not v ≡ has u → kind_of u ≡ 3
    result (Truth b) e = truth_kind e
    result (Whole z) e = lacking e
    result (Location l) e = lacking e
one_says neg = record { count = refl; wrong = wrong; result = result }
  where
    wrong : (v : Value) → of_kind 1 v ≡ false → apply₁ neg v ≡ lacks WrongKind
    wrong (Whole z) e = absurd (never (sym e))
    wrong (Location l) e = refl
    wrong (Truth b) e = refl

    result : (v : Value) {u : Value} → apply₁ neg v ≡ has u → kind_of u ≡ 1
    result (Whole z) e = whole_kind (neg_ℤ z) e
    result (Location l) e = lacking e
    result (Truth b) e = lacking e

-- those on two
two_says : (o : Two) → Says₂ o (row_of (two_mark o))
two_says add = record { count = refl; wrong = wholes_wrong _; result = wholes_result _ 1 (λ a b u e. whole_kind (a +ℤ b) e) }
two_says sub = record { count = refl; wrong = wholes_wrong _; result = wholes_result _ 1 (λ a b u e. whole_kind (a -ℤ b) e) }
two_says mul = record { count = refl; wrong = wholes_wrong _; result = wholes_result _ 1 (λ a b u e. whole_kind (a *ℤ b) e) }
two_says less = record { count = refl; wrong = wholes_wrong _; result = wholes_result _ 3 (λ a b u e. truth_kind e) }
two_says equal = record { count = refl; wrong = λ v w e. absurd (never (sym e)); result = same_result }
two_says and = record { count = refl; wrong = truths_wrong; result = truths_result }

-- the row of every byte says what is so
pub row_says : (m : ℕ) → Says (mark_of m) (row_of (mark_of m))
row_says m = go (mark_of m)
  where
    go : (k : Mark) → Says k (row_of k)
    go (one_mark o) = one_says o
    go (two_mark o) = two_says o
    go whole_mark = (refl, refl)
    go location_mark = (refl, refl)
    go no_mark = (refl, refl)
    go yes_mark = (refl, refl)
    go local_mark = (refl, refl)
    go no_expr = refl

-- ---- a row as one number

-- the operand count and the operand kind are found in the number
record Told (k : Mark) : Type 0 where
  count : packed (row_of k) / 16 ≡ (row_of k).operands
  kind : packed (row_of k) % 4 ≡ (row_of k).takes

told : (k : Mark) → Told k
told (one_mark not) = record { count = refl; kind = refl }
told (one_mark neg) = record { count = refl; kind = refl }
told (two_mark add) = record { count = refl; kind = refl }
told (two_mark sub) = record { count = refl; kind = refl }
told (two_mark mul) = record { count = refl; kind = refl }
told (two_mark less) = record { count = refl; kind = refl }
told (two_mark equal) = record { count = refl; kind = refl }
told (two_mark and) = record { count = refl; kind = refl }
told whole_mark = record { count = refl; kind = refl }
told location_mark = record { count = refl; kind = refl }
told no_mark = record { count = refl; kind = refl }
told yes_mark = record { count = refl; kind = refl }
told local_mark = record { count = refl; kind = refl }
told no_expr = record { count = refl; kind = refl }

module _ (m : ℕ) where
  -- the operand count of a byte's row
  pub count_told : {k r : ℕ} → r ≡ packed_of m → k ≡ r / 16 → k ≡ operands_of m
  count_told e f = f ∙ ap (λ n. n / 16) e ∙ (told (mark_of m)).count

  -- the operand kind
  pub kind_told : {k r : ℕ} → r ≡ packed_of m → k ≡ r % 4 → k ≡ takes_of m
  kind_told e f = f ∙ ap (λ n. n % 4) e ∙ (told (mark_of m)).kind

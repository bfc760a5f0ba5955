-- One law for each way through the parser of expressions.
use Prim.Native.Nat.{ℕ, suc, ◌+◌, ◌-◌, ◌%◌, ◌^◌, ◌<◌}
use native.Mathlib.Omega.{arith}
use native.Mathlib.Nat.{add-zero}
use mathlib.Core.Path.{◌≡◌, sym, ap, subst, ◌∙◌}
use mathlib.Core.List.{List, [], ◌∷◌}
use mathlib.Core.Bool.{true, false}
use lib.ListN.{get_or}
use lib.IntN.{ℤ, pos, negsuc}
use lib.Signed.{mag}
use borrow.Author.Tests.{eqb-true}
use Rattle.value.specs.Values.{not, neg, add, sub, mul, less, equal, and, bytes, word}
use Rattle.value.specs.Marks.{Mark, whole_mark, location_mark, no_mark, yes_mark, local_mark, one_mark, two_mark, no_expr, mark_of}
use Rattle.value.proofs.Laws.Marks.{marks?, mark_right}
use Rattle.value.specs.declared.Value.TheVariants.{Truth}
use Rattle.basics.specs.Columns.{row_of, operands_of}
use Rattle.format.specs.Syntax.{Expr, constant}
use Rattle.format.specs.Encode.{expr}
use Rattle.format.proofs.Laws.Stands.{Stands, first, others, inside}
use Rattle.ctext.specs.Pieces.{decimal, whole}
use Rattle.ctext.proofs.Laws.Numbers.{Stops, number_first}
use Rattle.ctext.proofs.Laws.ExprText.{key_at, ExprText, WholeIn, LocationIn, LocalIn}
use Rattle.ctext.proofs.Laws.ExprText.{whole_in, location_in, no_in, yes_in, local_in}
use Rattle.writer.specs.Laws.Put.{Put}
use Rattle.writer.proofs.Puts.{put_cons, put_same}
use Rattle.retable.specs.Laws.Pieces.{Skips, ReadsNumber}
use Rattle.retable.specs.Laws.Exprs.{Parses, ParsesByte, ParsesTwo, ParsesWhole, ParsesLeaf}
use Rattle.retable.specs.declared.pieces.Numbered.{Numbered}
use Rattle.retable.specs.declared.exprs.Parsed.{Parsed}

-- ---- numbers

module _ {x : List ℕ} {i : ℕ} {n : Numbered} {o o' : List ℕ} {p q : ℕ} (N : ReadsNumber x i n) where
  -- of one byte
  pub byte_way : Put o p (n.number % 256 ∷ []) o' q → ParsesByte x i o p o' (record { next = n.next; to = q })
  byte_way P = record {
    gives = λ k j s h l.
        let e : n.number % 256 ≡ k = omega (arith, N.is k j s h (omega arith)) in
        record { puts = rw e at P; ends = N.ends k j s h (omega arith) };
  }

  -- of two
  pub two_way : Put o p (bytes 2 n.number) o' q → ParsesTwo x i o p o' (record { next = n.next; to = q })
  two_way P = record {
    gives = λ k j s h l. record { puts = rw (N.is k j s h (omega arith)) at P; ends = N.ends k j s h (omega arith) };
  }

-- a whole number that is not below 0
pub whole_up : {x : List ℕ} {i k : ℕ} {n : Numbered} {o o' : List ℕ} {p q : ℕ} → k ≡ get_or x (i + 0) 0 → (k ≡ 45 → ⊥) → ReadsNumber x i n
    → Put o p (bytes 4 n.number) o' q → ParsesWhole x i o p o' (record { next = n.next; to = q })
whole_up {x} {i} {k} {n} {o} {o'} {p} {q} e f N P = record { gives = gives }
  where
    gives : (z : ℤ) (j : ℕ) → Stands x i (whole z) j → Stops x j → mag z < 2 ^ 31 → Parses (bytes 4 (word z)) j o p o' (record { next = n.next; to = q })
    gives (pos m) j s h l = record { puts = rw (N.is m j s h (omega arith)) at P; ends = N.ends m j s h (omega arith) }
    gives (negsuc m) j s h l = let same : k ≡ get_or x i 0 = rw add-zero at e in absurd (f (same ∙ first s))

-- one that is
pub whole_down : {x : List ℕ} {i k t : ℕ} {n : Numbered} {o o' : List ℕ} {p q : ℕ} → k ≡ get_or x (i + 0) 0 → k ≡ 45 → Skips x i 1 t → ReadsNumber x t n
    → Put o p (bytes 4 (4294967296 - n.number % 4294967296)) o' q → ParsesWhole x i o p o' (record { next = n.next; to = q })
whole_down {x} {i} {k} {t} {n} {o} {o'} {p} {q} e f S N P = record { gives = gives }
  where
    gives : (z : ℤ) (j : ℕ) → Stands x i (whole z) j → Stops x j → mag z < 2 ^ 31 → Parses (bytes 4 (word z)) j o p o' (record { next = n.next; to = q })
    gives (pos m) j s h l = let same : k ≡ get_or x i 0 = rw add-zero at e in absurd (omega (arith, (number_first m s).least))
    gives (negsuc m) j s h l =
        let place : i + 1 ≡ t = sym (S.to (omega (arith, inside s))) in
        let digits : Stands x t (decimal (suc m)) j = subst (λ t. Stands x t (decimal (suc m)) j) place (others s) in
        let size : suc m < 10 ^ 10 = omega arith in
        let is : 4294967296 - n.number % 4294967296 ≡ 2 ^ 32 - suc m = omega (arith, N.is (suc m) j digits h size) in
        record { puts = rw is at P; ends = N.ends (suc m) j digits h size }

-- ---- leaves

-- the same bytes and the same end, written in another way
pub parses_as : {a b : List ℕ} {j k : ℕ} {o o' : List ℕ} {p : ℕ} {r : Parsed} → a ≡ b → j ≡ k → Parses a j o p o' r → Parses b k o p o' r
parses_as e f P = record { puts = put_same e P.puts; ends = P.ends ∙ f }

-- what was written is the mark
marked : {o o' : List ℕ} {p q m : ℕ} (n : ℕ) → m ≡ n → Put o p (m ∷ []) o' q → Put o p (n ∷ []) o' q
marked n e P = put_same (ap (λ m. m ∷ []) e) P

module _ {x : List ℕ} {i m : ℕ} {o o₁ : List ℕ} {p q : ℕ} (P : Put o p (m ∷ []) o₁ q) where
  -- x<i>
  pub leaf_local : {o₂ : List ℕ} {s : ℕ} {r : Parsed} → m ≡ 5 → Skips x i 1 s → ParsesByte x s o₁ q o₂ r → ParsesLeaf x i m o p o₂ r
  leaf_local {o₂} {s} {r} e S B = record { gives = gives }
    where
      gives : (d n : ℕ) (a : Expr) (j : ℕ) → ExprText x i d n a j → key_at x i ≡ m → operands_of m ≡ 0 → Parses (expr a) j o p o₂ r
      gives d n a j h k z =
          let w : LocalIn x i d n a j = local_in h (k ∙ e) in
          let place : i + 1 ≡ s = sym (S.to (omega (arith, w.number.ends, w.number.fits))) in
          let b : Parses (w.v ∷ []) j o₁ q o₂ r = B.gives w.v j (subst (λ i. Stands x i (decimal w.v) j) place w.number) w.stops w.fits in
          rw w.is (record { puts = put_cons (marked 5 e P) b.puts; ends = b.ends })

  -- z_num(<n>)
  pub leaf_whole : {o₂ : List ℕ} {s t : ℕ} {r : Parsed} → m ≡ 1 → Skips x i 6 s → ParsesWhole x s o₁ q o₂ r → Skips x r.next 1 t
      → ParsesLeaf x i m o p o₂ (record { next = t; to = r.to })
  leaf_whole {o₂} {s} {t} {r} e S B T = record { gives = gives }
    where
      gives : (d n : ℕ) (a : Expr) (j : ℕ) → ExprText x i d n a j → key_at x i ≡ m → operands_of m ≡ 0
          → Parses (expr a) j o p o₂ (record { next = t; to = r.to })
      gives d n a j h k z =
          let w : WholeIn x i d n a j = whole_in h (k ∙ e) in
          let place : i + 6 ≡ s = sym (S.to (omega (arith, w.number.ends, w.number.fits))) in
          let b : Parses (bytes 4 (word w.z)) w.k o₁ q o₂ r =
          B.gives w.z w.k (subst (λ i. Stands x i (whole w.z) w.k) place w.number) w.stops w.fits
          in
          let last : t ≡ r.next + 1 = T.to (omega (arith, b.ends, w.ends, h.stands.fits)) in
          rw w.is (record { puts = put_cons (marked 1 e P) b.puts; ends = omega (arith, b.ends, w.ends) })

  -- z_loc(<l>)
  pub leaf_location : {o₂ : List ℕ} {s t : ℕ} {r : Parsed} → m ≡ 2 → Skips x i 6 s → ParsesTwo x s o₁ q o₂ r → Skips x r.next 1 t
      → ParsesLeaf x i m o p o₂ (record { next = t; to = r.to })
  leaf_location {o₂} {s} {t} {r} e S B T = record { gives = gives }
    where
      gives : (d n : ℕ) (a : Expr) (j : ℕ) → ExprText x i d n a j → key_at x i ≡ m → operands_of m ≡ 0
          → Parses (expr a) j o p o₂ (record { next = t; to = r.to })
      gives d n a j h k z =
          let w : LocationIn x i d n a j = location_in h (k ∙ e) in
          let place : i + 6 ≡ s = sym (S.to (omega (arith, w.number.ends, w.number.fits))) in
          let b : Parses (bytes 2 w.l) w.k o₁ q o₂ r =
          B.gives w.l w.k (subst (λ i. Stands x i (decimal w.l) w.k) place w.number) w.stops w.fits
          in
          let last : t ≡ r.next + 1 = T.to (omega (arith, b.ends, w.ends, h.stands.fits)) in
          rw w.is (record { puts = put_cons (marked 2 e P) b.puts; ends = omega (arith, b.ends, w.ends) })

  -- z_false()
  pub leaf_false : {t : ℕ} → m ≡ 3 → Skips x i 9 t → ParsesLeaf x i m o p o₁ (record { next = t; to = q })
  leaf_false {t} e T = record { gives = gives }
    where
      gives : (d n : ℕ) (a : Expr) (j : ℕ) → ExprText x i d n a j → key_at x i ≡ m → operands_of m ≡ 0
          → Parses (expr a) j o p o₁ (record { next = t; to = q })
      gives d n a j h k z =
          let w : (a ≡ constant (Truth false)) × (j ≡ i + 9) = no_in h (k ∙ e) in
          let last : t ≡ i + 9 = T.to (omega (arith, w.1, h.stands.fits)) in
          rw w.0 (record { puts = marked 3 e P; ends = omega (arith, w.1) })

  -- z_true()
  pub leaf_true : {t : ℕ} → (m ≡ 5 → ⊥) → (m ≡ 1 → ⊥) → (m ≡ 2 → ⊥) → (m ≡ 3 → ⊥) → Skips x i 8 t
      → ParsesLeaf x i m o p o₁ (record { next = t; to = q })
  leaf_true {t} n₅ n₁ n₂ n₃ T = record { gives = gives }
    where
      last_leaf : (k : Mark) → marks? m k ≡ true → (row_of k).operands ≡ 0 → m ≡ 4
      last_leaf whole_mark e z = absurd (n₁ (eqb-true m 1 e))
      last_leaf location_mark e z = absurd (n₂ (eqb-true m 2 e))
      last_leaf no_mark e z = absurd (n₃ (eqb-true m 3 e))
      last_leaf yes_mark e z = eqb-true m 4 e
      last_leaf local_mark e z = absurd (n₅ (eqb-true m 5 e))
      last_leaf (one_mark not) e z = absurd (omega (arith, z))
      last_leaf (one_mark neg) e z = absurd (omega (arith, z))
      last_leaf (two_mark add) e z = absurd (omega (arith, z))
      last_leaf (two_mark sub) e z = absurd (omega (arith, z))
      last_leaf (two_mark mul) e z = absurd (omega (arith, z))
      last_leaf (two_mark less) e z = absurd (omega (arith, z))
      last_leaf (two_mark equal) e z = absurd (omega (arith, z))
      last_leaf (two_mark and) e z = absurd (omega (arith, z))
      last_leaf no_expr e z = absurd (omega (arith, z))

      gives : (d n : ℕ) (a : Expr) (j : ℕ) → ExprText x i d n a j → key_at x i ≡ m → operands_of m ≡ 0
          → Parses (expr a) j o p o₁ (record { next = t; to = q })
      gives d n a j h k z =
          let four : m ≡ 4 = last_leaf (mark_of m) (mark_right m) z in
          let w : (a ≡ constant (Truth true)) × (j ≡ i + 8) = yes_in h (k ∙ four) in
          let last : t ≡ i + 8 = T.to (omega (arith, w.1, h.stands.fits)) in
          rw w.0 (record { puts = marked 4 four P; ends = omega (arith, w.1) })

-- one law for each way
pub ruleset leaf_ways = (byte_way, two_way, whole_up, whole_down, leaf_local, leaf_whole, leaf_location, leaf_false, leaf_true)

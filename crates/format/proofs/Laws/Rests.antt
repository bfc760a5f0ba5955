-- What a reader leaves is the rest of the bytes that it was given, whatever numbers these are.
use Rattle.std.specs.Prelude.{ℕ, zero, suc, ◌+◌, ◌-◌, ◌≤◌, ◌<◌, ◌≡◌, refl, List, [], ◌∷◌, length, get_or, drop, leb}
use Rattle.std.proofs.Common.{arith, ap, ◌∙◌, length-drop, drop_of_length-le, drop-drop, leb-true, leb-false}
use Rattle.std.proofs.Math.Seq.{drop-length}
use Rattle.value.specs.Maybe.{is, ◌>>=◌}
use Rattle.value.specs.Marks.{Mark, whole_mark, location_mark, no_mark, yes_mark, local_mark, one_mark, two_mark, no_expr, mark_of}
use Rattle.value.proofs.Laws.Tests.{by_test, le?}
use Rattle.format.specs.Syntax.{Expr, Block, end, step, Plain}
use Rattle.format.specs.Decode.{Read, byte, number, times, marked, expr, Form, assign_form, write_form, read_form, while_form, if_form, call_form}
use Rattle.format.specs.Decode.{atomic_form, select_form, no_form, forms, formed, instr, row, block, max_depth}
use Rattle.format.proofs.Laws.Reading.{If, so, none, chain, chain_same, tested, if_so}

-- r is what is left of bs when some bytes are taken
pub record Rest (bs r : List ℕ) : Type 0 where
  pub taken : ℕ
  pub few : taken ≤ length bs
  pub is : r ≡ drop taken bs

-- nothing taken
pub rest_all : (bs : List ℕ) → Rest bs bs
rest_all bs = record { taken = 0; few = omega arith; is = refl }

-- some, and then more
pub rest_more : {bs r q : List ℕ} → Rest bs r → Rest r q → Rest bs q
rest_more {bs} {r} {q} a b =
    let left : length r ≡ length bs - a.taken = ap length a.is ∙ length-drop a.taken bs in
    record {
      taken = a.taken + b.taken;
      few = omega (arith, a.few, b.few);
      is = b.is ∙ ap (drop b.taken) a.is ∙ drop-drop b.taken a.taken bs;
    }

-- behind a byte that is taken
pub rest_after : (b : ℕ) {bs r : List ℕ} → Rest bs r → Rest (b ∷ bs) r
rest_after b a = record { taken = suc a.taken; few = omega (arith, a.few); is = a.is }

-- the reader leaves a rest
abbrev pub Leaves : {A : Type 0} → List ℕ → Read A → Type 0
Leaves bs m = If (λ got. Rest bs got.1) m

-- a reader and then another
then : {A B : Type 0} {bs : List ℕ} {m : Read A} (f : (A × List ℕ) → Read B) → Leaves bs m → ((a : A) (r : List ℕ) → Leaves r (f (a, r)))
    → Leaves bs (m >>= f)
then f l next = chain f l λ (a, r) first. if_so (λ got second. rest_more first second) (next a r)

-- at the end of a chain
done : {A : Type 0} (a : A) (bs : List ℕ) → Leaves bs (is (a, bs))
done a bs = so (rest_all bs)

-- one byte
byte_leaves : (bs : List ℕ) → Leaves bs (byte bs)
byte_leaves [] = none
byte_leaves (b ∷ bs) = so (rest_after b (rest_all bs))

-- k bytes
number_leaves : (k : ℕ) (bs : List ℕ) → Leaves bs (number k bs)
number_leaves k bs = tested _ (le? k (length bs)) λ enough. so (record { taken = k; few = enough; is = refl })

-- n things
times_leaves : {A : Type 0} (read : List ℕ → Read A) → ((bs : List ℕ) → Leaves bs (read bs)) → (n : ℕ) (bs : List ℕ) → Leaves bs (times read n bs)
times_leaves read one zero bs = done [] bs
times_leaves read one (suc n) bs = then _ (one bs) λ a r. then _ (times_leaves read one n r) λ xs q. done _ q

-- an expression
module _ (inner : List ℕ → Read Expr) (leaves : (bs : List ℕ) → Leaves bs (inner bs)) where
  -- by its mark
  marked_leaves : (k : Mark) (bs : List ℕ) → Leaves bs (marked inner k bs)
  marked_leaves whole_mark bs = then _ (number_leaves 4 bs) λ n r. done _ r
  marked_leaves location_mark bs = then _ (number_leaves 2 bs) λ n r. done _ r
  marked_leaves no_mark bs = done _ bs
  marked_leaves yes_mark bs = done _ bs
  marked_leaves local_mark bs = then _ (byte_leaves bs) λ n r. done _ r
  marked_leaves (one_mark o) bs = then _ (leaves bs) λ a r. done _ r
  marked_leaves (two_mark o) bs = then _ (leaves bs) λ a r. then _ (leaves r) λ b q. done _ q
  marked_leaves no_expr bs = none

-- of any depth
pub expr_leaves : (d : ℕ) (bs : List ℕ) → Leaves bs (expr d bs)
expr_leaves zero bs = none
expr_leaves (suc d) [] = none
expr_leaves (suc d) (m ∷ bs) = if_so (λ got. rest_after m) (marked_leaves (expr d) (expr_leaves d) (mark_of m) bs)

module _ (inner : List ℕ → Read (Block Plain)) (leaves : (bs : List ℕ) → Leaves bs (inner bs)) where
  -- an expression in it
  abbrev inside : (bs : List ℕ) → Leaves bs (expr max_depth bs)
  inside = expr_leaves max_depth

  -- an instruction
  formed_leaves : (k : Form) (bs : List ℕ) → Leaves bs (formed inner k bs)
  formed_leaves assign_form bs = then _ (byte_leaves bs) λ x r. then _ (inside r) λ e r. done _ r
  formed_leaves write_form bs = then _ (byte_leaves bs) λ y r. then _ (inside r) λ o r. then _ (inside r) λ e r. done _ r
  formed_leaves read_form bs = then _ (byte_leaves bs) λ x r. then _ (byte_leaves r) λ y r. then _ (inside r) λ o r. done _ r
  formed_leaves while_form bs = then _ (inside bs) λ e r. then _ (leaves r) λ b r. done _ r
  formed_leaves if_form bs = then _ (inside bs) λ e r. then _ (leaves r) λ b r. then _ (leaves r) λ c r. done _ r
  formed_leaves call_form bs =
      then _ (number_leaves 2 bs) λ m r.
      then _ (byte_leaves r) λ n r.
      then _ (times_leaves (expr max_depth) inside n r) λ es r.
      done _ r
  formed_leaves atomic_form bs = then _ (leaves bs) λ b r. done _ r
  formed_leaves select_form bs = then _ (number_leaves 2 bs) λ a r. then _ (number_leaves 2 r) λ b r. done _ r
  formed_leaves no_form bs = none

  -- with its first byte
  pub instr_leaves : (bs : List ℕ) → Leaves bs (instr inner bs)
  instr_leaves [] = none
  instr_leaves (m ∷ bs) = if_so (λ got. rest_after m) (formed_leaves (get_or forms m no_form) bs)

  -- and takes a byte
  pub instr_takes : (bs : List ℕ) → If (λ got. length got.1 < length bs) (instr inner bs)
  instr_takes [] = none
  instr_takes (m ∷ bs) =
      if_so (λ got rest. omega (arith, ap length rest.is, length-drop rest.taken bs)) (formed_leaves (get_or forms m no_form) bs)

  -- a row of instructions
  row_leaves : (f : ℕ) (bs : List ℕ) → Leaves bs (row inner f bs)
  row_leaves zero bs = none
  row_leaves (suc f) [] = none
  row_leaves (suc f) (zero ∷ bs) = so (rest_after 0 (rest_all bs))
  row_leaves (suc f) (suc m ∷ bs) = then _ (instr_leaves (suc m ∷ bs)) λ i r. then _ (row_leaves f r) λ b q. done _ q

  -- every bound that the bytes' count does not pass gives the same
  row_bound : (f g : ℕ) (bs : List ℕ) → length bs ≤ f → length bs ≤ g → row inner f bs ≡ row inner g bs
  row_bound zero zero bs i j = refl
  row_bound zero (suc g) [] i j = refl
  row_bound zero (suc g) (b ∷ bs) i j = absurd (omega arith)
  row_bound (suc f) zero [] i j = refl
  row_bound (suc f) zero (b ∷ bs) i j = absurd (omega arith)
  row_bound (suc f) (suc g) [] i j = refl
  row_bound (suc f) (suc g) (zero ∷ bs) i j = refl
  row_bound (suc f) (suc g) (suc m ∷ bs) i j =
      chain_same _ _ (instr_takes (suc m ∷ bs)) λ got less. rw (row_bound f g got.1 (omega arith) (omega arith))

-- a block
pub block_leaves : (d : ℕ) (bs : List ℕ) → Leaves bs (block d bs)
block_leaves zero bs = none
block_leaves (suc d) bs = row_leaves (block d) (block_leaves d) (length bs) bs

-- the byte 00 ends a block
pub block_ends : (d : ℕ) (bs : List ℕ) → block (suc d) (0 ∷ bs) ≡ is (end, bs)
block_ends d bs = refl

-- any other byte begins an instruction, and after it the block goes on
pub block_goes_on : (d m : ℕ) (bs : List ℕ)
    → block (suc d) (suc m ∷ bs) ≡ (instr (block d) (suc m ∷ bs) >>= λ (i, r). block (suc d) r >>= λ (b, q). is (step tt i b, q))
block_goes_on d m bs =
    chain_same _ _ (instr_takes (block d) (block_leaves d) (suc m ∷ bs)) λ got less.
    rw (row_bound (block d) (block_leaves d) (length bs) (length got.1) got.1 (omega arith) (omega arith))

-- what is left of t, by its length
pub rest_length : (t r : List ℕ) (n : ℕ) → r ≡ drop n t → r ≡ drop (length t - length r) t
rest_length t r n e =
    let long : length r ≡ length t - n = ap length e ∙ length-drop n t in
    by_test (leb n (length t))
    (λ some. let same : length t - length r ≡ n = omega (arith, leb-true n (length t) some) in rw same e)
    (λ past.
    let none : drop n t ≡ [] = drop_of_length-le t {i = n} (omega (arith, leb-false n (length t) past)) in
    let all : length t - length r ≡ length t = omega (arith, leb-false n (length t) past) in
    rw (all, drop-length, e, none))

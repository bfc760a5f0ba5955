-- Tokens: the ways through the reader of one, and the row of tokens that a block is.
use Prim.Native.Nat.{ℕ, suc, ◌+◌, ◌-◌, ◌≤◌, ◌<◌}
use native.Mathlib.Omega.{arith}
use Rattle.std.specs.Prelude.{◌≡◌, refl, List, [], ◌∷◌, ◌++◌, true, false, length, get_or, ltb, leb}
use Rattle.std.proofs.Common.{le-ltb, lt-ltb, sym, ap, ap₂, subst}
use Rattle.std.proofs.lemmas.List.{get_or_default, get_or_past}
use borrow.Author.Tests.{ne_eqb, ltb-true, ltb-false, leb-true}
use Rattle.value.proofs.Laws.Tests.{by_test}
use Rattle.value.proofs.Laws.Tables.{looked_up}
use Rattle.scan.specs.declared.tokens.Token.{Token}
use Rattle.scan.specs.declared.tokens.Token.TheVariants as T
use Rattle.value.specs.Values.{bytes, word, One, not, neg, Two, add, sub, mul, less, equal, and}
use Rattle.value.proofs.Laws.Lists.{Each, each_at, at_get_d, all_passed}
use Rattle.value.specs.Marks.{mark₁, mark₂}
use Rattle.value.specs.declared.Value.TheVariants.{Whole, Location, Truth}
use Rattle.format.specs.Syntax.{Expr, constant, local, one, two, Instr, assign, write, read, while, if, call, atomic, select, Block, end, step}
use Rattle.format.specs.Encode.{each}
use Rattle.format.specs.Encode as E
use Rattle.scan.specs.Tokens.{two_at, token_of, token_at, sizes, size_of, size_at, tokens_e, tokens_es, tokens_i, tokens}
use Rattle.format.proofs.Laws.Fits.{NumbersFit, ExprFits, Says, SaysI}
use Rattle.format.proofs.Laws.Stands.{Stands, first, others, front, back, two_bytes}
use Rattle.format.specs.Decode.{max_depth}

-- ---- one token, by its mark

module _ (t : List ℕ) (i : ℕ) where
  -- 00
  pub at_stop : get_or t i 0 ≡ 0x00 → T.Stop ≡ token_at t i
  unfolding token_at
  at_stop m = rw m

  -- 02 and a location
  pub at_location : {n : ℕ} → get_or t i 0 ≡ 0x02 → n ≡ two_at t (i + 1) → T.Location n ≡ token_at t i
  unfolding token_at
  at_location m e = rw (m, e)

  -- 05 and a local
  pub at_local : {n : ℕ} → get_or t i 0 ≡ 0x05 → n ≡ get_or t (i + 1) 0 → T.Local n ≡ token_at t i
  unfolding token_at
  at_local m e = rw (m, e)

  -- 20 and its target
  pub at_assign : {n : ℕ} → get_or t i 0 ≡ 0x20 → n ≡ get_or t (i + 1) 0 → T.Assign n ≡ token_at t i
  unfolding token_at
  at_assign m e = rw (m, e)

  -- 21 and its pointer
  pub at_write : {n : ℕ} → get_or t i 0 ≡ 0x21 → n ≡ get_or t (i + 1) 0 → T.Write n ≡ token_at t i
  unfolding token_at
  at_write m e = rw (m, e)

  -- 22, its target and its pointer
  pub at_read : {x y : ℕ} → get_or t i 0 ≡ 0x22 → x ≡ get_or t (i + 1) 0 → y ≡ get_or t (i + 2) 0 → T.Read x y ≡ token_at t i
  unfolding token_at
  at_read m e f = rw (m, e, f)

  -- 23
  pub at_while : get_or t i 0 ≡ 0x23 → T.While ≡ token_at t i
  unfolding token_at
  at_while m = rw m

  -- 24
  pub at_if : get_or t i 0 ≡ 0x24 → T.If ≡ token_at t i
  unfolding token_at
  at_if m = rw m

  -- 25, the callee and the number of arguments
  pub at_call : {m n : ℕ} → get_or t i 0 ≡ 0x25 → m ≡ two_at t (i + 1) → n ≡ get_or t (i + 3) 0 → T.Call m n ≡ token_at t i
  unfolding token_at
  at_call m e f = rw (m, e, f)

  -- 26
  pub at_atomic : get_or t i 0 ≡ 0x26 → T.Atomic ≡ token_at t i
  unfolding token_at
  at_atomic m = rw m

  -- 27 and two locations
  pub at_select : {a b : ℕ} → get_or t i 0 ≡ 0x27 → a ≡ two_at t (i + 1) → b ≡ two_at t (i + 3) → T.Select a b ≡ token_at t i
  unfolding token_at
  at_select m e f = rw (m, e, f)

  -- any other mark
  pub at_plain : (get_or t i 0 ≡ 0x00 → ⊥) → (get_or t i 0 ≡ 0x02 → ⊥) → (get_or t i 0 ≡ 0x05 → ⊥) → (get_or t i 0 ≡ 0x20 → ⊥) → (get_or t i 0 ≡ 0x21 → ⊥)
      → (get_or t i 0 ≡ 0x22 → ⊥) → (get_or t i 0 ≡ 0x23 → ⊥) → (get_or t i 0 ≡ 0x24 → ⊥) → (get_or t i 0 ≡ 0x25 → ⊥) → (get_or t i 0 ≡ 0x26 → ⊥)
      → (get_or t i 0 ≡ 0x27 → ⊥) → T.Plain ≡ token_at t i
  unfolding token_at
  at_plain a b c d e f g h j k l =
      simp (
        ne_eqb _ _ a,
        ne_eqb _ _ b,
        ne_eqb _ _ c,
        ne_eqb _ _ d,
        ne_eqb _ _ e,
        ne_eqb _ _ f,
        ne_eqb _ _ g,
        ne_eqb _ _ h,
        ne_eqb _ _ j,
        ne_eqb _ _ k,
        ne_eqb _ _ l,
      )

-- one law for each way through the reader of a token
pub ruleset token_ways = (at_stop, at_location, at_local, at_assign, at_write, at_read, at_while, at_if, at_call, at_atomic, at_select, at_plain)

-- ---- the size of a token

-- no token has more than 5 bytes
pub size_small : (m : ℕ) → get_or sizes m 0 < 6
size_small m = ltb-true _ _ (looked_up (λ n k. ltb k 6) sizes 0 (λ n. refl) refl m)

-- by the table, or 1 if the mark is not in it
pub size_got : (m : ℕ) → get_or sizes m 1 ≡ size_of m
size_got m =
    by_test (ltb m 0x28)
    (λ l. rw l (get_or_default sizes m 1 0 (ltb-true m 0x28 l)))
    (λ l. rw l (get_or_past sizes m 1 (ltb-false m 0x28 l)))

pub ruleset sizes_listed = (size_got)

module _ (t : List ℕ) (i : ℕ) where
  -- by the table
  pub size_listed : get_or t i 0 < 0x28 → i + get_or sizes (get_or t i 0) 0 ≡ i + size_at t i
  unfolding size_at
  size_listed h = rw (lt-ltb _ _ h)

  -- any other mark
  pub size_other : 0x28 ≤ get_or t i 0 → i + 1 ≡ i + size_at t i
  unfolding size_at
  size_other h = rw (le-ltb _ _ h)

-- each token has a byte
pub size_pos : (t : List ℕ) (i : ℕ) → 0 < size_at t i
unfolding size_at
size_pos t i =
    let m : ℕ = get_or t i 0 in
    by_test (ltb m 0x28)
    (λ e. rw e (leb-true _ _ (each_at (λ k. leb 1 k ≡ true) sizes m (all_passed (leb 1) sizes refl) (at_get_d sizes m 0 (ltb-true m 0x28 e)))))
    (λ e. rw e (omega arith))

-- so a loop over tokens ends
pub token_falls : (t : List ℕ) (i e : ℕ) {n : ℕ} → i < e → n ≡ i + size_at t i → e - n < e - i
token_falls t i e l z = omega (arith, size_pos t i)

-- ---- rows of tokens

-- the tokens from i up to j
pub data Row (t : List ℕ) : ℕ → List Token → ℕ → Type 0 where
  done : {i : ℕ} → Row t i [] i
  more : {i n j : ℕ} {k : Token} {ks : List Token} → i < n → token_at t i ≡ k → i + size_at t i ≡ n → Row t n ks j → Row t i (k ∷ ks) j

-- a row does not end before it begins
pub row_le : {t : List ℕ} {i j : ℕ} {ks : List Token} → Row t i ks j → i ≤ j
row_le done = omega arith
row_le (more l e z r) = omega (arith, row_le r)

-- one row after another
pub row_append : {t : List ℕ} {i k j : ℕ} {ks ls : List Token} → Row t i ks k → Row t k ls j → Row t i (ks ++ ls) j
row_append done q = q
row_append (more l e z r) q = more l e z (row_append r q)

-- ---- the row of an expression, of an instruction, of a block

module _ {t : List ℕ} {i j : ℕ} {k : Token} (m : ℕ) (bs : List ℕ) (size : size_of m ≡ suc (length bs)) where
  -- a mark and the numbers that belong to it, and what stands after them
  token : (cs : List ℕ) {ks : List Token} → Stands t i (m ∷ bs ++ cs) j → token_of m t i ≡ k
      → (Stands t (i + suc (length bs)) cs j → Row t (i + suc (length bs)) ks j) → Row t i (k ∷ ks) j
  unfolding token_at size_at
  token cs {ks} s e r =
      let past : i < i + suc (length bs) = omega arith in
      let same : token_at t i ≡ k = rw (first s) e in
      let long : i + size_at t i ≡ i + suc (length bs) = rw (first s, size) in
      more past same long (r (back (m ∷ bs) cs s))

  -- and nothing
  last_token : Stands t i (m ∷ bs) j → token_of m t i ≡ k → Row t i (k ∷ []) j
  unfolding token_at size_at
  last_token s e =
      let past : i < j = omega (arith, s.ends) in
      let same : token_at t i ≡ k = rw (first s) e in
      let long : i + size_at t i ≡ j = rw (first s, size) (sym s.ends) in
      more past same long done

-- the same position, written in another way
pub shift : {t : List ℕ} {i k : ℕ} {bs : List ℕ} {j : ℕ} → Stands t i bs j → i ≡ k → Stands t k bs j
shift {t} {bs = bs} {j} s e = subst (λ i. Stands t i bs j) e s

-- an operator of one operand is plain, and one byte
plain₁ : (o : One) (t : List ℕ) (i : ℕ) → (size_of (mark₁ o) ≡ 1) × (token_of (mark₁ o) t i ≡ T.Plain)
plain₁ not t i = (refl, refl)
plain₁ neg t i = (refl, refl)

-- of two operands
plain₂ : (o : Two) (t : List ℕ) (i : ℕ) → (size_of (mark₂ o) ≡ 1) × (token_of (mark₂ o) t i ≡ T.Plain)
plain₂ add t i = (refl, refl)
plain₂ sub t i = (refl, refl)
plain₂ mul t i = (refl, refl)
plain₂ less t i = (refl, refl)
plain₂ equal t i = (refl, refl)
plain₂ and t i = (refl, refl)

-- an expression
row_e : {t : List ℕ} {i j : ℕ} (e : Expr) → NumbersFit e → Stands t i (E.expr e) j → Row t i (tokens_e e) j
row_e (constant (Whole z)) f s = last_token 0x01 (bytes 4 (word z)) refl s refl
row_e (constant (Location l)) f s = last_token 0x02 (bytes 2 l) refl s (ap T.Location (two_bytes l (others s) f))
row_e (constant (Truth false)) f s = last_token 0x03 [] refl s refl
row_e (constant (Truth true)) f s = last_token 0x04 [] refl s refl
row_e (local x) f s = last_token 0x05 (x ∷ []) refl s (ap T.Local (first (others s)))
row_e {t} {i} (one o a) f s = token (mark₁ o) [] (plain₁ o t i).0 (E.expr a) s (plain₁ o t i).1 (row_e {i = i + 1} a f)
row_e {t} {i} (two o a b) f s =
    token (mark₂ o) [] (plain₂ o t i).0 (E.expr a ++ E.expr b) s (plain₂ o t i).1 λ u.
    row_append (row_e {i = i + 1} a f.0 (front (E.expr a) (E.expr b) u)) (row_e {i = i + 1 + length (E.expr a)} b f.1 (back (E.expr a) (E.expr b) u))

-- two of them
row_e₂ : {t : List ℕ} {i j : ℕ} (a b : Expr) → NumbersFit a → NumbersFit b → Stands t i (E.expr a ++ E.expr b) j → Row t i (tokens_e a ++ tokens_e b) j
row_e₂ a b f g u = row_append (row_e a f (front (E.expr a) (E.expr b) u)) (row_e b g (back (E.expr a) (E.expr b) u))

-- several
row_es : {t : List ℕ} {i j : ℕ} (es : List Expr) → Each (ExprFits max_depth) es → Stands t i (each E.expr es) j → Row t i (tokens_es es) j
row_es {t} {i} [] f s = subst (λ (j : ℕ). Row t i [] j) (omega (arith, s.ends)) done
row_es {t} {i} (e ∷ es) f s =
    row_append (row_e e f.0.1 (front (E.expr e) (each E.expr es) s)) (row_es {i = i + length (E.expr e)} es f.1 (back (E.expr e) (each E.expr es) s))

mutual
  -- an instruction
  row_i : {A : Type 0} {t : List ℕ} {i j : ℕ} (a : Instr A) → SaysI a → Stands t i (E.instr a) j → Row t i (tokens_i a) j
  row_i (assign x e) f s = token 0x20 (x ∷ []) refl (E.expr e) s (ap T.Assign (first (others s))) (row_e e f.1.1)
  row_i (write y o e) f s = token 0x21 (y ∷ []) refl (E.expr o ++ E.expr e) s (ap T.Write (first (others s))) (row_e₂ o e f.1.1 f.2.1)
  row_i {t = t} {i} {j} (read x y o) f s =
      let second : Stands t (i + 2) (y ∷ E.expr o) j = shift (others (others s)) (omega arith) in
      token 0x22 (x ∷ y ∷ []) refl (E.expr o) s (ap₂ T.Read (first (others s)) (first second)) (row_e o f.2.1)
  row_i (while e b) f s =
      token 0x23 [] refl (E.expr e ++ E.block b) s refl λ u.
      row_append (row_e e f.0.1 (front (E.expr e) (E.block b) u)) (row b f.1 (back (E.expr e) (E.block b) u))
  row_i (if e b c) f s =
      token 0x24 [] refl (E.expr e ++ (E.block b ++ E.block c)) s refl λ u.
      let blocks = back (E.expr e) (E.block b ++ E.block c) u in
      row_append (row_e e f.0.1 (front (E.expr e) (E.block b ++ E.block c) u))
      (row_append (row b f.1 (front (E.block b) (E.block c) blocks)) (row c f.2 (back (E.block b) (E.block c) blocks)))
  row_i {t = t} {i} {j} (call m es) f s =
      let count : Stands t (i + 3) (length es ∷ each E.expr es) j = shift (back (0x25 ∷ bytes 2 m) (length es ∷ each E.expr es) s) (omega arith) in
      let callee : two_at t (i + 1) ≡ m = two_bytes m (front (bytes 2 m) (length es ∷ each E.expr es) (others s)) f.0 in
      token 0x25 (bytes 2 m ++ (length es ∷ [])) refl (each E.expr es) s (ap₂ T.Call callee (first count)) (row_es es f.2)
  row_i (atomic b) f s = token 0x26 [] refl (E.block b) s refl λ u. row b f u
  row_i {t = t} {i} {j} (select a b) f s =
      let second : Stands t (i + 3) (bytes 2 b) j = shift (back (0x27 ∷ bytes 2 a) (bytes 2 b) s) (omega arith) in
      let names : T.Select (two_at t (i + 1)) (two_at t (i + 3)) ≡ T.Select a b =
      ap₂ T.Select (two_bytes a (front (bytes 2 a) (bytes 2 b) (others s)) f.0) (two_bytes b second f.1)
      in
      last_token 0x27 (bytes 2 a ++ bytes 2 b) refl s names

  -- a block
  pub row : {A : Type 0} {t : List ℕ} {i j : ℕ} (b : Block A) → Says b → Stands t i (E.block b) j → Row t i (tokens b) j
  row end f s = last_token 0x00 [] refl s refl
  row (step a i b) f s = row_append (row_i i f.0 (front (E.instr i) (E.block b) s)) (row b f.1 (back (E.instr i) (E.block b) s))

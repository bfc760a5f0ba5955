-- One law for each name of an expression.
use Prim.Native.Nat.{ℕ, ◌+◌}
use native.Mathlib.Nat.{add-zero}
use mathlib.Core.Path.{◌≡◌, sym, ◌∙◌}
use mathlib.Core.List.{List}
use lib.ListN.{get_or}
use borrow.Author.Tests.{ne_eqb}
use Rattle.ctext.proofs.Laws.ExprText.{name_key, key_at, name_length}

module _ (b c : ℕ) where
  -- z_num
  pub name_num : b ≡ 110 → c ≡ 117 → 0x01 ≡ name_key b c
  name_num e f = rw (e, f)

  -- z_not
  pub name_not : b ≡ 110 → c ≡ 111 → 0x16 ≡ name_key b c
  name_not e f = rw (e, f)

  -- z_neg
  pub name_neg : b ≡ 110 → (c ≡ 117 → ⊥) → (c ≡ 111 → ⊥) → 0x17 ≡ name_key b c
  name_neg e f g = rw (e, ne_eqb _ _ f, ne_eqb _ _ g)

  -- z_loc
  pub name_loc : b ≡ 108 → c ≡ 111 → 0x02 ≡ name_key b c
  name_loc e f = rw (e, f)

  -- z_less
  pub name_less : b ≡ 108 → (c ≡ 111 → ⊥) → 0x13 ≡ name_key b c
  name_less e f = rw (e, ne_eqb _ _ f)

  -- z_false
  pub name_false : b ≡ 102 → 0x03 ≡ name_key b c
  name_false e = rw e

  -- z_true
  pub name_true : b ≡ 116 → 0x04 ≡ name_key b c
  name_true e = rw e

  -- z_add
  pub name_add : b ≡ 97 → c ≡ 100 → 0x10 ≡ name_key b c
  name_add e f = rw (e, f)

  -- z_and
  pub name_and : b ≡ 97 → (c ≡ 100 → ⊥) → 0x15 ≡ name_key b c
  name_and e f = rw (e, ne_eqb _ _ f)

  -- z_sub
  pub name_sub : b ≡ 115 → 0x11 ≡ name_key b c
  name_sub e = rw e

  -- z_mul
  pub name_mul : b ≡ 109 → 0x12 ≡ name_key b c
  name_mul e = rw e

  -- z_equal
  pub name_equal : (b ≡ 110 → ⊥) → (b ≡ 108 → ⊥) → (b ≡ 102 → ⊥) → (b ≡ 116 → ⊥) → (b ≡ 97 → ⊥) → (b ≡ 115 → ⊥) → (b ≡ 109 → ⊥) → 0x14 ≡ name_key b c
  name_equal n l f t a s m =
      rw (ne_eqb _ _ n, ne_eqb _ _ l, ne_eqb _ _ f, ne_eqb _ _ t, ne_eqb _ _ a, ne_eqb _ _ s, ne_eqb _ _ m)

-- a local
pub key_local : (x : List ℕ) (i : ℕ) {k : ℕ} → k ≡ get_or x (i + 0) 0 → k ≡ 120 → 0x05 ≡ key_at x i
unfolding key_at
key_local x i e f = let here : get_or x i 0 ≡ 120 = rw add-zero at (sym e ∙ f) in rw here

-- another expression
pub key_name : (x : List ℕ) (i : ℕ) {k b c r : ℕ} → k ≡ get_or x (i + 0) 0 → (k ≡ 120 → ⊥) → b ≡ get_or x (i + 2) 0 → c ≡ get_or x (i + 3) 0 → r ≡ name_key b c
    → r ≡ key_at x i
unfolding key_at
key_name x i e f b c q =
    let same : _ ≡ get_or x i 0 = rw add-zero at e in
    rw (← same, ne_eqb _ _ f, ← b, ← c) q

-- how long a name is
pub long_less : (m : ℕ) → m ≡ 0x13 → 7 ≡ name_length m
long_less m e = rw e

pub long_equal : (m : ℕ) → m ≡ 0x14 → 8 ≡ name_length m
long_equal m e = rw e

pub long_other : (m : ℕ) → (m ≡ 0x13 → ⊥) → (m ≡ 0x14 → ⊥) → 6 ≡ name_length m
long_other m e f = rw (ne_eqb _ _ e, ne_eqb _ _ f)

-- one law for each name
pub ruleset name_ways = (
  name_num,
  name_not,
  name_neg,
  name_loc,
  name_less,
  name_false,
  name_true,
  name_add,
  name_and,
  name_sub,
  name_mul,
  name_equal,
  key_local,
  key_name,
  long_less,
  long_equal,
  long_other,
)

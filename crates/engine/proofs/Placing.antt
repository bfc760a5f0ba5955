-- One law for each way of finding a cell.
use Prim.Native.Nat.{ℕ, ◌+◌, ◌≤◌, ◌<◌}
use native.Mathlib.Omega.{arith}
use mathlib.Core.Path.{◌≡◌, refl, sym, ap, ◌∙◌}
use mathlib.Core.List.{List, [], ◌∷◌}
use mathlib.Core.Bool.{true, false}
use lib.ListN.{get_or, take, get_or-eq_default}
use Rattle.std.specs.Prelude.{Result, Ok, Err}
use lib.IntN.{ℤ, pos, negsuc, nat_abs}
use lib.Signed.{lt_z, non_neg}
use lib.Dec.{T}
use borrow.Author.Tests.{ltb-true}
use mir.Syntax.{w32}
use mir.Val.{SFits, Fits, of_z, to_z}
use mir.Facts.{to_z-of_z}
use types.Run.{OneOf, miss}
use denote.Enum.Declared.{tag_of}
use Rattle.value.specs.contracts.Value.{the_type}
use Rattle.value.proofs.Laws.Tests.{never}
use Rattle.value.specs.Try.{has, lacks, ◌⟫◌}
use Rattle.value.specs.Lists.{sum}
use Rattle.value.specs.Values.{given}
use Rattle.value.specs.declared.Value.{Value}
use Rattle.value.specs.declared.Value.TheVariants.{Whole, Location, Truth}
use Rattle.value.specs.declared.Reason.{Reason}
use Rattle.value.specs.declared.Reason.TheVariants.{WrongKind, IndexOutside}
use Rattle.engine.specs.declared.memory.Spot.{Spot}
use Rattle.semantics.specs.Memory.{index, Memory}
use Rattle.value.specs.Values.{number, place}
use Rattle.engine.specs.Work.{most_locations, Found, Finds, Placed, Places}
use Rattle.semantics.proofs.Laws.Cells.{shape}
use Rattle.engine.specs.Laws.Holding.{no_cell}
use Rattle.engine.specs.Laws.Starting.{next_start}

-- ---- an index of a location

module _ {bs : List ℕ} {l i : ℕ} where
  -- there is no such location
  pub far : most_locations ≤ l → Finds bs l i (Err IndexOutside)
  far h = record {
    found = λ η b. no_cell η l i (omega (arith, get_or-eq_default (shape η) 0 {n = l} (omega (arith, b.few))));
  }

  -- the index is below the size
  pub here : {a e : ℕ} → l < most_locations → a ≡ get_or bs l 0 → e ≡ get_or bs (l + 1) 0 → a + i < e → Finds bs l i (Ok (record { location = l; index = i; cell = a + i }))
  here {a} {e} h p q s = record {
    found = λ η b.
        let from : a ≡ sum (take l (shape η)) = p ∙ b.starts l (omega arith) in
        let to : e ≡ sum (take (l + 1) (shape η)) = q ∙ b.starts (l + 1) (omega arith) in
        (refl, refl, record { number = ap (◌+ i) from; size = omega (arith, next_start (shape η) l) });
  }

  -- it is not
  pub past : {a e : ℕ} → l < most_locations → a ≡ get_or bs l 0 → e ≡ get_or bs (l + 1) 0 → e ≤ a + i → Finds bs l i (Err IndexOutside)
  past {a} {e} h p q s = record {
    found = λ η b.
        let from : a ≡ sum (take l (shape η)) = p ∙ b.starts l (omega arith) in
        let to : e ≡ sum (take (l + 1) (shape η)) = q ∙ b.starts (l + 1) (omega arith) in
        no_cell η l i (omega (arith, next_start (shape η) l));
  }

pub ruleset find_ways = (far, here, past)

-- ---- a pointer and an index

-- no whole number
no_number : (v : Value) → OneOf (1 ∷ 2 ∷ []) (tag_of the_type v) → number v ≡ lacks WrongKind
no_number (Whole z) h = absurd (miss (1 ∷ 2 ∷ []) 0 tt h)
no_number (Location l) h = refl
no_number (Truth b) h = refl

-- no location
no_place : (v : Value) → OneOf (0 ∷ 2 ∷ []) (tag_of the_type v) → place v ≡ lacks WrongKind
no_place (Location l) h = absurd (miss (0 ∷ 2 ∷ []) 1 tt h)
no_place (Whole z) h = refl
no_place (Truth b) h = refl

-- below zero, no index
low_index : (z : ℤ) → lt_z z (pos 0) ≡ true → index z ≡ lacks IndexOutside
low_index (pos n) e = absurd (omega (arith, ltb-true n 0 e))
low_index (negsuc n) e = refl

-- else the number itself, which fits 32 bits
high_index : (z : ℤ) → lt_z z (pos 0) ≡ false → z ≡ pos (nat_abs z)
high_index (pos n) e = refl
high_index (negsuc n) e = absurd (never (sym e))

high_fits : (z : ℤ) → SFits w32 z → lt_z z (pos 0) ≡ false → T (non_neg z) × Fits w32 (nat_abs z)
high_fits (pos n) f e = (tt, record { fits = omega (arith, f.sfits) })
high_fits (negsuc n) f e = absurd (never (sym e))

-- as the code reads it
pub high_read : (z : ℤ) → SFits w32 z → lt_z (to_z w32 (of_z w32 z)) (pos 0) ≡ false
    → T (non_neg (to_z w32 (of_z w32 z))) × Fits w32 (nat_abs (to_z w32 (of_z w32 z)))
high_read z f h = rw (to_z-of_z f) (high_fits z f (rw (to_z-of_z f) at h))

module _ (bs : List ℕ) (p o : Result Value Reason) where
  -- the index has no value
  pub index_none : {r : Reason} → o ≡ Err r → Places bs (given p) (given o) (Err r)
  index_none e = rw e (record { placed = λ η b. refl })

  -- it is no whole number
  pub index_other : {v : Value} → o ≡ Ok v → OneOf (1 ∷ 2 ∷ []) (tag_of the_type v) → Places bs (given p) (given o) (Err WrongKind)
  index_other {v} e h = rw e (record { placed = λ η b. rw (no_number v h) })

  -- it is, and the pointer has no value
  pub pointer_none : {u : Value} {z : ℤ} {r : Reason} → o ≡ Ok u → u ≡ Whole z → p ≡ Err r → Places bs (given p) (given o) (Err r)
  pointer_none e q f = rw (e, q, f) (record { placed = λ η b. refl })

  -- it is no location
  pub pointer_other : {u v : Value} {z : ℤ} → o ≡ Ok u → u ≡ Whole z → p ≡ Ok v → OneOf (0 ∷ 2 ∷ []) (tag_of the_type v)
      → Places bs (given p) (given o) (Err WrongKind)
  pointer_other {v = v} e q f h = rw (e, q, f) (record { placed = λ η b. rw (no_place v h) })

  -- both are at hand, and the index is below zero
  pub index_low : {u v : Value} {z : ℤ} {l : ℕ} → p ≡ Ok v → v ≡ Location l → o ≡ Ok u → u ≡ Whole z → SFits w32 z
      → lt_z (to_z w32 (of_z w32 z)) (pos 0) ≡ true → Places bs (given p) (given o) (Err IndexOutside)
  index_low {z = z} f r e q w h = record { placed = λ η b. rw (e, q, f, r, low_index z (rw (to_z-of_z w) at h)) }

  -- it is not
  pub spot : {u v : Value} {z : ℤ} {l : ℕ} {s : Result Spot Reason} → p ≡ Ok v → v ≡ Location l → o ≡ Ok u → u ≡ Whole z → SFits w32 z
      → lt_z (to_z w32 (of_z w32 z)) (pos 0) ≡ false → Finds bs l (nat_abs (to_z w32 (of_z w32 z))) s → Places bs (given p) (given o) s
  spot {z = z} {l} {s} f r e q w h F =
      let read : to_z w32 (of_z w32 z) ≡ z = to_z-of_z w in
      let at : (given o ⟫ number) ≡ has (pos (nat_abs z)) = rw (e, q) (ap has (high_index z (rw read at h))) in
      let to : (given p ⟫ place) ≡ has l = rw (f, r) in
      record { placed = λ η b. go η s (rw read at (F.found η b)) at to }
    where
      go : (η : Memory) {i : ℕ} (s : Result Spot Reason) → Found η l i s → (given o ⟫ number) ≡ has (pos i) → (given p ⟫ place) ≡ has l
          → Placed η (given p) (given o) s
      go η (Ok s) h at to = rw (h.0, h.1) (at, to, h.2)
      go η (Err r) h at to = rw (at, to) h

pub ruleset place_ways = (index_none, index_other, pointer_none, pointer_other, index_low, spot)

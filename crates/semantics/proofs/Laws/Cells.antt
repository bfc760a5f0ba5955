-- Memory and locals: what a store leaves, and where.
use Rattle.std.specs.Prelude.{ℕ, zero, suc, ◌≤◌, ◌<◌, ◌≡◌, refl, ◌≢◌, List, [], ◌∷◌, map, length, get_or, set, take, pos}
use Rattle.std.proofs.Common.{arith, ap, ◌∙◌, length-set, get_or-take, get_or-set_same, get_or-set_other}
use Rattle.std.proofs.Math.Decide.{ℕ_discrete}
use Rattle.std.proofs.lemmas.List.{length-replicate, take-set-le}
use Rattle.std.proofs.Math.Seq.{map-set_same, take-set-lt}
use Rattle.value.specs.Maybe.{Maybe, is, nothing, ◌>>=◌}
use Rattle.value.specs.Try.{has, or_lacks}
use Rattle.value.specs.Lists.{at}
use Rattle.value.specs.declared.Value.{Value}
use Rattle.value.specs.declared.Value.TheVariants.{Whole}
use Rattle.value.specs.declared.Reason.TheVariants.{IndexOutside}
use Rattle.value.proofs.Laws.Maybes.{missing}
use Rattle.value.proofs.Laws.Tries.{lacking, or_lacks_has}
use Rattle.value.proofs.Laws.Lists.{at_below, at_get_d, at_set_same, at_set_other, at_take, at_replicate}
use Rattle.semantics.specs.Memory.{Env, lookup, bound, Memory, cell, stored, fresh}

-- a local that is set is below the number of locals
pub lookup_below : (ρ : Env) (x : ℕ) {v : Value} → lookup ρ x ≡ is v → x < length ρ
lookup_below [] x e = missing e
lookup_below (u ∷ ρ) zero e = omega arith
lookup_below (u ∷ ρ) (suc x) e = let h : x < length ρ = lookup_below ρ x e in omega arith

-- ρ[x ↦ v]: x is v
pub bound_same : (ρ : Env) (x : ℕ) (v : Value) → x < length ρ → lookup (bound ρ x v) x ≡ is v
bound_same ρ x v h = get_or-set_same ρ x (is v) nothing h

-- and every other local is what it was
pub bound_other : (ρ : Env) (x : ℕ) (v : Value) (y : ℕ) → y ≢ x → lookup (bound ρ x v) y ≡ lookup ρ y
bound_other ρ x v y h = get_or-set_other ρ x y (is v) nothing h

-- ---- memory

-- the cell stored to holds what was stored
pub cell_stored : (η : Memory) (l i : ℕ) (v : Value) {u : Value} → cell η l i ≡ has u → cell (stored η l i v) l i ≡ has v
cell_stored [] l i v e = lacking e
cell_stored (row ∷ η) zero i v e = ap (or_lacks IndexOutside) (at_set_same row i v (at_below row i (or_lacks_has _ _ e)))
cell_stored (row ∷ η) (suc l) i v e = cell_stored η l i v e

-- every other cell holds what it held: another location's
pub cell_elsewhere : (η : Memory) (l i : ℕ) (v : Value) (k j : ℕ) → k ≢ l → cell (stored η l i v) k j ≡ cell η k j
cell_elsewhere η l i v k j h = ap (λ (r : Maybe (List Value)). or_lacks IndexOutside (r >>= λ row. at row j)) (at_set_other η l k (set (get_or η l []) i v) h)

-- and another index's of the same location
pub cell_beside : (η : Memory) (l i : ℕ) (v : Value) (j : ℕ) → j ≢ i → cell (stored η l i v) l j ≡ cell η l j
cell_beside [] l i v j h = refl
cell_beside (row ∷ η) zero i v j h = ap (or_lacks IndexOutside) (at_set_other row i j v h)
cell_beside (row ∷ η) (suc l) i v j h = cell_beside η l i v j h

-- a store at index i leaves every other index of every location
pub cell_other_index : (η : Memory) (l i : ℕ) (v : Value) (k j : ℕ) → j ≢ i → cell (stored η l i v) k j ≡ cell η k j
cell_other_index η l i v k j h = elim (ℕ_discrete k l) [
  | yes e ↦ rw e (cell_beside η l i v j h)
  | no ne ↦ cell_elsewhere η l i v k j ne
]

-- a store above n leaves the first n locations, and one below n is a store there
pub take_stored_above : (n : ℕ) (η : Memory) (l i : ℕ) (v : Value) → n ≤ l → take n (stored η l i v) ≡ take n η
take_stored_above n η l i v h = take-set-le n η l (set (get_or η l []) i v) h

-- one below n is a store there
pub take_stored_below : (n : ℕ) (η : Memory) (l i : ℕ) (v : Value) → l < n → take n (stored η l i v) ≡ stored (take n η) l i v
take_stored_below n η l i v h = take-set-lt n η l (set (get_or η l []) i v) h ∙ rw (get_or-take n η l [] h)

-- below n, a cell of the first n locations is a cell
pub cell_take : (n : ℕ) (η : Memory) (l i : ℕ) → l < n → cell (take n η) l i ≡ cell η l i
cell_take n η l i h = rw (at_take n η l h)

-- a cell of the first n locations is one below n
pub cell_of_take : (n : ℕ) (η : Memory) (l i : ℕ) {v : Value} → cell (take n η) l i ≡ has v → (l < n) × (cell η l i ≡ has v)
cell_of_take zero η l i e = lacking e
cell_of_take (suc n) [] l i e = lacking e
cell_of_take (suc n) (row ∷ η) zero i e = (omega arith, e)
cell_of_take (suc n) (row ∷ η) (suc l) i e =
    let below : l < n = (cell_of_take n η l i e).0 in
    (omega arith, (cell_of_take n η l i e).1)

-- ---- the shape of memory: how long each row is

-- the sizes of all locations
abbrev pub shape : Memory → List ℕ
shape η = map length η

-- a store keeps them
pub shape_stored : (η : Memory) (l i : ℕ) (v : Value) → shape (stored η l i v) ≡ shape η
shape_stored η l i v = map-set_same length η l (set (get_or η l []) i v) [] (length-set (get_or η l []) i v)

-- below a row's length there is a cell
pub cell_there : (η : Memory) (l i : ℕ) {n : ℕ} → at (shape η) l ≡ is n → i < n → (u : Value) × (cell η l i ≡ has u)
cell_there [] l i e h = missing e
cell_there (row ∷ η) zero i {n} e h =
    let p : length row ≡ n = cc in
    let d : Value = Whole (pos 0) in
    (get_or row i d, ap (or_lacks IndexOutside) (at_get_d row i d (omega arith)))
cell_there (row ∷ η) (suc l) i e h = cell_there η l i e h

-- and a cell that is there is below it
pub cell_inside : (η : Memory) (l i : ℕ) {u : Value} → cell η l i ≡ has u → (n : ℕ) × (at (shape η) l ≡ is n) × (i < n)
cell_inside [] l i e = lacking e
cell_inside (row ∷ η) zero i e = (length row, refl, at_below row i (or_lacks_has _ _ e))
cell_inside (row ∷ η) (suc l) i e = cell_inside η l i e

-- fresh memory has the sizes
pub shape_fresh : (ns : List ℕ) → shape (fresh ns) ≡ ns
shape_fresh [] = refl
shape_fresh (n ∷ ns) = rw (length-replicate n (Whole (pos 0)), shape_fresh ns)

-- "All cells start as number 0"
pub cell_fresh : (ns : List ℕ) (l i : ℕ) {n : ℕ} → at ns l ≡ is n → i < n → cell (fresh ns) l i ≡ has (Whole (pos 0))
cell_fresh [] l i e h = missing e
cell_fresh (m ∷ ns) zero i {n} e h = let same : m ≡ n = cc in ap (or_lacks IndexOutside) (at_replicate m i (Whole (pos 0)) (omega arith))
cell_fresh (m ∷ ns) (suc l) i e h = cell_fresh ns l i e h

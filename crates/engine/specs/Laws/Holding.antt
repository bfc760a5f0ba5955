-- Memory in words: each cell by its number, stores, fresh memory, and the bytes of all cells.
use Rattle.std.specs.Prelude.{ℕ, zero, suc, ◌+◌, ◌^◌, ◌≤◌, ◌<◌, ◌≡◌, refl, List, [], ◌∷◌, ◌++◌, length, get_or, take, set, replicate, pos, eqb}
use Rattle.std.proofs.Common.{arith, sym, ap, ◌∙◌, length-append, length-set, get_or-set_same, get_or-set_other, eqb-true}
use Rattle.std.proofs.lemmas.List.{length-replicate, get_or-replicate, replicate-append-replicate, set-append_left}
use Rattle.std.proofs.lemmas.Bool.{eqb-false}
use Rattle.value.specs.Maybe.{is, nothing}
use Rattle.value.specs.Try.{has, lacks, or_lacks}
use Rattle.value.specs.Lists.{at, sum}
use Rattle.value.specs.declared.Value.{Value}
use Rattle.value.specs.declared.Value.TheVariants.{Whole}
use Rattle.value.specs.declared.Reason.TheVariants.{WrongKind, IndexOutside}
use Rattle.value.proofs.Laws.Tests.{by_test}
use Rattle.value.proofs.Laws.Lists.{at_set_same, at_set_other, at_replicate, at_after, at_get_d}
use Rattle.semantics.specs.Memory.{Memory, cell, stored, fresh}
use Rattle.engine.specs.Words.{held, value_in}
use Rattle.engine.specs.Work.{Puts, flat, Holds, IsCell}
use Rattle.semantics.proofs.Laws.Cells.{shape}

-- ---- cells in one row

-- as many as the sizes together
pub length_flat : (η : Memory) → length (flat η) ≡ sum (shape η)
length_flat [] = refl
length_flat (row ∷ η) = omega (arith, length-append row (flat η), length_flat η)

-- a cell of the first of two rows
at_front : {A : Type 0} (xs ys : List A) (i : ℕ) → i < length xs → at (xs ++ ys) i ≡ at xs i
at_front [] ys i h = absurd (omega arith)
at_front (x ∷ xs) ys zero h = refl
at_front (x ∷ xs) ys (suc i) h = at_front xs ys i (omega arith)

-- past the end there is nothing
at_past : {A : Type 0} (xs : List A) (i : ℕ) → length xs ≤ i → at xs i ≡ nothing
at_past [] i h = refl
at_past (x ∷ xs) zero h = absurd (omega arith)
at_past (x ∷ xs) (suc i) h = at_past xs i (omega arith)

-- a cell is the one of its number
pub flat_cell : (η : Memory) (l i : ℕ) → i < get_or (shape η) l 0 → cell η l i ≡ or_lacks IndexOutside (at (flat η) (sum (take l (shape η)) + i))
flat_cell [] l i h = absurd (omega arith)
flat_cell (row ∷ η) zero i h = let none : 0 + i ≡ i = omega arith in rw none (ap (or_lacks IndexOutside) (sym (at_front row (flat η) i h)))
flat_cell (row ∷ η) (suc l) i h =
    let place : length row + sum (take l (shape η)) + i ≡ length row + (sum (take l (shape η)) + i) = omega arith in
    rw (place, at_after row (flat η)) (flat_cell η l i h)

-- no cell has an index that is not below the size
pub no_cell : (η : Memory) (l i : ℕ) → get_or (shape η) l 0 ≤ i → cell η l i ≡ lacks IndexOutside
no_cell [] l i h = refl
no_cell (row ∷ η) zero i h = ap (or_lacks IndexOutside) (at_past row i h)
no_cell (row ∷ η) (suc l) i h = no_cell η l i h

-- its number is below the number of all
pub flat_below : (η : Memory) (l i : ℕ) → i < get_or (shape η) l 0 → sum (take l (shape η)) + i < length (flat η)
flat_below [] l i h = absurd (omega arith)
flat_below (row ∷ η) zero i h = omega (arith, length-append row (flat η))
flat_below (row ∷ η) (suc l) i h = omega (arith, length-append row (flat η), flat_below η l i h)

-- a cell has something in it
pub cell_full : (η : Memory) {l i k : ℕ} → IsCell η l i k → (u : Value) × (cell η l i ≡ has u)
cell_full η {l} {i} c =
    let n : ℕ = sum (take l (shape η)) + i in
    (get_or (flat η) n (Whole (pos 0)), flat_cell η l i c.size ∙ ap (or_lacks IndexOutside) (at_get_d (flat η) n (Whole (pos 0)) (flat_below η l i c.size)))

-- a store past the first of two rows
set_after : {A : Type 0} (xs ys : List A) (k : ℕ) (a : A) → set (xs ++ ys) (length xs + k) a ≡ xs ++ set ys k a
set_after [] ys k a = let none : 0 + k ≡ k = omega arith in rw none
set_after (x ∷ xs) ys k a = let more : suc (length xs) + k ≡ suc (length xs + k) = omega arith in rw more (ap (x ∷◌) (set_after xs ys k a))

-- a store in a cell is a store at its number
pub flat_stored : (η : Memory) (l i : ℕ) (v : Value) → i < get_or (shape η) l 0 → flat (stored η l i v) ≡ set (flat η) (sum (take l (shape η)) + i) v
flat_stored [] l i v h = absurd (omega arith)
flat_stored (row ∷ η) zero i v h = let none : 0 + i ≡ i = omega arith in rw none (sym (set-append_left row (flat η) i v h))
flat_stored (row ∷ η) (suc l) i v h =
    let place : length row + sum (take l (shape η)) + i ≡ length row + (sum (take l (shape η)) + i) = omega arith in
    rw (place, set_after row (flat η), flat_stored η l i v h)

-- fresh cells are zeros
pub flat_fresh : (ns : List ℕ) → flat (fresh ns) ≡ replicate (sum ns) (Whole (pos 0))
flat_fresh [] = refl
flat_fresh (n ∷ ns) = rw (flat_fresh ns) (replicate-append-replicate n (sum ns) (Whole (pos 0)))

-- ---- words that hold them

-- by the row of all cells
holds_row : {η : Memory} {cs : List ℕ} (vs : List Value) → flat η ≡ vs → length vs ≤ length cs
    → ((k : ℕ) → k < length vs → held (get_or cs k 0) ≡ at vs k) → Holds η cs
holds_row vs e a b = record { few = rw e a; each = rw e b }

module _ {η : Memory} {cs : List ℕ} (h : Holds η cs) where
  -- a cell is one of the words
  pub cell_word : {l i k : ℕ} → IsCell η l i k → k < length cs
  cell_word {l} {i} c = omega (arith, c.number, flat_below η l i c.size, h.few)

  -- and the word holds what the cell does
  pub cell_held : {l i k : ℕ} → IsCell η l i k → value_in (get_or cs k 0) ≡ cell η l i
  cell_held {l} {i} c =
      let n : ℕ = sum (take l (shape η)) + i in
      let below = flat_below η l i c.size in
      let there = at_get_d (flat η) n (Whole (pos 0)) below in
      rw c.number
      (ap (or_lacks WrongKind) (h.each n below ∙ there) ∙ sym (flat_cell η l i c.size ∙ ap (or_lacks IndexOutside) there))

  -- a store
  pub holds_put : {l i k : ℕ} {v : Value} {cs' : List ℕ} → IsCell η l i k → Puts cs cs' k v → Holds (stored η l i v) cs'
  holds_put {l} {i} {k} {v} c p =
      let n : ℕ = sum (take l (shape η)) + i in
      let inside : n < length (flat η) = flat_below η l i c.size in
      let same : length (set (flat η) n v) ≡ length (flat η) = length-set (flat η) n v in
      rw (p.stored, c.number)
      (holds_row (set (flat η) n v) (flat_stored η l i v c.size) (omega (arith, h.few, length-set cs n p.word))
      (λ j m. by_test (eqb j n)
      (λ e.
      let here : j ≡ n = eqb-true j n e in
      rw (here, get_or-set_same cs n p.word 0 (omega (arith, h.few)), at_set_same (flat η) n v inside) p.holds)
      (λ e.
      let other = eqb-false j n e in
      ap held (get_or-set_other cs n j p.word 0 other) ∙ h.each j (omega arith) ∙ sym (at_set_other (flat η) n j v other))))

-- the word of number 0 holds it
zero_held : held (2 ^ 32) ≡ is (Whole (pos 0))
unfolding held
zero_held = refl

-- "All cells start as number 0"
pub holds_fresh : (ns : List ℕ) {n : ℕ} → sum ns ≤ n → Holds (fresh ns) (replicate n (2 ^ 32))
holds_fresh ns {n} h =
    let all : length (replicate (sum ns) (Whole (pos 0))) ≡ sum ns = length-replicate (sum ns) (Whole (pos 0)) in
    holds_row (replicate (sum ns) (Whole (pos 0))) (flat_fresh ns) (omega (arith, length-replicate n (2 ^ 32)))
    (λ k m.
    let low : k < sum ns = omega arith in
    rw (get_or-replicate n k (2 ^ 32) 0 (omega arith), at_replicate (sum ns) k (Whole (pos 0)) low) zero_held)

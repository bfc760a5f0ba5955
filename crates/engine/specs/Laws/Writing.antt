-- Bytes written over a lent buffer one after the other: final cells and events.
use Rattle.std.specs.Prelude.{ℕ, suc, ◌+◌, ◌*◌, ◌≤◌, ◌<◌, ◌≡◌, refl, List, [], ◌∷◌, ◌++◌, length, get_or, take, drop, pos, Result, Ok, Err}
use Rattle.std.proofs.Common.{arith, sym, ap, ap₂, ◌∙◌, append_assoc, append-nil, length-append, drop-drop, take-suc, take_all, length-take-le, le-leb}
use Rattle.std.proofs.lemmas.List.Edits.{sets, sets-eq}
use Rattle.std.proofs.Math.Seq.{take-append_seam, drop-append-add}
use Rattle.value.specs.Maybe.{is}
use Rattle.value.specs.Try.{or_lacks}
use Rattle.value.specs.Lists.{over}
use Rattle.value.specs.Values.{given, cell_bytes, cell_size}
use Rattle.basics.specs.Places.{with_value}
use Rattle.value.specs.declared.Value.{Value}
use Rattle.value.specs.declared.Value.TheVariants.{Whole}
use Rattle.value.specs.declared.Reason.{Reason}
use Rattle.value.specs.declared.Reason.TheVariants.{WrongKind}
use Rattle.value.proofs.Laws.Tries.{has_inj, lacking}
use Rattle.value.proofs.Laws.Lists.{at_get_d, length_over}
use Rattle.value.proofs.Laws.Bytes.{length_cell}
use Rattle.format.specs.Encode.{each}
use Rattle.format.proofs.Laws.Sections.{length_each}
use Rattle.semantics.specs.Memory.{Memory}
use Rattle.semantics.specs.Buffers.{cells}
use Rattle.engine.specs.Words.{held, value_in}
use Rattle.engine.specs.Work.{flat, Holds, WritesOne, Writes}

-- ---- one thing after others

-- things and then others
pub each_append : {A : Type 0} (item : A → List ℕ) (xs ys : List A) → each item (xs ++ ys) ≡ each item xs ++ each item ys
each_append item [] ys = refl
each_append item (x ∷ xs) ys = rw (each_append item xs ys, append_assoc)

-- bytes written behind those written before
pub over_more : (bs cs o : List ℕ) → length bs + length cs ≤ length o → sets (over bs o) (length bs) cs ≡ over (bs ++ cs) o
over_more bs cs o h =
    let rest : List ℕ = drop (length bs) o in
    let room : length bs + length cs ≤ length (over bs o) = omega (arith, length_over bs o (omega arith)) in
    sets-eq cs (over bs o) (length bs) room
    ∙ ap₂ (λ a b. a ++ cs ++ b) (take-append_seam bs rest) (drop-append-add bs rest (length cs) ∙ drop-drop (length cs) (length bs) o)
    ∙ rw length-append

-- ---- cells

-- the bytes of memory are those of its cells in one row
pub cells_flat : (η : Memory) → cells η ≡ each cell_bytes (flat η)
cells_flat [] = refl
cells_flat (row ∷ η) = rw (each_append cell_bytes row (flat η), cells_flat η)

module _ {w : ℕ} {o : List ℕ} {i : ℕ} (a : Result Value Reason) where
  -- the value of a word
  pub wrote_one : {v : Value} {o' : List ℕ} → a ≡ Ok v → given a ≡ value_in w → o' ≡ with_value o i v → WritesOne w o i o'
  wrote_one {v} e g q = record {
    written = λ u h.
        let same : v ≡ u = has_inj (sym (ap given e) ∙ g ∙ ap (or_lacks WrongKind) h) in
        q ∙ ap (with_value o i) same;
  }

  -- there is none
  pub wrote_none : {r : Reason} → a ≡ Err r → given a ≡ value_in w → WritesOne w o i o
  wrote_none e g = record { written = λ u h. lacking (sym (ap given e) ∙ g ∙ ap (or_lacks WrongKind) h) }

-- the first i of n cells are written
pub record Writing (cs : List ℕ) (n : ℕ) (o o' : List ℕ) (i : ℕ) : Type 0 where
  pub within : i ≤ n
  pub long : length o' ≡ length o
  pub written : (η : Memory) → Holds η cs → n ≡ length (flat η) → cell_size * n ≤ length o → o' ≡ over (each cell_bytes (take i (flat η))) o

module _ {cs : List ℕ} {n : ℕ} {o : List ℕ} where
  -- none
  pub writing_none : Writing cs n o o 0
  writing_none = record { within = omega arith; long = refl; written = λ η h e l. refl }

  -- one more
  pub writing_more : {o' o'' : List ℕ} {i w : ℕ} → Writing cs n o o' i → i < n → w ≡ get_or cs i 0 → WritesOne w o' (i * cell_size) o'' → length o'' ≡ length o'
      → Writing cs n o o'' (i + 1)
  writing_more {o'} {o''} {i} {w} W l q O s = record {
    within = omega arith;
    long = s ∙ W.long;
    written = λ η h e r.
        let vs : List Value = flat η in
        let d : Value = Whole (pos 0) in
        let v : Value = get_or vs i d in
        let below : i < length vs = omega arith in
        let front : List ℕ = each cell_bytes (take i vs) in
        let value : held w ≡ is v = rw q (h.each i below ∙ at_get_d vs i d below) in
        let size : length front ≡ i * cell_size =
        length_each cell_bytes cell_size length_cell (take i vs) ∙ rw (length-take-le i vs (omega arith)) (omega arith)
        in
        let fits : i * cell_size + cell_size ≤ length o' = omega (arith, W.long) in
        let next : take (i + 1) vs ≡ take i vs ++ (v ∷ []) = let one : i + 1 ≡ suc i = omega arith in rw one (take-suc vs i d below) in
        let all : each cell_bytes (take (i + 1) vs) ≡ front ++ cell_bytes v =
        rw (next, each_append cell_bytes (take i vs) (v ∷ []), append-nil (cell_bytes v))
        in
        O.written v value
        ∙ rw (le-leb (i * cell_size + cell_size) (length o') fits, all, ← size, W.written η h e r)
        (over_more front (cell_bytes v) o (omega (arith, length_cell v)));
  }

  -- all
  pub writing_all : {o' : List ℕ} {i : ℕ} → Writing cs n o o' i → n ≤ i → Writes cs n o o'
  writing_all {o'} {i} W l = record {
    written = λ η h e r.
        let vs : List Value = flat η in
        W.written η h e r ∙ rw (take_all i vs (omega (arith, W.within)), cells_flat η);
  }

-- one law for each way through the writing of cells
pub ruleset writing_ways = (wrote_one, wrote_none, writing_none, writing_more, writing_all)

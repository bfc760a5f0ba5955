-- Numbers stored one after the other in a lent array.
use Prim.Native.Nat.{ℕ, zero, suc, ◌-◌, ◌≤◌, min}
use native.Mathlib.Omega.{arith}
use native.Mathlib.Decide.{dec_le}
use mathlib.Core.Path.{◌≡◌, refl, sym, ap, ◌∙◌}
use mathlib.Core.List.{List, [], ◌∷◌, ◌++◌, append-nil}
use lib.ListN.{length, set, take, drop, length-drop, drop_of_length-le}
use lib.Seq.{take_all}
use Rattle.allotments.specs.declared.BenchAnswer.{BenchAnswer}
use Rattle.clib.specs.Numbers.{stored, bench_numbers, flag}

-- ---- numbers from a place on

-- an element before it stays
stored_behind : (i : ℕ) (ns xs : List ℕ) (x : ℕ) → stored (suc i) ns (x ∷ xs) ≡ x ∷ stored i ns xs
stored_behind i [] xs x = refl
stored_behind i (n ∷ ns) xs x = stored_behind (suc i) ns (set xs i n) x

-- past the end none is stored
stored_past : (i : ℕ) (ns xs : List ℕ) → length xs ≤ i → stored i ns xs ≡ xs
stored_past i [] xs h = refl
stored_past i (n ∷ ns) xs h = ap (stored (suc i) ns) (sym (set_past xs i n h)) ∙ stored_past (suc i) ns xs (omega arith)
  where
    set_past : (xs : List ℕ) (i n : ℕ) → length xs ≤ i → xs ≡ set xs i n
    set_past [] i n h = refl
    set_past (x ∷ xs) zero n h = absurd (omega arith)
    set_past (x ∷ xs) (suc i) n h = ap (x ∷◌) (set_past xs i n (omega arith))

-- as many as there are places for
pub stored_first : (ns xs : List ℕ) (n : ℕ) → n ≡ min (length ns) (length xs) → take n ns ++ drop n xs ≡ stored 0 ns xs
stored_first [] xs n e = let none : n ≡ 0 = omega arith in rw none
stored_first (m ∷ ms) [] n e = let none : n ≡ 0 = omega arith in rw none (sym (stored_past 1 ms [] (omega arith)))
stored_first (m ∷ ms) (x ∷ xs) zero e = absurd (omega arith)
stored_first (m ∷ ms) (x ∷ xs) (suc k) e = ap (m ∷◌) (stored_first ms xs k (omega arith)) ∙ sym (stored_behind 0 ms xs m)

-- what stands behind a place
stored_from : (i : ℕ) (ns xs : List ℕ) → i ≤ length xs → take i xs ++ stored 0 ns (drop i xs) ≡ stored i ns xs
stored_from zero ns xs h = refl
stored_from (suc i) ns [] h = absurd (omega arith)
stored_from (suc i) ns (x ∷ xs) h = ap (x ∷◌) (stored_from i ns xs (omega arith)) ∙ sym (stored_behind i ns xs x)

-- where there is such a place
pub stored_rest : (k i : ℕ) (ms ns xs ys : List ℕ) → k ≡ min (length xs) i → ms ≡ ns → ys ≡ stored 0 ms (take (length xs - k) (drop k xs))
    → take k xs ++ (ys ++ drop (length xs - k) (drop k xs)) ≡ stored i ns xs
stored_rest k i ms ns xs ys e same f =
    let whole : take (length xs - k) (drop k xs) ≡ drop k xs = take_all (length xs - k) (drop k xs) (simp length-drop (omega arith)) in
    let none : drop (length xs - k) (drop k xs) ≡ [] = drop_of_length-le (drop k xs) {i = length xs - k} (simp length-drop (omega arith)) in
    let rest : ys ++ drop (length xs - k) (drop k xs) ≡ stored 0 ns (drop k xs)
    = ap (ys ++◌) none ∙ append-nil ys ∙ f ∙ ap (stored 0 ms) whole ∙ ap (λ ks. stored 0 ks (drop k xs)) same in
    ap (take k xs ++◌) rest ∙ placed
  where
    placed : take k xs ++ stored 0 ns (drop k xs) ≡ stored i ns xs
    placed = elim (dec_le i (length xs)) [
      | yes h ↦ let same : k ≡ i = omega arith in rw same (stored_from i ns xs h)
      | no h ↦
          let past : length xs ≤ k = omega arith in
          let none : drop k xs ≡ [] = drop_of_length-le xs {i = k} past in
          rw (none, take_all k xs past) (ap (xs ++◌) (stored_past 0 ns [] (omega arith)) ∙ append-nil xs ∙ sym (stored_past i ns xs (omega arith)))
    ]

-- the counts of the bench behind its other numbers
pub bench_stored : (r : BenchAnswer) (xs ys zs : List ℕ) {n f : ℕ} → n ≡ r.number → f ≡ flag r.found → ys ≡ set (set (set xs 0 n) 1 f) 2 r.allotment
    → zs ≡ stored 3 r.counts ys → zs ≡ stored 0 (bench_numbers r) xs
bench_stored r xs ys zs a b e f = f ∙ ap (stored 3 r.counts) e ∙ rw (a, b)

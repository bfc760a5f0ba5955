-- Readers of a fixed number of bytes: they fail only where bytes are missing, and what they read can be looked up by its place.
use Rattle.std.specs.Prelude.{ℕ, zero, suc, ◌+◌, ◌*◌, ◌-◌, ◌≤◌, ◌<◌, ◌≡◌, refl, List, [], ◌∷◌, length, get_or, take, drop}
use Rattle.std.proofs.Common.{arith, ◌∙◌, length-drop, length-take, drop_of_length-le, drop-drop, le-leb}
use Rattle.value.specs.Maybe.{is}
use Rattle.value.specs.Values.{unbytes}
use Rattle.format.specs.Encode.{Head, Middle, distance, record_size, trailer_size}
use Rattle.format.specs.Decode.{Read, byte, number, times, finish, head, middle, but, last}

-- a reader that takes k bytes, and reads `value` of them
pub record Fixed {A : Type 0} (read : List ℕ → Read A) (k : ℕ) (value : List ℕ → A) : Type 0 where
  pub reads : (bs : List ℕ) → k ≤ length bs → read bs ≡ is (value bs, drop k bs)

-- a number of k bytes
pub number_fixed : (k : ℕ) → Fixed (number k) k (λ bs. unbytes (take k bs))
number_fixed k = record { reads = λ bs h. rw (le-leb k (length bs) h) }

-- a number of one byte
pub byte_fixed : Fixed byte 1 (λ bs. get_or bs 0 0)
byte_fixed = record { reads = reads }
  where
    reads : (bs : List ℕ) → 1 ≤ length bs → byte bs ≡ is (get_or bs 0 0, drop 1 bs)
    reads [] h = absurd (omega arith)
    reads (b ∷ bs) h = refl

-- n values, each of k bytes
abbrev pub rows : {A : Type 0} → (List ℕ → A) → ℕ → ℕ → List ℕ → List A
rows value k zero bs = []
rows value k (suc n) bs = value bs ∷ rows value k n (drop k bs)

module _ {A : Type 0} {read : List ℕ → Read A} {k : ℕ} {value : List ℕ → A} (fixed : Fixed read k value) where
  -- n things of k bytes are read where there are n * k bytes
  pub times_fixed : (n : ℕ) → Fixed (times read n) (n * k) (rows value k n)
  times_fixed n = record { reads = reads n }
    where
      reads : (n : ℕ) (bs : List ℕ) → n * k ≤ length bs → times read n bs ≡ is (rows value k n bs, drop (n * k) bs)
      reads zero bs h = let none : 0 * k ≡ 0 = omega arith in rw none
      reads (suc n) bs h =
          let here : k ≤ length bs = omega arith in
          let rest : n * k ≤ length (drop k bs) = rw length-drop (omega arith) in
          let more : suc n * k ≡ k + n * k = omega arith in
          rw (more, fixed.reads bs here, reads n (drop k bs) rest, drop-drop (n * k) k bs)

-- thing i of n stands at i * k
pub rows_at : {A : Type 0} (value : List ℕ → A) (k n : ℕ) (bs : List ℕ) (i : ℕ) (d : A) → i < n
    → get_or (rows value k n bs) i d ≡ value (drop (i * k) bs)
rows_at value k zero bs i d h = absurd (omega arith)
rows_at value k (suc n) bs zero d h = let none : 0 * k ≡ 0 = omega arith in rw none
rows_at value k (suc n) bs (suc i) d h =
    let more : suc i * k ≡ k + i * k = omega arith in
    rows_at value k n (drop k bs) i d (omega arith) ∙ rw (more, drop-drop (i * k) k bs)

-- ---- the middle of a table

-- a record of a procedure, by its places
abbrev pub head_at : List ℕ → Head
head_at bs = record { params = get_or bs 0 0; locals = get_or (drop 1 bs) 0 0; at = unbytes (take 4 (drop 2 bs)) }

-- it is read where there are so many bytes
pub head_fixed : Fixed head record_size head_at
head_fixed = record { reads = reads }
  where
    reads : (bs : List ℕ) → record_size ≤ length bs → head bs ≡ is (head_at bs, drop record_size bs)
    reads bs h =
        let one : 1 ≤ length (drop 1 bs) = rw length-drop (omega arith) in
        let four : 4 ≤ length (drop 2 bs) = rw length-drop (omega arith) in
        rw (
          byte_fixed.reads bs (omega arith),
          byte_fixed.reads (drop 1 bs) one,
          drop-drop 1 1 bs,
          (number_fixed 4).reads (drop 2 bs) four,
          drop-drop 4 2 bs,
        )

-- records, sizes and mains, by their places
abbrev pub middle_at : ℕ → ℕ → ℕ → List ℕ → Middle
middle_at P M T bs = record {
  heads = rows head_at record_size P bs;
  sizes = rows (λ bs. unbytes (take 2 bs)) 2 M (drop (P * record_size) bs);
  mains = rows (λ bs. unbytes (take 2 bs)) 2 T (drop (P * record_size + M * 2) bs);
}

-- it is read where there are as many bytes as the distance says
pub middle_fixed : (P M T : ℕ) → Fixed (middle P M T) (P * record_size + M * 2 + T * 2) (middle_at P M T)
middle_fixed P M T = record { reads = reads }
  where
    reads : (bs : List ℕ) → P * record_size + M * 2 + T * 2 ≤ length bs
        → middle P M T bs ≡ is (middle_at P M T bs, drop (P * record_size + M * 2 + T * 2) bs)
    reads bs h =
        let sizes : M * 2 ≤ length (drop (P * record_size) bs) = rw length-drop (omega arith) in
        let mains : T * 2 ≤ length (drop (P * record_size + M * 2) bs) = rw length-drop (omega arith) in
        rw (
          (times_fixed head_fixed P).reads bs (omega arith),
          (times_fixed (number_fixed 2) M).reads (drop (P * record_size) bs) sizes,
          drop-drop (M * 2) (P * record_size) bs,
          (times_fixed (number_fixed 2) T).reads (drop (P * record_size + M * 2) bs) mains,
          drop-drop (T * 2) (P * record_size + M * 2) bs,
        )

-- a reader that takes all bytes leaves none
pub finish_fixed : {A : Type 0} {read : List ℕ → Read A} {k : ℕ} {value : List ℕ → A} → Fixed read k value → (bs : List ℕ) → length bs ≡ k
    → finish (read bs) ≡ is (value bs)
finish_fixed {k = k} fixed bs h =
    let none : drop k bs ≡ [] = drop_of_length-le bs {i = k} (omega arith) in
    rw (fixed.reads bs (omega arith), none)

-- a table with a right distance has a middle: its second refusal 1 is never given
pub middle_there : (t : List ℕ) (P M T : ℕ) → distance P M T ≤ length t - trailer_size
    → finish (middle P M T (last (distance P M T) (but trailer_size t))) ≡ is (middle_at P M T (last (distance P M T) (but trailer_size t)))
middle_there t P M T h = finish_fixed (middle_fixed P M T) (last (distance P M T) (but trailer_size t)) long
  where
    long : length (last (distance P M T) (but trailer_size t)) ≡ P * record_size + M * 2 + T * 2
    long = simp (length-drop, length-take) (omega arith)

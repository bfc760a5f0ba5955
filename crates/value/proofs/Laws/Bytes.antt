-- Numbers and their bytes: each direction undoes the other.
use Rattle.std.specs.Prelude.{ℕ, zero, suc, ◌+◌, ◌*◌, ◌-◌, ◌/◌, ◌%◌, ◌^◌, ◌≤◌, ◌<◌, ◌≡◌, refl, List, [], ◌∷◌, ◌++◌, Bool, true, false, length, get_or, take, drop, ℤ, pos, negsuc, ltb}
use Rattle.std.proofs.Common.{arith, ap, ltb-true, ltb-false, lt-ltb, le-ltb}
use Rattle.std.proofs.Math.Nat.{pow-succ'}
use Rattle.std.specs.Int.Signed.{mag}
use Rattle.value.specs.Maybe.{pick}
use Rattle.value.specs.Values.{bytes, unbytes, word, unword, cell_bytes, cell_size}
use Rattle.value.specs.declared.Value.{Value}
use Rattle.value.specs.declared.Value.TheVariants.{Whole, Location, Truth}
use Rattle.value.proofs.Laws.Lists.{Each}

-- each number of the list is a byte
abbrev pub Bytes : List ℕ → Type 0
Bytes = Each (λ b. b < 256)

-- ---- lists of bytes

-- what follows bytes in a list of bytes are bytes
pub bytes_after : (xs ys : List ℕ) → Bytes (xs ++ ys) → Bytes ys
bytes_after [] ys h = h
bytes_after (x ∷ xs) ys h = bytes_after xs ys h.1

-- and what stands before others
pub bytes_before : (xs ys : List ℕ) → Bytes (xs ++ ys) → Bytes xs
bytes_before [] ys h = tt
bytes_before (x ∷ xs) ys h = (h.0, bytes_before xs ys h.1)

-- so do the first of them
pub bytes_take : (k : ℕ) (xs : List ℕ) → Bytes xs → Bytes (take k xs)
bytes_take zero xs h = tt
bytes_take (suc k) [] h = tt
bytes_take (suc k) (x ∷ xs) h = (h.0, bytes_take k xs h.1)

-- and those after the first
pub bytes_drop : (k : ℕ) (xs : List ℕ) → Bytes xs → Bytes (drop k xs)
bytes_drop zero xs h = h
bytes_drop (suc k) [] h = tt
bytes_drop (suc k) (x ∷ xs) h = bytes_drop k xs h.1

-- a slice whose elements are bytes, by their places
pub bytes_at : (xs : List ℕ) → ((i : ℕ) → i < length xs → get_or xs i 0 < 256) → Bytes xs
bytes_at [] h = tt
bytes_at (x ∷ xs) h = (h 0 (omega arith), bytes_at xs (λ i l. h (suc i) (omega arith)))

-- ---- numbers of k bytes

-- k bytes are k
pub length_bytes : (k n : ℕ) → length (bytes k n) ≡ k
length_bytes zero n = refl
length_bytes (suc k) n = ap suc (length_bytes k (n / 256))

-- bytes are bytes
pub bytes_bytes : (k n : ℕ) → Bytes (bytes k n)
bytes_bytes zero n = tt
bytes_bytes (suc k) n = (omega arith, bytes_bytes k (n / 256))

-- a number that fits k bytes is read back from them
pub unbytes_bytes : (k n : ℕ) → n < 256 ^ k → unbytes (bytes k n) ≡ n
unbytes_bytes zero n h = omega arith
unbytes_bytes (suc k) n h =
    let fits : n / 256 < 256 ^ k = omega arith in
    rw (unbytes_bytes k (n / 256) fits) (omega arith)

-- bytes are those of their number
pub bytes_unbytes : (bs : List ℕ) → Bytes bs → bytes (length bs) (unbytes bs) ≡ bs
bytes_unbytes [] h = refl
bytes_unbytes (b ∷ bs) h =
    let low : (b + 256 * unbytes bs) % 256 ≡ b = omega (arith, h.0) in
    let high : (b + 256 * unbytes bs) / 256 ≡ unbytes bs = omega (arith, h.0) in
    rw (low, high, bytes_unbytes bs h.1)

-- the number of k bytes fits k bytes
pub unbytes_fits : (bs : List ℕ) → Bytes bs → unbytes bs < 256 ^ length bs
unbytes_fits [] h = omega arith
unbytes_fits (b ∷ bs) h =
    let most : 256 ^ length (b ∷ bs) ≡ 256 * 256 ^ length bs = pow-succ' 256 (length bs) in
    rw most (omega (arith, h.0, unbytes_fits bs h.1))

-- ---- whole numbers in 32 bits

-- a word of the range fits 4 bytes
pub word_fits : (z : ℤ) → mag z < 2 ^ 31 → word z < 256 ^ 4
word_fits (pos n) h = omega arith
word_fits (negsuc n) h = omega arith

-- a whole number of the range is read back from its word
pub unword_word : (z : ℤ) → mag z < 2 ^ 31 → unword (word z) ≡ z
unword_word (pos n) h = rw (lt-ltb n (2 ^ 31) h)
unword_word (negsuc n) h =
    let high : 2 ^ 31 ≤ 2 ^ 32 - suc n = omega arith in
    let same : 2 ^ 32 - suc (2 ^ 32 - suc n) ≡ n = omega arith in
    rw (le-ltb (2 ^ 32 - suc n) (2 ^ 31) high, same)

-- a word is that of a whole number of the range
pub word_unword : (n : ℕ) → n < 2 ^ 32 → (word (unword n) ≡ n) × (mag (unword n) < 2 ^ 31)
word_unword n h = go (ltb n (2 ^ 31)) refl
  where
    go : (b : Bool) → ltb n (2 ^ 31) ≡ b
        → (word (pick b (pos n) (negsuc (2 ^ 32 - suc n))) ≡ n) × (mag (pick b (pos n) (negsuc (2 ^ 32 - suc n))) < 2 ^ 31)
    go true e = (refl, ltb-true n (2 ^ 31) e)
    go false e = omega (arith, ltb-false n (2 ^ 31) e)

-- ---- a value's bytes

-- a value has five
pub length_cell : (v : Value) → length (cell_bytes v) ≡ cell_size
length_cell (Whole z) = refl
length_cell (Location l) = refl
length_cell (Truth true) = refl
length_cell (Truth false) = refl

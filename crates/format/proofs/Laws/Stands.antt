-- Bytes that stand in a table, from a position up to a position: how such pieces are taken apart and put together.
use Rattle.std.specs.Prelude.{ℕ, suc, ◌+◌, ◌*◌, ◌-◌, ◌/◌, ◌%◌, ◌^◌, ◌≤◌, ◌<◌, ◌≡◌, refl, List, [], ◌∷◌, ◌++◌, length, get_or, take, drop}
use Rattle.std.proofs.Common.{add-zero, arith, sym, ap, subst, ◌∙◌, append_assoc, append-nil, length-append, length-drop, length-take, take-append-drop, drop-drop, drop-cons, get_or-drop, take_at, length-take-le}
use Rattle.std.proofs.Math.Seq.{drop-append_seam, drop-length, take-append_seam}
use Rattle.std.proofs.lemmas.List.{drop-append-le}
use Rattle.value.specs.Values.{bytes, unbytes}
use Rattle.value.proofs.Laws.Bytes.{Bytes, length_bytes, unbytes_bytes, bytes_unbytes, bytes_take, bytes_drop}

-- the bytes `bs` stand in t from i up to j
pub record Stands (t : List ℕ) (i : ℕ) (bs : List ℕ) (j : ℕ) : Type 0 where
  pub same : drop i t ≡ bs ++ drop j t
  pub ends : j ≡ i + length bs
  pub fits : j ≤ length t

-- ---- from lists to positions and back

-- what is left of t from i on begins with these bytes: they stand there
pub stands_at : (t : List ℕ) (i : ℕ) (bs r : List ℕ) → drop i t ≡ bs ++ r → i ≤ length t → Stands t i bs (i + length bs)
stands_at t i bs r e l =
    let rest : drop (i + length bs) t ≡ r = sym (drop-drop (length bs) i t) ∙ ap (drop (length bs)) e ∙ drop-append_seam bs r in
    let long : length t ≡ i + (length bs + length r) = omega (arith, ap length e, length-drop i t, length-append bs r) in
    record { same = rw rest e; ends = refl; fits = omega arith }

-- and what follows them is the rest
pub rest_at : (t : List ℕ) (i : ℕ) (bs r : List ℕ) → drop i t ≡ bs ++ r → r ≡ drop (i + length bs) t
rest_at t i bs r e = sym (sym (drop-drop (length bs) i t) ∙ ap (drop (length bs)) e ∙ drop-append_seam bs r)

-- all of a list stands in it
pub whole : {t : List ℕ} {bs : List ℕ} → t ≡ bs → Stands t 0 bs (length t)
whole {t} {bs} e = record { same = e ∙ sym (append-nil bs) ∙ rw drop-length; ends = ap length e ∙ omega arith; fits = omega arith }

-- the middle one of three parts
pub between : (a b c : List ℕ) → Stands (a ++ (b ++ c)) (length a) b (length a + length b)
between a b c = stands_at (a ++ (b ++ c)) (length a) b c (drop-append_seam a (b ++ c)) (rw length-append (omega arith))

-- nothing stands everywhere
pub nothing_stands : (t : List ℕ) (i : ℕ) → i ≤ length t → Stands t i [] i
nothing_stands t i l = record { same = refl; ends = omega arith; fits = l }

-- parts of one length before the same rest are the same
cancel : (x y c : List ℕ) → length x ≡ length y → x ++ c ≡ y ++ c → x ≡ y
cancel x y c l e = sym (take_at x c (length y) l) ∙ ap (take (length y)) e ∙ take-append_seam y c

module _ {t : List ℕ} {i : ℕ} where
  -- ---- the first byte

  -- there is one
  pub inside : {b : ℕ} {bs : List ℕ} {j : ℕ} → Stands t i (b ∷ bs) j → i < length t
  inside {b} {bs} s = omega (arith, s.ends, s.fits)

  -- it is this
  pub first : {b : ℕ} {bs : List ℕ} {j : ℕ} → Stands t i (b ∷ bs) j → get_or t i 0 ≡ b
  first s =
      let here : get_or (drop i t) 0 0 ≡ get_or t (i + 0) 0 = get_or-drop i t 0 0 in
      let same : i + 0 ≡ i = add-zero i in
      sym (rw same at here) ∙ ap (λ l. get_or l 0 0) s.same

  -- and the others stand after it
  pub others : {b : ℕ} {bs : List ℕ} {j : ℕ} → Stands t i (b ∷ bs) j → Stands t (i + 1) bs j
  others s = record { same = sym (drop-drop 1 i t) ∙ ap (drop 1) s.same; ends = s.ends ∙ omega arith; fits = s.fits }

  -- a byte, and then others
  pub begins : {b : ℕ} {bs : List ℕ} {j : ℕ} → i < length t → get_or t i 0 ≡ b → Stands t (i + 1) bs j → Stands t i (b ∷ bs) j
  begins l e s =
      let one : i + 1 ≡ suc i = omega arith in
      record { same = drop-cons t i 0 l ∙ rw (e, ← one, s.same); ends = s.ends ∙ omega arith; fits = s.fits }

  -- ---- one after the other

  -- the first of two parts
  pub front : (a b : List ℕ) {j : ℕ} → Stands t i (a ++ b) j → Stands t i a (i + length a)
  front a b {j} s = stands_at t i a (b ++ drop j t) (s.same ∙ append_assoc a b (drop j t)) (omega (arith, s.ends, s.fits))

  -- and the second
  pub back : (a b : List ℕ) {j : ℕ} → Stands t i (a ++ b) j → Stands t (i + length a) b j
  back a b {j} s = record {
    same = sym (rest_at t i a (b ++ drop j t) (s.same ∙ append_assoc a b (drop j t)));
    ends = s.ends ∙ rw length-append (omega arith);
    fits = s.fits;
  }

  -- two parts make a whole
  pub join : {a b : List ℕ} {j k : ℕ} → Stands t i a k → Stands t k b j → Stands t i (a ++ b) j
  join {a} {b} {j} s u = record {
    same = s.same ∙ ap (a ++◌) u.same ∙ sym (append_assoc a b (drop j t));
    ends = rw length-append (omega (arith, s.ends, u.ends));
    fits = u.fits;
  }

  -- ---- inside a part

  -- what stands in the first of two parts stands in both together
  pub in_front : (c : List ℕ) {bs : List ℕ} {j : ℕ} → Stands t i bs j → Stands (t ++ c) i bs j
  in_front c {bs} {j} s = record {
    same =
        drop-append-le i t c (omega (arith, s.ends, s.fits)) ∙ ap (◌++ c) s.same ∙ append_assoc bs (drop j t) c
        ∙ ap (bs ++◌) (sym (drop-append-le j t c s.fits));
    ends = s.ends;
    fits = rw length-append (omega (arith, s.fits));
  }

  -- and if it ends there, the other way
  pub of_front : (c : List ℕ) {bs : List ℕ} {j : ℕ} → j ≤ length t → Stands (t ++ c) i bs j → Stands t i bs j
  of_front c {bs} {j} l s = record { same = cancel (drop i t) (bs ++ drop j t) c long both; ends = s.ends; fits = l }
    where
      long : length (drop i t) ≡ length (bs ++ drop j t)
      long = simp (length-append, length-drop) (omega (arith, s.ends))

      both : drop i t ++ c ≡ (bs ++ drop j t) ++ c
      both =
          sym (drop-append-le i t c (omega (arith, s.ends))) ∙ s.same ∙ ap (bs ++◌) (drop-append-le j t c l) ∙ sym (append_assoc bs (drop j t) c)

-- what stands in the first n bytes of t stands in t
pub from_take : (t : List ℕ) (n : ℕ) {i : ℕ} {bs : List ℕ} {j : ℕ} → Stands (take n t) i bs j → Stands t i bs j
from_take t n {i} {bs} {j} s = subst (λ l. Stands l i bs j) (take-append-drop n t) (in_front (drop n t) s)

-- and what stands in t and ends there, stands in them
pub in_take : (t : List ℕ) (n : ℕ) {i : ℕ} {bs : List ℕ} {j : ℕ} → j ≤ n → Stands t i bs j → Stands (take n t) i bs j
in_take t n {i} {bs} {j} l s =
    of_front (drop n t) (rw length-take (omega (arith, s.fits))) (subst (λ l. Stands l i bs j) (sym (take-append-drop n t)) s)

-- what stands in t from n on, stands in t
pub from_drop : (t : List ℕ) (n : ℕ) {i : ℕ} {bs : List ℕ} {j : ℕ} → n ≤ length t → Stands (drop n t) i bs j → Stands t (n + i) bs (n + j)
from_drop t n {i} {bs} {j} l s = record {
  same = sym (drop-drop i n t) ∙ s.same ∙ ap (bs ++◌) (drop-drop j n t);
  ends = omega (arith, s.ends);
  fits = omega (arith, s.fits, length-drop n t);
}

-- a part of what stands
pub part : {t : List ℕ} {i : ℕ} {bs cs : List ℕ} {j k l : ℕ} → Stands t i bs j → Stands bs k cs l → Stands t (i + k) cs (i + l)
part {t} {i} {bs} {cs} {j} {k} {l} s u =
    from_drop t i (omega (arith, s.ends, s.fits)) (subst (λ x. Stands x k cs l) (sym s.same) (in_front (drop j t) u))

-- ---- numbers, low byte first

-- a number of k bytes
pub number_at_lem : {t : List ℕ} {i : ℕ} (k n : ℕ) {j : ℕ} → Stands t i (bytes k n) j → n < 256 ^ k → unbytes (take k (drop i t)) ≡ n
number_at_lem {t} {i} k n {j} s h =
    ap unbytes (ap (take k) s.same ∙ take_at (bytes k n) (drop j t) k (length_bytes k n)) ∙ unbytes_bytes k n h

-- of two bytes
pub two_bytes : {t : List ℕ} {i : ℕ} (n : ℕ) {j : ℕ} → Stands t i (bytes 2 n) j → n < 65536 → get_or t i 0 + 256 * get_or t (i + 1) 0 ≡ n
two_bytes n s h = omega (arith, first s, first (others s))

-- of four
pub four_bytes : {t : List ℕ} {i : ℕ} (n : ℕ) {j : ℕ} → Stands t i (bytes 4 n) j → n < 4294967296
    → get_or t i 0 + 256 * get_or t (i + 1) 0 + 65536 * (get_or t (i + 2) 0 + 256 * get_or t (i + 2 + 1) 0) ≡ n
four_bytes {t} {i} n {j} s h =
    let two : i + 1 + 1 ≡ i + 2 = omega arith in
    let low : Stands t (i + 1) (n / 256 % 256 ∷ bytes 2 (n / 256 / 256)) j = others s in
    let high : Stands t (i + 2) (bytes 2 (n / 256 / 256)) j = rw two at (others low) in
    omega (arith, first s, first low, two_bytes (n / 256 / 256) high (omega arith))

-- k bytes of any list are those of their number
pub number_stands : (t : List ℕ) (i k : ℕ) → Bytes t → i + k ≤ length t → Stands t i (bytes k (unbytes (take k (drop i t)))) (i + k)
number_stands t i k h l =
    let left : length (drop i t) ≡ length t - i = length-drop i t in
    let long : length (take k (drop i t)) ≡ k = length-take-le k (drop i t) (omega arith) in
    let back : bytes k (unbytes (take k (drop i t))) ≡ take k (drop i t) =
    rw long at (bytes_unbytes (take k (drop i t)) (bytes_take k (drop i t) (bytes_drop i t h)))
    in
    record { same = rw (back, ← drop-drop k i t, take-append-drop); ends = rw length_bytes; fits = l }

-- Readers: what it means that a reader takes exactly the bytes that a writer makes, and how such readers are put together.
use Rattle.std.specs.Prelude.{ℕ, zero, suc, ◌+◌, ◌-◌, ◌^◌, ◌≤◌, ◌<◌, ◌≡◌, refl, ◌↔◌, List, [], ◌∷◌, ◌++◌, Bool, true, false, length, take, drop}
use Rattle.std.proofs.Common.{arith, sym, ◌∙◌, ap, subst, append_assoc, take-append-drop, length-append, take_at, drop_at, length-take-le, le-leb}
use Rattle.value.specs.Maybe.{Maybe, is, nothing, ◌>>=◌, when, there}
use Rattle.value.specs.Values.{bytes, unbytes}
use Rattle.value.proofs.Laws.Tests.{Decides, never, le?}
use Rattle.value.proofs.Laws.Lists.{Each}
use Rattle.format.specs.Encode.{each}
use Rattle.format.specs.Decode.{Read, byte, number, times}
use Rattle.value.proofs.Laws.Bytes.{Bytes, bytes_after, bytes_take, length_bytes, unbytes_bytes, bytes_unbytes, unbytes_fits}

-- ---- what is there has a property

-- if something is there, it has P
pub data If {A : Type 0} (P : A → Type 0) : Maybe A → Type 0 where
  so : {a : A} → P a → If P (is a)
  none : If P nothing

-- a chain: what the first step gives has P, and from P what the second gives has Q
pub chain : {A B : Type 0} {P : A → Type 0} {Q : B → Type 0} {m : Maybe A} (f : A → Maybe B) → If P m → ((a : A) → P a → If Q (f a)) → If Q (m >>= f)
chain f (so {a = a} p) next = next a p
chain f none next = none

-- what follows of what is there
pub if_so : {A : Type 0} {P Q : A → Type 0} {m : Maybe A} → ((a : A) → P a → Q a) → If P m → If Q m
if_so f (so {a = a} p) = so (f a p)
if_so f none = none

-- two chains whose second steps agree on what the first gives
pub chain_same : {A B : Type 0} {P : A → Type 0} {m : Maybe A} (f g : A → Maybe B) → If P m → ((a : A) → P a → f a ≡ g a) → (m >>= f) ≡ (m >>= g)
chain_same f g (so {a = a} p) same = same a p
chain_same f g none same = refl

-- a chain whose steps are all there
pub there_chain : {A B : Type 0} {P : A → Type 0} {m : Maybe A} (f : A → Maybe B) → If P m → there m ≡ true → ((a : A) → P a → there (f a) ≡ true)
    → there (m >>= f) ≡ true
there_chain f (so {a = a} p) e next = next a p
there_chain f none e next = e

-- where a test must pass, the statement that it decides is given
pub tested : {A : Type 0} {P : Type 0} {Q : A → Type 0} {b : Bool} (m : Maybe A) → Decides b P → (P → If Q m) → If Q (when b m)
tested {b = true} m d next = next (d.so refl)
tested {b = false} m d next = none

-- and where it is known, the test passes
pub test_passed : {A : Type 0} {P : Type 0} {b : Bool} (m : Maybe A) → Decides b P → P → when b m ≡ m
test_passed {b = true} m d p = refl
test_passed {b = false} m d p = absurd (never (d.of p))

-- what is known to be there has the property
pub known_is : {A : Type 0} {P : A → Type 0} {m : Maybe A} (a : A) → m ≡ is a → If P m → P a
known_is {P = P} a e p = inside (subst (If P) e p)
  where
    inside : If P (is a) → P a
    inside (so q) = q

-- ---- exact readers

-- `bs` are the bytes of what was read, and then the bytes that are left
pub record Took {A : Type 0} (write : A → List ℕ) (Fits : A → Type 0) (bs : List ℕ) (got : A × List ℕ) : Type 0 where
  pub same : bs ≡ write got.0 ++ got.1
  pub fits : Fits got.0

-- a reader that undoes a writer on what fits, and accepts nothing else
pub record Exact {A : Type 0} (read : List ℕ → Read A) (write : A → List ℕ) (Fits : A → Type 0) : Type 0 where
  pub undoes : (a : A) → Fits a → (rest : List ℕ) → read (write a ++ rest) ≡ is (a, rest)
  pub only : (bs : List ℕ) → Bytes bs → If (Took write Fits bs) (read bs)

-- what is left of bytes are bytes
pub left : {A : Type 0} {write : A → List ℕ} {Fits : A → Type 0} {bs : List ℕ} {got : A × List ℕ} → Took write Fits bs got → Bytes bs → Bytes got.1
left {write = write} {got = got} took h = bytes_after (write got.0) got.1 (rw took.same at h)

-- what is left stands at the end of what there was
pub left_at : {A : Type 0} {write : A → List ℕ} {Fits : A → Type 0} {bs : List ℕ} {got : A × List ℕ} → Took write Fits bs got
    → got.1 ≡ drop (length bs - length got.1) bs
left_at {write = write} {bs = bs} {got = got} took =
    let sizes : length bs ≡ length (write got.0) + length got.1 = ap length took.same ∙ length-append (write got.0) got.1 in
    let cut : length (write got.0) ≡ length bs - length got.1 = omega arith in
    sym (ap (drop (length bs - length got.1)) took.same ∙ drop_at (write got.0) got.1 (length bs - length got.1) cut)

-- a reader that is exact, as an equation: bytes are read as a, and these left, exactly if they are a's bytes and then these
pub exactly : {A : Type 0} {read : List ℕ → Read A} {write : A → List ℕ} {Fits : A → Type 0} → Exact read write Fits
    → (bs : List ℕ) → Bytes bs → (a : A) (rest : List ℕ) → (read bs ≡ is (a, rest)) ↔ ((bs ≡ write a ++ rest) × Fits a)
exactly {read = read} exact bs h a rest = (
  (λ e. let took = known_is (a, rest) e (exact.only bs h) in (took.same, took.fits)),
  (λ s. ap read s.0 ∙ exact.undoes a s.1 rest),
)

-- at the end of a chain: this was read, and these bytes are left
pub read_as_lem : {A : Type 0} {write : A → List ℕ} {Fits : A → Type 0} {bs : List ℕ} (a : A) (rest : List ℕ) → bs ≡ write a ++ rest → Fits a
    → If (Took write Fits bs) (is (a, rest))
read_as_lem a rest same fits = so (record { same = same; fits = fits })

-- ---- a number of one byte, and of k bytes

-- one byte
pub byte_exact : Exact byte (λ b. b ∷ []) (λ b. b < 2 ^ 8)
byte_exact = record { undoes = λ b h rest. refl; only = only }
  where
    only : (bs : List ℕ) → Bytes bs → If (Took (λ b. b ∷ []) (λ b. b < 2 ^ 8) bs) (byte bs)
    only [] h = none
    only (b ∷ bs) h = read_as_lem b bs refl h.0

-- k bytes, lowest first
pub number_exact : (k : ℕ) → Exact (number k) (bytes k) (λ n. n < 256 ^ k)
number_exact k = record { undoes = undoes; only = only }
  where
    undoes : (n : ℕ) → n < 256 ^ k → (rest : List ℕ) → number k (bytes k n ++ rest) ≡ is (n, rest)
    undoes n h rest =
        let long : k ≤ length (bytes k n ++ rest) = simp (length-append, length_bytes) (omega arith) in
        rw (
          le-leb k (length (bytes k n ++ rest)) long,
          take_at (bytes k n) rest k (length_bytes k n),
          drop_at (bytes k n) rest k (length_bytes k n),
          unbytes_bytes k n h,
        )

    only : (bs : List ℕ) → Bytes bs → If (Took (bytes k) (λ n. n < 256 ^ k) bs) (number k bs)
    only bs h = tested _ (le? k (length bs)) λ enough.
        let long : length (take k bs) ≡ k = length-take-le k bs enough in
        let small : Bytes (take k bs) = bytes_take k bs h in
        let back : bytes k (unbytes (take k bs)) ≡ take k bs = rw long at (bytes_unbytes (take k bs) small) in
        read_as_lem (unbytes (take k bs)) (drop k bs) (rw (back, take-append-drop)) (rw long at (unbytes_fits (take k bs) small))

-- ---- things one after the other

module _ {A : Type 0} (read : List ℕ → Read A) (write : A → List ℕ) (Fits : A → Type 0) (exact : Exact read write Fits) where
  abbrev All : ℕ → List A → Type 0
  All n xs = (length xs ≡ n) × Each Fits xs

  -- n things are read exactly if one is
  pub times_exact : (n : ℕ) → Exact (times read n) (each write) (All n)
  times_exact n = record { undoes = undoes n; only = only n }
    where
      undoes : (n : ℕ) (xs : List A) → All n xs → (rest : List ℕ) → times read n (each write xs ++ rest) ≡ is (xs, rest)
      undoes zero [] h rest = refl
      undoes zero (x ∷ xs) h rest = absurd (omega (arith, h.0))
      undoes (suc n) [] h rest = absurd (omega (arith, h.0))
      undoes (suc n) (x ∷ xs) h rest = rw (
        append_assoc,
        exact.undoes x h.1.0 (each write xs ++ rest),
        undoes n xs (omega (arith, h.0), h.1.1) rest,
      )

      only : (n : ℕ) (bs : List ℕ) → Bytes bs → If (Took (each write) (All n) bs) (times read n bs)
      only zero bs h = read_as_lem [] bs refl (refl, tt)
      only (suc n) bs h =
          chain _ (exact.only bs h) λ (x, r) first.
          chain _ (only n r (left first h)) λ (xs, q) others.
          read_as_lem (x ∷ xs) q (first.same ∙ rw (others.same, append_assoc)) (ap suc others.fits.0, (first.fits, others.fits.1))

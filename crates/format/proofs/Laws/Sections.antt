-- The sections of a table: their readers are exact, and a table is cut where they meet.
use Rattle.std.specs.Prelude.{ℕ, ◌*◌, ◌-◌, ◌^◌, ◌<◌, ◌≡◌, refl, List, [], ◌∷◌, ◌++◌, length}
use Rattle.std.proofs.Common.{arith, sym, ◌∙◌, append_assoc, append-nil, length-append, take-append-drop, take_at, drop_at}
use Rattle.value.specs.Maybe.{is, nothing}
use Rattle.value.specs.Values.{bytes}
use Rattle.value.proofs.Laws.Lists.{Each}
use Rattle.format.specs.Encode.{each, Head, Middle, Trailer, record_size}
use Rattle.format.specs.Encode as E
use Rattle.format.specs.Decode.{Read, number, times, finish, head, middle, trailer, but, last}
use Rattle.value.proofs.Laws.Bytes.{Bytes, bytes_take, bytes_drop}
use Rattle.format.proofs.Laws.Reading.{If, so, none, chain, Took, Exact, left, read_as_lem, byte_exact, number_exact, times_exact}

-- ---- a reader that leaves nothing

-- `bs` are the bytes of what was read
pub record All {A : Type 0} (write : A → List ℕ) (Fits : A → Type 0) (bs : List ℕ) (a : A) : Type 0 where
  pub same : bs ≡ write a
  pub fits : Fits a

module _ {A : Type 0} {read : List ℕ → Read A} {write : A → List ℕ} {Fits : A → Type 0} (exact : Exact read write Fits) where
  -- all the bytes of what fits are read back
  pub finish_undoes : (a : A) → Fits a → finish (read (write a)) ≡ is a
  finish_undoes a h =
      let whole : read (write a) ≡ is (a, []) = rw append-nil at (exact.undoes a h []) in
      rw whole

  -- and nothing else is
  pub finish_only : (bs : List ℕ) → Bytes bs → If (All write Fits bs) (finish (read bs))
  finish_only bs h = go (read bs) (exact.only bs h)
    where
      end : (a : A) (rest : List ℕ) → Took write Fits bs (a, rest) → If (All write Fits bs) (finish (is (a, rest)))
      end a [] took = so (record { same = took.same ∙ append-nil (write a); fits = took.fits })
      end a (b ∷ rest) took = none

      go : (m : Read A) → If (Took write Fits bs) m → If (All write Fits bs) (finish m)
      go (is got) (so took) = end got.0 got.1 took
      go nothing none = none

-- ---- the readers of the sections

-- a record whose numbers fit their bytes
abbrev pub HeadFits : Head → Type 0
HeadFits h = (h.params < 2 ^ 8) × (h.locals < 2 ^ 8) × (h.at < 2 ^ 32)

-- the record of a procedure
pub head_exact : Exact head E.head HeadFits
head_exact = record { undoes = λ h fits rest. rw ((number_exact 4).undoes h.at fits.2 rest); only = only }
  where
    only : (bs : List ℕ) → Bytes bs → If (Took E.head HeadFits bs) (head bs)
    only bs h =
        chain _ (byte_exact.only bs h) λ (p, r) params.
        chain _ (byte_exact.only r (left params h)) λ (l, q) locals.
        chain _ ((number_exact 4).only q (left locals (left params h))) λ (a, s) at.
        read_as_lem (record { params = p; locals = l; at = a }) s (rw (params.same, locals.same, at.same)) (params.fits, locals.fits, at.fits)

-- so many records, sizes and mains
pub record MiddleFits (P M T : ℕ) (m : Middle) : Type 0 where
  pub heads : (length m.heads ≡ P) × Each HeadFits m.heads
  pub sizes : (length m.sizes ≡ M) × Each (λ n. n < 2 ^ 16) m.sizes
  pub mains : (length m.mains ≡ T) × Each (λ n. n < 2 ^ 16) m.mains

-- n records
heads_exact : (n : ℕ) → Exact (times head n) (each E.head) (λ hs. (length hs ≡ n) × Each HeadFits hs)
heads_exact = times_exact head E.head HeadFits head_exact

-- n numbers of 2 bytes
numbers_exact : (n : ℕ) → Exact (times (number 2) n) (each (bytes 2)) (λ ns. (length ns ≡ n) × Each (λ n. n < 2 ^ 16) ns)
numbers_exact = times_exact (number 2) (bytes 2) (λ n. n < 2 ^ 16) (number_exact 2)

-- the records, the sizes and the mains
pub middle_exact : (P M T : ℕ) → Exact (middle P M T) E.middle (MiddleFits P M T)
middle_exact P M T = record { undoes = undoes; only = only }
  where
    undoes : (m : Middle) → MiddleFits P M T m → (rest : List ℕ) → middle P M T (E.middle m ++ rest) ≡ is (m, rest)
    undoes m fits rest =
        rw (
          append_assoc (each E.head m.heads) (each (bytes 2) m.sizes ++ each (bytes 2) m.mains) rest,
          append_assoc (each (bytes 2) m.sizes) (each (bytes 2) m.mains) rest,
          (heads_exact P).undoes m.heads fits.heads (each (bytes 2) m.sizes ++ (each (bytes 2) m.mains ++ rest)),
          (numbers_exact M).undoes m.sizes fits.sizes (each (bytes 2) m.mains ++ rest),
          (numbers_exact T).undoes m.mains fits.mains rest,
        )

    only : (bs : List ℕ) → Bytes bs → If (Took E.middle (MiddleFits P M T) bs) (middle P M T bs)
    only bs h =
        chain _ ((heads_exact P).only bs h) λ (hs, r) heads.
        chain _ ((numbers_exact M).only r (left heads h)) λ (ss, q) sizes.
        chain _ ((numbers_exact T).only q (left sizes (left heads h))) λ (ms, s) mains.
        read_as_lem (record { heads = hs; sizes = ss; mains = ms }) s
        (rw (
          heads.same,
          sizes.same,
          mains.same,
          append_assoc (each E.head hs) (each (bytes 2) ss ++ each (bytes 2) ms) s,
          append_assoc (each (bytes 2) ss) (each (bytes 2) ms) s,
        ))
        (record { heads = heads.fits; sizes = sizes.fits; mains = mains.fits })

-- a trailer whose numbers fit their bytes
pub record TrailerFits (r : Trailer) : Type 0 where
  pub kind : r.kind < 2 ^ 8
  pub mark : r.mark < 2 ^ 8
  pub procs : r.procs < 2 ^ 16
  pub places : r.places < 2 ^ 16
  pub threads : r.threads < 2 ^ 16
  pub back : r.back < 2 ^ 32
  pub whole : r.whole < 2 ^ 32

-- the trailer
pub trailer_exact : Exact trailer E.trailer TrailerFits
trailer_exact = record { undoes = undoes; only = only }
  where
    undoes : (r : Trailer) → TrailerFits r → (rest : List ℕ) → trailer (E.trailer r ++ rest) ≡ is (r, rest)
    undoes r fits rest =
        rw (
          (number_exact 2).undoes r.procs fits.procs (bytes 2 r.places ++
              (bytes 2 r.threads ++ (bytes 4 r.back ++ (bytes 4 r.whole ++ rest)))),
          (number_exact 2).undoes r.places fits.places (bytes 2 r.threads ++ (bytes 4 r.back ++ (bytes 4 r.whole ++ rest))),
          (number_exact 2).undoes r.threads fits.threads (bytes 4 r.back ++ (bytes 4 r.whole ++ rest)),
          (number_exact 4).undoes r.back fits.back (bytes 4 r.whole ++ rest),
          (number_exact 4).undoes r.whole fits.whole rest,
        )

    only : (bs : List ℕ) → Bytes bs → If (Took E.trailer TrailerFits bs) (trailer bs)
    only bs h =
        chain _ (byte_exact.only bs h) λ (k, r₁) kind.
        let h₁ : Bytes r₁ = left kind h in
        chain _ (byte_exact.only r₁ h₁) λ (m, r₂) mark.
        let h₂ : Bytes r₂ = left mark h₁ in
        chain _ ((number_exact 2).only r₂ h₂) λ (P, r₃) procs.
        let h₃ : Bytes r₃ = left procs h₂ in
        chain _ ((number_exact 2).only r₃ h₃) λ (M, r₄) places.
        let h₄ : Bytes r₄ = left places h₃ in
        chain _ ((number_exact 2).only r₄ h₄) λ (T, r₅) threads.
        let h₅ : Bytes r₅ = left threads h₄ in
        chain _ ((number_exact 4).only r₅ h₅) λ (d, r₆) back.
        let h₆ : Bytes r₆ = left back h₅ in
        chain _ ((number_exact 4).only r₆ h₆) λ (n, r₇) whole.
        read_as_lem (record { kind = k; mark = m; procs = P; places = M; threads = T; back = d; whole = n }) r₇
        (rw (kind.same, mark.same, procs.same, places.same, threads.same, back.same, whole.same))
        (record {
          kind = kind.fits;
          mark = mark.fits;
          procs = procs.fits;
          places = places.fits;
          threads = threads.fits;
          back = back.fits;
          whole = whole.fits;
        })

-- ---- cutting off the end

module _ (a b : List ℕ) (n : ℕ) (h : length b ≡ n) where
  -- where the last n bytes begin
  front_length : length a ≡ length (a ++ b) - n
  front_length = rw length-append (omega arith)

  -- the part before the last n
  pub but_append : but n (a ++ b) ≡ a
  but_append = take_at a b (length (a ++ b) - n) front_length

  -- the last n
  pub last_append : last n (a ++ b) ≡ b
  last_append = drop_at a b (length (a ++ b) - n) front_length

-- both together are all
pub but_last : (n : ℕ) (t : List ℕ) → t ≡ but n t ++ last n t
but_last n t = sym (take-append-drop (length t - n) t)

-- each is bytes
pub bytes_but : (n : ℕ) (t : List ℕ) → Bytes t → Bytes (but n t)
bytes_but n t h = bytes_take (length t - n) t h

-- so are the last
pub bytes_last : (n : ℕ) (t : List ℕ) → Bytes t → Bytes (last n t)
bytes_last n t h = bytes_drop (length t - n) t h

-- ---- lengths

-- things of k bytes each
pub length_each : {A : Type 0} (item : A → List ℕ) (k : ℕ) → ((a : A) → length (item a) ≡ k) → (xs : List A) → length (each item xs) ≡ k * length xs
length_each item k h [] = omega arith
length_each item k h (x ∷ xs) = rw (length-append, h x, length_each item k h xs) (omega arith)

-- the middle is as long as the trailer must say
pub length_middle : (m : Middle) → length (E.middle m) ≡ E.distance (length m.heads) (length m.sizes) (length m.mains)
length_middle m =
    simp length-append
    (omega (
      arith,
      length_each E.head record_size (λ h. refl) m.heads,
      length_each (bytes 2) 2 (λ n. refl) m.sizes,
      length_each (bytes 2) 2 (λ n. refl) m.mains,
    ))

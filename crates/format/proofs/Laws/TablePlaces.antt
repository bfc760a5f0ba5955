-- What stands where in the table of a program: document 01, "A table".
use Rattle.std.specs.Prelude.{ℕ, zero, suc, ◌+◌, ◌*◌, ◌-◌, ◌≡◌, refl, List, [], ◌∷◌, ◌++◌, length}
use Rattle.std.proofs.Common.{arith, sym, ap, subst, ◌∙◌, length-append}
use Rattle.value.specs.Maybe.{is}
use Rattle.value.specs.Values.{bytes}
use Rattle.value.specs.Lists.{at}
use Rattle.value.proofs.Laws.Maybes.{is_inj, missing}
use Rattle.format.specs.Syntax.{Proc, Program, Kind}
use Rattle.format.specs.Encode.{each, head, heads, middle_of, bodies_of, block, front, Trailer, trailer, trailer_of, table, distance, record_size}
use Rattle.format.specs.Encode.{trailer_size}
use Rattle.format.proofs.Laws.Sections.{length_each, length_middle}
use Rattle.format.proofs.Laws.Heads.{length_heads}
use Rattle.format.proofs.Laws.Stands.{Stands, others, whole, front as left, back as right}

-- ---- where things are

-- where the body of procedure m begins: the lengths of the bodies before it
abbrev pub body_at : {A : Type 0} → List (Proc A) → ℕ → ℕ
body_at [] m = 0
body_at (p ∷ ps) zero = 0
body_at (p ∷ ps) (suc m) = length (block p.body) + body_at ps m

-- where the records of procedures begin
abbrev pub records_at : {A : Type 0} → Program A → ℕ
records_at p = length (each block (bodies_of p.procs))

-- ---- things one after the other

-- the same position, written in another way
at_position : {t : List ℕ} {i k : ℕ} {bs : List ℕ} {j l : ℕ} → Stands t i bs j → i ≡ k → j ≡ l → Stands t k bs l
at_position {t} {i} {k} {bs} {j} s e f = subst (λ j. Stands t k bs j) f (subst (λ i. Stands t i bs j) e s)

-- thing n of things of k bytes each
pub nth_stands : {A : Type 0} (item : A → List ℕ) (k : ℕ) → ((a : A) → length (item a) ≡ k) → (xs : List A) (n : ℕ) {x : A} {t : List ℕ} {i j : ℕ}
    → Stands t i (each item xs) j → at xs n ≡ is x → Stands t (i + k * n) (item x) (i + k * n + k)
nth_stands item k long [] n s e = missing e
nth_stands item k long (y ∷ xs) zero {x} s e =
    let same : y ≡ x = is_inj e in
    rw (← same) (at_position (left (item y) (each item xs) s) (omega arith) (omega (arith, long y)))
nth_stands item k long (y ∷ xs) (suc n) s e =
    at_position (nth_stands item k long xs n (right (item y) (each item xs) s) e) (omega (arith, long y)) (omega (arith, long y))

-- body m of bodies
pub bodies_stand : {A : Type 0} (ps : List (Proc A)) (m : ℕ) {q : Proc A} {t : List ℕ} {i j : ℕ} → Stands t i (each block (bodies_of ps)) j
    → at ps m ≡ is q
    → Stands t (i + body_at ps m) (block q.body) (i + body_at ps m + length (block q.body))
bodies_stand [] m s e = missing e
bodies_stand (p ∷ ps) zero {q} s e =
    let same : p ≡ q = is_inj e in
    rw (← same) (at_position (left (block p.body) (each block (bodies_of ps)) s) (omega arith) (omega arith))
bodies_stand (p ∷ ps) (suc m) s e =
    at_position (bodies_stand ps m (right (block p.body) (each block (bodies_of ps)) s) e) (omega arith) (omega arith)

-- the record of procedure m
heads_at_lem : {A : Type 0} (i : ℕ) (ps : List (Proc A)) (m : ℕ) {q : Proc A} → at ps m ≡ is q
    → at (heads i ps) m ≡ is (record { params = q.params; locals = q.locals; at = i + body_at ps m })
heads_at_lem i [] m e = missing e
heads_at_lem i (p ∷ ps) zero {q} e =
    let same : p ≡ q = is_inj e in
    let here : i ≡ i + 0 = omega arith in
    rw (← same) (ap (λ i. is (record { params = p.params; locals = p.locals; at = i })) here)
heads_at_lem i (p ∷ ps) (suc m) {q} e =
    let far : i + length (block p.body) + body_at ps m ≡ i + (length (block p.body) + body_at ps m) = omega arith in
    rw (← far) (heads_at_lem (i + length (block p.body)) ps m e)

-- ---- in a table

module _ {A : Type 0} (k : Kind) (p : Program A) {t : List ℕ} (e : t ≡ table k p) where
  -- where the sections begin
  abbrev P : ℕ
  P = length p.procs

  -- the locations
  abbrev M : ℕ
  M = length p.sizes

  -- the bodies
  abbrev bodies : List ℕ
  bodies = each block (bodies_of p.procs)

  -- the records
  abbrev records : List ℕ
  records = each head (heads 0 p.procs)

  -- the sizes and the mains, as numbers
  abbrev numbers : List ℕ
  numbers = each (bytes 2) p.sizes ++ each (bytes 2) p.mains

  -- all but the trailer
  front_stands : Stands t 0 (front p) (length (front p))
  front_stands = at_position (left (front p) (trailer (trailer_of k p)) (whole e)) refl (omega arith)

  -- the records, the sizes and the mains
  middle_stands : Stands t (records_at p) (records ++ numbers) (length (front p))
  middle_stands = at_position (right bodies (records ++ numbers) front_stands) (omega arith) refl

  -- the sizes and the mains
  numbers_stand : Stands t (records_at p + record_size * P) numbers (length (front p))
  numbers_stand =
      let long : length records ≡ record_size * length (heads 0 p.procs) = length_each head record_size (λ h. refl) (heads 0 p.procs) in
      at_position (right records numbers middle_stands) (omega (arith, length_heads 0 p.procs)) refl

  -- the bodies, up to the records
  pub all_bodies : Stands t 0 (each block (bodies_of p.procs)) (records_at p)
  all_bodies = at_position (left bodies (records ++ numbers) front_stands) refl (omega arith)

  -- the body of procedure m
  pub body_stands : (m : ℕ) {q : Proc A} → at p.procs m ≡ is q
      → Stands t (body_at p.procs m) (block q.body) (body_at p.procs m + length (block q.body))
  body_stands m h = at_position (bodies_stand p.procs m all_bodies h) (omega arith) (omega arith)

  -- its record: parameters, locals, and where its body begins
  pub record_stands : (m : ℕ) {q : Proc A} → at p.procs m ≡ is q
      → Stands t (records_at p + record_size * m) (q.params ∷ q.locals ∷ bytes 4 (body_at p.procs m)) (records_at p + record_size * m + record_size)
  record_stands m {q} h =
      let far : 0 + body_at p.procs m ≡ body_at p.procs m = omega arith in
      rw far at (nth_stands head record_size (λ h. refl) (heads 0 p.procs) m (left records numbers middle_stands) (heads_at_lem 0 p.procs m h))

  -- the size of location n
  pub size_stands : (n : ℕ) {s : ℕ} → at p.sizes n ≡ is s
      → Stands t (records_at p + record_size * P + 2 * n) (bytes 2 s) (records_at p + record_size * P + 2 * n + 2)
  size_stands n h = nth_stands (bytes 2) 2 (λ n. refl) p.sizes n (left (each (bytes 2) p.sizes) (each (bytes 2) p.mains) numbers_stand) h

  -- the main of thread n
  pub main_stands : (n : ℕ) {m : ℕ} → at p.mains n ≡ is m
      → Stands t (records_at p + record_size * P + 2 * M + 2 * n) (bytes 2 m) (records_at p + record_size * P + 2 * M + 2 * n + 2)
  main_stands n h =
      let long : length (each (bytes 2) p.sizes) ≡ 2 * M = length_each (bytes 2) 2 (λ n. refl) p.sizes in
      let mains : Stands t (records_at p + record_size * P + 2 * M) (each (bytes 2) p.mains) (length (front p)) =
      at_position (right (each (bytes 2) p.sizes) (each (bytes 2) p.mains) numbers_stand) (omega arith) refl
      in
      nth_stands (bytes 2) 2 (λ n. refl) p.mains n mains h

  -- "Last a 16-byte trailer"
  pub length_table : length t ≡ length (front p) + trailer_size
  length_table = ap length e ∙ length-append (front p) (trailer (trailer_of k p))

  -- it stands at the end
  pub trailer_stands : Stands t (length t - trailer_size) (trailer (trailer_of k p)) (length t)
  trailer_stands = at_position (right (front p) (trailer (trailer_of k p)) (whole e)) (omega (arith, length_table)) refl

  -- it begins behind the mains
  pub trailer_at : length t - trailer_size ≡ records_at p + distance (length p.procs) (length p.sizes) (length p.mains)
  trailer_at = omega (arith, length_table, length-append bodies (records ++ numbers), length_middle (middle_of p), length_heads 0 p.procs)

  -- ---- the fields of the trailer

  -- the trailer
  abbrev z : Trailer
  z = trailer_of k p

  -- its numbers
  counts_stand : Stands t (length t - 14)
      (bytes 2 z.procs ++ (bytes 2 z.places ++ (bytes 2 z.threads ++ (bytes 4 z.back ++ bytes 4 z.whole)))) (length t)
  counts_stand = at_position (others (others trailer_stands)) (omega (arith, length_table)) refl

  -- "P, M, T (2 each)"
  pub procs_stand : Stands t (length t - 14) (bytes 2 (length p.procs)) (length t - 12)
  procs_stand = at_position (left (bytes 2 z.procs) _ counts_stand) refl (omega (arith, length_table))

  -- from M on
  places_on : Stands t (length t - 12) (bytes 2 z.places ++ (bytes 2 z.threads ++ (bytes 4 z.back ++ bytes 4 z.whole))) (length t)
  places_on = at_position (right (bytes 2 z.procs) _ counts_stand) (omega (arith, length_table)) refl

  -- M
  pub places_stand : Stands t (length t - 12) (bytes 2 (length p.sizes)) (length t - 10)
  places_stand = at_position (left (bytes 2 z.places) _ places_on) refl (omega (arith, length_table))

  -- from T on
  threads_on : Stands t (length t - 10) (bytes 2 z.threads ++ (bytes 4 z.back ++ bytes 4 z.whole)) (length t)
  threads_on = at_position (right (bytes 2 z.places) _ places_on) (omega (arith, length_table)) refl

  -- T
  pub threads_stand : Stands t (length t - 10) (bytes 2 (length p.mains)) (length t - 8)
  threads_stand = at_position (left (bytes 2 z.threads) _ threads_on) refl (omega (arith, length_table))

  -- "the distance from the trailer back to the procedure records (4); the whole length (4)"
  distance_on : Stands t (length t - 8) (bytes 4 z.back ++ bytes 4 z.whole) (length t)
  distance_on = at_position (right (bytes 2 z.threads) _ threads_on) (omega (arith, length_table)) refl

  -- the distance
  pub distance_stands : Stands t (length t - 8) (bytes 4 (distance (length p.procs) (length p.sizes) (length p.mains))) (length t - 4)
  distance_stands = at_position (left (bytes 4 z.back) _ distance_on) refl (omega (arith, length_table))

  -- the whole length
  pub length_stands : Stands t (length t - 4) (bytes 4 (length t)) (length t)
  length_stands =
      subst (λ n. Stands t (length t - 4) (bytes 4 n) (length t)) (sym length_table)
      (at_position (right (bytes 4 z.back) (bytes 4 z.whole) distance_on) (omega (arith, length_table)) refl)

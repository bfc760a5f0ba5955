-- What stands where in the bytes before the trailer.
use Rattle.std.specs.Prelude.{ℕ, zero, suc, ◌+◌, ◌*◌, ◌-◌, ◌≤◌, ◌<◌, ◌≡◌, refl, List, [], ◌∷◌, length, get_or}
use Rattle.std.proofs.Common.{arith, sym, subst, ◌∙◌, length-append}
use Rattle.value.specs.Maybe.{is}
use Rattle.value.specs.Values.{bytes}
use Rattle.value.specs.Lists.{at}
use Rattle.value.proofs.Laws.Maybes.{is_inj, missing}
use Rattle.value.proofs.Laws.Lists.{at_get_d, each_at}
use Rattle.format.specs.Syntax.{Proc, Program, Plain, Kind, end}
use Rattle.format.specs.Encode.{each, block, bodies_of, front, table, trailer, trailer_of, distance, record_size}
use Rattle.format.specs.Decode.{max_nesting}
use Rattle.format.proofs.Laws.Fits.{BlockFits}
use Rattle.format.proofs.Laws.Sound.{Sound}
use Rattle.format.proofs.Laws.Accepted.{bodies_fit}
use Rattle.format.proofs.Laws.Blocks.{block_exact}
use Rattle.format.proofs.Laws.Grammar.{block_long}
use Rattle.format.proofs.Laws.Positions.{one_thing}
use Rattle.format.proofs.Laws.Procs.{body_at_lem}
use Rattle.format.proofs.Laws.Stands.{Stands, of_front}
use Rattle.format.proofs.Laws.TablePlaces.{body_at, records_at, body_stands, record_stands, size_stands, main_stands, length_table, trailer_at}

-- ---- where bodies begin and end

-- the first at byte 0
pub first_body : (ps : List (Proc Plain)) → body_at ps 0 ≡ 0
first_body [] = refl
first_body (p ∷ ps) = refl

-- behind a body the next one begins
pub next_body : (ps : List (Proc Plain)) (m : ℕ) {q : Proc Plain} → at ps m ≡ is q → body_at ps m + length (block q.body) ≡ body_at ps (suc m)
next_body [] m e = missing e
next_body (p ∷ ps) zero {q} e = let same : p ≡ q = is_inj e in rw (same, first_body ps) (omega arith)
next_body (p ∷ ps) (suc m) e = omega (arith, next_body ps m e)

-- behind the last one the records begin
pub last_body : (ps : List (Proc Plain)) → body_at ps (length ps) ≡ length (each block (bodies_of ps))
last_body [] = refl
last_body (p ∷ ps) = rw (length-append, last_body ps)

-- procedure m
abbrev pub proc_at : List (Proc Plain) → ℕ → Proc Plain
proc_at ps m = get_or ps m (record { params = 0; locals = 0; body = end })

-- it is there
pub proc_at_lem : (ps : List (Proc Plain)) (m : ℕ) → m < length ps → at ps m ≡ is (proc_at ps m)
proc_at_lem ps m l = at_get_d ps m (record { params = 0; locals = 0; body = end }) l

-- each body has a byte
grow : (ps : List (Proc Plain)) (m d : ℕ) → m + d ≤ length ps → body_at ps m + d ≤ body_at ps (m + d)
grow ps m zero l = let same : m + 0 ≡ m = omega arith in rw same (omega arith)
grow ps m (suc d) l =
    let there : at ps (m + d) ≡ is (proc_at ps (m + d)) = proc_at_lem ps (m + d) (omega arith) in
    let same : m + suc d ≡ suc (m + d) = omega arith in
    rw same (omega (arith, next_body ps (m + d) there, block_long (proc_at ps (m + d)).body, grow ps m d (omega arith)))

-- so later ones begin later
pub bodies_grow : (ps : List (Proc Plain)) (m n : ℕ) → m ≤ n → n ≤ length ps → body_at ps m + (n - m) ≤ body_at ps n
bodies_grow ps m n l r =
    let same : m + (n - m) ≡ n = omega arith in
    subst (λ x. body_at ps m + (n - m) ≤ body_at ps x) same (grow ps m (n - m) (omega arith))

-- ---- of one program

module _ {k : Kind} (p : Program Plain) (sound : Sound k p) where
  -- the bytes before the trailer
  pub front_length : length (front p) ≡ records_at p + distance (length p.procs) (length p.sizes) (length p.mains)
  front_length = omega (arith, length_table k p {t = table k p} refl, trailer_at k p {t = table k p} refl)

  -- what stands in the table before the trailer
  before : {i : ℕ} {bs : List ℕ} {j : ℕ} → Stands (table k p) i bs j → j ≤ length (front p) → Stands (front p) i bs j
  before s l = of_front (trailer (trailer_of k p)) l s

  -- the records begin behind the bodies
  pub records_behind : records_at p ≡ body_at p.procs (length p.procs)
  records_behind = sym (last_body p.procs)

  -- body m
  pub body_in_lem : (m : ℕ) → m < length p.procs
      → Stands (front p) (body_at p.procs m) (block (proc_at p.procs m).body) (body_at p.procs (suc m))
  body_in_lem m l =
      let there : at p.procs m ≡ is (proc_at p.procs m) = proc_at_lem p.procs m l in
      before (subst (λ j. Stands (table k p) (body_at p.procs m) (block (proc_at p.procs m).body) j) (next_body p.procs m there)
      (body_stands k p {t = table k p} refl m there))
      (omega (arith, front_length, records_behind, bodies_grow p.procs (suc m) (length p.procs) l (omega arith)))

  -- record m
  pub record_in : (m : ℕ) → m < length p.procs
      → Stands (front p) (records_at p + record_size * m)
      ((proc_at p.procs m).params ∷ (proc_at p.procs m).locals ∷ bytes 4 (body_at p.procs m)) (records_at p + record_size * m + record_size)
  record_in m l =
      let there : at p.procs m ≡ is (proc_at p.procs m) = proc_at_lem p.procs m l in
      before (record_stands k p {t = table k p} refl m there) (omega (arith, front_length))

  -- size n
  pub size_in : (n : ℕ) → n < length p.sizes
      → Stands (front p) (records_at p + record_size * length p.procs + 2 * n) (bytes 2 (get_or p.sizes n 0))
      (records_at p + record_size * length p.procs + 2 * n + 2)
  size_in n l = before (size_stands k p {t = table k p} refl n (at_get_d p.sizes n 0 l)) (omega (arith, front_length))

  -- main n
  pub main_in : (n : ℕ) → n < length p.mains
      → Stands (front p) (records_at p + record_size * length p.procs + 2 * length p.sizes + 2 * n) (bytes 2 (get_or p.mains n 0))
      (records_at p + record_size * length p.procs + 2 * length p.sizes + 2 * n + 2)
  main_in n l = before (main_stands k p {t = table k p} refl n (at_get_d p.mains n 0 l)) (omega (arith, front_length))

  -- the body of procedure m can be read
  pub body_fits : (m : ℕ) → m < length p.procs → BlockFits max_nesting (proc_at p.procs m).body
  body_fits m l =
      each_at (BlockFits max_nesting) (bodies_of p.procs) m (bodies_fit k p sound) (body_at_lem p.procs m (proc_at_lem p.procs m l))

-- ---- of two programs with one front

-- their bodies begin at the same places, as far as both have them
pub bodies_same : {k : Kind} (p q : Program Plain) → Sound k p → Sound k q → front p ≡ front q
    → (m : ℕ) → m ≤ length p.procs → m ≤ length q.procs → body_at p.procs m ≡ body_at q.procs m
bodies_same p q sp sq e zero l r = first_body p.procs ∙ sym (first_body q.procs)
bodies_same p q sp sq e (suc m) l r =
    let here : body_at p.procs m ≡ body_at q.procs m = bodies_same p q sp sq e m (omega arith) (omega arith) in
    let first : Stands (front q) (body_at q.procs m) (block (proc_at p.procs m).body) (body_at p.procs (suc m)) =
    subst (λ u. Stands u (body_at q.procs m) (block (proc_at p.procs m).body) (body_at p.procs (suc m))) e
    (subst (λ i. Stands (front p) i (block (proc_at p.procs m).body) (body_at p.procs (suc m))) here (body_in_lem p sp m l))
    in
    (one_thing (block_exact max_nesting) (proc_at p.procs m).body (proc_at q.procs m).body first (body_fits p sp m l)
    (body_in_lem q sq m r) (body_fits q sq m r)).1

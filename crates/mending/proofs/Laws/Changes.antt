-- The list of changes: each place where two byte strings differ, by rising place; a trailer changes at most the last sixteen bytes.
use Rattle.std.specs.Prelude.{ℕ, zero, suc, ◌+◌, ◌*◌, ◌-◌, ◌≤◌, ◌≡◌, refl, List, [], ◌∷◌, ◌++◌, length, eqb}
use Rattle.std.proofs.Common.{arith, sym, ap, ◌∙◌, length-take, length-drop, eq-eqb, ne_eqb}
use Rattle.std.proofs.lemmas.Bool.{eqb-false}
use Rattle.value.specs.Maybe.{is}
use Rattle.value.specs.Lists.{at}
use Rattle.value.proofs.Laws.Maybes.{is_inj, missing}
use Rattle.value.proofs.Laws.Tests.{by_test}
use Rattle.value.proofs.Laws.Lists.{In, here, there}
use Rattle.format.specs.Encode.{each, Trailer, trailer, trailer_size}
use Rattle.format.specs.Decode.{but, last}
use Rattle.format.proofs.Laws.Sections.{but_last, length_each}
use Rattle.mending.proofs.Laws.Gather.{in_cons}
use Rattle.mending.specs.Mending.{with_trailer, Change, changes_from, change_bytes, change_size}

-- ---- what is listed

-- t and u differ at place j, which is called i + j, and the change says how
pub record Differs (i : ℕ) (t u : List ℕ) (c : Change) : Type 0 where
  pub j : ℕ
  pub place : c.place ≡ i + j
  pub old : at t j ≡ is c.old
  pub new : at u j ≡ is c.new
  pub other : c.old ≡ c.new → ⊥

-- one place further
further : {i a b : ℕ} {t u : List ℕ} {c : Change} → Differs (suc i) t u c → Differs i (a ∷ t) (b ∷ u) c
further d = record { j = suc d.j; place = omega (arith, d.place); old = d.old; new = d.new; other = d.other }

-- A CHANGE THAT IS LISTED IS ONE.
pub listed_differs : (i : ℕ) (t u : List ℕ) (c : Change) → In c (changes_from i t u) → Differs i t u c
listed_differs i (a ∷ t) (b ∷ u) c p =
    by_test (eqb a b)
    (λ e. further (listed_differs (suc i) t u c (rw e at p)))
    (λ e.
    in_cons (rw e at p)
    (λ same. record { j = 0; place = rw same (omega arith); old = rw same; new = rw same; other = rw same (eqb-false a b e) })
    (λ q. further (listed_differs (suc i) t u c q)))
listed_differs i [] u c p = elim p [ ]
listed_differs i (a ∷ t) [] c p = elim p [ ]

-- AND EACH CHANGE IS LISTED.
pub differs_listed : (i : ℕ) (t u : List ℕ) (c : Change) → Differs i t u c → In c (changes_from i t u)
differs_listed i t u c d = go i t u d.j d.place d.old d.new
  where
    go : (i : ℕ) (t u : List ℕ) (j : ℕ) → c.place ≡ i + j → at t j ≡ is c.old → at u j ≡ is c.new → In c (changes_from i t u)
    go i [] u j p o n = missing o
    go i (a ∷ t) [] j p o n = missing n
    go i (a ∷ t) (b ∷ u) zero p o n =
        let old : a ≡ c.old = is_inj o in
        let new : b ≡ c.new = is_inj n in
        let place : i ≡ c.place = omega arith in
        rw (ne_eqb a b (λ e. d.other (sym old ∙ e ∙ new)), old, new, place) here
    go i (a ∷ t) (b ∷ u) (suc j) p o n =
        by_test (eqb a b)
        (λ e. rw e (go (suc i) t u j (omega arith) o n))
        (λ e. rw e (there (go (suc i) t u j (omega arith) o n)))

-- by rising place, from lo on
abbrev pub Rising : ℕ → List Change → Type 0
Rising lo [] = Unit {0}
Rising lo (c ∷ cs) = (lo ≤ c.place) × Rising (suc c.place) cs

-- from further down
rising_from : (lo : ℕ) (cs : List Change) → Rising (suc lo) cs → Rising lo cs
rising_from lo [] r = tt
rising_from lo (c ∷ cs) r = (omega (arith, r.0), r.1)

-- THEY RISE.
pub changes_rise : (i : ℕ) (t u : List ℕ) → Rising i (changes_from i t u)
changes_rise i [] u = tt
changes_rise i (a ∷ t) [] = tt
changes_rise i (a ∷ t) (b ∷ u) =
    by_test (eqb a b)
    (λ e. rw e (rising_from i (changes_from (suc i) t u) (changes_rise (suc i) t u)))
    (λ e. rw e (omega arith, changes_rise (suc i) t u))

-- the bytes of the list
pub changes_bytes : (cs : List Change) → length (each change_bytes cs) ≡ change_size * length cs
changes_bytes cs = length_each change_bytes change_size (λ c. refl) cs

-- ---- how many

-- places that are the same are not listed
pub changes_behind : (i : ℕ) (x a b : List ℕ) → changes_from i (x ++ a) (x ++ b) ≡ changes_from (i + length x) a b
changes_behind i [] a b = let same : i + 0 ≡ i = omega arith in rw same
changes_behind i (y ∷ x) a b =
    let same : i + suc (length x) ≡ suc i + length x = omega arith in
    rw (eq-eqb y y refl, same) (changes_behind (suc i) x a b)

-- no more changes than bytes
pub changes_few : (i : ℕ) (a b : List ℕ) → length (changes_from i a b) ≤ length a
changes_few i [] b = omega arith
changes_few i (x ∷ a) [] = omega arith
changes_few i (x ∷ a) (y ∷ b) =
    by_test (eqb x y)
    (λ e. rw e (omega (arith, changes_few (suc i) a b)))
    (λ e. rw e (omega (arith, changes_few (suc i) a b)))

-- those that a trailer makes are among the last sixteen bytes
pub changes_last : (t : List ℕ) (r : Trailer) → trailer_size ≤ length t
    → changes_from 0 t (with_trailer t r) ≡ changes_from (length t - trailer_size) (last trailer_size t) (trailer r)
changes_last t r l =
    let cut : t ≡ but trailer_size t ++ last trailer_size t = but_last trailer_size t in
    let long : 0 + length (but trailer_size t) ≡ length t - trailer_size = omega (arith, length-take (length t - trailer_size) t) in
    ap (λ v. changes_from 0 v (with_trailer t r)) cut ∙ changes_behind 0 (but trailer_size t) (last trailer_size t) (trailer r)
    ∙ ap (λ i. changes_from i (last trailer_size t) (trailer r)) long

-- "at most 16"
pub at_most_16 : (t : List ℕ) (r : Trailer) → trailer_size ≤ length t → length (changes_from 0 t (with_trailer t r)) ≤ trailer_size
at_most_16 t r l =
    omega (
      arith,
      ap length (changes_last t r l),
      changes_few (length t - trailer_size) (last trailer_size t) (trailer r),
      length-drop (length t - trailer_size) t,
    )

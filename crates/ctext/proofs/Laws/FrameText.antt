-- Around the blocks: locations, parameters, declarations and definitions in the text, by the bytes there.
use Prim.Native.Nat.{ℕ, zero, suc, ◌+◌, ◌^◌, ◌≤◌, ◌<◌}
use Rattle.std.proofs.Common.{arith, sym, ap, ap₂, subst, ◌∙◌}
use Rattle.std.specs.Prelude.{◌≡◌, List, [], ◌∷◌, ◌++◌, length, get_or}
use Rattle.std.proofs.Math.Path.{refl}
use Rattle.value.specs.Lists.{upto}
use Rattle.value.proofs.Laws.Lists.{Each}
use Rattle.format.specs.Syntax.{Proc, Plain}
use Rattle.format.specs.Encode.{each}
use Rattle.format.proofs.Laws.Stands.{Stands, first, front, back}
use Rattle.ctext.specs.Pieces.{say, digits, decimal}
use Rattle.ctext.specs.Text.{var, numbered, location, params, head, declaration}
use Rattle.ctext.proofs.Laws.Numbers.{Digit, Stops, stops_at}
use Rattle.ctext.proofs.Laws.ExprText.{shift, behind}
use Rattle.ctext.proofs.Laws.ArgText.{NumberText, take_number}
use Rattle.ctext.proofs.Laws.BlockText.{number_text_same}

-- ---- locations

-- locations from number k on, and what follows them
pub record LocationsText (x : List ℕ) (i k : ℕ) (ss : List ℕ) (j : ℕ) : Type 0 where
  pub stands : Stands x i (numbered location k ss) j
  pub follows : get_or x j 0 ≡ 99
  pub fits : Each (λ n. n < 2 ^ 16) ss
  pub few : k + length ss ≤ 2 ^ 16

-- one of them, and those after it
pub record LocationIn (x : List ℕ) (i k : ℕ) (ss : List ℕ) (j : ℕ) : Type 0 where
  pub size : ℕ
  pub rest : List ℕ
  pub is : ss ≡ size ∷ rest
  pub l : ℕ
  pub m : ℕ
  pub index : NumberText x (i + 9) k l
  pub cells : NumberText x (l + 1) size m
  pub after : LocationsText x (m + 3) (suc k) rest j

-- a byte that is no digit: below them or behind them
low : {c : ℕ} → c < 48 → Digit c → ⊥
low l d = omega (arith, l, d.least)

-- one that is behind them
high : {c : ℕ} → 58 ≤ c → Digit c → ⊥
high l d = omega (arith, l, d.most)

-- the first of some
location_parts : {x : List ℕ} {i k n : ℕ} {ss : List ℕ} {j : ℕ} → LocationsText x i k (n ∷ ss) j
    → (l : ℕ) × (m : ℕ) × NumberText x (i + 9) k l × NumberText x (l + 1) n m × LocationsText x (m + 3) (suc k) ss j
unfolding say
location_parts {x} {i} {k} {n} {ss} {j} h =
    let rest : List ℕ = numbered location (suc k) ss in
    let here : Stands x i (location k n) (i + length (location k n)) = front (location k n) rest h.stands in
    let index = take_number k (behind (say "z_value m") (decimal k ++ (say "[" ++ (decimal n ++ say "];\n"))) 9 refl here) (omega (arith, h.few))
    (high (omega arith))
    in
    let size = take_number n (behind (say "[") (decimal n ++ say "];\n") 1 refl index.1) h.fits.0 (high (omega arith)) in
    let after = shift (back (location k n) rest h.stands) size.1.ends in
    (_, _, index.0, size.0, record { stands = after; follows = h.follows; fits = h.fits.1; few = omega (arith, h.few) })

module _ {x : List ℕ} {i k : ℕ} where
  -- no more of them
  pub locations_end : {ss : List ℕ} {j : ℕ} → LocationsText x i k ss j → (get_or x i 0 ≡ 122 → ⊥) → (ss ≡ []) × (j ≡ i)
  unfolding say
  locations_end {ss = []} h other = (refl, omega (arith, h.stands.ends))
  locations_end {ss = n ∷ ss} h other = absurd (other (first h.stands))

  -- one more
  pub locations_next : {ss : List ℕ} {j : ℕ} → LocationsText x i k ss j → get_or x i 0 ≡ 122 → LocationIn x i k ss j
  locations_next {ss = []} {j} h q =
      let here : i ≡ j = omega (arith, h.stands.ends) in
      absurd (omega (arith, q, subst (λ i. get_or x i 0 ≡ 99) (sym here) h.follows))
  locations_next {ss = n ∷ ss} h q =
      let p = location_parts h in
      record { size = n; rest = ss; is = refl; l = p.0; m = p.1; index = p.2; cells = p.3; after = p.4 }

-- behind no locations
no_location : {x : List ℕ} {i k j : ℕ} → LocationsText x i k [] j → get_or x i 0 ≡ 122 → ⊥
no_location {x} {i} {j = j} h q =
    let here : i ≡ j = omega (arith, h.stands.ends) in
    omega (arith, q, subst (λ i. get_or x i 0 ≡ 99) (sym here) h.follows)

-- the sizes of the locations that stand there
pub locations_same : {x : List ℕ} {i k : ℕ} (ss us : List ℕ) {j l : ℕ} → LocationsText x i k ss j → LocationsText x i k us l → (ss ≡ us) × (j ≡ l)
locations_same [] us h g =
    let none = locations_end g (no_location h) in
    (sym none.0, omega (arith, h.stands.ends, none.1))
locations_same (n ∷ ss) [] h g =
    let none = locations_end h (no_location g) in
    (none.0, omega (arith, g.stands.ends, none.1))
locations_same {x} {i} {k} (n ∷ ss) (m ∷ us) {j} {l} h g =
    let p = location_parts h in
    let q = location_parts g in
    let index = number_text_same p.2 q.2 in
    let size = number_text_same p.3 (subst (λ l. NumberText x (l + 1) m q.1) (sym index.1) q.3) in
    let others = locations_same {i = p.1 + 3} ss us p.4 (subst (λ m. LocationsText x (m + 3) (suc k) us l) (sym size.1) q.4) in
    (ap₂ (◌∷◌) size.0 others.0, others.1)

-- ---- parameters

-- parameter y behind another one
abbrev pub another : ℕ → List ℕ
another y = say ", " ++ (say "z_value " ++ var y)

-- n parameters, and a parenthesis behind them
pub record ParamsText (x : List ℕ) (i n j : ℕ) : Type 0 where
  pub stands : Stands x i (params n) j
  pub close : get_or x j 0 ≡ 41
  pub few : n ≤ 2 ^ 8

-- n parameters from number a on, behind others
pub record MoreParams (x : List ℕ) (i a n j : ℕ) : Type 0 where
  pub stands : Stands x i (each another (upto a n)) j
  pub close : get_or x j 0 ≡ 41
  pub few : a + n ≤ 2 ^ 8

-- those behind the first
pub params_more : {x : List ℕ} {i n j : ℕ} → ParamsText x i (suc n) j → MoreParams x (i + 10) 1 n j
unfolding say digits
params_more {x} {i} {n} {j} h =
    record { stands = behind (say "z_value x0") (each another (upto 1 n)) 10 refl h.stands; close = h.close; few = omega (arith, h.few) }

-- no digit stands before more parameters
params_stop : {x : List ℕ} {i a : ℕ} (n : ℕ) {j : ℕ} → MoreParams x i a n j → Stops x i
unfolding say
params_stop {x} {i} zero {j} h =
    let here : i ≡ j = omega (arith, h.stands.ends) in
    subst (Stops x) (sym here) (stops_at 41 h.close (omega arith))
params_stop (suc n) h = stops_at 44 (first h.stands) (omega arith)

-- the next of some
pub more_next : {x : List ℕ} {i a n j : ℕ} → MoreParams x i a (suc n) j
    → NumberText x (i + 11) a (i + 11 + length (decimal a)) × MoreParams x (i + 11 + length (decimal a)) (suc a) n j
unfolding say
more_next {x} {i} {a} {n} {j} h =
    let rest : List ℕ = each another (upto (suc a) n) in
    let name = behind (say ", z_value x") (decimal a ++ rest) 11 refl h.stands in
    let after : MoreParams x (i + 11 + length (decimal a)) (suc a) n j =
    record { stands = back (decimal a) rest name; close = h.close; few = omega (arith, h.few) }
    in
    (record { stands = front (decimal a) rest name; fits = omega (arith, h.few); stops = params_stop n after }, after)

-- by the byte there
module _ {x : List ℕ} {i : ℕ} where
  -- (void)
  pub params_none : {n j : ℕ} → ParamsText x i n j → get_or x i 0 ≡ 118 → n ≡ 0
  unfolding say
  params_none {n = zero} h q = refl
  params_none {n = suc n} h q = absurd (omega (arith, q, first h.stands))

  -- (z_value
  pub params_some : {n j : ℕ} → ParamsText x i n j → (get_or x i 0 ≡ 118 → ⊥) → (m : ℕ) × (n ≡ suc m)
  unfolding say
  params_some {n = zero} h other = absurd (other (first h.stands))
  params_some {n = suc n} h other = (n, refl)

  -- no more of them
  pub more_params_none : {a n j : ℕ} → MoreParams x i a n j → (get_or x i 0 ≡ 44 → ⊥) → (n ≡ 0) × (j ≡ i)
  unfolding say
  more_params_none {n = zero} h other = (refl, omega (arith, h.stands.ends))
  more_params_none {n = suc n} h other = absurd (other (first h.stands))

  -- one more
  pub more_params_some : {a n j : ℕ} → MoreParams x i a n j → get_or x i 0 ≡ 44 → (m : ℕ) × (n ≡ suc m)
  more_params_some {n = zero} {j} h q =
      let here : i ≡ j = omega (arith, h.stands.ends) in
      absurd (omega (arith, q, subst (λ i. get_or x i 0 ≡ 41) (sym here) h.close))
  more_params_some {n = suc n} h q = (n, refl)

-- one number of parameters stands there, behind the first
more_params_same : {x : List ℕ} {i a : ℕ} (n m : ℕ) {j k : ℕ} → MoreParams x i a n j → MoreParams x i a m k → (n ≡ m) × (j ≡ k)
unfolding say
more_params_same zero m h g =
    let none = more_params_none g (λ q. omega (arith, (more_params_some h q).1)) in
    (sym none.0, omega (arith, h.stands.ends, none.1))
more_params_same (suc n) zero h g = absurd (omega (arith, (more_params_some g (first h.stands)).1))
more_params_same {i = i} {a = a} (suc n) (suc m) h g =
    let same = more_params_same {i = i + 11 + length (decimal a)} {a = suc a} n m (more_next h).1 (more_next g).1 in
    (ap suc same.0, same.1)

-- one number of parameters stands there
pub params_same : {x : List ℕ} {i : ℕ} (n m : ℕ) {j k : ℕ} → ParamsText x i n j → ParamsText x i m k → (n ≡ m) × (j ≡ k)
unfolding say
params_same zero zero h g = (refl, omega (arith, h.stands.ends, g.stands.ends))
params_same zero (suc m) h g = absurd (omega (arith, first h.stands, first g.stands))
params_same (suc n) zero h g = absurd (omega (arith, first h.stands, first g.stands))
params_same (suc n) (suc m) h g =
    let same = more_params_same n m (params_more h) (params_more g) in
    (ap suc same.0, same.1)

-- ---- heads and declarations

-- the head of procedure k, and what follows it
pub head_parts : {x : List ℕ} {i : ℕ} (k n : ℕ) (r : List ℕ) {j : ℕ} → Stands x i (head k n ++ r) j → k < 2 ^ 16 → n ≤ 2 ^ 8
    → (l : ℕ) × NumberText x (i + 6) k (i + 6 + length (decimal k)) × ParamsText x (i + 6 + length (decimal k) + 1) n l × Stands x (l + 1) r j
unfolding say
head_parts {x} {i} k n r {j} s f few =
    let name = take_number k (behind (say "void p") (decimal k ++ (say "(" ++ (params n ++ say ")"))) 6 refl (front (head k n) r s)) f (low (omega arith)) in
    let inner = behind (say "(") (params n ++ say ")") 1 refl name.1 in
    let close = back (params n) (say ")") inner in (
      _,
      name.0,
      record { stands = front (params n) (say ")") inner; close = first close; few = few },
      shift (back (head k n) r s) close.ends,
    )

-- declarations of procedures from number k on, and what follows them
pub record DeclarationsText (x : List ℕ) (i k : ℕ) (ps : List (Proc Plain)) (j : ℕ) : Type 0 where
  pub stands : Stands x i (numbered declaration k ps) j
  pub follows : get_or x j 0 ≡ 10
  pub fits : Each (λ p. p.params ≤ 2 ^ 8) ps
  pub few : k + length ps ≤ 2 ^ 16

-- the first of some
pub declaration_parts : {x : List ℕ} {i k : ℕ} {p : Proc Plain} {ps : List (Proc Plain)} {j : ℕ} → DeclarationsText x i k (p ∷ ps) j
    → (l : ℕ) × ParamsText x (i + 6 + length (decimal k) + 1) p.params l × DeclarationsText x (l + 3) (suc k) ps j
unfolding say
declaration_parts {x} {i} {k} {p} {ps} {j} h =
    let rest : List ℕ = numbered declaration (suc k) ps in
    let here = head_parts k p.params (say ";\n") (front (declaration k p) rest h.stands) (omega (arith, h.few)) h.fits.0 in
    let l : ℕ = here.0 in
    let next : i + length (declaration k p) ≡ l + 3 = here.3.ends ∙ omega arith in (
      l,
      here.2,
      record {
        stands = shift (back (declaration k p) rest h.stands) next;
        follows = h.follows;
        fits = h.fits.1;
        few = omega (arith, h.few);
      },
    )

-- they end at one place
pub declarations_same : {x : List ℕ} {i k : ℕ} (ps qs : List (Proc Plain)) {j l : ℕ} → DeclarationsText x i k ps j → DeclarationsText x i k qs l → j ≡ l
unfolding say
declarations_same [] [] h g = omega (arith, h.stands.ends, g.stands.ends)
declarations_same {x} {i} [] (q ∷ qs) {j} h g =
    let here : i ≡ j = omega (arith, h.stands.ends) in
    absurd (omega (arith, first g.stands, subst (λ i. get_or x i 0 ≡ 10) (sym here) h.follows))
declarations_same {x} {i} (p ∷ ps) [] {j} {l} h g =
    let here : i ≡ l = omega (arith, g.stands.ends) in
    absurd (omega (arith, first h.stands, subst (λ i. get_or x i 0 ≡ 10) (sym here) g.follows))
declarations_same {x} {i} {k} (p ∷ ps) (q ∷ qs) {j} {l} h g =
    let a = declaration_parts h in
    let b = declaration_parts g in
    let same = params_same p.params q.params a.1 b.1 in
    declarations_same {i = a.0 + 3} ps qs a.2 (subst (λ m. DeclarationsText x (m + 3) (suc k) qs l) (sym same.1) b.2)

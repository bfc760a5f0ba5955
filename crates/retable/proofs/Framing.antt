-- One law for each way through the parser of lines around the bodies.
use Prim.Native.Nat.{ℕ, suc, ◌+◌, ◌-◌, ◌^◌, ◌≤◌, ◌<◌}
use native.Mathlib.Omega.{arith}
use native.Mathlib.Nat.{add-zero}
use mathlib.Core.Path.{◌≡◌, refl, sym, ap, subst, ◌∙◌}
use mathlib.Core.List.{List, [], ◌∷◌, ◌++◌}
use lib.ListN.{length, get_or}
use Rattle.value.specs.Values.{bytes}
use Rattle.value.proofs.Laws.Lists.{Each}
use Rattle.format.specs.Syntax.{sequential}
use Rattle.format.specs.Encode.{each}
use Rattle.format.specs.Rules.{limits}
use Rattle.format.proofs.Laws.Stands.{Stands, front, back}
use Rattle.ctext.specs.Pieces.{say, decimal}
use Rattle.ctext.specs.Text.{numbered, area}
use Rattle.ctext.proofs.Laws.Numbers.{Digit}
use Rattle.ctext.proofs.Laws.ExprText.{behind, shift}
use Rattle.ctext.proofs.Laws.ArgText.{take_number}
use Rattle.ctext.proofs.Laws.FrameText.{LocationsText, LocationIn, locations_next, locations_end}
use Rattle.writer.proofs.Puts.{put_then, put_none}
use Rattle.retable.specs.Laws.Pieces.{Skips, ReadsNumber}
use Rattle.retable.specs.Laws.Exprs.{ParsesTwo}
use Rattle.retable.specs.Laws.Frames.{SkipsTwo, ParsesLocation, Sized, ParsesSizes, SkipsAreas}
use Rattle.retable.specs.declared.pieces.Numbered.{Numbered}
use Rattle.retable.specs.declared.exprs.Parsed.{Parsed}
use Rattle.retable.specs.declared.exprs.Listed.{Listed}
use Rattle.retable.proofs.Arguing.{hop, number_from, number_is, two_at_lem}

-- the first byte
at_once : (x : List ℕ) (i : ℕ) {k : ℕ} → k ≡ get_or x (i + 0) 0 → k ≡ get_or x i 0
at_once x i e = rw add-zero at e

-- bytes that are no digits
low : {c : ℕ} → c < 48 → Digit c → ⊥
low l d = omega (arith, l, d.least)

high : {c : ℕ} → 58 ≤ c → Digit c → ⊥
high l d = omega (arith, l, d.most)

-- ---- a line with two numbers

pub two_numbers : {x : List ℕ} {i a b c s t r : ℕ} {m n : Numbered} → Skips x i a s → ReadsNumber x s m → Skips x m.next b t → ReadsNumber x t n
    → Skips x n.next c r → SkipsTwo x i a b c r
two_numbers S M T N R = record {
  to = λ k l m n A B fits.
      let one = number_is M A (hop S refl (number_from A)) in
      let two = number_is N B (hop T one.1 (number_from B)) in
      hop R two.1 fits;
}

-- ---- locations

-- one
pub location_way : {x : List ℕ} {i : ℕ} {o o' : List ℕ} {p s t u : ℕ} {n : Numbered} {r : Parsed} → Skips x i 9 s → ReadsNumber x s n → Skips x n.next 1 t
    → ParsesTwo x t o p o' r → Skips x r.next 3 u → ParsesLocation x i o p o' (record { next = u; to = r.to })
location_way S N T R U = record {
  gives = λ k n l m A B fits.
      let index = number_is N A (hop S refl (number_from A)) in
      let size = two_at_lem R B (hop T index.1 (number_from B)) in
      record { puts = size.puts; ends = hop U size.ends fits };
}

-- what is written from j on, behind location k, is what is written from i on, behind h
pub record SizesFrom (x : List ℕ) (i h : ℕ) (o : List ℕ) (p j k : ℕ) (o' : List ℕ) (q : ℕ) : Type 0 where
  pub back : {o'' : List ℕ} {r : Listed ℕ} → ParsesSizes x j k o' q o'' r → ParsesSizes x i h o p o'' r
  pub kept : length o' ≡ length o

-- at the start
pub sizes_start : {x : List ℕ} {i h : ℕ} {o : List ℕ} {p : ℕ} → SizesFrom x i h o p i h o p
sizes_start = record { back = λ S. S; kept = refl }

-- where locations end is in the text
ends_within : {x : List ℕ} {i k : ℕ} {ss : List ℕ} {j : ℕ} → LocationsText x i k ss j → i ≤ length x
ends_within h = omega (arith, h.stands.ends, h.stands.fits)

module _ {x : List ℕ} {i h : ℕ} {o : List ℕ} {p j k : ℕ} {o₁ : List ℕ} {q : ℕ} (F : SizesFrom x i h o p j k o₁ q) where
  -- a location more
  pub sizes_next : {o₂ : List ℕ} {b : ℕ} {r : Parsed} → b ≡ get_or x (j + 0) 0 → b ≡ 122 → ParsesLocation x j o₁ q o₂ r → length o₂ ≡ length o₁
      → SizesFrom x i h o p r.next (k + 1) o₂ r.to
  sizes_next {o₂} {b} {r} e f L keep = record { back = λ S. F.back (record { gives = λ ss n a l. go S ss n a l }); kept = keep ∙ F.kept }
    where
      go : {o'' : List ℕ} {a : Listed ℕ} → ParsesSizes x r.next (k + 1) o₂ r.to o'' a → (ss : List ℕ) (n : ℕ) → LocationsText x j k ss n
          → k + length ss ≤ (limits sequential).places → Sized k ss n o₁ q o'' a
      go S ss n t l =
          let w : LocationIn x j k ss n = locations_next t (sym (at_once x j e) ∙ f) in
          let one = L.gives k w.size w.l w.m w.index w.cells (ends_within w.after) in
          let long : length ss ≡ suc (length w.rest) = ap length w.is in
          let next : suc k ≡ k + 1 = omega arith in
          let after : LocationsText x r.next (k + 1) w.rest n =
          subst (λ i. LocationsText x i (k + 1) w.rest n) (sym one.ends) (subst (λ k. LocationsText x (w.m + 3) k w.rest n) next w.after)
          in
          let rest = S.gives w.rest n after (omega arith) in
          rw w.is
          (record { count = omega (arith, rest.count); puts = put_then (bytes 2 w.size) (each (bytes 2) w.rest) one.puts rest.puts; ends = rest.ends })

  -- no other
  pub sizes_end : {b : ℕ} → b ≡ get_or x (j + 0) 0 → (b ≡ 122 → ⊥) → ParsesSizes x i h o p o₁ (record { count = k; next = j; to = q })
  sizes_end {b} e f = F.back (record { gives = go })
    where
      go : (ss : List ℕ) (n : ℕ) → LocationsText x j k ss n → k + length ss ≤ (limits sequential).places
          → Sized k ss n o₁ q o₁ (record { count = k; next = j; to = q })
      go ss n t l =
          let none = locations_end t (λ g. f (at_once x j e ∙ g)) in
          rw none.0 (record { count = omega arith; puts = put_none; ends = sym none.1 })

  -- as many as there may be
  sizes_many : (limits sequential).places ≤ k → ParsesSizes x i h o p o₁ (record { count = k; next = j; to = q })
  sizes_many f = F.back (record { gives = go })
    where
      go : (ss : List ℕ) (n : ℕ) → LocationsText x j k ss n → k + length ss ≤ (limits sequential).places
          → Sized k ss n o₁ q o₁ (record { count = k; next = j; to = q })
      go [] n t l = record { count = omega arith; puts = put_none; ends = omega (arith, t.stands.ends) }
      go (s ∷ ss) n t l = absurd (omega arith)

-- which is 512
pub sizes_full : {x : List ℕ} {i h : ℕ} {o : List ℕ} {p j : ℕ} (k : ℕ) {o₁ : List ℕ} {q : ℕ} → SizesFrom x i h o p j k o₁ q → 512 ≤ k → k ≤ 512
    → ParsesSizes x i h o p o₁ (record { count = 512; next = j; to = q })
sizes_full {x} {i} {h} {o} {p} {j} k {o₁} {q} F f g =
    subst (λ n. ParsesSizes x i h o p o₁ (record { count = n; next = j; to = q })) (omega arith) (sizes_many F f)

-- ---- areas

-- behind j, with m areas left, as behind i with n
pub record AreasFrom (x : List ℕ) (i n j m : ℕ) : Type 0 where
  pub back : {r : ℕ} → SkipsAreas x j m r → SkipsAreas x i n r

-- at the start
pub areas_start : {x : List ℕ} {i n : ℕ} → AreasFrom x i n i (n - 0)
areas_start {n = n} = let all : n - 0 ≡ n = omega arith in rw all (record { back = λ S. S })

-- one more
areas_by : {x : List ℕ} {i n j m t : ℕ} → AreasFrom x i n j m → 0 < m → SkipsTwo x j 5 2 4 t → AreasFrom x i n t (m - 1)
unfolding say
areas_by {x} {i} {n} {j} {m} {t} F some T = record { back = λ {r} S. F.back (record { to = go r S }) }
  where
    go : (r : ℕ) → SkipsAreas x t (m - 1) r → (k : ℕ) (ss : List ℕ) (e : ℕ) → Stands x j (numbered area k ss) e → Each (λ n. n < 2 ^ 16) ss
        → k + length ss ≤ 2 ^ 16
        → length ss ≡ m → r ≡ e
    go r S k [] e s f l g = absurd (omega arith)
    go r S k (a ∷ ss) e s f l g =
        let rest : List ℕ = numbered area (suc k) ss in
        let here = front (area k a) rest s in
        let index = take_number k (behind (say "  { m") (decimal k ++ (say ", " ++ (decimal a ++ say " },\n"))) 5 refl here) (omega arith) (low (omega arith)) in
        let size = take_number a (behind (say ", ") (decimal a ++ say " },\n") 2 refl index.1) f.0 (low (omega arith)) in
        let after = back (area k a) rest s in
        let place = T.to k a _ _ index.0 size.0 (omega (arith, size.1.ends, here.fits)) in
        S.to (suc k) ss e (shift after (size.1.ends ∙ sym place)) f.1 (omega arith) (omega arith)

-- behind c of them
pub areas_next : {x : List ℕ} {i n j t : ℕ} (c : ℕ) → AreasFrom x i n j (n - c) → c < n → SkipsTwo x j 5 2 4 t → AreasFrom x i n t (n - (c + 1))
areas_next {n = n} c F some T = let less : n - c - 1 ≡ n - (c + 1) = omega arith in rw less at (areas_by F (omega arith) T)

-- none is left
areas_over : {x : List ℕ} {i n j m : ℕ} → AreasFrom x i n j m → m ≤ 0 → SkipsAreas x i n j
areas_over {x} {i} {n} {j} {m} F none = F.back (record { to = go })
  where
    go : (k : ℕ) (ss : List ℕ) (e : ℕ) → Stands x j (numbered area k ss) e → Each (λ n. n < 2 ^ 16) ss → k + length ss ≤ 2 ^ 16 → length ss ≡ m → j ≡ e
    go k [] e s f l g = omega (arith, s.ends)
    go k (a ∷ ss) e s f l g = absurd (omega arith)

-- behind all of them
pub areas_end : {x : List ℕ} {i n j : ℕ} (c : ℕ) → AreasFrom x i n j (n - c) → n ≤ c → SkipsAreas x i n j
areas_end c F none = areas_over F (omega arith)

-- one law for each way
pub ruleset place_laws = (two_numbers, location_way)

pub ruleset sizes_ways = (sizes_start, sizes_next, sizes_end, sizes_full)

pub ruleset areas_ways = (areas_start, areas_next, areas_end)

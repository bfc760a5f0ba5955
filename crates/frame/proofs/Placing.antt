-- One law for each way to set locations and areas.
use Prim.Native.Nat.{ℕ, suc, ◌+◌, ◌*◌, ◌≤◌, ◌<◌}
use native.Mathlib.Omega.{arith}
use native.Mathlib.Numerals.{add-one}
use mathlib.Core.Path.{◌≡◌, refl, ◌∙◌}
use mathlib.Core.List.{List, [], ◌++◌}
use lib.ListN.{length, get_or, drop, drop_of_length-le}
use lib.Seq.{drop-cons}
use Rattle.value.proofs.Laws.Lists.{at_get_d}
use Rattle.basics.specs.Places.{number_at}
use Rattle.ctext.specs.Pieces.{say, decimal}
use Rattle.ctext.specs.Prelude.{prelude}
use Rattle.ctext.specs.Text.{numbered, location, area}
use Rattle.typeset.specs.declared.pieces.Page.{Page}
use Rattle.typeset.specs.Page.{Put, Onto}
use Rattle.typeset.proofs.Setting.{put_then, put_same, onto_start, onto_next, onto_end}
use Rattle.lines.proofs.Plainly.{lit}
use Rattle.frame.specs.declared.heads.Line.{Line}
use Rattle.frame.specs.Frames.{sized, SizesAt, ShowsSizes, SizesFrom, ShowsPlaces}
use Rattle.frame.proofs.Heading.{five}

-- a line with a number and a size
pub sized_put : {p q r s : Page} (w : Line) (k n : ℕ) → Put p (w.before.now ++ decimal k) q → Put q (w.between.now ++ decimal n) r → Put r w.behind.now s
    → Put p (sized w k n) s
sized_put w k n A B C =
    put_same (five w.before.now (decimal k) w.between.now (decimal n) w.behind.now)
    (put_then (w.before.now ++ decimal k) _ A (put_then (w.between.now ++ decimal n) _ B C))

module _ (item : ℕ → ℕ → List ℕ) {t : List ℕ} {i n : ℕ} {p : Page} where
  -- at the start
  pub sizes_start : SizesFrom item t i n p 0 p
  sizes_start = record { onto = λ ss h. onto_start; kept = refl }

  -- one more
  pub sizes_next : {q r : Page} {k w : ℕ} → SizesFrom item t i n p k q → k < n → w ≡ number_at 2 t (i + 2 * k) → Put q (item k w) r
      → SizesFrom item t i n p (k + 1) r
  sizes_next {q} {r} {k} {w} F l e P = record { onto = onto; kept = P.kept ∙ F.kept }
    where
      onto : (ss : List ℕ) → SizesAt t i n ss → Onto p (numbered item 0 ss) r (numbered item (k + 1) (drop (k + 1) ss))
      onto ss h =
          let here : k < length ss = omega (arith, h.count) in
          let size : w ≡ get_or ss k 0 = e ∙ h.size k (at_get_d ss k 0 here) in
          rw add-one
          (onto_next (item k (get_or ss k 0)) (numbered item (suc k) (drop (suc k) ss)) (rw (drop-cons ss k 0 here) at (F.onto ss h)) (rw size at P))

  -- no more
  pub sizes_end : {q : Page} {k : ℕ} → SizesFrom item t i n p k q → n ≤ k → ShowsSizes item t i n p q
  sizes_end {k = k} F l = record {
    shown = λ ss h.
        let none : drop k ss ≡ [] = drop_of_length-le ss {i = k} (omega (arith, h.count)) in
        onto_end (rw none at (F.onto ss h));
    kept = F.kept;
  }

-- prelude, locations and areas
pub places_put : {t : List ℕ} {i n : ℕ} {p q r s u v : Page} → Put p prelude q → ShowsSizes location t i n q r
    → Put r (lit "const z_area z_areas[] = {\n") s → ShowsSizes area t i n s u → Put u (lit "  { 0, 0 }\n};\n\n") v
    → ShowsPlaces t i n p v
unfolding say
places_put A B C D E = record {
  shown = λ ss h.
      put_then prelude _ A
      (put_then (numbered location 0 ss) _ (B.shown ss h) (put_then (say "const z_area z_areas[] = {\n") _ C (put_then (numbered area 0 ss) _ (D.shown ss h) E)));
  kept = E.kept ∙ D.kept ∙ C.kept ∙ B.kept ∙ A.kept;
}

-- one law for each way
pub ruleset place_ways = (sized_put, sizes_start, sizes_next, sizes_end, places_put)

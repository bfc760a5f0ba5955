-- One law for each way through rule 4: the bodies, one after the other.
use Prim.Native.Nat.{ℕ, suc, ◌+◌, ◌*◌, ◌-◌, ◌≤◌, ◌<◌}
use native.Mathlib.Omega.{arith}
use mathlib.Core.Path.{◌≡◌, refl, sym, ap, ap₂, ◌∙◌}
use mathlib.Core.Logic.{◌≢◌}
use mathlib.Core.List.{List, [], ◌∷◌}
use mathlib.Core.Bool.{Bool, true, false}
use lib.ListN.{length, take, drop, length-drop}
use lib.Seq.{drop-drop}
use lib.Dec.{eqb}
use borrow.Author.Tests.{eq-eqb, ne_eqb, eqb-true, eqb-false}
use Rattle.value.specs.Maybe.{Maybe, is, nothing, ◌>>=◌, both}
use Rattle.value.specs.Values.{unbytes}
use Rattle.basics.specs.Places.{number_at}
use Rattle.value.proofs.Laws.Tests.{by_test}
use Rattle.value.proofs.Laws.Bytes.{Bytes}
use Rattle.basics.specs.Laws.Places as Numbers
use Rattle.format.specs.Syntax.{Kind, Block, Plain}
use Rattle.format.specs.Encode.{Head, record_size}
use Rattle.format.specs.Encode as E
use Rattle.format.specs.Decode.{Read, times, finish, block, max_nesting}
use Rattle.format.specs.Rules.{allowed, placed}
use Rattle.parse.specs.Ends.{end_of, check, BodyReads}
use Rattle.shape.specs.Shapes.{heads_at, placed_right, bodies_right, BodiesTest}
use Rattle.format.proofs.Laws.Places.{rows, head_at}
use Rattle.format.proofs.Laws.Procs.{body_in}
use Rattle.format.proofs.Laws.Rests.{block_leaves}
use Rattle.format.proofs.Laws.Positions.{block_found}
use Rattle.parse.proofs.Chains.{passed_at, passed_none, end_inside}
use Rattle.std.specs.Prelude.{Option, Some, None}

-- ---- bodies one after the other

-- one more before those that were read
before : Block Plain → Maybe (List (Block Plain)) → Maybe (List (Block Plain))
before b nothing = nothing
before b (is bs) = is (b ∷ bs)

-- the first body, and then the others
finish_more : (b : Block Plain) (m : Read (List (Block Plain))) → finish (m >>= λ (bs, q). is (b ∷ bs, q)) ≡ before b (finish m)
unfolding before
finish_more b nothing = refl
finish_more b (is (bs, [])) = refl
finish_more b (is (bs, q ∷ qs)) = refl

module _ (k : Kind) (m p : ℕ) (h : Head) (hs : List Head) where
  -- a body that does not begin where its record says
  not_placed : (bs : Maybe (List (Block Plain))) → eqb h.at p ≡ false → placed_right k m p (h ∷ hs) bs ≡ false
  not_placed nothing e = refl
  not_placed (is []) e = refl
  not_placed (is (b ∷ bs)) e = rw e

  module _ (b : Block Plain) where
    -- one that is not allowed
    not_allowed : (bs : Maybe (List (Block Plain))) → allowed (body_in k m) b ≡ false → placed_right k m p (h ∷ hs) (before b bs) ≡ false
    unfolding before
    not_allowed nothing e = refl
    not_allowed (is bs) e = rw e (neither (placed p (h ∷ hs) (b ∷ bs)))
      where
        neither : (x : Bool) → both x false ≡ false
        neither true = refl
        neither false = refl

    -- one that is right: the others decide
    right_one : (bs : Maybe (List (Block Plain))) → eqb h.at p ≡ true → allowed (body_in k m) b ≡ true
        → placed_right k m p (h ∷ hs) (before b bs) ≡ placed_right k (suc m) (p + length (E.block b)) hs bs
    unfolding before
    right_one nothing e f = refl
    right_one (is bs) e f = rw (e, f)

-- no more bodies
no_more : (k : Kind) (m p : ℕ) (bytes : List ℕ) → bodies_right k m p [] bytes ≡ eqb (length bytes) 0
no_more k m p [] = refl
no_more k m p (b ∷ bytes) = sym (ne_eqb (suc (length bytes)) 0 (λ e. omega arith))

-- ---- the loop

-- of the body of procedure m: its record, from `at` on, and then the others
opened : (t : List ℕ) (at m : ℕ) → 0 < m → heads_at t at m ≡ head_at (drop at t) ∷ heads_at t (at + record_size) (m - 1)
opened t at m some =
    let one : m ≡ suc (m - 1) = omega arith in
    ap (λ m. rows head_at record_size m (drop at t)) one ∙ rw (drop-drop record_size at t)

-- where the record says that it begins
offset_at : (t : List ℕ) (at : ℕ) → (head_at (drop at t)).at ≡ number_at 4 t (at + 2)
offset_at t at = ap (λ l. unbytes (take 4 l)) (drop-drop 2 at t) ∙ sym (Numbers.number_at_lem 4 t (at + 2))

-- no bytes are left exactly at the end
at_end : (n p : ℕ) {r : ℕ} → r ≡ n - p → p ≤ n → eqb r 0 ≡ eqb p n
at_end n p {r} e l =
    by_test (eqb p n)
    (λ t. let same : p ≡ n = eqb-true p n t in rw t (eq-eqb r 0 (omega arith)))
    (λ t. let other : p ≢ n = eqb-false p n t in rw t (ne_eqb r 0 (λ z. other (omega arith))))

-- a body ends as many bytes behind its beginning as it has
next_at : (code : List ℕ) (p l : ℕ) (b : Block Plain) → Bytes code → l ≤ length code → block max_nesting (drop p code) ≡ is (b, drop l code)
    → p + length (E.block b) ≡ l
next_at code p l b h inside found =
    let body = block_found code p max_nesting h found in
    omega (arith, ap length body.2, length-drop l code, length-drop body.0 code, body.1.stands.ends, body.1.stands.fits)

-- q bodies stand up to p, and m are left; the record of the next stands in t from `at` on
pub record BodiesLeft (k : Kind) (code t : List ℕ) (i n p at q m : ℕ) : Type 0 where
  pub same : Bytes code → bodies_right k 0 0 (heads_at t i n) code ≡ bodies_right k q p (heads_at t at m) (drop p code)
  pub inside : p ≤ length code
  pub room : i + record_size * n ≤ length t
  pub place : at ≡ i + record_size * q
  pub count : q + m ≡ n

-- of n
abbrev pub BodiesFrom : Kind → List ℕ → List ℕ → ℕ → ℕ → ℕ → ℕ → Type 0
BodiesFrom k code t i n p q = BodiesLeft k code t i n p (i + record_size * q) q (n - q)

module _ (k : Kind) (code t : List ℕ) (i n : ℕ) where
  -- all are left
  pub bodies_start : i + record_size * n ≤ length t → BodiesLeft k code t i n 0 (i + record_size * 0) 0 (n - 0)
  bodies_start l =
      let first : i + record_size * 0 ≡ i = omega arith in
      let all : n - 0 ≡ n = omega arith in
      rw (first, all) (record { same = λ h. refl; inside = omega arith; room = l; place = omega arith; count = omega arith })

  module _ {p at q m : ℕ} (F : BodiesLeft k code t i n p at q m) where
    -- none is left
    pub bodies_end : n ≤ q → BodiesTest k code t i n (eqb p (length code))
    bodies_end z = record {
      same = λ h.
          let none : m ≡ 0 = omega (arith, F.count) in
          sym (F.same h
          ∙ ap (λ m. bodies_right k q p (heads_at t at m) (drop p code)) none
          ∙ no_more k q p (drop p code)
          ∙ at_end (length code) p (length-drop p code) F.inside);
    }

    module _ (next : q < n) {o : ℕ} (off : o ≡ number_at 4 t (at + 2)) where
      -- the records behind the next
      abbrev behind : List Head
      behind = heads_at t (at + record_size) (m - 1)

      -- the bytes of the bodies that are left
      abbrev read : Maybe (List (Block Plain))
      read = finish (times (block max_nesting) (suc (length behind)) (drop p code))

      -- of which the first is read
      left : Bytes code → bodies_right k 0 0 (heads_at t i n) code ≡ placed_right k q p (head_at (drop at t) ∷ behind) read
      left h = F.same h ∙ rw (opened t at m (omega (arith, F.count)))

      -- the next does not begin there
      pub bodies_moved : (o ≡ p → ⊥) → BodiesTest k code t i n false
      bodies_moved n = record {
        same = λ h.
            sym (left h ∙ not_placed k q p (head_at (drop at t)) behind read (rw (offset_at t at, ← off) (ne_eqb o p n)));
      }

      module _ (here : o ≡ p) {f : Option ℕ} (R : BodyReads k code p q f) where
        -- the bytes of the others
        abbrev others : List ℕ → Read (List (Block Plain))
        others r = times (block max_nesting) (length behind) r

        -- the first body is b, and r are left
        more : (b : Block Plain) (r : List ℕ) → block max_nesting (drop p code) ≡ is (b, r) → read ≡ before b (finish (others r))
        more b r found = rw found (finish_more b (others r))

        -- it is none
        pub bodies_cut : f ≡ None → BodiesTest k code t i n false
        bodies_cut e = record {
          same = λ h.
              sym (left h
              ∙ passed_none (allowed (body_in k q)) code (block max_nesting (drop p code)) (sym e ∙ R.reads.same)
              (λ missed. rw missed)
              (λ b r found bad. rw (more b r found) (not_allowed k q p (head_at (drop at t)) behind b (finish (others r)) bad)));
        }

        -- it ends at l
        pub bodies_next : {l : ℕ} → f ≡ Some l → BodiesLeft k code t i n l (i + record_size * (q + 1)) (q + 1) (n - (q + 1))
        bodies_next {l} e =
            let behind_it : i + record_size * (q + 1) ≡ at + record_size = omega (arith, F.place) in
            let fewer : n - (q + 1) ≡ m - 1 = omega (arith, F.count) in
            let ends : Some l ≡ end_of code (block max_nesting (drop p code) >>= check (allowed (body_in k q))) = sym e ∙ R.reads.same in
            let first = passed_at (allowed (body_in k q)) code p (block max_nesting (drop p code)) (block_leaves max_nesting (drop p code)) ends in
            let inside : l ≤ length code = end_inside code (block max_nesting (drop p code) >>= check (allowed (body_in k q))) ends in
            rw (behind_it, fewer)
            (record {
              same = λ h.
                  let begun : eqb (head_at (drop at t)).at p ≡ true = rw (offset_at t at, ← off) (eq-eqb o p here) in
                  let far : p + length (E.block first.0) ≡ l = next_at code p l first.0 h inside first.1 in
                  let next : suc q ≡ q + 1 = omega arith in
                  left h
                  ∙ ap (placed_right k q p (head_at (drop at t) ∷ behind)) (more first.0 (drop l code) first.1)
                  ∙ right_one k q p (head_at (drop at t)) behind first.0 (finish (others (drop l code))) begun first.2
                  ∙ ap₂ (λ q p. placed_right k q p behind (finish (others (drop l code)))) next far;
              inside = inside;
              room = F.room;
              place = omega (arith, F.place);
              count = omega (arith, F.count);
            })

-- one law for each way
pub ruleset bodies_ways = (bodies_start, bodies_end, bodies_moved, bodies_cut, bodies_next)

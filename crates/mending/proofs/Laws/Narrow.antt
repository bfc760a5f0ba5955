-- The acceptable trailers are found by reading the bodies once: with P of them read, M + T follows from the length.
use Rattle.std.specs.Prelude.{ℕ, zero, suc, ◌+◌, ◌*◌, ◌-◌, ◌/◌, ◌%◌, ◌≤◌, ◌<◌, ◌≡◌, refl, List, [], ◌++◌, length, drop, leb, eqb}
use Rattle.std.proofs.Common.{arith, sym, ap, ap₂, subst, ◌∙◌, length-drop, length-take}
use Rattle.value.specs.Maybe.{Maybe, is, nothing, ◌>>=◌, when, pick, both}
use Rattle.value.specs.Lists.{upto}
use Rattle.value.proofs.Laws.Maybes.{is_inj, missing}
use Rattle.value.proofs.Laws.Tests.{by_test, Decides, never, le?, eq?, ◌and◌}
use Rattle.value.proofs.Laws.Bytes.{Bytes}
use Rattle.format.specs.Syntax.{Block, Program, Plain, Kind}
use Rattle.format.specs.Encode.{Trailer, trailer_size, record_size}
use Rattle.format.specs.Encode as E
use Rattle.format.specs.Decode.{but, max_nesting}
use Rattle.format.specs.Decode as D
use Rattle.format.specs.Rules.{limits, allowed}
use Rattle.format.proofs.Laws.Sound.{Sound}
use Rattle.format.proofs.Laws.Blocks.{block_exact}
use Rattle.format.proofs.Laws.Positions.{read_at}
use Rattle.format.proofs.Laws.Stands.{Stands}
use Rattle.format.proofs.Laws.Procs.{body_in, proc_sound}
use Rattle.format.proofs.Laws.Passes.{small}
use Rattle.format.proofs.Laws.TablePlaces.{body_at, records_at}
use Rattle.mending.specs.Mending.{range, gather, trailer_for, with_trailer, accepts, kept, acceptable}
use Rattle.mending.proofs.Laws.Places.{proc_at, proc_at_lem, first_body, body_in_lem, body_fits, records_behind}
use Rattle.mending.proofs.Laws.Choices.{Chosen, accepted_chosen, chosen_length}
use Rattle.mending.proofs.Laws.Gather.{upto_none, range_none, range_one, range_same}

-- what is made of a place, if there is one
abbrev pub further : (ℕ → List Trailer) → Maybe ℕ → List Trailer
further next nothing = []
further next (is j) = next j

module _ (k : Kind) (t : List ℕ) where
  -- the bytes before the trailer
  abbrev pub ahead : List ℕ
  ahead = but trailer_size t

  -- where the body of procedure m ends that begins at i
  abbrev pub body_end : ℕ → ℕ → Maybe ℕ
  body_end m i = D.block max_nesting (drop i ahead) >>= λ (b, r). when (allowed (body_in k m) b) (is (length ahead - length r))

  -- the choice with P procedures, `numbers` locations and threads, and T threads
  abbrev pub tried : ℕ → ℕ → ℕ → List Trailer
  tried P numbers T =
      pick (both (leb T numbers) (leb (numbers - T) (limits k).places)) (kept k t (trailer_for k (length t) P (numbers - T) T)) []

  -- the choices with P procedures, whose records begin at i
  abbrev pub tried_at : ℕ → ℕ → List Trailer
  tried_at P i =
      let behind : ℕ = i + record_size * P in
      pick (both (leb behind (length ahead)) (eqb ((length ahead - behind) % 2) 0))
      (gather (range (limits k).fewest (limits k).threads) (tried P ((length ahead - behind) / 2)))
      []

  -- from procedure P on, n procedures more, the next body beginning at i
  abbrev pub narrowed : ℕ → ℕ → ℕ → List Trailer
  narrowed zero P i = []
  narrowed (suc n) P i = further (λ j. tried_at (suc P) j ++ narrowed n (suc P) j) (body_end P i)

-- the acceptable trailers with P procedures
abbrev pub rows : Kind → List ℕ → ℕ → List Trailer
rows k t P =
    gather (range (limits k).fewest (limits k).threads) λ T.
    gather (range 0 (limits k).places) λ M.
    kept k t (trailer_for k (length t) P M T)

module _ (k : Kind) (t : List ℕ) (h : Bytes t) (long : trailer_size ≤ length t) where
  -- a choice that has no program is not kept
  pub not_kept : (P M T : ℕ) → P < 65536 → M < 65536 → T < 65536 → (Chosen k t P M T → ⊥) → kept k t (trailer_for k (length t) P M T) ≡ []
  not_kept P M T p m n empty =
      by_test (accepts k (with_trailer t (trailer_for k (length t) P M T)))
      (λ e. absurd (empty (accepted_chosen k t h long P M T p m n e)))
      (λ e. rw e)

-- in every program with these bytes, P bodies end at i
pub record Reached (k : Kind) (t : List ℕ) (P i : ℕ) : Type 0 where
  pub at : (q : Program Plain) → Sound k q → but trailer_size t ≡ E.front q → P ≤ length q.procs → i ≡ body_at q.procs P

module _ {k : Kind} {t : List ℕ} {P i : ℕ} (R : Reached k t P i) where
  -- the next body ends where it is found to
  next_end : (q : Program Plain) → Sound k q → but trailer_size t ≡ E.front q → P < length q.procs → body_end k t P i ≡ is (body_at q.procs (suc P))
  next_end q sound e l =
      let u : List ℕ = but trailer_size t in
      let b : Block Plain = (proc_at q.procs P).body in
      let s = subst (λ v. Stands v (body_at q.procs P) (E.block b) (body_at q.procs (suc P))) (sym e) (body_in_lem q sound P l) in
      let found : D.block max_nesting (drop (body_at q.procs P) u) ≡ is (b, drop (body_at q.procs (suc P)) u) =
      read_at (block_exact max_nesting) b s (body_fits q sound P l)
      in
      let ends : length u - length (drop (body_at q.procs (suc P)) u) ≡ body_at q.procs (suc P) =
      omega (arith, s.fits, length-drop (body_at q.procs (suc P)) u)
      in
      rw (R.at q sound e (omega arith), found, (proc_sound sound P (proc_at q.procs P) (proc_at_lem q.procs P l)).allowed) (ap is ends)

  -- it reaches that far
  pub reached_next : {j : ℕ} → body_end k t P i ≡ is j → Reached k t (suc P) j
  reached_next e = record { at = λ q sound f l. is_inj (sym e ∙ next_end q sound f l) }

  -- or there is none
  none_next : body_end k t P i ≡ nothing → (q : Program Plain) → Sound k q → but trailer_size t ≡ E.front q → P < length q.procs → ⊥
  none_next e q sound f l = missing (sym e ∙ next_end q sound f l)

  module _ (h : Bytes t) (long : trailer_size ≤ length t) (some : P ≤ (limits k).procs) where
    -- the length says what follows the bodies
    rest_is : {M T : ℕ} → Chosen k t P M T → length (but trailer_size t) ≡ i + record_size * P + 2 * (M + T)
    rest_is {M} {T} c =
        let records : records_at c.program ≡ i =
        records_behind c.program c.sound ∙ ap (body_at c.program.procs) c.procs
        ∙ sym (R.at c.program c.sound c.front (omega (arith, c.procs)))
        in
        omega (arith, chosen_length k t h long P M T c, length-take (length t - trailer_size) t)

    -- one row of choices: M follows from T
    row_tried : (T : ℕ) → T ≤ (limits k).threads → (numbers : ℕ) → length (but trailer_size t) ≡ i + record_size * P + 2 * numbers
        → gather (range 0 (limits k).places) (λ M. kept k t (trailer_for k (length t) P M T)) ≡ tried k t P numbers T
    row_tried T l numbers e =
        let row : ℕ → List Trailer = λ M. kept k t (trailer_for k (length t) P M T) in
        let fits : Decides (both (leb T numbers) (leb (numbers - T) (limits k).places)) ((T ≤ numbers) × (numbers - T ≤ (limits k).places)) =
        le? T numbers and le? (numbers - T) (limits k).places
        in
        by_test (both (leb T numbers) (leb (numbers - T) (limits k).places))
        (λ fit.
        let room : (T ≤ numbers) × (numbers - T ≤ (limits k).places) = fits.so fit in
        rw fit
        (range_one row 0 (limits k).places (numbers - T) (omega arith) room.1 λ M a b other.
        not_kept k t h long P M T (omega (arith, small k)) (omega (arith, small k)) (omega (arith, small k)) λ c. other (omega (arith, rest_is c, room))))
        (λ unfit.
        rw unfit
        (range_none row 0 (limits k).places λ M a b.
        not_kept k t h long P M T (omega (arith, small k)) (omega (arith, small k)) (omega (arith, small k)) λ c.
        never (sym unfit ∙ fits.of (omega (arith, rest_is c), omega (arith, rest_is c)))))

    -- all rows
    rows_tried : rows k t P ≡ tried_at k t P i
    rows_tried =
        let behind : ℕ = i + record_size * P in
        let n : ℕ = length (but trailer_size t) in
        let fits : Decides (both (leb behind n) (eqb ((n - behind) % 2) 0)) ((behind ≤ n) × ((n - behind) % 2 ≡ 0)) =
        le? behind n and eq? ((n - behind) % 2) 0
        in
        by_test (both (leb behind n) (eqb ((n - behind) % 2) 0))
        (λ fit.
        let room : (behind ≤ n) × ((n - behind) % 2 ≡ 0) = fits.so fit in
        rw fit
        (range_same _ (tried k t P ((n - behind) / 2)) (limits k).fewest (limits k).threads λ T a b.
        row_tried T b ((n - behind) / 2) (omega (arith, room))))
        (λ unfit.
        rw unfit
        (range_none _ (limits k).fewest (limits k).threads λ T a b.
        range_none _ 0 (limits k).places λ M c d.
        not_kept k t h long P M T (omega (arith, small k)) (omega (arith, small k)) (omega (arith, small k)) λ x.
        never (sym unfit ∙ fits.of (omega (arith, rest_is x), omega (arith, rest_is x)))))

module _ (k : Kind) (t : List ℕ) (h : Bytes t) (long : trailer_size ≤ length t) where
  -- from procedure P on, for n procedures more
  narrowed_rows : (n P i : ℕ) → P + n ≤ (limits k).procs → Reached k t P i → gather (upto (suc P) n) (rows k t) ≡ narrowed k t n P i
  narrowed_rows zero P i l R = refl
  narrowed_rows (suc n) P i l R = by (body_end k t P i) refl (λ j S. narrowed_rows n (suc P) j (omega arith) S)
    where
      by : (m : Maybe ℕ) → body_end k t P i ≡ m
          → ((j : ℕ) → Reached k t (suc P) j → gather (upto (suc (suc P)) n) (rows k t) ≡ narrowed k t n (suc P) j)
          → gather (upto (suc P) (suc n)) (rows k t) ≡ narrowed k t (suc n) P i
      by nothing e next =
          upto_none (rows k t) (suc P) (suc n) (λ Q a b.
          range_none _ (limits k).fewest (limits k).threads λ T c d.
          range_none _ 0 (limits k).places λ M f g.
          not_kept k t h long Q M T (omega (arith, small k)) (omega (arith, small k)) (omega (arith, small k)) λ x.
          none_next R e x.program x.sound x.front (omega (arith, x.procs)))
          ∙ sym (ap (further (λ j. tried_at k t (suc P) j ++ narrowed k t n (suc P) j)) e)
      by (is j) e next =
          let S : Reached k t (suc P) j = reached_next R e in
          ap₂ ◌++◌ (rows_tried S h long (omega arith)) (next j S)
          ∙ sym (ap (further (λ j. tried_at k t (suc P) j ++ narrowed k t n (suc P) j)) e)

  -- THE ACCEPTABLE TRAILERS ARE THOSE THAT ARE FOUND.
  pub acceptable_narrowed : acceptable k t ≡ narrowed k t (limits k).procs 0 0
  acceptable_narrowed =
      let all : suc (limits k).procs - 1 ≡ (limits k).procs = omega arith in
      ap (λ n. gather (upto 1 n) (rows k t)) all
      ∙ narrowed_rows (limits k).procs 0 0 (omega arith) (record { at = λ q sound e l. sym (first_body q.procs) })

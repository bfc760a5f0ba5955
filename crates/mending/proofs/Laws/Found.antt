-- What is in the list of acceptable trailers: each choice that has a program, and nothing else. In the sequential kind that is at most one.
use Rattle.std.specs.Prelude.{ℕ, ◌+◌, ◌≤◌, ◌≡◌, List, [], ◌∷◌, true, length}
use Rattle.std.proofs.Common.{arith, sym, ap, ◌∙◌}
use Rattle.value.proofs.Laws.Tests.{by_test}
use Rattle.value.proofs.Laws.Bytes.{Bytes}
use Rattle.value.proofs.Laws.Lists.{In, here}
use Rattle.format.specs.Syntax.{Kind, sequential}
use Rattle.format.specs.Encode.{Trailer, trailer_size}
use Rattle.format.specs.Rules.{Limits, limits}
use Rattle.format.proofs.Laws.Passes.{small}
use Rattle.format.proofs.Laws.TablePlaces.{body_at, records_at}
use Rattle.mending.specs.Mending.{range, gather, trailer_for, with_trailer, accepts, kept, acceptable}
use Rattle.mending.proofs.Laws.Places.{records_behind, bodies_same}
use Rattle.mending.proofs.Laws.Gather.{in_none, in_single, range_none, range_one, from_range, into_range}
use Rattle.mending.proofs.Laws.Choices.{Chosen, accepted_chosen, chosen_accepted, chosen_length, same_count}
use Rattle.mending.proofs.Laws.Narrow.{rows, not_kept}

-- what is kept makes an acceptable table
kept_accepts : (k : Kind) (t : List ℕ) (r s : Trailer) → In r (kept k t s) → (r ≡ s) × (accepts k (with_trailer t s) ≡ true)
kept_accepts k t r s p =
    by_test (accepts k (with_trailer t s))
    (λ e. (in_single (rw e at p), e))
    (λ e. absurd (in_none (rw e) p))

module _ (k : Kind) (t : List ℕ) where
  -- a trailer of the list
  pub record Listed (r : Trailer) : Type 0 where
    pub P : ℕ
    pub M : ℕ
    pub T : ℕ
    pub same : r ≡ trailer_for k (length t) P M T
    pub few : (1 ≤ P) × (P ≤ (limits k).procs) × (M ≤ (limits k).places) × ((limits k).fewest ≤ T) × (T ≤ (limits k).threads)
    pub accepted : accepts k (with_trailer t r) ≡ true

  -- what is in the list
  pub listed : (r : Trailer) → In r (acceptable k t) → Listed r
  listed r p =
      let a = from_range (rows k t) 1 (limits k).procs p in
      let b = from_range _ (limits k).fewest (limits k).threads a.3 in
      let c = from_range _ 0 (limits k).places b.3 in
      let d : (r ≡ trailer_for k (length t) a.0 c.0 b.0) × (accepts k (with_trailer t (trailer_for k (length t) a.0 c.0 b.0)) ≡ true) =
      kept_accepts k t r (trailer_for k (length t) a.0 c.0 b.0) c.3
      in
      record {
        P = a.0;
        M = c.0;
        T = b.0;
        same = d.0;
        few = (a.1, a.2, c.2, b.1, b.2);
        accepted = rw d.0 d.1;
      }

  module _ (h : Bytes t) (long : trailer_size ≤ length t) where
    -- each choice that has a program
    pub chosen_in : {P M T : ℕ} → Chosen k t P M T → In (trailer_for k (length t) P M T) (acceptable k t)
    chosen_in {P} {M} {T} c =
        let r : Trailer = trailer_for k (length t) P M T in
        let same : kept k t r ≡ r ∷ [] = rw (chosen_accepted k t h long P M T c) in
        let s = c.sound in
        into_range (rows k t) 1 (limits k).procs P (omega (arith, s.procs.low, c.procs)) (omega (arith, s.procs.high, c.procs))
        (into_range _ (limits k).fewest (limits k).threads T (omega (arith, s.threads.low, c.threads)) (omega (arith, s.threads.high, c.threads))
        (into_range _ 0 (limits k).places M (omega arith) (omega (arith, s.places, c.places)) (rw same here)))

    -- and nothing else
    pub in_chosen : (r : Trailer) (l : Listed r) → Chosen k t l.P l.M l.T
    in_chosen r l =
        accepted_chosen k t h long l.P l.M l.T (omega (arith, l.few, small k)) (omega (arith, l.few, small k)) (omega (arith, l.few, small k))
        (ap (λ s. accepts k (with_trailer t s)) (sym l.same) ∙ l.accepted)

    -- M + T follows from P
    same_numbers : {P M T N S : ℕ} → Chosen k t P M T → Chosen k t P N S → M + T ≡ N + S
    same_numbers {P} {M} {T} {N} {S} c d =
        let fronts = sym c.front ∙ d.front in
        let records : records_at c.program ≡ records_at d.program =
        records_behind c.program c.sound ∙ ap (body_at c.program.procs) c.procs
        ∙ bodies_same c.program d.program c.sound d.sound fronts P (omega (arith, c.procs)) (omega (arith, d.procs))
        ∙ ap (body_at d.program.procs) (sym d.procs) ∙ sym (records_behind d.program d.sound)
        in
        omega (arith, chosen_length k t h long P M T c, chosen_length k t h long P N S d)

-- A SEQUENTIAL TABLE HAS AT MOST ONE.
pub sequential_one : (t : List ℕ) → Bytes t → trailer_size ≤ length t → (r : Trailer) → In r (acceptable sequential t) → acceptable sequential t ≡ r ∷ []
sequential_one t h long r p =
    let k : Kind = sequential in
    let l : Listed k t r = listed k t r p in
    let c : Chosen k t l.P l.M l.T = in_chosen k t h long r l in
    let m : Limits = limits k in
    let alone : ℕ → List Trailer = λ M. kept k t (trailer_for k (length t) l.P M l.T) in
    let row : ℕ → List Trailer = λ T. gather (range 0 m.places) λ M. kept k t (trailer_for k (length t) l.P M T) in
    range_one (rows k t) 1 m.procs l.P l.few.0 l.few.1
    (λ Q a b other.
    range_none _ m.fewest m.threads λ T d e.
    range_none _ 0 m.places λ M f g.
    not_kept k t h long Q M T (omega arith) (omega arith) (omega arith) λ x. other (same_count x c))
    ∙ range_one row m.fewest m.threads l.T l.few.3 l.few.4 (λ T a b other. absurd (other (omega (arith, l.few))))
    ∙ range_one alone 0 m.places l.M (omega arith) l.few.2
    (λ M a b other.
    not_kept k t h long l.P M l.T (omega (arith, l.few)) (omega arith) (omega (arith, l.few)) λ x.
    other (omega (arith, same_numbers k t h long x c)))
    ∙ rw (chosen_accepted k t h long l.P l.M l.T c) (ap (◌∷ []) (sym l.same))

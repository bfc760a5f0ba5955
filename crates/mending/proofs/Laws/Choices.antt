-- What it means that a choice of the three counts is acceptable: there is an accepted program with these counts and the bytes before the trailer.
use Rattle.std.specs.Prelude.{ℕ, ◌+◌, ◌-◌, ◌≤◌, ◌<◌, ◌≡◌, refl, List, true, length, get_or}
use Rattle.std.proofs.Common.{arith, sym, ap, ◌∙◌, length-take}
use Rattle.value.proofs.Laws.Tests.{never}
use Rattle.value.proofs.Laws.Bytes.{Bytes}
use Rattle.value.proofs.Laws.Lists.{each_append}
use Rattle.format.specs.Syntax.{Program, Plain, Kind, concurrent, sequential}
use Rattle.format.specs.Encode.{Trailer, trailer, trailer_of, trailer_size, kind_mark, distance, table}
use Rattle.format.specs.Encode as E
use Rattle.format.specs.Decode.{but, last}
use Rattle.format.specs.Rules.{Verdict, refused, accepted, verdict}
use Rattle.format.proofs.Laws.Sound.{Sound}
use Rattle.format.proofs.Laws.Sections.{but_append, last_append, bytes_but}
use Rattle.format.proofs.Laws.Passes.{small}
use Rattle.format.proofs.Laws.Accepted.{accepted_exactly, accepted_of}
use Rattle.format.proofs.Laws.TablePlaces.{records_at}
use Rattle.mending.specs.Mending.{trailer_for, with_trailer, passes, accepts}
use Rattle.mending.proofs.Laws.Places.{front_length}
use Rattle.mending.proofs.Laws.Fronts.{same_procs}

-- an accepted program with these counts, whose table has these bytes before the trailer
pub record Chosen (k : Kind) (t : List ℕ) (P M T : ℕ) : Type 0 where
  pub program : Program Plain
  pub sound : Sound k program
  pub front : but trailer_size t ≡ E.front program
  pub procs : length program.procs ≡ P
  pub places : length program.sizes ≡ M
  pub threads : length program.mains ≡ T

-- a verdict that passes
passed : (v : Verdict) → passes v ≡ true → (p : Program Plain) × (v ≡ accepted p)
passed (refused n) e = absurd (never e)
passed (accepted p) e = (p, refl)

-- the kind is a byte
mark_byte : (k : Kind) → kind_mark k < 256
mark_byte concurrent = omega arith
mark_byte sequential = omega arith

-- a table with another trailer is bytes
pub bytes_with : (k : Kind) (t : List ℕ) (n P M T : ℕ) → Bytes t → Bytes (with_trailer t (trailer_for k n P M T))
bytes_with k t n P M T h =
    each_append (λ b. b < 256) (but trailer_size t) (trailer (trailer_for k n P M T)) (bytes_but trailer_size t h) (mark_byte k, (omega arith, omega arith))

-- trailers with the same bytes have the same counts
counts_same : (r s : Trailer) → trailer r ≡ trailer s → r.procs < 65536 → r.places < 65536 → r.threads < 65536
    → s.procs < 65536 → s.places < 65536 → s.threads < 65536
    → (r.procs ≡ s.procs) × (r.places ≡ s.places) × (r.threads ≡ s.threads)
counts_same r s e a b c x y z =
    let byte : (i : ℕ) → get_or (trailer r) i 0 ≡ get_or (trailer s) i 0 = λ i. ap (λ l. get_or l i 0) e in
    (omega (arith, byte 2, byte 3), omega (arith, byte 4, byte 5), omega (arith, byte 6, byte 7))

module _ (k : Kind) (t : List ℕ) (h : Bytes t) (long : trailer_size ≤ length t) (P M T : ℕ) where
  -- the table with that trailer
  abbrev with : List ℕ
  with = with_trailer t (trailer_for k (length t) P M T)

  -- a program whose table it is has these counts
  of_table : P < 65536 → M < 65536 → T < 65536 → (q : Program Plain) → with ≡ table k q → Sound k q → Chosen k t P M T
  of_table p m n q e sound =
      let r : Trailer = trailer_for k (length t) P M T in
      let fronts : but trailer_size t ≡ E.front q =
      sym (but_append (but trailer_size t) (trailer r) trailer_size refl) ∙ ap (but trailer_size) e
      ∙ but_append (E.front q) (trailer (trailer_of k q)) trailer_size refl
      in
      let trailers : trailer r ≡ trailer (trailer_of k q) =
      sym (last_append (but trailer_size t) (trailer r) trailer_size refl) ∙ ap (last trailer_size) e
      ∙ last_append (E.front q) (trailer (trailer_of k q)) trailer_size refl
      in
      let same = counts_same r (trailer_of k q) trailers p m n (omega (arith, sound.procs.high, small k)) (omega (arith, sound.places, small k))
      (omega (arith, sound.threads.high, small k))
      in
      record { program = q; sound = sound; front = fronts; procs = sym same.0; places = sym same.1; threads = sym same.2 }

  -- an acceptable choice has its program
  pub accepted_chosen : P < 65536 → M < 65536 → T < 65536 → accepts k with ≡ true → Chosen k t P M T
  accepted_chosen p m n e =
      let v : (q : Program Plain) × (verdict k with ≡ accepted q) = passed (verdict k with) e in
      let known = (accepted_exactly k with (bytes_with k t (length t) P M T h) v.0).0 v.1 in
      of_table p m n v.0 known.0 known.1

  -- what is before the trailer is as long as its program says
  pub chosen_length : (c : Chosen k t P M T) → length t ≡ records_at c.program + distance P M T + trailer_size
  chosen_length c =
      omega (
        arith,
        ap length c.front,
        length-take (length t - trailer_size) t,
        front_length c.program c.sound,
        c.procs,
        c.places,
        c.threads,
      )

  -- and a choice that has a program is acceptable
  pub chosen_accepted : Chosen k t P M T → accepts k with ≡ true
  chosen_accepted c =
      let q : Program Plain = c.program in
      let counts : trailer_for k (length t) P M T ≡ trailer_for k (length t) (length q.procs) (length q.sizes) (length q.mains) =
      rw (c.procs, c.places, c.threads)
      in
      let long : length t ≡ length (E.front q) + trailer_size = omega (arith, ap length c.front, length-take (length t - trailer_size) t) in
      let same : with ≡ table k q = ap (with_trailer t) counts ∙ rw (c.front, long) in
      ap passes (ap (verdict k) same ∙ accepted_of k q c.sound)

-- P IS UNIQUE.
pub same_count : {k : Kind} {t : List ℕ} {P M T Q N S : ℕ} → Chosen k t P M T → Chosen k t Q N S → P ≡ Q
same_count {k} c d =
    sym c.procs ∙ same_procs k c.program d.program c.sound d.sound (sym c.front ∙ d.front) ∙ d.procs

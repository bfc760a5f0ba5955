-- One law for each way through rules 1 to 4 together.
use Prim.Native.Nat.{ℕ, ◌+◌, ◌*◌, ◌-◌, ◌≤◌, ◌<◌}
use native.Mathlib.Omega.{arith}
use mathlib.Core.Path.{◌≡◌, refl, sym, ap, subst, ◌∙◌}
use mathlib.Core.List.{List}
use mathlib.Core.Bool.{Bool, true, false}
use lib.ListN.{length, take, drop}
use lib.Seq.{length-take-le, take-take, drop-drop}
use Rattle.value.specs.Maybe.{Maybe, is, nothing, ◌>>=◌, when, both}
use Rattle.value.specs.Lists.{sum}
use Rattle.value.proofs.Laws.Maybes.{is_inj}
use Rattle.value.proofs.Laws.Tests.{never}
use Rattle.value.proofs.Laws.Bytes.{bytes_take}
use Rattle.format.specs.Syntax.{Kind, Block, Program, Plain}
use Rattle.format.specs.Encode.{Middle, middle_of, front, record_size, trailer_size, distance}
use Rattle.format.specs.Encode as E
use Rattle.format.specs.Decode.{finish, times, but, last, max_nesting}
use Rattle.format.specs.Decode as D
use Rattle.format.specs.Rules.{placed, all_allowed, bind, program, right_records, all_named, few_labels, no_cycle, set_first}
use Rattle.format.specs.Rules.{Verdict, refused, require, demand, verdict}
use Rattle.shape.specs.Shapes.{trailer_of, HeaderFor, HeaderIs, numbers_at, placed_right, Closed, RecordsTest, BodiesTest}
use Rattle.shape.specs.Shapes.{CellsAre, FormIs, ShapedAs}
use Rattle.format.proofs.Laws.Formed.{RightTrailer, Formed, judged}
use Rattle.format.proofs.Laws.Places.{middle_at, middle_there}
use Rattle.format.proofs.Laws.Passes.{trailer_read, middle_read, formed_trailer, formed_records, formed_judged}
use Rattle.format.proofs.Laws.Refusals.{formed_if}
use Rattle.format.proofs.Laws.TablePlaces.{trailer_at}
use Rattle.shape.specs.declared.header.Trailer.{Trailer}
use Rattle.basics.specs.declared.refusals.Refusal.{Refusal}
use Rattle.basics.specs.declared.refusals.Refusal.TheVariants as F
use Rattle.std.specs.Prelude.{Result, Ok, Err}

-- ---- rule 4, on what was read

module _ (k : Kind) (m : Middle) where
  -- the program of bodies that were read
  abbrev made : Maybe (List (Block Plain)) → Maybe (Program Plain)
  made bs = bs >>= λ bs.
      when (both (placed 0 m.heads bs) (all_allowed k 0 bs)) (is (record { procs = bind m.heads bs; sizes = m.sizes; mains = m.mains }))

  -- there is none, where they are wrong
  made_none : (bs : Maybe (List (Block Plain))) → placed_right k 0 0 m.heads bs ≡ false → made bs ≡ nothing
  made_none nothing e = refl
  made_none (is bs) e = rw e

  -- and one, where they are right
  made_some : (bs : Maybe (List (Block Plain))) → placed_right k 0 0 m.heads bs ≡ true → (p : Program Plain) × (made bs ≡ is p)
  made_some nothing e = absurd (never e)
  made_some (is bs) e = (record { procs = bind m.heads bs; sizes = m.sizes; mains = m.mains }, rw e)

-- what rules 5 to 8 refuse is refused by a number above 4
judged_late : (k : Kind) (p : Program Plain) (n : ℕ) → judged k p ≡ refused n → 4 < n
judged_late k p n e =
    required 5 (all_named p) e (omega arith) λ e.
    required 6 (few_labels k p) e (omega arith) λ e.
    required 7 (no_cycle p) e (omega arith) λ e.
    required 8 (set_first p) e (omega arith) λ e.
    absurd (let z : ◌≡◌ {A = ℕ} 0 1 = cc in omega arith)
  where
    number : {a b : ℕ} → refused a ≡ refused b → a ≡ b
    number e = cc

    required : (m : ℕ) (b : Bool) {v : Verdict} → require m b v ≡ refused n → 4 < m → (v ≡ refused n → 4 < n) → 4 < n
    required m true e l next = next e
    required m false e l next = rw (← number e) l

-- ---- the ways

module _ {k : Kind} {t : List ℕ} {r : Trailer} (closed : Closed k t r) where
  -- the bytes before the trailer, and where the records begin
  abbrev body : List ℕ
  body = take (length t - trailer_size) t

  -- where the records begin
  abbrev at : ℕ
  at = length t - trailer_size - r.distance

  -- the records, sizes and mains
  abbrev m : Middle
  m = middle_at r.procedures r.locations r.threads (drop at body)

  -- without the trailer
  long : length body ≡ length t - trailer_size
  long = length-take-le (length t - trailer_size) t (omega arith)

  -- the middle is there
  middle_is : finish (D.middle r.procedures r.locations r.threads (last r.distance (but trailer_size t))) ≡ is m
  middle_is =
      let there = middle_there t r.procedures r.locations r.threads (omega (arith, closed.back, closed.room)) in
      let P : ℕ = r.procedures in
      let M : ℕ = r.locations in
      let T : ℕ = r.threads in
      subst (λ d. finish (D.middle P M T (last d (but trailer_size t))) ≡ is (middle_at P M T (last d (but trailer_size t)))) (sym closed.back) there
      ∙ ap (λ n. is (middle_at P M T (drop (n - r.distance) body))) long

  -- and the bytes before it
  code_is : but r.distance (but trailer_size t) ≡ take at t
  code_is = ap (λ n. take (n - r.distance) body) long ∙ take-take at (length t - trailer_size) t (omega arith)

  -- what rules 1 and 2 leave of the verdict
  after_2 : verdict k t ≡ require 3 (right_records k m) (demand 4 (program k (take at t) m) (judged k))
  after_2 = rw (closed.read, closed.trailer, closed.counts, middle_is, code_is)

  -- the counts are those of the program that t is formed of
  shaped_as : (p : Program Plain) → Formed k t p → {n : ℕ} → CellsAre body (at + record_size * r.procedures) r.locations n
      → ShapedAs k t (record { procedures = r.procedures; locations = r.locations; threads = r.threads; records = at; cells = n }) p
  shaped_as p formed C =
      let end : RightTrailer k t (front p) (E.trailer_of k p) = formed_trailer k t p formed in
      let same : trailer_of r ≡ E.trailer_of k p = is_inj (sym closed.read ∙ trailer_read k t end) in
      let procs : r.procedures ≡ length p.procs = ap (λ z. z.procs) same in
      let places : r.locations ≡ length p.sizes = ap (λ z. z.places) same in
      let threads : r.threads ≡ length p.mains = ap (λ z. z.threads) same in
      let read : finish (D.middle r.procedures r.locations r.threads (last r.distance (but trailer_size t))) ≡ is (middle_of p)
      = subst (λ z. finish (D.middle z.procs z.places z.threads (last z.back (but trailer_size t))) ≡ is (middle_of p)) (sym same)
      (middle_read k t end (formed_records k t p formed)) in
      let sizes : m.sizes ≡ p.sizes = ap (λ m. m.sizes) (is_inj (sym middle_is ∙ read)) in
      let far : at + r.procedures * record_size ≡ at + record_size * r.procedures = omega arith in
      let placed : numbers_at body (at + record_size * r.procedures) r.locations ≡ m.sizes
      = rw (drop-drop (r.procedures * record_size) at body, far) in
      record {
        formed = formed;
        verdict = formed_judged k t formed;
        procedures = procs;
        locations = places;
        threads = threads;
        records = omega (arith, trailer_at k p formed.same, closed.back);
        cells = C.same ∙ ap sum (placed ∙ sizes);
      }

  -- rule 3 does not let it through
  pub shape_wrong : {b : Bool} → RecordsTest k body at (trailer_of r) b → b ≡ false → FormIs k t (Err F.Records)
  shape_wrong R e = record { gives = λ h. after_2 ∙ rw (← R.same, e) }

  module _ {b : Bool} (R : RecordsTest k body at (trailer_of r) b) (right : b ≡ true) {c : Bool}
      (B : BodiesTest k (take at t) body at r.procedures c) where
    -- rule 4 does not
    pub shape_bodies : c ≡ false → FormIs k t (Err F.Bodies)
    shape_bodies e = record {
      gives = λ h.
          let wrong = sym (B.same (bytes_take at t h)) ∙ e in
          let none : program k (take at t) m ≡ nothing = made_none k m (finish (times (D.block max_nesting) (length m.heads) (take at t))) wrong in
          after_2 ∙ rw (← R.same, right, none);
    }

    -- both do
    pub shape_right : {n : ℕ} → c ≡ true → CellsAre body (at + record_size * r.procedures) r.locations n
        → FormIs k t (Ok (record { procedures = r.procedures; locations = r.locations; threads = r.threads; records = at; cells = n }))
    shape_right e C = record {
      gives = λ h.
          let some = made_some k m (finish (times (D.block max_nesting) (length m.heads) (take at t))) (sym (B.same (bytes_take at t h)) ∙ e) in
          let left : verdict k t ≡ judged k some.0 = after_2 ∙ rw (← R.same, right, some.1) in
          let found = formed_if k t h (λ n q. judged_late k some.0 n (sym left ∙ q)) in
          (found.0, shaped_as found.0 found.1 C);
    }

  -- the sections stand before the trailer
  pub room_records : at + distance r.procedures r.locations r.threads ≤ length body
  room_records = rw long (omega (arith, closed.back, closed.room))

  -- the records
  pub room_bodies : at + record_size * r.procedures ≤ length body
  room_bodies = omega (arith, room_records)

  -- the sizes
  pub room_sizes : at + record_size * r.procedures + 2 * r.locations ≤ length body
  room_sizes = omega (arith, room_records)

  -- the parts that are cut out are as long as they are
  pub long_body : length t - trailer_size ≡ length body
  long_body = sym long

  -- and the code
  pub long_code : at ≡ length (take at t)
  long_code = sym (length-take-le at t (omega arith))

-- one law for each way
pub ruleset shape_ways = (shape_wrong, shape_bodies, shape_right, room_records, room_bodies, room_sizes, long_body, long_code)

-- ---- the trailer first

-- refused by rule 1 or 2
pub form_refused : (k : Kind) (t : List ℕ) {h : Result Trailer Refusal} {e : Refusal} → HeaderIs k t h → h ≡ Err e → FormIs k t (Err e)
form_refused k t H e = record { gives = λ bytes. subst (HeaderFor k t) e H.gives bytes }

-- let through by both
pub form_closed : (k : Kind) (t : List ℕ) {h : Result Trailer Refusal} {r : Trailer} → HeaderIs k t h → h ≡ Ok r → Closed k t r
form_closed k t H e = subst (HeaderFor k t) e H.gives

pub ruleset form_ways = (form_refused, form_closed)

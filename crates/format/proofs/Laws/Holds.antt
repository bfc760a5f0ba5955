-- A verdict tells which rules hold of the table: those below the number that is answered, or all of them.
use Rattle.std.specs.Prelude.{ℕ, suc, ◌+◌, ◌-◌, ◌≤◌, ◌≡◌, refl, List, ◌++◌, Bool, true, false, length}
use Rattle.std.proofs.Common.{arith, sym, ◌∙◌, ap, length-append}
use Rattle.value.specs.Maybe.{Maybe}
use Rattle.value.proofs.Laws.Tests.{Decides, itself, ◌and◌}
use Rattle.value.specs.Lists.{sum}
use Rattle.value.proofs.Laws.Lists.{Each, each_so}
use Rattle.format.specs.Syntax.{Block, Program, Plain, Kind}
use Rattle.format.specs.Encode.{each, Middle, Trailer, heads, bodies_of, middle_of, front, trailer_of, block, kind_mark, distance, trailer_size}
use Rattle.format.specs.Encode as E
use Rattle.format.specs.Encode.{form_mark}
use Rattle.format.specs.Decode.{but, last, max_nesting}
use Rattle.format.specs.Rules.{limits, starts, placed, bind, program, right_records, Verdict, accepted, refused, demand, require, verdict}
use Rattle.format.specs.Rules.{max_size}
use Rattle.value.proofs.Laws.Bytes.{Bytes}
use Rattle.format.proofs.Laws.Ranges.{body_right}
use Rattle.format.proofs.Laws.Reading.{If, so, none, chain, tested}
use Rattle.format.proofs.Laws.Names.{AllNames, all_names?}
use Rattle.format.proofs.Laws.Fits.{BlockFits}
use Rattle.format.proofs.Laws.Blocks.{bodies_exact}
use Rattle.format.proofs.Laws.Sections.{All, finish_only, MiddleFits, middle_exact, TrailerFits, trailer_exact, but_last, bytes_but, bytes_last}
use Rattle.format.proofs.Laws.Calls.{no_cycle?}
use Rattle.format.proofs.Laws.Permits.{AllPermitted, all_permitted?}
use Rattle.format.proofs.Laws.SetFirst.{SetFirst, set_first?}
use Rattle.format.proofs.Laws.Sound.{Within, FewLabels, NoCycle}
use Rattle.format.proofs.Laws.Formed.{RightTrailer, RightCounts, HeadRight, Begun, RightRecords, Formed}
use Rattle.format.proofs.Laws.Formed.{Upto, upto0, upto1, upto2, upto3, upto4, upto5, upto6, upto7}
use Rattle.format.proofs.Laws.Heads.{heads_bind, bodies_bind, length_heads}
use Rattle.format.proofs.Laws.Judged.{labels?, trailer?, counts?, records?, procedures?}

-- the bodies and the records are those of p, and its bodies are right
record Made (k : Kind) (code : List ℕ) (m : Middle) (p : Program Plain) : Type 0 where
  bodies : code ≡ each block (bodies_of p.procs)
  middle : m ≡ middle_of p
  fit : Each (BlockFits max_nesting) (bodies_of p.procs)
  allowed : AllPermitted k 0 (bodies_of p.procs)

-- what is read as the program of these bodies and records is made of them
program_only : (k : Kind) (code : List ℕ) (m : Middle) → Bytes code → If (Made k code m) (program k code m)
program_only k code m h =
    chain _ (finish_only (bodies_exact (length m.heads)) code h) λ bs read.
    tested _ (itself (placed 0 m.heads bs) and all_permitted? k 0 bs) λ right.
    let same : bodies_of (bind m.heads bs) ≡ bs = bodies_bind m.heads bs read.fits.0 in
    so (made bs same read.same (heads_bind 0 m.heads bs right.0) read.fits.1 right.1)
  where
    of : List (Block Plain) → Program Plain
    of bs = record { procs = bind m.heads bs; sizes = m.sizes; mains = m.mains }

    made : (bs : List (Block Plain)) → bodies_of (bind m.heads bs) ≡ bs → code ≡ each block bs → heads 0 (bind m.heads bs) ≡ m.heads
        → Each (BlockFits max_nesting) bs → AllPermitted k 0 bs → Made k code m (of bs)
    made bs same bytes heads fit allowed = record { bodies = rw same bytes; middle = rw heads; fit = rw same fit; allowed = rw same allowed }

-- two parts, joined
joined : {c a b x y : List ℕ} → c ≡ a ++ b → a ≡ x → b ≡ y → c ≡ x ++ y
joined e f g = cc

-- the trailer of a table that p's sections make
trailer_is : (k : Kind) (p : Program Plain) (t : List ℕ) (r : Trailer) → MiddleFits r.procs r.places r.threads (middle_of p)
    → r.kind ≡ kind_mark k → r.mark ≡ form_mark → r.back ≡ distance r.procs r.places r.threads → r.whole ≡ length t
    → t ≡ front p ++ E.trailer r
    → r ≡ trailer_of k p
trailer_is k p t r fits kind mark back whole same =
    let procs : r.procs ≡ length p.procs = sym fits.heads.0 ∙ length_heads 0 p.procs in
    let places : r.places ≡ length p.sizes = sym fits.sizes.0 in
    let threads : r.threads ≡ length p.mains = sym fits.mains.0 in
    let far : r.back ≡ distance (length p.procs) (length p.sizes) (length p.mains) = omega arith in
    let long : r.whole ≡ length (front p) + trailer_size = whole ∙ ap length same ∙ length-append (front p) (E.trailer r) in
    λ i. record { kind = kind i; mark = mark i; procs = procs i; places = places i; threads = threads i; back = far i; whole = long i }

-- ---- the sections that were read

-- 1 holds
closed_by : (k : Kind) (t : List ℕ) (r : Trailer) → All E.trailer TrailerFits (last trailer_size t) r → r.kind ≡ kind_mark k → r.mark ≡ form_mark
    → r.back ≡ distance r.procs r.places r.threads → r.whole ≡ length t → r.back ≤ length t - trailer_size
    → RightTrailer k t (but trailer_size t) r
closed_by k t r read kind mark back whole room = record {
  same = but_last trailer_size t ∙ ap (but trailer_size t ++◌) read.same;
  fits = read.fits;
  kind = kind;
  mark = mark;
  back = back;
  whole = whole;
  room = room;
}

-- 3 holds
records_by : (k : Kind) (r : Trailer) (rest : List ℕ) (m : Middle)
    → All E.middle (MiddleFits r.procs r.places r.threads) (last r.back rest) m
    → Each (HeadRight (limits k).locals) m.heads × (Each (Within 1 max_size) m.sizes ×
    ((sum m.sizes ≤ (limits k).cells) × Each (Begun m.heads) (starts k m.mains)))
    → RightRecords k r rest (but r.back rest) m
records_by k r rest m read right = record {
  same = but_last r.back rest ∙ ap (but r.back rest ++◌) read.same;
  fits = read.fits;
  locals = right.0;
  sizes = right.1.0;
  cells = right.1.1.0;
  mains = right.1.1.1;
}

-- 4 holds
formed_by : (k : Kind) (t : List ℕ) {rest code : List ℕ} {r : Trailer} {m : Middle} {p : Program Plain} → RightTrailer k t rest r → RightCounts k t r
    → RightRecords k r rest code m → Made k code m p → Formed k t p
formed_by k t {rest} {code} {r} {m} {p} closed counts records made =
    let fits : MiddleFits r.procs r.places r.threads (middle_of p) = rw made.middle at records.fits in
    let body : rest ≡ front p = joined records.same made.bodies (ap E.middle made.middle) in
    let all : t ≡ front p ++ E.trailer r = joined closed.same body refl in
    let trailer : r ≡ trailer_of k p = trailer_is k p t r fits closed.kind closed.mark closed.back closed.whole all in
    let tested : right_records k m ≡ true = (records? k m).of (records.locals, (records.sizes, (records.cells, records.mains))) in
    let right = (procedures? k p).so (rw made.middle at tested) in
    record {
      same = rw trailer at all;
      size = counts.size;
      procs = rw (sym (ap (λ r. r.procs) trailer)) counts.procs;
      places = rw (sym (ap (λ r. r.places) trailer)) counts.places;
      threads = rw (sym (ap (λ r. r.threads) trailer)) counts.threads;
      locals = right.0;
      sizes = right.1.0;
      cells = right.1.1.0;
      mains = right.1.1.1;
      bodies = each_so body_right (bodies_of p.procs) made.fit;
      fits = made.fit;
      allowed = made.allowed;
    }

-- ---- a verdict

module _ (k : Kind) (t : List ℕ) where
  -- the rules that hold of t, by its verdict
  pub data Holds : Verdict → Type 0 where
    passes : {p : Program Plain} → Formed k t p → AllNames p → FewLabels k p → NoCycle p → SetFirst p → Holds (accepted p)
    stops : {n : ℕ} → Upto k t n → Holds (refused (suc n))

  -- through a step that may be missing
  demanded : {A : Type 0} {Q : A → Type 0} (n : ℕ) {m : Maybe A} (next : A → Verdict) → Upto k t n → If Q m
      → ((a : A) → Q a → Holds (next a)) → Holds (demand (suc n) m next)
  demanded n next u (so q) f = f _ q
  demanded n next u none f = stops u

  -- through a test
  required : {P : Type 0} {b : Bool} (n : ℕ) (v : Verdict) → Upto k t n → Decides b P → (P → Holds v) → Holds (require (suc n) b v)
  required {b = true} n v u d next = next (d.so refl)
  required {b = false} n v u d next = stops u

  -- of every verdict
  pub holds : Bytes t → Holds (verdict k t)
  holds h =
      demanded 0 _ upto0 (finish_only trailer_exact (last trailer_size t) (bytes_last trailer_size t h)) λ r closing.
      required 0 _ upto0 (trailer? k t r) λ (kind, (mark, (back, (whole, room)))).
      let closed : RightTrailer k t (but trailer_size t) r = closed_by k t r closing kind mark back whole room in
      required 1 _ (upto1 closed) (counts? k t r) λ counts.
      demanded 0 _ upto0
      (finish_only (middle_exact r.procs r.places r.threads) (last r.back (but trailer_size t))
      (bytes_last r.back (but trailer_size t) (bytes_but trailer_size t h)))
      λ m middle.
      required 2 _ (upto2 closed counts) (records? k m) λ right.
      let records : RightRecords k r (but trailer_size t) (but r.back (but trailer_size t)) m = records_by k r (but trailer_size t) m middle right in
      demanded 3 _ (upto3 closed counts records)
      (program_only k (but r.back (but trailer_size t)) m (bytes_but r.back (but trailer_size t) (bytes_but trailer_size t h)))
      λ p made.
      let formed : Formed k t p = formed_by k t closed counts records made in
      required 4 _ (upto4 formed) (all_names? p) λ named.
      required 5 _ (upto5 formed named) (labels? k p) λ labels.
      required 6 _ (upto6 formed named labels) (no_cycle? p) λ calls.
      required 7 _ (upto7 formed named labels calls) (set_first? p) λ set.
      passes formed named labels calls set

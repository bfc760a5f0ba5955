-- The rules that hold of a table are passed by its verdict: what the rules up to n leave of it, and which numbers may still be answered.
use Rattle.std.specs.Prelude.{ℕ, zero, suc, ◌+◌, ◌^◌, ◌≤◌, ◌<◌, ◌≡◌, refl, List, [], ◌∷◌, Bool, true, false, length}
use Rattle.std.proofs.Common.{arith, sym, ◌∙◌, ap, length-append}
use Rattle.value.specs.Maybe.{Maybe, is}
use Rattle.value.specs.Lists.{sum}
use Rattle.value.proofs.Laws.Tests.{Decides, never, itself, ◌and◌}
use Rattle.value.proofs.Laws.Lists.{Each, each_so}
use Rattle.format.specs.Syntax.{Proc, Program, Plain, Kind, concurrent, sequential}
use Rattle.format.specs.Encode.{each, Middle, Trailer, heads, bodies_of, middle_of, front, trailer_of, block, kind_mark, trailer_size}
use Rattle.format.specs.Encode as E
use Rattle.format.specs.Decode.{times, finish, but, last, max_nesting}
use Rattle.format.specs.Decode as D
use Rattle.format.specs.Rules.{Limits, limits, right_counts, right_records, placed, starts, program, Verdict, demand, require, verdict, max_size}
use Rattle.format.proofs.Laws.Reading.{test_passed}
use Rattle.format.proofs.Laws.Names.{Takes}
use Rattle.format.proofs.Laws.Blocks.{bodies_exact}
use Rattle.format.proofs.Laws.Sections.{finish_undoes, HeadFits, middle_exact, trailer_exact, but_append, last_append}
use Rattle.format.proofs.Laws.Sections.{length_middle}
use Rattle.format.proofs.Laws.Permits.{all_permitted?}
use Rattle.format.proofs.Laws.Sound.{Within, LocalsRight}
use Rattle.format.proofs.Laws.Formed.{RightTrailer, RightCounts, HeadRight, Begun, RightRecords, Formed, judged}
use Rattle.format.proofs.Laws.Heads.{placed_heads, bind_heads, length_heads, length_bodies}
use Rattle.format.proofs.Laws.Judged.{trailer?, counts?, records?, procedures?}

-- an answer that a test does not stop
pub passed : {b : Bool} {P : Type 0} (n : ℕ) {v w : Verdict} → Decides b P → P → v ≡ w → require n b v ≡ w
passed {b = true} n d p e = e
passed {b = false} n d p e = absurd (never (d.of p))

-- nor something that is there
pub found : {A : Type 0} (n : ℕ) (next : A → Verdict) {m : Maybe A} {a : A} {w : Verdict} → m ≡ is a → next a ≡ w → demand n m next ≡ w
found n next e f = rw e f

-- the bounds fit the bytes
pub record Small (l : Limits) : Type 0 where
  pub bytes : l.bytes < 2 ^ 32
  pub procs : l.procs < 2 ^ 16
  pub places : l.places < 2 ^ 16
  pub threads : l.threads < 2 ^ 16
  pub locals : l.locals < 2 ^ 8

-- those of both kinds do
pub small : (k : Kind) → Small (limits k)
small concurrent = omega arith
small sequential = omega arith

-- those of sequential tables are the larger ones, but for the threads
pub record AtMost (l : Limits) : Type 0 where
  pub bytes : l.bytes ≤ (limits sequential).bytes
  pub procs : l.procs ≤ (limits sequential).procs
  pub places : l.places ≤ (limits sequential).places
  pub locals : l.locals ≤ (limits sequential).locals
  pub cells : l.cells ≤ (limits sequential).cells

-- so a table of either kind keeps them
pub at_most : (k : Kind) → AtMost (limits k)
at_most concurrent = omega arith
at_most sequential = omega arith

-- the kind is a byte
mark_fits : (k : Kind) → kind_mark k < 2 ^ 8
mark_fits concurrent = omega arith
mark_fits sequential = omega arith

-- a procedure that is there is one of them
pub takes_below : (ps : List (Proc Plain)) (m n : ℕ) → Takes ps m n → m < length ps
takes_below [] m n t = absurd t
takes_below (p ∷ ps) zero n t = omega arith
takes_below (p ∷ ps) (suc m) n t = omega (arith, takes_below ps m n t)

-- the mains are among the procedures that are begun
mains_start : (P : ℕ → Type 0) (k : Kind) (mains : List ℕ) → Each P (starts k mains) → Each P mains
mains_start P concurrent mains h = h
mains_start P sequential mains h = h.1

-- the records of procedures fit, if the bodies end in the table
heads_fit : (most at end : ℕ) (ps : List (Proc Plain)) → most < 2 ^ 8 → end < 2 ^ 32 → at + length (each block (bodies_of ps)) ≤ end
    → Each (LocalsRight most) ps → Each HeadFits (heads at ps)
heads_fit most at end [] small far room h = tt
heads_fit most at end (p ∷ ps) small far room h =
    let longer : at + (length (block p.body) + length (each block (bodies_of ps))) ≤ end
    = rw (length-append (block p.body) (each block (bodies_of ps))) at room in (
      (omega (arith, h.0.params, h.0.locals), omega (arith, h.0.locals), omega arith),
      heads_fit most (at + length (block p.body)) end ps small far (omega arith) h.1,
    )

-- ---- 1 to 3: the sections that are read

module _ (k : Kind) (t : List ℕ) {rest : List ℕ} {r : Trailer} (closed : RightTrailer k t rest r) where
  -- the bytes before the trailer
  cut_rest : but trailer_size t ≡ rest
  cut_rest = ap (but trailer_size) closed.same ∙ but_append rest (E.trailer r) trailer_size refl

  -- the trailer is read
  pub trailer_read : finish (D.trailer (last trailer_size t)) ≡ is r
  trailer_read =
      let cut : last trailer_size t ≡ E.trailer r = ap (last trailer_size) closed.same ∙ last_append rest (E.trailer r) trailer_size refl in
      rw cut (finish_undoes trailer_exact r closed.fits)

  module _ {code : List ℕ} {m : Middle} (records : RightRecords k r rest code m) where
    -- the distance is right
    middle_length : length (E.middle m) ≡ r.back
    middle_length = omega (arith, length_middle m, records.fits.heads.0, records.fits.sizes.0, records.fits.mains.0, closed.back)

    -- the middle is read
    pub middle_read : finish (D.middle r.procs r.places r.threads (last r.back (but trailer_size t))) ≡ is m
    middle_read =
        rw (cut_rest, records.same, last_append code (E.middle m) r.back middle_length)
        (finish_undoes (middle_exact r.procs r.places r.threads) m records.fits)

    -- what is left are the bodies
    cut_code : but r.back (but trailer_size t) ≡ code
    cut_code = rw (cut_rest, records.same) (but_append code (E.middle m) r.back middle_length)

-- ---- 4: the program

module _ (k : Kind) (t : List ℕ) (p : Program Plain) (formed : Formed k t p) where
  -- the trailer has 16 bytes
  whole_length : length (front p) + trailer_size ≡ length t
  whole_length = sym (ap length formed.same ∙ length-append (front p) (E.trailer (trailer_of k p)))

  -- before it stand the bodies and the middle
  front_length : length (front p) ≡ length (each block (bodies_of p.procs)) + length (E.middle (middle_of p))
  front_length = length-append (each block (bodies_of p.procs)) (E.middle (middle_of p))

  -- the distance is the middle's length
  distance_is : length (E.middle (middle_of p)) ≡ (trailer_of k p).back
  distance_is = length_middle (middle_of p) ∙ rw (length_heads 0 p.procs)

  -- 1 holds
  pub formed_trailer : RightTrailer k t (front p) (trailer_of k p)
  formed_trailer = record {
    same = formed.same;
    fits = record {
      kind = mark_fits k;
      mark = omega arith;
      procs = omega (arith, formed.procs, small k);
      places = omega (arith, formed.places, small k);
      threads = omega (arith, formed.threads, small k);
      back = omega (arith, formed.procs, formed.places, formed.threads, small k);
      whole = omega (arith, formed.size, whole_length, small k);
    };
    kind = refl;
    mark = refl;
    back = refl;
    whole = whole_length;
    room = omega (arith, whole_length, front_length, distance_is);
  }

  -- 2 holds
  pub formed_counts : RightCounts k t (trailer_of k p)
  formed_counts = record { size = formed.size; procs = formed.procs; places = formed.places; threads = formed.threads }

  -- 3 holds
  pub formed_records : RightRecords k (trailer_of k p) (front p) (each block (bodies_of p.procs)) (middle_of p)
  formed_records = record {
    same = refl;
    fits = record {
      heads = (
        length_heads 0 p.procs,
        heads_fit (limits k).locals 0 (length t) p.procs (omega (arith, small k)) (omega (arith, formed.size, small k))
            (omega (arith, whole_length, front_length)) formed.locals,
      );
      sizes = (refl, each_so (λ n w. omega (arith, w.high)) p.sizes formed.sizes);
      mains = (
        refl,
        each_so (λ m t. omega (arith, takes_below p.procs m 0 t, formed.procs, small k)) p.mains
            (mains_start (λ m. Takes p.procs m 0) k p.mains formed.mains),
      );
    };
    locals = right.0;
    sizes = right.1.0;
    cells = right.1.1.0;
    mains = right.1.1.1;
  }
    where
      right : Each (HeadRight (limits k).locals) (middle_of p).heads × (Each (Within 1 max_size) p.sizes ×
          ((sum p.sizes ≤ (limits k).cells) × Each (Begun (middle_of p).heads) (starts k p.mains)))
      right = (records? k (middle_of p)).so ((procedures? k p).of (formed.locals, (formed.sizes, (formed.cells, formed.mains))))

  -- the bodies are read, and with the records they make the program
  pub program_read : program k (but (trailer_of k p).back (but trailer_size t)) (middle_of p) ≡ is p
  program_read =
      let bodies : finish (times (D.block max_nesting) (length (heads 0 p.procs)) (each block (bodies_of p.procs))) ≡ is (bodies_of p.procs)
      = finish_undoes (bodies_exact _) (bodies_of p.procs) (length_bodies p.procs ∙ sym (length_heads 0 p.procs), formed.fits) in
      rw (cut_code k t formed_trailer formed_records, bodies)
      (test_passed _ (itself (placed 0 (heads 0 p.procs) (bodies_of p.procs)) and all_permitted? k 0 (bodies_of p.procs))
      (placed_heads 0 p.procs, formed.allowed)
      ∙ rw (bind_heads 0 p.procs))

-- ---- what is left of the verdict

-- after 1: 2 and what follows
module _ (k : Kind) (t : List ℕ) where
  -- after 3: 4 to 8
  abbrev pub left3 : Trailer → Middle → Verdict
  left3 r m = demand 4 (program k (but r.back (but trailer_size t)) m) (judged k)

  -- after 2: 3 to 8, if the middle is there
  abbrev pub left2 : Trailer → Verdict
  left2 r =
      demand 1 (finish (D.middle r.procs r.places r.threads (last r.back (but trailer_size t)))) λ m.
      require 3 (right_records k m) (left3 r m)

  -- after 1: 2 to 8
  abbrev pub left1 : Trailer → Verdict
  left1 r = require 2 (right_counts k t r) (left2 r)

  module _ {rest : List ℕ} {r : Trailer} (closed : RightTrailer k t rest r) where
    -- 1 is passed
    pub passes1 : verdict k t ≡ left1 r
    passes1 =
        found 1 _ (trailer_read k t closed)
        (passed 1 (trailer? k t r) (closed.kind, (closed.mark, (closed.back, (closed.whole, closed.room)))) refl)

    -- 2 is passed
    pub passes2 : RightCounts k t r → verdict k t ≡ left2 r
    passes2 counts = passes1 ∙ passed 2 (counts? k t r) counts refl

    -- 3 is passed
    pub passes3 : {code : List ℕ} {m : Middle} → RightCounts k t r → RightRecords k r rest code m → verdict k t ≡ left3 r m
    passes3 {m = m} counts records =
        passes2 counts ∙
        found 1 _ (middle_read k t closed records)
        (passed 3 (records? k m) (records.locals, (records.sizes, (records.cells, records.mains))) refl)

  -- 4 IS PASSED: RULES 5 TO 8 JUDGE THE PROGRAM.
  pub formed_judged : {p : Program Plain} → Formed k t p → verdict k t ≡ judged k p
  formed_judged {p = p} formed =
      passes3 (formed_trailer k t p formed) (formed_counts k t p formed) (formed_records k t p formed) ∙ found 4 _ (program_read k t p formed) refl

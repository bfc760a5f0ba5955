-- What the code finds out about a table's shape by rules 1 to 4, in the words of Rules.
use Rattle.std.specs.Prelude.{ℕ, ◌+◌, ◌-◌, ◌≤◌, ◌≡◌, List, Bool, true, false, length, get_or, take, drop, leb, Result, Ok, Err}
use Rattle.value.specs.Maybe.{Maybe, is, nothing, both}
use Rattle.value.specs.Lists.{all, sum}
use Rattle.value.specs.Values.{unbytes}
use Rattle.basics.specs.Places.{number_at}
use Rattle.value.proofs.Laws.Bytes.{Bytes}
use Rattle.format.specs.Syntax.{Kind, Block, Program, Plain}
use Rattle.format.specs.Encode as E
use Rattle.format.specs.Encode.{record_size, trailer_size}
use Rattle.format.specs.Decode.{finish, last, max_nesting}
use Rattle.format.specs.Decode as D
use Rattle.format.specs.Rules.{right_trailer, right_counts, max_size}
use Rattle.format.specs.Rules as R
use Rattle.format.specs.Calls.{labels_of}
use Rattle.format.proofs.Laws.Places.{rows, head_at, middle_at}
use Rattle.format.proofs.Laws.Formed.{Formed, judged}
use Rattle.format.proofs.Laws.TablePlaces.{records_at}
use Rattle.basics.specs.declared.refusals.Refusal.{Refusal}
use Rattle.basics.specs.Refusals.{refusal_number}
use Rattle.shape.specs.declared.header.Trailer.{Trailer}
use Rattle.shape.specs.declared.form.Shape.{Shape}

-- a trailer
abbrev pub trailer_of : Trailer → E.Trailer
trailer_of r = record {
  kind = r.kind;
  mark = r.mark;
  procs = r.procedures;
  places = r.locations;
  threads = r.threads;
  back = r.distance;
  whole = r.length;
}

-- the last bytes of t say r
pub record TrailerAt (t : List ℕ) (r : Trailer) : Type 0 where
  pub kind : r.kind ≡ get_or t (length t - trailer_size) 0
  pub mark : r.mark ≡ get_or t (length t - trailer_size + 1) 0
  pub procedures : r.procedures ≡ number_at 2 t (length t - trailer_size + 2)
  pub locations : r.locations ≡ number_at 2 t (length t - trailer_size + 4)
  pub threads : r.threads ≡ number_at 2 t (length t - trailer_size + 6)
  pub distance : r.distance ≡ number_at 4 t (length t - trailer_size + 8)
  pub length : r.length ≡ number_at 4 t (length t - trailer_size + 12)

-- b is whether rule 1 lets a trailer through
pub record TrailerTest (k : Kind) (t : List ℕ) (r : E.Trailer) (b : Bool) : Type 0 where
  pub same : b ≡ right_trailer k t r

-- and rule 2
pub record CountsTest (k : Kind) (t : List ℕ) (r : E.Trailer) (b : Bool) : Type 0 where
  pub same : b ≡ right_counts k t r

-- rules 1 and 2 hold, on the trailer that was read
pub record Closed (k : Kind) (t : List ℕ) (r : Trailer) : Type 0 where
  pub long : trailer_size ≤ length t
  pub back : r.distance ≡ E.distance r.procedures r.locations r.threads
  pub room : r.distance ≤ length t - trailer_size
  pub read : finish (D.trailer (last trailer_size t)) ≡ is (trailer_of r)
  pub trailer : right_trailer k t (trailer_of r) ≡ true
  pub counts : right_counts k t (trailer_of r) ≡ true

-- the first number that applies of rules 1 and 2, or the trailer, of which they hold
abbrev pub HeaderFor : Kind → List ℕ → Result Trailer Refusal → Type 0
HeaderFor k t (Err e) = Bytes t → R.verdict k t ≡ R.refused (refusal_number e)
HeaderFor k t (Ok r) = Closed k t r

pub record HeaderIs (k : Kind) (t : List ℕ) (h : Result Trailer Refusal) : Type 0 where
  pub gives : HeaderFor k t h

-- ---- rule 3

-- n records of procedures from i on
abbrev pub heads_at : List ℕ → ℕ → ℕ → List E.Head
heads_at t i n = rows head_at record_size n (drop i t)

-- n numbers of two bytes
abbrev pub numbers_at : List ℕ → ℕ → ℕ → List ℕ
numbers_at t i n = rows (λ bs. unbytes (take 2 bs)) 2 n (drop i t)

-- "parameters over locals; locals over 16"
abbrev pub few_locals : ℕ → E.Head → Bool
few_locals most h = both (leb h.params h.locals) (leb h.locals most)

-- b is whether the rule lets through the locals of n records,
pub record LocalsTest (t : List ℕ) (i n most : ℕ) (b : Bool) : Type 0 where
  pub same : b ≡ all (few_locals most) (heads_at t i n)

-- n sizes,
pub record SizesTest (t : List ℕ) (i n : ℕ) (b : Bool) : Type 0 where
  pub same : b ≡ all (R.within 1 max_size) (numbers_at t i n)

-- procedure m as a main, where P records stand from `at` on,
pub record BegunTest (t : List ℕ) (at P m : ℕ) (b : Bool) : Type 0 where
  pub same : b ≡ R.begun (heads_at t at P) m

-- n mains,
pub record MainsTest (t : List ℕ) (i n at P : ℕ) (b : Bool) : Type 0 where
  pub same : b ≡ all (R.begun (heads_at t at P)) (numbers_at t i n)

-- all that are begun,
pub record StartsTest (k : Kind) (t : List ℕ) (i n at P : ℕ) (b : Bool) : Type 0 where
  pub same : b ≡ all (R.begun (heads_at t at P)) (R.starts k (numbers_at t i n))

-- and all together
pub record RecordsTest (k : Kind) (t : List ℕ) (at : ℕ) (r : E.Trailer) (b : Bool) : Type 0 where
  pub same : b ≡ R.right_records k (middle_at r.procs r.places r.threads (drop at t))

-- "all sizes together"
pub record CellsAre (t : List ℕ) (i n c : ℕ) : Type 0 where
  pub same : c ≡ sum (numbers_at t i n)

-- ---- rule 4

-- the bodies that were read, of procedures from m on, the first of which begins at p
abbrev pub placed_right : Kind → ℕ → ℕ → List E.Head → Maybe (List (Block Plain)) → Bool
placed_right k m p hs nothing = false
placed_right k m p hs (is bs) = both (R.placed p hs bs) (R.all_allowed k m bs)

-- are the bytes those bodies
abbrev pub bodies_right : Kind → ℕ → ℕ → List E.Head → List ℕ → Bool
bodies_right k m p hs bytes = placed_right k m p hs (finish (D.times (D.block max_nesting) (length hs) bytes))

-- b is whether the rule lets through `code`, by n records that stand in t from i on
pub record BodiesTest (k : Kind) (code t : List ℕ) (i n : ℕ) (b : Bool) : Type 0 where
  pub same : Bytes code → b ≡ bodies_right k 0 0 (heads_at t i n) code

-- ---- rules 1 to 4

-- t is formed of a program, whose counts these are, and which rules 5 to 8 judge
pub record ShapedAs (k : Kind) (t : List ℕ) (s : Shape) (p : Program Plain) : Type 0 where
  pub formed : Formed k t p
  pub verdict : R.verdict k t ≡ judged k p
  pub procedures : s.procedures ≡ length p.procs
  pub locations : s.locations ≡ length p.sizes
  pub threads : s.threads ≡ length p.mains
  pub records : s.records ≡ records_at p
  pub cells : s.cells ≡ sum p.sizes

-- of some program
abbrev pub HasShape : Kind → List ℕ → Shape → Type 0
HasShape k t s = (p : Program Plain) × ShapedAs k t s p

-- the number that is answered, or the shape
abbrev pub FormFor : Kind → List ℕ → Result Shape Refusal → Type 0
FormFor k t (Err e) = R.verdict k t ≡ R.refused (refusal_number e)
FormFor k t (Ok s) = HasShape k t s

-- of any bytes
pub record FormIs (k : Kind) (t : List ℕ) (f : Result Shape Refusal) : Type 0 where
  pub gives : Bytes t → FormFor k t f

-- ---- rules 5 to 8

-- n is the number of labels
pub record LabelsAre (k : Kind) (t : List ℕ) (s : Shape) (n : ℕ) : Type 0 where
  pub same : (p : Program Plain) → ShapedAs k t s p → n ≡ labels_of k p

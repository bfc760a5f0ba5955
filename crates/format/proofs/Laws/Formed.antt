-- The rules 1 to 8 of a byte string, by the number that is answered where one is broken: document 01, "Numbers of refusal".
-- Refusals.antt shows that a number is answered exactly if it is the smallest that applies.
use Rattle.std.specs.Prelude.{ℕ, zero, suc, ◌-◌, ◌≤◌, ◌≡◌, List, [], ◌∷◌, ◌++◌, length}
use Rattle.value.specs.Lists.{sum}
use Rattle.value.proofs.Laws.Lists.{Each}
use Rattle.format.specs.Syntax.{Program, Plain, Kind}
use Rattle.format.specs.Encode.{Head, Middle, middle, Trailer, trailer, kind_mark, distance, table, bodies_of, trailer_size, form_mark}
use Rattle.format.specs.Rules.{limits, starts, all_named, few_labels, no_cycle, set_first, Verdict, accepted, require, max_size}
use Rattle.format.proofs.Laws.Names.{Takes, AllNames}
use Rattle.format.proofs.Laws.Depths.{BodyRight}
use Rattle.format.proofs.Laws.Permits.{AllPermitted}
use Rattle.format.proofs.Laws.SetFirst.{SetFirst}
use Rattle.format.proofs.Laws.Fits.{BlockFits}
use Rattle.format.proofs.Laws.Sections.{MiddleFits, TrailerFits}
use Rattle.format.proofs.Laws.Sound.{Within, LocalsRight, FewLabels, NoCycle}
use Rattle.format.specs.Decode.{max_nesting}

-- 1: "under 16 bytes; wrong kind marks, distance or length; distance over length - 16": t is `rest` and a trailer, which is right
pub record RightTrailer (k : Kind) (t rest : List ℕ) (r : Trailer) : Type 0 where
  pub same : t ≡ rest ++ trailer r
  pub fits : TrailerFits r
  pub kind : r.kind ≡ kind_mark k
  pub mark : r.mark ≡ form_mark
  pub back : r.back ≡ distance r.procs r.places r.threads
  pub whole : r.whole ≡ length t
  pub room : r.back ≤ length t - trailer_size

-- 2: "over 16,384 bytes, P not 1..16, M over 64, T not 1..32"
pub record RightCounts (k : Kind) (t : List ℕ) (r : Trailer) : Type 0 where
  pub size : length t ≤ (limits k).bytes
  pub procs : Within 1 (limits k).procs r.procs
  pub places : r.places ≤ (limits k).places
  pub threads : Within (limits k).fewest (limits k).threads r.threads

-- 3: "parameters over locals; locals over 16"
pub record HeadRight (most : ℕ) (h : Head) : Type 0 where
  pub params : h.params ≤ h.locals
  pub locals : h.locals ≤ most

-- 3: "a main that is not below P or has parameters"
abbrev pub Begun : List Head → ℕ → Type 0
Begun [] m = ⊥
Begun (h ∷ hs) zero = h.params ≡ 0
Begun (h ∷ hs) (suc m) = Begun hs m

-- 3: `rest` is `code` and then as many records, sizes and mains as the trailer says, which are right
pub record RightRecords (k : Kind) (r : Trailer) (rest code : List ℕ) (m : Middle) : Type 0 where
  pub same : rest ≡ code ++ middle m
  pub fits : MiddleFits r.procs r.places r.threads m
  pub locals : Each (HeadRight (limits k).locals) m.heads
  pub sizes : Each (Within 1 max_size) m.sizes
  pub cells : sum m.sizes ≤ (limits k).cells
  pub mains : Each (Begun m.heads) (starts k m.mains)

-- 4: t is the table of p, and 2 to 4 hold: the fields are those of Sound, and each number of a body fits its bytes
pub record Formed (k : Kind) (t : List ℕ) (p : Program Plain) : Type 0 where
  pub same : t ≡ table k p
  pub size : length t ≤ (limits k).bytes
  pub procs : Within 1 (limits k).procs (length p.procs)
  pub places : length p.sizes ≤ (limits k).places
  pub threads : Within (limits k).fewest (limits k).threads (length p.mains)
  pub locals : Each (LocalsRight (limits k).locals) p.procs
  pub sizes : Each (Within 1 max_size) p.sizes
  pub cells : sum p.sizes ≤ (limits k).cells
  pub mains : Each (λ m. Takes p.procs m 0) (starts k p.mains)
  pub bodies : Each BodyRight (bodies_of p.procs)
  pub allowed : AllPermitted k 0 (bodies_of p.procs)
  -- beyond Sound: each number fits its bytes, so p is the one program of this table
  pub fits : Each (BlockFits max_nesting) (bodies_of p.procs)

-- the rules up to n hold of t
pub data Upto (k : Kind) (t : List ℕ) : ℕ → Type 0 where
  upto0 : Upto k t 0
  upto1 : {rest : List ℕ} {r : Trailer} → RightTrailer k t rest r → Upto k t 1
  upto2 : {rest : List ℕ} {r : Trailer} → RightTrailer k t rest r → RightCounts k t r → Upto k t 2
  upto3 : {rest code : List ℕ} {r : Trailer} {m : Middle} → RightTrailer k t rest r → RightCounts k t r → RightRecords k r rest code m → Upto k t 3
  upto4 : {p : Program Plain} → Formed k t p → Upto k t 4
  upto5 : {p : Program Plain} → Formed k t p → AllNames p → Upto k t 5
  upto6 : {p : Program Plain} → Formed k t p → AllNames p → FewLabels k p → Upto k t 6
  upto7 : {p : Program Plain} → Formed k t p → AllNames p → FewLabels k p → NoCycle p → Upto k t 7
  upto8 : {p : Program Plain} → Formed k t p → AllNames p → FewLabels k p → NoCycle p → SetFirst p → Upto k t 8

-- what rules 1 to 4 leave of the verdict: 5 to 8
abbrev pub judged : Kind → Program Plain → Verdict
judged k p = require 5 (all_named p) (require 6 (few_labels k p) (require 7 (no_cycle p) (require 8 (set_first p) (accepted p))))

-- What is promised of the lines around the bodies.
use Rattle.std.specs.Prelude.{ℕ, ◌+◌, ◌^◌, ◌≤◌, ◌<◌, ◌≡◌, List, length}
use Rattle.value.specs.Values.{bytes}
use Rattle.value.specs.Lists.{upto}
use Rattle.value.proofs.Laws.Lists.{Each}
use Rattle.format.specs.Syntax.{Proc, Plain, sequential}
use Rattle.format.specs.Encode.{each}
use Rattle.format.specs.Rules.{limits}
use Rattle.format.proofs.Laws.Stands.{Stands}
use Rattle.ctext.specs.Text.{numbered, area, argument}
use Rattle.ctext.proofs.Laws.ArgText.{NumberText}
use Rattle.ctext.proofs.Laws.FrameText.{LocationsText, ParamsText, MoreParams, DeclarationsText}
use Rattle.ctext.proofs.Laws.DefinitionText.{UnsetsText, DefinitionIn}
use Rattle.writer.specs.Laws.Put.{Put}
use Rattle.retable.specs.Laws.Exprs.{Parses}
use Rattle.retable.specs.declared.exprs.Parsed.{Parsed}
use Rattle.retable.specs.declared.exprs.Listed.{Listed}
use Rattle.retable.specs.declared.frames.Counted.{Counted}
use Rattle.retable.specs.declared.frames.Locals.{Locals}

-- a line with two numbers
pub record SkipsTwo (x : List ℕ) (i a b c r : ℕ) : Type 0 where
  pub to : (k n l m : ℕ) → NumberText x (i + a) k l → NumberText x (l + b) n m → m + c ≤ length x → r ≡ m + c

-- ---- locations

-- a location's line
pub record ParsesLocation (x : List ℕ) (i : ℕ) (o : List ℕ) (p : ℕ) (o' : List ℕ) (r : Parsed) : Type 0 where
  pub gives : (k n l m : ℕ) → NumberText x (i + 9) k l → NumberText x (l + 1) n m → m + 3 ≤ length x → Parses (bytes 2 n) (m + 3) o p o' r

-- the sizes ss of locations from number k on, which end at j, were written
pub record Sized (k : ℕ) (ss : List ℕ) (j : ℕ) (o : List ℕ) (p : ℕ) (o' : List ℕ) (r : Listed ℕ) : Type 0 where
  pub count : r.count ≡ k + length ss
  pub puts : Put o p (each (bytes 2) ss) o' r.to
  pub ends : r.next ≡ j

-- whatever locations stand there
pub record ParsesSizes (x : List ℕ) (i k : ℕ) (o : List ℕ) (p : ℕ) (o' : List ℕ) (r : Listed ℕ) : Type 0 where
  pub gives : (ss : List ℕ) (j : ℕ) → LocationsText x i k ss j → k + length ss ≤ (limits sequential).places → Sized k ss j o p o' r

-- n areas
pub record SkipsAreas (x : List ℕ) (i n r : ℕ) : Type 0 where
  pub to : (k : ℕ) (ss : List ℕ) (j : ℕ) → Stands x i (numbered area k ss) j → Each (λ n. n < 2 ^ 16) ss → k + length ss ≤ 2 ^ 16 → length ss ≡ n → r ≡ j

-- ---- procedures

-- n things that end at j
pub record Counts (n j : ℕ) (r : Counted ℕ) : Type 0 where
  pub count : r.count ≡ n
  pub ends : r.next ≡ j

-- parameters behind a others
pub record CountsMore (x : List ℕ) (i a : ℕ) (r : Counted ℕ) : Type 0 where
  pub gives : (n j : ℕ) → MoreParams x i a n j → a + n < 2 ^ 8 → Counts (a + n) j r

-- parameters
pub record CountsParams (x : List ℕ) (i : ℕ) (r : Counted ℕ) : Type 0 where
  pub gives : (n j : ℕ) → ParamsText x i n j → n < 2 ^ 8 → Counts n j r

-- a head
pub record CountsHead (x : List ℕ) (i : ℕ) (r : Counted ℕ) : Type 0 where
  pub gives : (k n m j : ℕ) → NumberText x (i + 6) k m → ParamsText x (m + 1) n j → n < 2 ^ 8 → Counts n j r

-- procedures with few locals
abbrev pub Few : Proc Plain → Type 0
Few p = (p.params ≤ p.locals) × (p.locals ≤ (limits sequential).locals)

-- whatever declarations stand there
pub record SkipsDeclarations (x : List ℕ) (i k : ℕ) (r : Counted ℕ) : Type 0 where
  pub gives : (ps : List (Proc Plain)) (j : ℕ) → DeclarationsText x i k ps j → Each Few ps → k + length ps ≤ (limits sequential).procs
      → Counts (k + length ps) j r

-- lines for n parameters
pub record SkipsArgs (x : List ℕ) (i n r : ℕ) : Type 0 where
  pub to : (a j : ℕ) → Stands x i (each argument (upto a n)) j → a + n < 2 ^ 8 → r ≡ j

-- lines for other locals, behind a parameters
pub record CountsUnsets (x : List ℕ) (i a : ℕ) (r : Counted ℕ) : Type 0 where
  pub gives : (n j : ℕ) → UnsetsText x i a n j → a + n < 2 ^ 8 → Counts (a + n) j r

-- a procedure's counts, and where its body begins
pub record Counting (p : Proc Plain) (u : ℕ) (r : Locals) : Type 0 where
  pub params : r.params ≡ p.params
  pub locals : r.locals ≡ p.locals
  pub ends : r.next ≡ u

-- what stands before a body
pub record CountsLocals (x : List ℕ) (i : ℕ) (r : Locals) : Type 0 where
  pub gives : (k : ℕ) (p : Proc Plain) (ps : List (Proc Plain)) (j : ℕ) (w : DefinitionIn x i k p ps j) → Few p → Counting p w.u r

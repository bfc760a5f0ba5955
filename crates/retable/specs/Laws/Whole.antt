-- What is promised of definitions and of a whole text.
use Rattle.std.specs.Prelude.{ℕ, ◌+◌, ◌≤◌, ◌≡◌, List, ◌++◌, length}
use Rattle.value.specs.Values.{bytes}
use Rattle.value.proofs.Laws.Lists.{Each}
use Rattle.format.specs.Syntax.{Proc, Program, Plain, sequential}
use Rattle.format.specs.Encode.{block, each, head, heads, bodies_of, trailer, distance, table, form_mark, kind_mark}
use Rattle.format.proofs.Laws.Sound.{Sound}
use Rattle.format.proofs.Laws.Stands.{Stands}
use Rattle.basics.specs.Sizes.{too_long}
use Rattle.ctext.specs.Text.{text}
use Rattle.ctext.proofs.Laws.DefinitionText.{DefinitionsText, DefinitionIn}
use Rattle.writer.specs.Laws.Put.{Put}
use Rattle.retable.specs.Laws.Frames.{Few}
use Rattle.retable.specs.declared.whole.Defined.{Defined}
use Rattle.retable.specs.declared.whole.Coded.{Coded}
use Rattle.retable.specs.declared.whole.Found.{Found}

-- ---- definitions: bodies go from q on into o, records from e on into a row

-- a procedure's body and record were written, and its definition ends at j
pub record Defines (p : Proc Plain) (j : ℕ) (o : List ℕ) (q : ℕ) (row : List ℕ) (e : ℕ) (o' row' : List ℕ) (r : Defined) : Type 0 where
  pub body : Put o q (block p.body) o' r.to
  pub entry : Put row e (head (record { params = p.params; locals = p.locals; at = q })) row' r.row
  pub ends : r.next ≡ j

-- whatever definition stands there
pub record ParsesDefinition (x : List ℕ) (i : ℕ) (o : List ℕ) (q : ℕ) (row : List ℕ) (e : ℕ) (o' row' : List ℕ) (r : Defined) : Type 0 where
  pub gives : (k : ℕ) (p : Proc Plain) (ps : List (Proc Plain)) (j : ℕ) (w : DefinitionIn x i k p ps j) → Few p
      → Defines p (w.e + 16) o q row e o' row' r

-- all bodies and records were written
pub record DefinesAll (ps : List (Proc Plain)) (o : List ℕ) (q : ℕ) (row : List ℕ) (e : ℕ) (o' row' : List ℕ) (r : Coded) : Type 0 where
  pub code : Put o q (each block (bodies_of ps)) o' r.to
  pub entries : Put row e (each head (heads q ps)) row' r.row

-- whatever n definitions stand there
pub record ParsesDefinitions (x : List ℕ) (i n : ℕ) (o : List ℕ) (q : ℕ) (row : List ℕ) (e : ℕ) (o' row' : List ℕ) (r : Coded) : Type 0 where
  pub gives : (k : ℕ) (ps : List (Proc Plain)) (j : ℕ) → DefinitionsText x i k ps j → Each Few ps → length ps ≡ n
      → q + length (each block (bodies_of ps)) ≤ too_long → DefinesAll ps o q row e o' row' r

-- ---- around them

-- what stands before the definitions of p
pub record FoundIn (x : List ℕ) (p : Program Plain) (r : Found) : Type 0 where
  pub locations : r.locations ≡ length p.sizes
  pub procedures : r.procedures ≡ length p.procs
  pub definitions : DefinitionsText x r.next 0 p.procs (length x)

-- of whatever program's text it is
pub record Finds (x : List ℕ) (r : Found) : Type 0 where
  pub gives : (p : Program Plain) → Sound sequential p → x ≡ text p → FoundIn x p r

-- records that stand in a row, and the sizes
pub record PutsMiddle (x row : List ℕ) (e : ℕ) (o : List ℕ) (q : ℕ) (o' : List ℕ) (r : ℕ) : Type 0 where
  pub gives : (p : Program Plain) → Sound sequential p → x ≡ text p → (bs : List ℕ) → Stands row 0 bs e → Put o q (bs ++ each (bytes 2) p.sizes) o' r

-- the counts of a trailer
pub record Counts (P M : ℕ) (o : List ℕ) (p : ℕ) (o' : List ℕ) (r : ℕ) : Type 0 where
  pub gives : Put o p (bytes 2 P ++ (bytes 2 M ++ bytes 2 0)) o' r

-- its lengths
pub record Lengths (back whole : ℕ) (o : List ℕ) (p : ℕ) (o' : List ℕ) (r : ℕ) : Type 0 where
  pub gives : Put o p (bytes 4 back ++ bytes 4 whole) o' r

-- the trailer
pub record Trails (P M whole : ℕ) (o : List ℕ) (p : ℕ) (o' : List ℕ) (r : ℕ) : Type 0 where
  pub gives : Put o p (trailer (record {
    kind = kind_mark sequential;
    mark = form_mark;
    procs = P;
    places = M;
    threads = 0;
    back = distance P M 0;
    whole = whole;
  })) o' r

-- ---- a whole text

-- IF IT IS THE TEXT OF A PROGRAM THAT KEEPS THE RULES, ITS TABLE IS WRITTEN.
pub record Reparses (x o o' : List ℕ) (r : ℕ) : Type 0 where
  pub gives : (p : Program Plain) → Sound sequential p → x ≡ text p → Put o 0 (table sequential p) o' r

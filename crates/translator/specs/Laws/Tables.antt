-- What the translator promises of the whole table.
use Rattle.std.specs.Prelude.{ℕ, ◌+◌, ◌<◌, ◌≡◌, List, length, get_or, take}
use Rattle.value.specs.Maybe.{is}
use Rattle.value.specs.Values.{bytes}
use Rattle.value.specs.Lists.{at}
use Rattle.format.specs.Syntax.{Program, Plain, sequential}
use Rattle.format.specs.Encode.{block, each, head, heads, middle, middle_of, trailer, distance, table, form_mark, kind_mark}
use Rattle.format.specs.Labels.{counts}
use Rattle.labels.specs.LabelMap.{Node, Mapped, node_of}
use Rattle.translation.specs.Layout.{locals_of, sizes_in}
use Rattle.translation.specs.Code.{moved}
use Rattle.translation.specs.Translate.{zeroth_in, later_in, translate_in}
use Rattle.basics.specs.Sizes.{too_long}
use Rattle.writer.specs.declared.page.Page.{Page}
use Rattle.writer.specs.Laws.Put.{Put}
use Rattle.writer.specs.Laws.Pages.{Puts}
use Rattle.emit.specs.Laws.Shapes.{Shaped}
use Rattle.simulation.specs.Laws.Bodies.{bodies}
use Rattle.translation.specs.declared.Mode.{Mode}
use Rattle.emit.specs.declared.layout.Shape.{Shape}

-- the record of the procedure of label k + 1, with the offset that is known
pub record HeadOf (t : List ℕ) (h : Shape) (map offsets : List ℕ) (k : ℕ) (o o' : Page) : Type 0 where
  pub gives : (q : Program Plain) (d : Node) → Shaped t h q → (bounds : List ℕ) → Mapped q map bounds → node_of q (k + 1) ≡ is d
      → Puts o (head (record { params = 1; locals = moved (locals_of (at q.procs d.proc)); at = get_or offsets k 0 })) o'

-- each body of a label begins where its offset says, the first at `base`
pub record Right (mode : Mode) (q : Program Plain) (base : ℕ) (offsets : List ℕ) : Type 0 where
  pub at : (i : ℕ) → i < counts q.procs → get_or offsets i 0 ≡ base + length (bodies (take i (later_in mode q)))

-- the first k records are written
pub record Heading (t : List ℕ) (h : Shape) (map offsets : List ℕ) (k : ℕ) (o o' : Page) : Type 0 where
  pub done : (q : Program Plain) (base : ℕ) → Shaped t h q → (bounds : List ℕ) → Mapped q map bounds → Right h.mode q base offsets
      → Puts o (each head (take k (heads base (later_in h.mode q)))) o'

-- all of them
pub record HeadsOf (t : List ℕ) (h : Shape) (map offsets : List ℕ) (o o' : Page) : Type 0 where
  pub gives : (q : Program Plain) (base : ℕ) → Shaped t h q → (bounds : List ℕ) → Mapped q map bounds → Right h.mode q base offsets
      → Puts o (each head (heads base (later_in h.mode q))) o'

-- the sizes
pub record SizesOf (t : List ℕ) (h : Shape) (o o' : Page) : Type 0 where
  pub gives : (q : Program Plain) → Shaped t h q → Puts o (each (bytes 2) (sizes_in h.mode q)) o'

-- records and sizes
pub record MiddleOf (t : List ℕ) (h : Shape) (map offsets : List ℕ) (o o' : Page) : Type 0 where
  pub gives : (q : Program Plain) → Shaped t h q → (bounds : List ℕ) → Mapped q map bounds
      → Right h.mode q (0 + length (block (zeroth_in h.mode q).body)) offsets → Puts o (middle (middle_of (translate_in h.mode q))) o'

-- the bodies; where they begin at 0 and counting goes on, the offsets are right
pub record CodeOf (t : List ℕ) (h : Shape) (map bounds offsets : List ℕ) (o o' : Page) : Type 0 where
  pub gives : (q : Program Plain) → Shaped t h q → Mapped q map bounds → Puts o (bodies (translate_in h.mode q).procs) o'
  pub places : (q : Program Plain) → Shaped t h q → Mapped q map bounds → o.at ≡ 0 → o'.at < too_long
      → Right h.mode q (0 + length (block (zeroth_in h.mode q).body)) offsets

-- the trailer
pub record Trails (P M whole : ℕ) (o o' : Page) : Type 0 where
  pub gives : Puts o (trailer (record {
    kind = kind_mark sequential;
    mark = form_mark;
    procs = P;
    places = M;
    threads = 0;
    back = distance P M 0;
    whole = whole;
  })) o'

-- the whole table, on a page that begins with it
pub record WholeOf (t : List ℕ) (h : Shape) (map bounds : List ℕ) (o o' : Page) : Type 0 where
  pub gives : (q : Program Plain) → Shaped t h q → Mapped q map bounds → o.at ≡ 0 → Puts o (table sequential (translate_in h.mode q)) o'

-- and in a buffer
pub record TableOf (t : List ℕ) (h : Shape) (map bounds : List ℕ) (o o' : List ℕ) (r : ℕ) : Type 0 where
  pub gives : (q : Program Plain) → Shaped t h q → Mapped q map bounds → Put o 0 (table sequential (translate_in h.mode q)) o' r

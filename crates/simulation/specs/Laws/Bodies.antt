-- What the translator promises of the procedures that simulate the labels.
use Rattle.std.specs.Prelude.{ℕ, ◌+◌, ◌*◌, ◌≤◌, ◌<◌, ◌≡◌, List, length, get_or, take}
use Rattle.value.specs.Maybe.{is}
use Rattle.value.specs.Lists.{at}
use Rattle.value.proofs.Laws.Lists.{Each}
use Rattle.format.specs.Syntax.{Expr, Instr, assign, write, read, while, if, call, atomic, select, Block, end, step, Proc, Program, concurrent}
use Rattle.format.specs.Syntax as S
use Rattle.format.specs.Encode.{block, each, bodies_of}
use Rattle.format.specs.Labels.{first, counts}
use Rattle.labels.specs.LabelMap.{Node, Mapped, node_of}
use Rattle.format.proofs.Laws.Grammar.{InstrAt}
use Rattle.format.specs.Decode.{max_nesting}
use Rattle.format.specs.Rules.{limits, max_labels}
use Rattle.translation.specs.Layout.{Layout, layout_in, locals_of}
use Rattle.translation.specs.Code.{calls, code, returns}
use Rattle.translation.specs.Translate.{simulating, ends_of, begins, later_in}
use Rattle.basics.specs.Sizes.{too_long}
use Rattle.writer.specs.declared.page.Page.{Page}
use Rattle.writer.specs.Laws.Pages.{Puts, PutsBlock}
use Rattle.emit.specs.Laws.Sources.{Low, Sited, InPlaceI, InPlace}
use Rattle.emit.specs.Laws.Shapes.{Shaped}
use Rattle.translation.specs.declared.Mode.{Mode}
use Rattle.emit.specs.declared.layout.Shape.{Shape}
use Rattle.emit.specs.declared.layout.Site.{Site}

-- ---- one label

-- the instruction of a label, in a procedure of n locals of program q
abbrev pub OfLabel : Program S.Plain → ℕ → Instr ℕ → Type 0
OfLabel q n (assign x e) = InPlaceI n (assign x e)
OfLabel q n (write y o e) = InPlaceI n (write y o e)
OfLabel q n (read x y o) = InPlaceI n (read x y o)
OfLabel q n (while e b) = Low n e
OfLabel q n (if e b c) = Low n e
OfLabel q n (call m es) = (m < length q.procs) × Each (Low n) es
OfLabel q n (atomic b) = InPlace n b
OfLabel q n (select a b) = ⊥

-- the labels that the instruction a of label l leads to, where k follows it
abbrev pub Leads : ℕ → Instr ℕ → ℕ → ℕ → ℕ → Type 0
Leads l (assign x e) k next other = next ≡ k
Leads l (write y o e) k next other = next ≡ k
Leads l (read x y o) k next other = next ≡ k
Leads l (while e b) k next other = (next ≡ first l b) × (other ≡ k)
Leads l (if e b c) k next other = (next ≡ first k b) × (other ≡ first k c)
Leads l (call m es) k next other = next ≡ k
Leads l (atomic b) k next other = next ≡ k
Leads l (select a b) k next other = ⊥

-- where each procedure begins
pub record Begun (q : Program S.Plain) (bounds : List ℕ) : Type 0 where
  pub begins : (m : ℕ) → m < length q.procs → get_or bounds (2 * m) 0 ≡ begins q m

-- of procedure m
pub record BeginAt (bounds : List ℕ) (m r : ℕ) : Type 0 where
  pub gives : m < (limits concurrent).procs → r ≡ get_or bounds (2 * m) 0

-- a call
pub record CallsAt (t : List ℕ) (i : ℕ) (h : Shape) (bounds : List ℕ) (s : Site) (next : ℕ) (o o' : Page) : Type 0 where
  pub gives : (q : Program S.Plain) (m n f j : ℕ) (es : List Expr) → Shaped t h q → Begun q bounds → Sited (layout_in h.mode q) m n s
      → InstrAt {A = ℕ} t i max_nesting (call f es) j
      → f < length q.procs → Each (Low n) es → PutsBlock o (calls (layout_in h.mode q) m n f es (begins q f) next) o'

-- the code of what stands at i
pub record PutsNode (t : List ℕ) (i : ℕ) (h : Shape) (bounds : List ℕ) (s : Site) (next other : ℕ) (o o' : Page) : Type 0 where
  pub ends : (G : Layout) (m n : ℕ) → Sited G m n s → i < length t → get_or t i 0 ≡ 0 → PutsBlock o (returns G m n) o'
  pub gives : (q : Program S.Plain) (m n l k j : ℕ) (a : Instr ℕ) → Shaped t h q → Begun q bounds → Sited (layout_in h.mode q) m n s
      → InstrAt t i max_nesting a j → OfLabel q n a → Leads l a k next other → PutsBlock o (code (layout_in h.mode q) m n (begins q) l a k) o'

-- the code of a label, by the code that remains there: in procedure m of n locals, where end label k follows
abbrev pub label_code : Layout → (ℕ → ℕ) → ℕ → ℕ → ℕ → Block ℕ → Block S.Plain
label_code G begin m n k end = returns G m n
label_code G begin m n k (step l a c) = code G m n begin l a (first k c)

-- the procedure of a node, in a mode
abbrev pub simulated : Mode → Program S.Plain → Node → Proc S.Plain
simulated mode q d =
    let n : ℕ = locals_of (at q.procs d.proc) in
    simulating n (label_code (layout_in mode q) (begins q) d.proc n (ends_of q d.proc) d.code)

-- the body of label l's procedure
pub record PutsLabel (t : List ℕ) (h : Shape) (map bounds : List ℕ) (l : ℕ) (o o' : Page) : Type 0 where
  pub gives : (q : Program S.Plain) (d : Node) → Shaped t h q → Mapped q map bounds → node_of q l ≡ is d
      → PutsBlock o (simulated h.mode q d).body o'

-- ---- all labels

-- the bodies of procedures, as bytes
abbrev pub bodies : List (Proc S.Plain) → List ℕ
bodies ps = each block (bodies_of ps)

-- where a body begins is kept, if counting goes so far
pub record KeptAt (p r : ℕ) : Type 0 where
  pub gives : p ≤ too_long → r ≡ p

-- the first k bodies begin where the offsets say, from p on; said where counting goes so far
pub record Offsets (mode : Mode) (q : Program S.Plain) (p k : ℕ) (offsets : List ℕ) : Type 0 where
  pub at : (i : ℕ) → i < k → p + length (bodies (take i (later_in mode q))) ≤ too_long
      → get_or offsets i 0 ≡ p + length (bodies (take i (later_in mode q)))

-- the first k bodies are written
pub record Simulating (t : List ℕ) (h : Shape) (map bounds offsets : List ℕ) (k : ℕ) (o o' : Page) : Type 0 where
  pub done : (q : Program S.Plain) → Shaped t h q → Mapped q map bounds → Puts o (bodies (take k (later_in h.mode q))) o'
  pub places : (q : Program S.Plain) → Shaped t h q → Mapped q map bounds → Offsets h.mode q o.at k offsets
  pub long : length offsets ≡ max_labels

-- all of them
pub record PutsBodies (t : List ℕ) (h : Shape) (map bounds offsets : List ℕ) (o o' : Page) : Type 0 where
  pub gives : (q : Program S.Plain) → Shaped t h q → Mapped q map bounds → Puts o (bodies (later_in h.mode q)) o'
  pub places : (q : Program S.Plain) → Shaped t h q → Mapped q map bounds → Offsets h.mode q o.at (counts q.procs) offsets

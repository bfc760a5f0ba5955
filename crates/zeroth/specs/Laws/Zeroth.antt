-- What the translator promises of procedure 0.
use Rattle.std.specs.Prelude.{ℕ, ◌+◌, ◌-◌, ◌≡◌, List, [], ◌∷◌, true, false, drop}
use Rattle.value.specs.Maybe.{is}
use Rattle.value.specs.Values.{equal, and}
use Rattle.value.specs.Lists.{at}
use Rattle.value.specs.declared.Value.TheVariants.{Truth}
use Rattle.format.specs.Syntax.{constant, local, two, Instr, assign, write, read, if, call, select, Block, end, Program, Plain}
use Rattle.format.specs.Encode.{block}
use Rattle.format.specs.Labels.{counts}
use Rattle.translation.specs.Layout.{layout_in}
use Rattle.translation.specs.Code.{◌then◌, tmp, num, loc}
use Rattle.translation.specs.Translate.{stmt, terminated, for_each, switch, round, loop, interleavings, begins}
use Rattle.writer.specs.declared.page.Page.{Page}
use Rattle.writer.specs.Laws.Pages.{PutsBlock, Onto, Writes, PutsInstr}
use Rattle.emit.specs.Laws.Shapes.{Shaped, Hubbed}
use Rattle.simulation.specs.Laws.Bodies.{Begun}
use Rattle.translation.specs.declared.Mode.{Mode}
use Rattle.emit.specs.declared.layout.Shape.{Shape}
use Rattle.emit.specs.declared.layout.Hub.{Hub}
use Rattle.zeroth.specs.declared.procedure.Part.{Part}
use Rattle.zeroth.specs.declared.procedure.Part.TheVariants.{Beginning, From, Finished}

-- ---- threads

-- "terminated := terminated and (stmt = 0)"
abbrev pub judgment : Instr Plain
judgment = assign terminated (two and (local terminated) (two equal (local stmt) (num 0)))

-- what procedure 0 has for thread t, whose main is m, in a mode
abbrev pub piece_of : Part → Mode → Program Plain → ℕ → ℕ → Block Plain → Block Plain
piece_of Beginning mode q t m c = write tmp (num t) (num (begins q m)) then c
piece_of From mode q t m c = assign tmp (loc ((layout_in mode q).from m)) then write tmp (num t) (num 0) then c
piece_of Finished mode q t m c = read stmt tmp (num t) then judgment then c

-- "stmt := tmp[t], terminated := terminated and (stmt = 0)"
pub record Judged (k : ℕ) (o o' : Page) : Type 0 where
  pub gives : (mode : Mode) (q : Program Plain) (m : ℕ) → Writes o (piece_of Finished mode q k m) o'

-- a part of thread k
pub record OneThread (part : Part) (t : List ℕ) (h : Shape) (bounds : List ℕ) (k : ℕ) (o o' : Page) : Type 0 where
  pub gives : (q : Program Plain) (m : ℕ) → Shaped t h q → Begun q bounds → at q.mains k ≡ is m → Writes o (piece_of part h.mode q k m) o'

-- the threads from k on are left
pub record ThreadsLeft (part : Part) (t : List ℕ) (h : Shape) (bounds : List ℕ) (k : ℕ) (o o' : Page) : Type 0 where
  pub left : (q : Program Plain) → Shaped t h q → Begun q bounds → (c : Block Plain)
      → Onto o (block (for_each (piece_of part h.mode q) 0 q.mains c)) o' (block (for_each (piece_of part h.mode q) k (drop k q.mains) c))

-- that part of all threads
pub record AllThreads (part : Part) (t : List ℕ) (h : Shape) (bounds : List ℕ) (o o' : Page) : Type 0 where
  pub gives : (q : Program Plain) → Shaped t h q → Begun q bounds → Writes o (for_each (piece_of part h.mode q) 0 q.mains) o'

-- ---- labels

-- "call l with tid"
pub record Invokes (l : ℕ) (o o' : Page) : Type 0 where
  pub gives : PutsBlock o (call l (local 0 ∷ []) then end) o'

-- "if stmt = l, call l with tid, else nothing"
pub record Cases (l : ℕ) (o o' : Page) : Type 0 where
  pub gives : PutsInstr o (if (two equal (local stmt) (num l)) (call l (local 0 ∷ []) then end) end) o'

-- of n labels, those after the first k are left
pub record SwitchLeft (n k : ℕ) (o o' : Page) : Type 0 where
  pub left : (c : Block Plain) → Onto o (block (switch 1 n c)) o' (block (switch (k + 1) (n - k) c))

-- for each label
pub record Switches (n : ℕ) (o o' : Page) : Type 0 where
  pub gives : Writes o (switch 1 n) o'

-- ---- a round

-- "select(ptid, pct); tmp := ptid; tid := tmp[0]; tmp := pct; stmt := tmp[tid]"
pub record Chooses (u : Hub) (o o' : Page) : Type 0 where
  pub gives : Writes o (λ c. select u.ptid u.pct then assign tmp (loc u.ptid) then read 0 tmp (num 0) then assign tmp (loc u.pct)
      then read stmt tmp (local 0) then c) o'

-- the end of a round
pub record Closes (t : List ℕ) (h : Shape) (bounds : List ℕ) (u : Hub) (o o' : Page) : Type 0 where
  pub gives : (q : Program Plain) → Shaped t h q → Begun q bounds
      → PutsBlock o (assign terminated (constant (Truth true)) then assign tmp (loc u.pct)
      then for_each (piece_of Finished h.mode q) 0 q.mains end) o'

-- the round
pub record RoundOf (t : List ℕ) (h : Shape) (bounds : List ℕ) (u : Hub) (o o' : Page) : Type 0 where
  pub gives : (q : Program Plain) → Shaped t h q → Begun q bounds → Hubbed (layout_in h.mode q) u
      → PutsBlock o (round (layout_in h.mode q) q.mains (counts q.procs)) o'

-- the loop
pub record LoopOf (t : List ℕ) (h : Shape) (bounds : List ℕ) (u : Hub) (o o' : Page) : Type 0 where
  pub gives : (q : Program Plain) → Shaped t h q → Begun q bounds → Hubbed (layout_in h.mode q) u
      → PutsBlock o (assign terminated (constant (Truth false)) then loop (layout_in h.mode q) q.mains (counts q.procs)) o'

-- the start
pub record StartOf (t : List ℕ) (h : Shape) (bounds : List ℕ) (u : Hub) (o o' : Page) : Type 0 where
  pub gives : (q : Program Plain) → Shaped t h q → Begun q bounds → Hubbed (layout_in h.mode q) u
      → Writes o (λ c. assign tmp (loc (layout_in h.mode q).pct) then for_each (piece_of Beginning h.mode q) 0 q.mains
      (for_each (piece_of From h.mode q) 0 q.mains c)) o'

-- the body of procedure 0
pub record ZerothOf (t : List ℕ) (h : Shape) (bounds : List ℕ) (o o' : Page) : Type 0 where
  pub gives : (q : Program Plain) → Shaped t h q → Begun q bounds
      → PutsBlock o (interleavings (layout_in h.mode q) (begins q) q.mains (counts q.procs)) o'

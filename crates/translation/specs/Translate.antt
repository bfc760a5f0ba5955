-- The sequential program of a concurrent one: report RR-2017-03, sections 3.8 and 3.9, in document 01's reading.
use Rattle.std.specs.Prelude.{ℕ, zero, suc, List, [], ◌∷◌, ◌++◌, true, false}
use Rattle.value.specs.Values.{not, equal, and}
use Rattle.value.specs.declared.Value.TheVariants.{Truth}
use Rattle.format.specs.Syntax.{constant, local, one, two}
use Rattle.format.specs.Syntax.{Instr, assign, write, read, while, if, call, atomic, select, Block, end, step, Proc, Program, Plain}
use Rattle.format.specs.Labels.{first, labelled, counts}
pub use Rattle.format.specs.Labels.{body_of, begin_of, ends_of, begins}
use Rattle.translation.specs.declared.Mode.{Mode}
use Rattle.translation.specs.declared.Mode.TheVariants.{Own}
use Rattle.translation.specs.Layout.{Layout, layout_in, sizes_in}
use Rattle.translation.specs.Code.{◌then◌, tmp, moved, num, loc, code, returns}

-- ---- a procedure for each label, in label order

-- "it has parameter tid = 0, then tmp = 1, aux = 2, and local i as 3+i (all of the procedure's locals)"
abbrev pub simulating : ℕ → Block Plain → Proc Plain
simulating n b = record { params = 1; locals = moved n; body = b }

module _ (G : Layout) (begin : ℕ → ℕ) (m n : ℕ) where
  abbrev mutual
    -- those of the labels that an instruction holds, which has label l and is followed by label k: "After the last instruction of a while
    -- body comes the while; after the last of a branch, what follows the if"
    pub held_by : Instr ℕ → ℕ → ℕ → List (Proc Plain)
    held_by (assign x e) l k = []
    held_by (write y o e) l k = []
    held_by (read x y o) l k = []
    held_by (while e b) l k = each b l
    held_by (if e b d) l k = each b k ++ each d k
    held_by (call q es) l k = []
    held_by (atomic b) l k = []
    held_by (select a b) l k = []

    -- those of a block's labels, where k is the label that follows the block
    pub each : Block ℕ → ℕ → List (Proc Plain)
    each end k = []
    each (step l i b) k = simulating n (code G m n begin l i (first k b)) ∷ held_by i l (first k b) ++ each b k

-- "Procedure l simulates label l": those of procedure m and of all after it, each with its end label
abbrev pub simulations : Layout → (ℕ → ℕ) → (ℕ → ℕ) → ℕ → List (Proc ℕ) → List (Proc Plain)
simulations G begin ends m [] = []
simulations G begin ends m (p ∷ ps) =
    each G begin m p.locals p.body (ends m) ++ (simulating p.locals (returns G m p.locals) ∷ simulations G begin ends (suc m) ps)

-- ---- procedure 0

-- "locals tid, tmp, stmt, terminated"
abbrev pub stmt : ℕ
stmt = 2

-- the fourth
abbrev pub terminated : ℕ
terminated = 3

-- for each thread, with its main, from thread t on
abbrev pub for_each : (ℕ → ℕ → Block Plain → Block Plain) → ℕ → List ℕ → Block Plain → Block Plain
for_each f t [] c = c
for_each f t (m ∷ ms) c = f t m (for_each f (suc t) ms c)

-- if stmt = l, call l with tid: for k labels from l on
abbrev pub switch : ℕ → ℕ → Block Plain → Block Plain
switch l zero c = c
switch l (suc k) c = if (two equal (local stmt) (num l)) (call l (local 0 ∷ []) then end) end then switch (suc l) k c

-- "select(ptid, pct); tmp := ptid; tid := tmp[0]; tmp := pct; stmt := tmp[tid]; .. terminated := terminated and (stmt = 0)": figure 12
abbrev pub round : Layout → List ℕ → ℕ → Block Plain
round G mains L =
    select G.ptid G.pct then
    assign tmp (loc G.ptid) then
    read 0 tmp (num 0) then
    assign tmp (loc G.pct) then
    read stmt tmp (local 0) then
    switch 1 L
    (assign terminated (constant (Truth true)) then
    assign tmp (loc G.pct) then
    for_each (λ t m c. read stmt tmp (num t) then assign terminated (two and (local terminated) (two equal (local stmt) (num 0))) then c) 0 mains end)

-- "while not terminated"
abbrev pub loop : Layout → List ℕ → ℕ → Block Plain
loop G mains L = while (one not (local terminated)) (round G mains L) then end

-- "Procedure 0 .. runs: tmp := pct; for each t, tmp[t] := beginning of its main; ..": figure 12
abbrev pub interleavings : Layout → (ℕ → ℕ) → List ℕ → ℕ → Block Plain
interleavings G begin mains L =
    assign tmp (loc G.pct) then
    for_each (λ t m c. write tmp (num t) (num (begin m)) then c) 0 mains
    (for_each (λ t m c. assign tmp (loc (G.from m)) then write tmp (num t) (num 0) then c) 0 mains
    (assign terminated (constant (Truth false)) then
    loop G mains L))

-- the copy in layout G
module _ {A : Type 0} (G : Layout) (q : Program A) where
  -- procedure 0
  abbrev pub zeroth_by : Proc Plain
  zeroth_by = record { params = 0; locals = 4; body = interleavings G (begins q) q.mains (counts q.procs) }

  -- those after it
  abbrev pub later_by : List (Proc Plain)
  later_by = simulations G (begins q) (ends_of q) 0 (labelled q).procs

-- all of it, with locations of sizes Z: "Sequential tables have T = 0"
abbrev pub translate_by : {A : Type 0} → Layout → List ℕ → Program A → Program Plain
translate_by G Z q = record { procs = zeroth_by G q ∷ later_by G q; sizes = Z; mains = [] }

-- the copy in a mode
module _ {A : Type 0} (mode : Mode) (q : Program A) where
  -- procedure 0
  abbrev pub zeroth_in : Proc Plain
  zeroth_in = zeroth_by (layout_in mode q) q

  -- those after it
  abbrev pub later_in : List (Proc Plain)
  later_in = later_by (layout_in mode q) q

  -- all of it
  abbrev pub translate_in : Program Plain
  translate_in = translate_by (layout_in mode q) (sizes_in mode q) q

-- in the old mode
module _ {A : Type 0} (q : Program A) where
  -- procedure 0
  abbrev pub zeroth : Proc Plain
  zeroth = zeroth_in Own q

  -- those after it
  abbrev pub later : List (Proc Plain)
  later = later_in Own q

  -- all of it
  abbrev pub translate : Program Plain
  translate = translate_in Own q

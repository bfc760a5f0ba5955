-- The code of one label: report RR-2017-03, figures 3 to 11, in document 01's reading ("The translation", the table).
use Rattle.std.specs.Prelude.{ℕ, suc, List, [], ◌∷◌, pos}
use Rattle.value.specs.declared.Value.TheVariants.{Whole, Location}
use Rattle.format.specs.Syntax.{Expr, constant, local, one, two, Instr, assign, write, read, while, if, call, atomic, select, Block, end, step, Plain}
use Rattle.format.specs.Labels.{first}
pub use Rattle.format.specs.Variables.{mentioned, mentions, keep, variables}
use Rattle.translation.specs.Layout.{Layout}

-- an instruction, then a block
infixr 55 ◌then◌
abbrev pub ◌then◌ : Instr Plain → Block Plain → Block Plain
i then b = step tt i b

-- a whole number
abbrev pub num : ℕ → Expr
num n = constant (Whole (pos n))

-- a location
abbrev pub loc : ℕ → Expr
loc l = constant (Location l)

-- ---- variables

-- "it has parameter tid = 0"
abbrev pub tid : ℕ
tid = 0

-- "then tmp = 1"
abbrev pub tmp : ℕ
tmp = 1

-- "aux = 2"
abbrev pub aux : ℕ
aux = 2

-- "local i as 3+i"
abbrev pub moved : ℕ → ℕ
moved x = suc (suc (suc x))

-- an expression over the moved locals
abbrev pub shift : Expr → Expr
shift (constant v) = constant v
shift (local x) = local (moved x)
shift (one o a) = one o (shift a)
shift (two o a b) = two o (shift a) (shift b)

-- ---- code, in procedure m of n locals; each piece is put before what follows it, c

module _ (G : Layout) (m n : ℕ) where
  -- tmp := location; tmp[tid] := e
  abbrev pub put : ℕ → Expr → Block Plain → Block Plain
  put l e c = assign tmp (loc l) then write tmp (local tid) e then c

  -- "pc" is tmp := pct; tmp[tid] := label
  abbrev pub pc : ℕ → Block Plain
  pc l = put G.pct (num l) end

  -- "To load x: tmp := location of x; x := tmp[tid]"
  abbrev pub load : ℕ → Block Plain → Block Plain
  load x c = assign tmp (loc (G.home m x)) then read (moved x) tmp (local tid) then c

  -- several
  abbrev pub load_all : List ℕ → Block Plain → Block Plain
  load_all [] c = c
  load_all (x ∷ xs) c = load x (load_all xs c)

  -- the distinct variables of es, rising
  abbrev pub loads : List Expr → Block Plain → Block Plain
  loads es c = load_all (variables 0 n es) c

  -- "store x as above": e into the home of x
  abbrev pub keep_in : ℕ → Expr → Block Plain → Block Plain
  keep_in x e c = put (G.home m x) e c

  -- assign: figure 3
  abbrev pub assigns : ℕ → Expr → Block Plain → Block Plain
  assigns x e c = loads (e ∷ []) (keep_in x (shift e) c)

  -- read: figure 4
  abbrev pub reads : ℕ → ℕ → Expr → Block Plain → Block Plain
  reads x p o c = loads (o ∷ []) (load p (read (moved x) (moved p) (shift o) then keep_in x (local (moved x)) c))

  -- write: figure 5
  abbrev pub writes : ℕ → Expr → Expr → Block Plain → Block Plain
  writes p o e c = loads (e ∷ []) (loads (o ∷ []) (load p (write (moved p) (shift o) (shift e) then c)))

  -- "one tmp[tid] := label"
  abbrev pub goto : ℕ → Block Plain
  goto l = write tmp (local tid) (num l) then end

  -- if, while: figures 6 and 7
  abbrev pub tests : Expr → ℕ → ℕ → Block Plain
  tests e l k = loads (e ∷ []) (assign tmp (loc G.pct) then if (shift e) (goto l) (goto k) then end)

  -- arguments, from parameter i of procedure q on
  abbrev pub passes : ℕ → ℕ → List Expr → Block Plain → Block Plain
  passes q i [] c = c
  passes q i (e ∷ es) c = put (G.home q i) (shift e) (passes q (suc i) es c)

  -- call: figure 8
  abbrev pub calls : ℕ → List Expr → ℕ → ℕ → Block Plain
  calls q es begin k = loads es (passes q 0 es (put (G.from q) (num k) (pc begin)))

  -- end label: figure 9
  abbrev pub returns : Block Plain
  returns = assign tmp (loc (G.from m)) then read aux tmp (local tid) then assign tmp (loc G.pct) then write tmp (local tid) (local aux) then end

  -- inside an atomic block: instructions in place, then c
  abbrev mutual
    pub inside_i : {A : Type 0} → Instr A → Block Plain → Block Plain
    inside_i (assign x e) c = assigns x e c
    inside_i (write y o e) c = writes y o e c
    inside_i (read x y o) c = reads x y o c
    inside_i (while e b) c = c
    inside_i (if e b d) c = loads (e ∷ []) (if (shift e) (inside b end) (inside d end) then c)
    inside_i (call q es) c = c
    inside_i (atomic b) c = c
    inside_i (select a b) c = c

    -- of a block: figure 10
    pub inside : {A : Type 0} → Block A → Block Plain → Block Plain
    inside end c = c
    inside (step a i b) c = inside_i i (inside b c)

  -- the code of label l: its instruction, the label k that follows it, and where each procedure begins
  abbrev pub code : (ℕ → ℕ) → ℕ → Instr ℕ → ℕ → Block Plain
  code begin l (assign x e) k = assigns x e (pc k)
  code begin l (write y o e) k = writes y o e (pc k)
  code begin l (read x y o) k = reads x y o (pc k)
  code begin l (while e b) k = tests e (first l b) k
  code begin l (if e b d) k = tests e (first k b) (first k d)
  code begin l (call q es) k = calls q es (begin q) k
  code begin l (atomic b) k = inside b (pc k)
  code begin l (select a b) k = end

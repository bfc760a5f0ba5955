-- The table of a sound program is a list of bytes.
use Rattle.std.specs.Prelude.{ℕ, ◌<◌, List, [], ◌∷◌, ◌++◌, true, false, length}
use Rattle.std.proofs.Common.{arith}
use Rattle.value.specs.Values.{One, not, neg, Two, add, sub, mul, less, equal, and, bytes, word}
use Rattle.value.specs.declared.Value.TheVariants.{Whole, Location, Truth}
use Rattle.value.proofs.Laws.Lists.{Each, each_append}
use Rattle.format.specs.Syntax.{Expr, constant, local, one, two}
use Rattle.format.specs.Syntax.{Instr, assign, write, read, while, if, call, atomic, select, Block, end, step, Program}
use Rattle.format.specs.Syntax.{Plain, Kind}
use Rattle.value.specs.Marks.{mark₁, mark₂}
use Rattle.format.specs.Encode.{each, bodies_of, middle_of, trailer_of, front, table}
use Rattle.format.specs.Encode as E
use Rattle.value.proofs.Laws.Bytes.{Bytes, bytes_bytes}
use Rattle.format.proofs.Laws.Fits.{NumbersFit, ExprFits, Says, SaysI, BlockFits}
use Rattle.format.proofs.Laws.Sections.{HeadFits, TrailerFits}
use Rattle.format.proofs.Laws.Sound.{Sound}
use Rattle.format.proofs.Laws.Passes.{formed_trailer, formed_records}
use Rattle.format.proofs.Laws.Accepted.{bodies_fit, sound_formed}
use Rattle.format.specs.Decode.{max_depth, max_nesting}

-- bytes, and then bytes
bytes_append : (xs ys : List ℕ) → Bytes xs → Bytes ys → Bytes (xs ++ ys)
bytes_append xs ys = each_append (λ b. b < 256) xs ys

-- things whose bytes are bytes
bytes_each : {A : Type 0} (item : A → List ℕ) (P : A → Type 0) → ((a : A) → P a → Bytes (item a)) → (xs : List A) → Each P xs → Bytes (each item xs)
bytes_each item P f [] h = tt
bytes_each item P f (x ∷ xs) h = bytes_append (item x) (each item xs) (f x h.0) (bytes_each item P f xs h.1)

-- marks are bytes
mark₁_byte : (o : One) → mark₁ o < 256
mark₁_byte not = omega arith
mark₁_byte neg = omega arith

-- a mark is a byte
mark₂_byte : (o : Two) → mark₂ o < 256
mark₂_byte add = omega arith
mark₂_byte sub = omega arith
mark₂_byte mul = omega arith
mark₂_byte less = omega arith
mark₂_byte equal = omega arith
mark₂_byte and = omega arith

-- ---- expressions, instructions and blocks

-- of an expression whose numbers fit
expr_bytes : (e : Expr) → NumbersFit e → Bytes (E.expr e)
expr_bytes (constant (Whole z)) h = (omega arith, bytes_bytes 4 (word z))
expr_bytes (constant (Location l)) h = (omega arith, bytes_bytes 2 l)
expr_bytes (constant (Truth true)) h = (omega arith, tt)
expr_bytes (constant (Truth false)) h = (omega arith, tt)
expr_bytes (local x) h = (omega arith, (h, tt))
expr_bytes (one o a) h = (mark₁_byte o, expr_bytes a h)
expr_bytes (two o a b) h = (mark₂_byte o, bytes_append (E.expr a) (E.expr b) (expr_bytes a h.0) (expr_bytes b h.1))

mutual
  -- so are those of an instruction
  instr_bytes : (i : Instr Plain) → SaysI i → Bytes (E.instr i)
  instr_bytes (assign x e) h = (omega arith, (h.0, expr_bytes e h.1.1))
  instr_bytes (write y o e) h = (omega arith, (h.0, bytes_append (E.expr o) (E.expr e) (expr_bytes o h.1.1) (expr_bytes e h.2.1)))
  instr_bytes (read x y o) h = (omega arith, (h.0, (h.1, expr_bytes o h.2.1)))
  instr_bytes (while e b) h = (omega arith, bytes_append (E.expr e) (E.block b) (expr_bytes e h.0.1) (block_bytes b h.1))
  instr_bytes (if e b c) h = (
    omega arith,
    bytes_append (E.expr e) (E.block b ++ E.block c) (expr_bytes e h.0.1)
        (bytes_append (E.block b) (E.block c) (block_bytes b h.1) (block_bytes c h.2)),
  )
  instr_bytes (call m es) h = (
    omega arith,
    bytes_append (bytes 2 m) (length es ∷ each E.expr es) (bytes_bytes 2 m)
        (h.1, bytes_each E.expr (ExprFits max_depth) (λ e f. expr_bytes e f.1) es h.2),
  )
  instr_bytes (atomic b) h = (omega arith, block_bytes b h)
  instr_bytes (select a b) h = (omega arith, bytes_append (bytes 2 a) (bytes 2 b) (bytes_bytes 2 a) (bytes_bytes 2 b))

  -- and of a block
  block_bytes : (b : Block Plain) → Says b → Bytes (E.block b)
  block_bytes end h = (omega arith, tt)
  block_bytes (step a i b) h = bytes_append (E.instr i) (E.block b) (instr_bytes i h.0) (block_bytes b h.1)

-- ---- the table

-- numbers of 2 bytes
numbers_bytes : (ns : List ℕ) → Bytes (each (bytes 2) ns)
numbers_bytes [] = tt
numbers_bytes (n ∷ ns) = bytes_append (bytes 2 n) (each (bytes 2) ns) (bytes_bytes 2 n) (numbers_bytes ns)

-- a sound program's table is bytes
pub table_bytes : (k : Kind) (p : Program Plain) → Sound k p → Bytes (table k p)
table_bytes k p sound =
    let fits : TrailerFits (trailer_of k p) = (formed_trailer k (table k p) p (sound_formed k p sound)).fits in
    bytes_append (front p) (E.trailer (trailer_of k p))
    (bytes_append (each E.block (bodies_of p.procs)) (E.middle (middle_of p))
    (bytes_each E.block (BlockFits max_nesting) (λ b f. block_bytes b f.1) (bodies_of p.procs) (bodies_fit k p sound))
    (bytes_append (each E.head (middle_of p).heads) (each (bytes 2) p.sizes ++ each (bytes 2) p.mains)
    (bytes_each E.head HeadFits (λ h f. (f.0, (f.1, bytes_bytes 4 h.at))) (middle_of p).heads
    (formed_records k (table k p) p (sound_formed k p sound)).fits.heads.1)
    (bytes_append (each (bytes 2) p.sizes) (each (bytes 2) p.mains) (numbers_bytes p.sizes) (numbers_bytes p.mains))))
    (fits.kind, (fits.mark, omega arith))

-- What instruction's and what block's text stands at a position, by the bytes there.
use Rattle.std.specs.Prelude.{ℕ, suc, ◌+◌, ◌*◌, ◌-◌, ◌^◌, ◌≤◌, ◌<◌, ◌≡◌, refl, List, ◌∷◌, ◌++◌, Bool, true, false, length, get_or, eqb}
use Rattle.std.proofs.Common.{arith}
use Rattle.std.proofs.lemmas.List.{length-replicate}
use Rattle.value.specs.Maybe.{pick, both, either}
use Rattle.format.specs.Syntax.{Expr, Instr, assign, write, read, while, if, call, atomic, select, Block, end, step}
use Rattle.format.specs.Decode.{max_depth}
use Rattle.format.proofs.Laws.Fits.{InstrFits, BlockFits}
use Rattle.format.proofs.Laws.Stands.{Stands, first, others, front, back}
use Rattle.ctext.specs.Pieces.{say, decimal}
use Rattle.ctext.specs.Text.{expr, listed, ind, instr, block}
use Rattle.ctext.proofs.Laws.Numbers.{Digit}
use Rattle.ctext.proofs.Laws.ExprText.{behind, byte_in, ExprText}
use Rattle.ctext.proofs.Laws.ArgText.{NumberText, take_number, take_expr, ArgsText}

-- no atomic block: a sequential program has none
abbrev mutual
  pub FlatI : {A : Type 0} → Instr A → Type 0
  FlatI (assign x e) = Unit {0}
  FlatI (write y o e) = Unit {0}
  FlatI (read x y o) = Unit {0}
  FlatI (while e b) = Flat b
  FlatI (if e b c) = Flat b × Flat c
  FlatI (call m es) = Unit {0}
  FlatI (atomic b) = ⊥
  FlatI (select a b) = Unit {0}

  -- in a block
  pub Flat : {A : Type 0} → Block A → Type 0
  Flat end = Unit {0}
  Flat (step a i b) = FlatI i × Flat b

-- ---- what stands there

-- does a block whose lines have w spaces end here: by a brace that stands two spaces before them, or by z_return
unfoldable pub ended : List ℕ → ℕ → ℕ → Bool
ended x i w = either (eqb (get_or x (i + w - 2) 0) 125) (both (eqb (get_or x (i + w) 0) 122) (eqb (get_or x (i + w + 2) 0) 114))

-- the text of a block at depth d, with at most c blocks one in the other; its end follows
pub record BlockText {A : Type 0} (x : List ℕ) (i c d : ℕ) (b : Block A) (j : ℕ) : Type 0 where
  pub stands : Stands x i (block d b) j
  pub fits : BlockFits c b
  pub flat : Flat b
  pub shown : 1 ≤ d
  pub ends : ended x j (2 * d) ≡ true

-- of an instruction, behind its spaces
pub record InstrText {A : Type 0} (x : List ℕ) (i c d : ℕ) (s : Instr A) (j : ℕ) : Type 0 where
  pub stands : Stands x i (instr d s) j
  pub fits : InstrFits c s
  pub flat : FlatI s
  pub shown : 1 ≤ d

-- what a line begins
pub data Line : Type 0 where
  target_line write_line while_line if_line call_line select_line : Line

-- by its first and its third byte
abbrev pub line_of : ℕ → ℕ → Line
line_of a b =
    pick (eqb a 120) target_line
    (pick (eqb a 119) while_line
    (pick (eqb a 105) if_line
    (pick (eqb b 119) write_line
    (pick (eqb b 99) call_line select_line))))

module _ {A : Type 0} (x : List ℕ) (i c d : ℕ) (s : Instr A) (j : ℕ) where
  -- x<v> = z_set(
  pub record AssignIn (v k : ℕ) : Type 0 where
    pub e : Expr
    pub is : s ≡ assign v e
    pub l : ℕ
    pub source : ExprText x (k + 9) max_depth 3 e l
    pub ends : j ≡ l + 3

  -- x<v> = z_read(here, x<y>,
  pub record ReadIn (v k : ℕ) : Type 0 where
    pub y : ℕ
    pub o : Expr
    pub is : s ≡ read v y o
    pub l : ℕ
    pub m : ℕ
    pub pointer : NumberText x (k + 17) y l
    pub small : y < 2 ^ 8
    pub offset : ExprText x (l + 2) max_depth 3 o m
    pub ends : j ≡ m + 3

  -- by the byte that tells them apart
  abbrev pub ByTarget : ℕ → ℕ → Bool → Type 0
  ByTarget v k true = AssignIn v k
  ByTarget v k false = ReadIn v k

  -- x<v> = z_
  pub record TargetIn : Type 0 where
    pub v : ℕ
    pub k : ℕ
    pub target : NumberText x (i + 1) v k
    pub small : v < 2 ^ 8
    pub then : ByTarget v k (eqb (get_or x (k + 5) 0) 115)

  -- z_write(here, x<y>,
  pub record WriteIn : Type 0 where
    pub y : ℕ
    pub o : Expr
    pub e : Expr
    pub is : s ≡ write y o e
    pub k : ℕ
    pub l : ℕ
    pub m : ℕ
    pub pointer : NumberText x (i + 15) y k
    pub small : y < 2 ^ 8
    pub offset : ExprText x (k + 2) max_depth 3 o l
    pub source : ExprText x (l + 2) max_depth 3 e m
    pub ends : j ≡ m + 3

  -- while (z_test(
  pub record WhileIn : Type 0 where
    pub e : Expr
    pub b : Block A
    pub is : s ≡ while e b
    pub k : ℕ
    pub l : ℕ
    pub test : ExprText x (i + 14) max_depth 3 e k
    pub body : BlockText x (k + 5) c (suc d) b l
    pub ends : j ≡ l + 2 * d + 2

  -- if (z_test(
  pub record IfIn : Type 0 where
    pub e : Expr
    pub b : Block A
    pub f : Block A
    pub is : s ≡ if e b f
    pub k : ℕ
    pub l : ℕ
    pub m : ℕ
    pub test : ExprText x (i + 11) max_depth 3 e k
    pub first : BlockText x (k + 5) c (suc d) b l
    pub second : BlockText x (l + 2 * d + 9) c (suc d) f m
    pub ends : j ≡ m + 2 * d + 2

  -- z_call(); p<m>(
  pub record CallIn : Type 0 where
    pub m : ℕ
    pub es : List Expr
    pub is : s ≡ call m es
    pub k : ℕ
    pub l : ℕ
    pub callee : NumberText x (i + 11) m k
    pub count : length es < 2 ^ 8
    pub args : ArgsText x (k + 1) es l
    pub ends : j ≡ l + 3

  -- z_select(
  pub record SelectIn : Type 0 where
    pub a : ℕ
    pub b : ℕ
    pub is : s ≡ select a b
    pub k : ℕ
    pub l : ℕ
    pub first : NumberText x (i + 9) a k
    pub second : NumberText x (k + 2) b l
    pub ends : j ≡ l + 3

  -- by what the line begins
  abbrev pub ByLine : Line → Type 0
  ByLine target_line = TargetIn
  ByLine write_line = WriteIn
  ByLine while_line = WhileIn
  ByLine if_line = IfIn
  ByLine call_line = CallIn
  ByLine select_line = SelectIn

-- ---- it is that of the bytes there

-- a byte that is no digit: below them or behind them
low : {c : ℕ} → c < 48 → Digit c → ⊥
low l d = omega (arith, l, d.least)

-- the bytes that tell what a line begins
line_tells : {x : List ℕ} {i : ℕ} {bs : List ℕ} {j : ℕ} → Stands x i bs j → 3 ≤ length bs
    → line_of (get_or x i 0) (get_or x (i + 2) 0) ≡ line_of (get_or bs 0 0) (get_or bs 2 0)
line_tells {x} {i} s l =
    let none : i + 0 ≡ i = omega arith in
    let a : get_or x i 0 ≡ _ = rw none at (byte_in 0 s (omega arith)) in
    rw (a, byte_in 2 s (omega arith))

-- behind a block at depth d + 1 stands its brace
take_block : {A : Type 0} {x : List ℕ} {i : ℕ} (d : ℕ) (b : Block A) (c : ℕ) {r : List ℕ} {j : ℕ}
    → Stands x i (block (suc d) b ++ (ind d ++ (125 ∷ r))) j → BlockFits c b → Flat b
    → BlockText x i c (suc d) b (i + length (block (suc d) b)) × Stands x (i + length (block (suc d) b) + 2 * d) (125 ∷ r) j
unfolding ended
take_block {x = x} {i} d b c {r} {j} s f g =
    let l : ℕ = i + length (block (suc d) b) in
    let brace : Stands x (l + 2 * d) (125 ∷ r) j =
    behind (ind d) (125 ∷ r) (2 * d) (length-replicate (2 * d) 32) (back (block (suc d) b) (ind d ++ (125 ∷ r)) s)
    in
    let place : l + 2 * suc d - 2 ≡ l + 2 * d = omega arith in (
      record {
        stands = front (block (suc d) b) (ind d ++ (125 ∷ r)) s;
        fits = f;
        flat = g;
        shown = omega arith;
        ends = rw (place, first brace);
      },
      brace,
    )

-- the instruction whose text stands there is that of the bytes there
pub by_line : {A : Type 0} {x : List ℕ} {i c d : ℕ} (s : Instr A) {j : ℕ} → InstrText x i c d s j
    → ByLine x i c d s j (line_of (get_or x i 0) (get_or x (i + 2) 0))
unfolding say
by_line {x = x} {i} (assign v e) {j} h =
    let number = take_number v (others h.stands) (omega (arith, h.fits.1.0)) (low (omega arith)) in
    let k : ℕ = i + 1 + length (decimal v) in
    let source = take_expr e (behind (say " = z_set(") (expr e ++ say ");\n") 9 refl number.1) h.fits.1.1 (low (omega arith)) in
    let which : get_or x (k + 5) 0 ≡ 115 = byte_in 5 number.1 (omega arith) in
    rw (first h.stands)
    (record {
      v = v;
      k = k;
      target = number.0;
      small = h.fits.1.0;
      then = rw which (record { e = e; is = refl; l = _; source = source.0; ends = source.1.ends });
    })
by_line {x = x} {i} (write y o e) {j} h =
    let rest : List ℕ = say ", " ++ (expr e ++ say ");\n") in
    let number =
    take_number y (behind (say "z_write(here, x") (decimal y ++ (say ", " ++ (expr o ++ rest))) 15 refl h.stands) (omega (arith, h.fits.1.0))
    (low (omega arith))
    in
    let offset = take_expr o (behind (say ", ") (expr o ++ rest) 2 refl number.1) h.fits.1.1 (low (omega arith)) in
    let source = take_expr e (behind (say ", ") (expr e ++ say ");\n") 2 refl offset.1) h.fits.1.2 (low (omega arith)) in
    rw (line_tells h.stands (omega arith))
    (record {
      y = y;
      o = o;
      e = e;
      is = refl;
      k = _;
      l = _;
      m = _;
      pointer = number.0;
      small = h.fits.1.0;
      offset = offset.0;
      source = source.0;
      ends = source.1.ends;
    })
by_line {x = x} {i} (read v y o) {j} h =
    let number = take_number v (others h.stands) (omega (arith, h.fits.1.0)) (low (omega arith)) in
    let k : ℕ = i + 1 + length (decimal v) in
    let pointer =
    take_number y (behind (say " = z_read(here, x") (decimal y ++ (say ", " ++ (expr o ++ say ");\n"))) 17 refl number.1) (omega (arith, h.fits.1.1))
    (low (omega arith))
    in
    let offset = take_expr o (behind (say ", ") (expr o ++ say ");\n") 2 refl pointer.1) h.fits.1.2 (low (omega arith)) in
    let which : get_or x (k + 5) 0 ≡ 114 = byte_in 5 number.1 (omega arith) in
    rw (first h.stands)
    (record {
      v = v;
      k = k;
      target = number.0;
      small = h.fits.1.0;
      then =
          rw which
          (record {
            y = y;
            o = o;
            is = refl;
            l = _;
            m = _;
            pointer = pointer.0;
            small = h.fits.1.1;
            offset = offset.0;
            ends = offset.1.ends;
          });
    })
by_line {A} {x} {i} {c} {d} (while e b) {j} h =
    let test =
    take_expr e (behind (say "while (z_test(") (expr e ++ (say ")) {\n" ++ (block (suc d) b ++ (ind d ++ say "}\n")))) 14 refl h.stands) h.fits.1.0
    (low (omega arith))
    in
    let k : ℕ = i + 14 + length (expr e) in
    let inner : Stands x (k + 5) (block (suc d) b ++ (ind d ++ say "}\n")) j =
    behind (say ")) {\n") (block (suc d) b ++ (ind d ++ say "}\n")) 5 refl test.1
    in
    let body = take_block d b c inner (h.fits.0, h.fits.1.1) h.flat in
    rw (first h.stands)
    (record { e = e; b = b; is = refl; k = k; l = _; test = test.0; body = body.0; ends = body.1.ends })
by_line {A} {x} {i} {c} {d} (if e b f) {j} h =
    let last : List ℕ = block (suc d) f ++ (ind d ++ say "}\n") in
    let test =
    take_expr e (behind (say "if (z_test(") (expr e ++ (say ")) {\n" ++ (block (suc d) b ++ (ind d ++ (say "} else {\n" ++ last))))) 11 refl h.stands)
    h.fits.1.0
    (low (omega arith))
    in
    let k : ℕ = i + 11 + length (expr e) in
    let inner : Stands x (k + 5) (block (suc d) b ++ (ind d ++ (say "} else {\n" ++ last))) j =
    behind (say ")) {\n") (block (suc d) b ++ (ind d ++ (say "} else {\n" ++ last))) 5 refl test.1
    in
    let one = take_block d b c inner (omega (arith, h.fits.0), h.fits.1.1) h.flat.0 in
    let l : ℕ = k + 5 + length (block (suc d) b) in
    let other : Stands x (l + 2 * d + 9) last j = behind (say "} else {\n") last 9 refl one.1 in
    let two = take_block d f c other (omega (arith, h.fits.0), h.fits.1.2) h.flat.1 in
    rw (first h.stands)
    (record {
      e = e;
      b = b;
      f = f;
      is = refl;
      k = k;
      l = l;
      m = _;
      test = test.0;
      first = one.0;
      second = two.0;
      ends = two.1.ends;
    })
by_line {x = x} {i} (call m es) {j} h =
    let number =
    take_number m (behind (say "z_call(); p") (decimal m ++ (say "(" ++ (listed (say ",\n") expr es ++ say ");\n"))) 11 refl h.stands) h.fits.1.0
    (low (omega arith))
    in
    let k : ℕ = i + 11 + length (decimal m) in
    let inner : Stands x (k + 1) (listed (say ",\n") expr es ++ say ");\n") j =
    behind (say "(") (listed (say ",\n") expr es ++ say ");\n") 1 refl number.1
    in
    let after = back (listed (say ",\n") expr es) (say ");\n") inner in
    rw (line_tells h.stands (omega arith))
    (record {
      m = m;
      es = es;
      is = refl;
      k = k;
      l = _;
      callee = number.0;
      count = h.fits.1.1;
      args = record { stands = front (listed (say ",\n") expr es) (say ");\n") inner; close = first after; fits = h.fits.1.2 };
      ends = after.ends;
    })
by_line (atomic b) h = absurd h.flat
by_line {x = x} {i} (select a b) {j} h =
    let one =
    take_number a (behind (say "z_select(") (decimal a ++ (say ", " ++ (decimal b ++ say ");\n"))) 9 refl h.stands) h.fits.1.0 (low (omega arith))
    in
    let two = take_number b (behind (say ", ") (decimal b ++ say ");\n") 2 refl one.1) h.fits.1.1 (low (omega arith)) in
    rw (line_tells h.stands (omega arith))
    (record { a = a; b = b; is = refl; k = _; l = _; first = one.0; second = two.0; ends = two.1.ends })

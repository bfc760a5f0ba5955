-- What instruction and what block stand at a position of a table, by the byte there.
use Rattle.std.specs.Prelude.{ℕ, suc, ◌+◌, ◌-◌, ◌≤◌, ◌<◌, ◌≡◌, refl, List, ◌∷◌, ◌++◌, length, get_or, take, drop}
use Rattle.std.proofs.Common.{arith, sym, ap, ap₂, subst, length-append}
use Rattle.value.specs.Values.{bytes, unbytes}
use Rattle.format.specs.Syntax.{Expr, Instr, assign, write, read, while, if, call, atomic, select, Block, end, step}
use Rattle.format.specs.Encode.{each}
use Rattle.format.specs.Encode as E
use Rattle.format.specs.Decode.{Form, assign_form, write_form, read_form, while_form, if_form, call_form, atomic_form, select_form, no_form, forms}
use Rattle.format.specs.Decode.{max_depth}
use Rattle.format.proofs.Laws.Fits.{InstrFits, BlockFits}
use Rattle.format.proofs.Laws.Blocks.{begins, nesting_pos}
use Rattle.format.proofs.Laws.Stands.{Stands, inside, first, others, front, back, number_at_lem}
-- and the expressions in them
pub use Rattle.format.proofs.Laws.ExprGrammar.{ExprAt, ExprsAt, OneAt, TwoAt, MoreAt, expr_long, expr_inside, expr_deep}
pub use Rattle.format.proofs.Laws.ExprGrammar.{whole_here, location_here, no_here, yes_here, local_here, one_here, two_here, none_here}
pub use Rattle.format.proofs.Laws.ExprGrammar.{exprs_none_lem, exprs_more}

-- ---- what stands there

-- an instruction whose blocks are at most d deep
pub record InstrAt {A : Type 0} (t : List ℕ) (i d : ℕ) (s : Instr A) (j : ℕ) : Type 0 where
  pub stands : Stands t i (E.instr s) j
  pub fits : InstrFits d s

-- a block at most d deep
pub record BlockAt {A : Type 0} (t : List ℕ) (i d : ℕ) (b : Block A) (j : ℕ) : Type 0 where
  pub stands : Stands t i (E.block b) j
  pub fits : BlockFits d b

-- the same position, written in another way
shift : {t : List ℕ} {i k : ℕ} {bs : List ℕ} {j : ℕ} → Stands t i bs j → i ≡ k → Stands t k bs j
shift {t} {bs = bs} {j} s e = subst (λ i. Stands t i bs j) e s

-- an instruction has a byte
pub instr_long : {A : Type 0} (s : Instr A) → 1 ≤ length (E.instr s)
instr_long s = let start : (m : ℕ) × (ops : List ℕ) × (E.instr s ≡ suc m ∷ ops) = begins s in rw start.2 (omega arith)

-- and a block
pub block_long : {A : Type 0} (b : Block A) → 1 ≤ length (E.block b)
block_long end = omega arith
block_long (step a s b) = omega (arith, length-append (E.instr s) (E.block b), instr_long s)

-- ---- instructions, by their bytes

module _ {A : Type 0} (t : List ℕ) (i d : ℕ) (s : Instr A) (j : ℕ) where
  -- "20 x e: x := e"
  pub record AssignAt : Type 0 where
    pub e : Expr
    pub is : s ≡ assign (get_or t (i + 1) 0) e
    pub source : ExprAt t (i + 2) max_depth e j

  -- "21 y o e: y[o] := e"
  pub record WriteAt : Type 0 where
    pub o : Expr
    pub e : Expr
    pub is : s ≡ write (get_or t (i + 1) 0) o e
    pub k : ℕ
    pub offset : ExprAt t (i + 2) max_depth o k
    pub source : ExprAt t k max_depth e j

  -- "22 x y o: x := y[o]"
  pub record ReadAt : Type 0 where
    pub o : Expr
    pub is : s ≡ read (get_or t (i + 1) 0) (get_or t (i + 2) 0) o
    pub offset : ExprAt t (i + 3) max_depth o j

  -- "23 e block: while"
  pub record WhileAt : Type 0 where
    pub e : Expr
    pub b : Block A
    pub is : s ≡ while e b
    pub k : ℕ
    pub test : ExprAt t (i + 1) max_depth e k
    pub body : BlockAt t k d b j

  -- "24 e block block: if, then, else"
  pub record IfAt : Type 0 where
    pub e : Expr
    pub b : Block A
    pub c : Block A
    pub is : s ≡ if e b c
    pub k : ℕ
    pub l : ℕ
    pub test : ExprAt t (i + 1) max_depth e k
    pub first : BlockAt t k d b l
    pub second : BlockAt t l d c j

  -- "25 m(2) n(1) n expressions: call procedure m"
  pub record CallAt : Type 0 where
    pub es : List Expr
    pub is : s ≡ call (unbytes (take 2 (drop (i + 1) t))) es
    pub args : ExprsAt t (i + 4) (get_or t (i + 3) 0) es j
    pub room : i + 4 ≤ length t

  -- "26 block: atomic"
  pub record AtomicAt : Type 0 where
    pub b : Block A
    pub is : s ≡ atomic b
    pub body : BlockAt t (i + 1) d b j

  -- "27 a(2) b(2): select"
  pub record SelectAt : Type 0 where
    pub is : s ≡ select (unbytes (take 2 (drop (i + 1) t))) (unbytes (take 2 (drop (i + 3) t)))
    pub ends : j ≡ i + 5
    pub room : i + 5 ≤ length t

  -- what instruction stands at i, and up to where, by its form
  abbrev pub ByForm : Form → Type 0
  ByForm assign_form = AssignAt
  ByForm write_form = WriteAt
  ByForm read_form = ReadAt
  ByForm while_form = WhileAt
  ByForm if_form = IfAt
  ByForm call_form = CallAt
  ByForm atomic_form = AtomicAt
  ByForm select_form = SelectAt
  ByForm no_form = ⊥

-- it is that of the byte there
by_form : {A : Type 0} {t : List ℕ} {i d : ℕ} (s : Instr A) {j : ℕ} → InstrAt t i d s j → ByForm t i d s j (get_or forms (get_or t i 0) no_form)
by_form {t = t} {i} (assign x e) {j} h =
    let after : Stands t (i + 2) (E.expr e) j = shift (others (others h.stands)) (omega arith) in
    rw (first h.stands)
    (record { e = e; is = ap (λ x. assign x e) (sym (first (others h.stands))); source = record { stands = after; fits = h.fits.1.1 } })
by_form {t = t} {i} (write y o e) {j} h =
    let after : Stands t (i + 2) (E.expr o ++ E.expr e) j = shift (others (others h.stands)) (omega arith) in
    rw (first h.stands)
    (record {
      o = o;
      e = e;
      is = ap (λ y. write y o e) (sym (first (others h.stands)));
      k = i + 2 + length (E.expr o);
      offset = record { stands = front (E.expr o) (E.expr e) after; fits = h.fits.1.1 };
      source = record { stands = back (E.expr o) (E.expr e) after; fits = h.fits.1.2 };
    })
by_form {t = t} {i} (read x y o) {j} h =
    let second : Stands t (i + 2) (y ∷ E.expr o) j = shift (others (others h.stands)) (omega arith) in
    let after : Stands t (i + 3) (E.expr o) j = shift (others second) (omega arith) in
    rw (first h.stands)
    (record {
      o = o;
      is = ap₂ (λ x y. read x y o) (sym (first (others h.stands))) (sym (first second));
      offset = record { stands = after; fits = h.fits.1.2 };
    })
by_form {t = t} {i} (while e b) {j} h =
    let after : Stands t (i + 1) (E.expr e ++ E.block b) j = others h.stands in
    rw (first h.stands)
    (record {
      e = e;
      b = b;
      is = refl;
      k = i + 1 + length (E.expr e);
      test = record { stands = front (E.expr e) (E.block b) after; fits = h.fits.1.0 };
      body = record { stands = back (E.expr e) (E.block b) after; fits = (h.fits.0, h.fits.1.1) };
    })
by_form {t = t} {i} (if e b c) {j} h =
    let after : Stands t (i + 1) (E.expr e ++ (E.block b ++ E.block c)) j = others h.stands in
    let blocks : Stands t (i + 1 + length (E.expr e)) (E.block b ++ E.block c) j = back (E.expr e) (E.block b ++ E.block c) after in
    rw (first h.stands)
    (record {
      e = e;
      b = b;
      c = c;
      is = refl;
      k = i + 1 + length (E.expr e);
      l = i + 1 + length (E.expr e) + length (E.block b);
      test = record { stands = front (E.expr e) (E.block b ++ E.block c) after; fits = h.fits.1.0 };
      first = record { stands = front (E.block b) (E.block c) blocks; fits = (omega (arith, h.fits.0), h.fits.1.1) };
      second = record { stands = back (E.block b) (E.block c) blocks; fits = (omega (arith, h.fits.0), h.fits.1.2) };
    })
by_form {t = t} {i} (call m es) {j} h =
    let after : Stands t (i + 1) (bytes 2 m ++ (length es ∷ each E.expr es)) j = others h.stands in
    let callee : unbytes (take 2 (drop (i + 1) t)) ≡ m = number_at_lem 2 m (front (bytes 2 m) (length es ∷ each E.expr es) after) h.fits.1.0 in
    let count : Stands t (i + 3) (length es ∷ each E.expr es) j = shift (back (bytes 2 m) (length es ∷ each E.expr es) after) (omega arith) in
    let args : Stands t (i + 4) (each E.expr es) j = shift (others count) (omega arith) in
    rw (first h.stands)
    (record {
      es = es;
      is = ap (λ m. call m es) (sym callee);
      args = record { stands = args; count = sym (first count); fits = h.fits.1.2 };
      room = omega (arith, inside count);
    })
by_form (atomic b) h = rw (first h.stands) (record { b = b; is = refl; body = record { stands = others h.stands; fits = h.fits } })
by_form {t = t} {i} (select a b) {j} h =
    let after : Stands t (i + 1) (bytes 2 a ++ bytes 2 b) j = others h.stands in
    let second : Stands t (i + 3) (bytes 2 b) j = shift (back (bytes 2 a) (bytes 2 b) after) (omega arith) in
    rw (first h.stands)
    (record {
      is = ap₂ select (sym (number_at_lem 2 a (front (bytes 2 a) (bytes 2 b) after) h.fits.1.0)) (sym (number_at_lem 2 b second h.fits.1.1));
      ends = h.stands.ends;
      room = omega (arith, h.stands.ends, h.stands.fits);
    })

module _ {A : Type 0} {t : List ℕ} {i d : ℕ} {s : Instr A} {j : ℕ} (h : InstrAt t i d s j) where
  -- by the byte at i
  form_here : {b : ℕ} → get_or t i 0 ≡ b → ByForm t i d s j (get_or forms b no_form)
  form_here q = subst (λ b. ByForm t i d s j (get_or forms b no_form)) q (by_form s h)

  -- one law for each byte
  pub assign_here : get_or t i 0 ≡ 0x20 → AssignAt t i d s j
  assign_here q = form_here q

  -- y[o] := e
  pub write_here : get_or t i 0 ≡ 0x21 → WriteAt t i d s j
  write_here q = form_here q

  -- x := y[o]
  pub read_here : get_or t i 0 ≡ 0x22 → ReadAt t i d s j
  read_here q = form_here q

  -- while
  pub while_here : get_or t i 0 ≡ 0x23 → WhileAt t i d s j
  while_here q = form_here q

  -- if
  pub if_here : get_or t i 0 ≡ 0x24 → IfAt t i d s j
  if_here q = form_here q

  -- a call
  pub call_here : get_or t i 0 ≡ 0x25 → CallAt t i d s j
  call_here q = form_here q

  -- an atomic block
  pub atomic_here : get_or t i 0 ≡ 0x26 → AtomicAt t i d s j
  atomic_here q = form_here q

  -- select
  pub select_here : get_or t i 0 ≡ 0x27 → SelectAt t i d s j
  select_here q = form_here q

  -- no instruction begins with another byte
  pub no_instr : get_or forms (get_or t i 0) no_form ≡ no_form → ⊥
  no_instr q = subst (ByForm t i d s j) q (by_form s h)

  -- it has a byte, and ends in the table
  pub instr_inside : (i < j) × (j ≤ length t)
  instr_inside = (omega (arith, h.stands.ends, instr_long s), h.stands.fits)

-- ---- blocks

-- an instruction, and then the block goes on
pub record StepAt {A : Type 0} (t : List ℕ) (i d : ℕ) (b : Block A) (j : ℕ) : Type 0 where
  pub tag : A
  pub s : Instr A
  pub rest : Block A
  pub is : b ≡ step tag s rest
  pub k : ℕ
  pub here : InstrAt t i (d - 1) s k
  pub after : BlockAt t k d rest j

-- an instruction does not begin with the byte 00
starts : {A : Type 0} {t : List ℕ} {i : ℕ} (s : Instr A) (bs : List ℕ) {j : ℕ} → Stands t i (E.instr s ++ bs) j → get_or t i 0 ≡ 0 → ⊥
starts {t = t} {i} s bs {j} h q =
    let start : (m : ℕ) × (ops : List ℕ) × (E.instr s ≡ suc m ∷ ops) = begins s in
    let byte : Stands t i (suc start.0 ∷ (start.1 ++ bs)) j = rw start.2 at h in
    omega (arith, first byte)

module _ {A : Type 0} {t : List ℕ} {i d : ℕ} where
  -- "a block ends with byte 00"
  pub end_here : {b : Block A} {j : ℕ} → BlockAt t i d b j → get_or t i 0 ≡ 0 → (b ≡ end) × (j ≡ i + 1)
  end_here {b = end} h q = (refl, h.stands.ends)
  end_here {b = step a s b} h q = absurd (starts s (E.block b) h.stands q)

  -- any other byte begins an instruction
  pub step_here : {b : Block A} {j : ℕ} → BlockAt t i d b j → (get_or t i 0 ≡ 0 → ⊥) → StepAt t i d b j
  step_here {b = end} h q = absurd (q (first h.stands))
  step_here {b = step a s b} h q = record {
    tag = a;
    s = s;
    rest = b;
    is = refl;
    k = i + length (E.instr s);
    here = record { stands = front (E.instr s) (E.block b) h.stands; fits = (omega (arith, h.fits.0), h.fits.1.0) };
    after = record { stands = back (E.instr s) (E.block b) h.stands; fits = (omega (arith, h.fits.0), h.fits.1.1) };
  }

  -- it has a byte, and ends in the table
  pub block_inside : {b : Block A} {j : ℕ} → BlockAt t i d b j → (i < j) × (j ≤ length t)
  block_inside {b} h = (omega (arith, h.stands.ends, block_long b), h.stands.fits)

  -- and is at least one block
  pub block_deep : {b : Block A} {j : ℕ} → BlockAt t i d b j → 0 < d
  block_deep {b} h = omega (arith, nesting_pos b, h.fits.0)

-- Blocks and instructions in the text: one law for each way to read them, and one thing stands at a position.
use Rattle.std.specs.Prelude.{ℕ, zero, suc, ◌+◌, ◌*◌, ◌-◌, ◌≤◌, ◌≡◌, refl, List, [], ◌∷◌, ◌++◌, Bool, true, false, length, get_or, eqb}
use Rattle.std.proofs.Common.{arith, sym, ap, ap₂, subst, ◌∙◌, length-append, ne_eqb}
use Rattle.std.proofs.lemmas.List.{length-replicate, get_or-replicate}
use Rattle.std.proofs.Math.ListN.{get_or-append}
use Rattle.value.specs.Maybe.{both}
use Rattle.value.proofs.Laws.Tests.{never}
use Rattle.format.specs.Syntax.{Expr, Instr, assign, write, read, while, if, call, atomic, select, Block, end, step, Plain}
use Rattle.format.proofs.Laws.Blocks.{nesting_pos}
use Rattle.format.proofs.Laws.Stands.{Stands, first, front, back}
use Rattle.ctext.specs.Pieces.{say}
use Rattle.ctext.specs.Text.{expr, ind, instr, block}
use Rattle.ctext.proofs.Laws.Numbers.{number_same}
use Rattle.ctext.proofs.Laws.ExprText.{behind, byte_in, moved, expr_same_lem}
use Rattle.ctext.proofs.Laws.ArgText.{NumberText, ArgsText, MoreText, args_parts, more_parts, expr_letter}
use Rattle.ctext.proofs.Laws.LineText.{FlatI, ended, BlockText, InstrText, Line, target_line, write_line, while_line, if_line, call_line, select_line}
use Rattle.ctext.proofs.Laws.LineText.{line_of, ByLine, ByTarget, TargetIn, AssignIn, ReadIn, WriteIn, WhileIn, IfIn, CallIn, SelectIn, by_line}

-- ---- instructions

module _ {A : Type 0} {x : List ℕ} {i c d : ℕ} {s : Instr A} {j : ℕ} (h : InstrText x i c d s j) where
  -- by the two bytes
  line_in : {a b : ℕ} → get_or x i 0 ≡ a → get_or x (i + 2) 0 ≡ b → ByLine x i c d s j (line_of a b)
  line_in {a} {b} p q = subst (λ a. ByLine x i c d s j (line_of a b)) p (subst (λ b. ByLine x i c d s j (line_of (get_or x i 0) b)) q (by_line s h))

  -- x
  pub target_in : get_or x i 0 ≡ 120 → TargetIn x i c d s j
  target_in p = line_in p refl

  -- while
  pub while_in : get_or x i 0 ≡ 119 → WhileIn x i c d s j
  while_in p = line_in p refl

  -- if
  pub if_in : get_or x i 0 ≡ 105 → IfIn x i c d s j
  if_in p = line_in p refl

  module _ (p : get_or x i 0 ≡ 120 → ⊥) (q : get_or x i 0 ≡ 119 → ⊥) (r : get_or x i 0 ≡ 105 → ⊥) where
    -- z_write
    pub write_in : get_or x (i + 2) 0 ≡ 119 → WriteIn x i c d s j
    write_in e = rw (ne_eqb _ _ p, ne_eqb _ _ q, ne_eqb _ _ r) at (line_in refl e)

    -- z_call
    pub call_in_lem : get_or x (i + 2) 0 ≡ 99 → CallIn x i c d s j
    call_in_lem e = rw (ne_eqb _ _ p, ne_eqb _ _ q, ne_eqb _ _ r) at (line_in refl e)

    -- z_select
    pub select_in : (get_or x (i + 2) 0 ≡ 119 → ⊥) → (get_or x (i + 2) 0 ≡ 99 → ⊥) → SelectIn x i c d s j
    select_in e f = rw (ne_eqb _ _ p, ne_eqb _ _ q, ne_eqb _ _ r, ne_eqb _ _ e, ne_eqb _ _ f) at (line_in refl refl)

module _ {A : Type 0} {x : List ℕ} {i c d : ℕ} {s : Instr A} {j : ℕ} (h : TargetIn x i c d s j) where
  -- z_set
  pub assign_in : get_or x (h.k + 5) 0 ≡ 115 → AssignIn x i c d s j h.v h.k
  assign_in e = subst (λ b. ByTarget x i c d s j h.v h.k (eqb b 115)) e h.then

  -- z_read
  pub read_in : (get_or x (h.k + 5) 0 ≡ 115 → ⊥) → ReadIn x i c d s j h.v h.k
  read_in e = subst (ByTarget x i c d s j h.v h.k) (ne_eqb _ _ e) h.then

-- ---- blocks

-- an instruction, and then the block goes on
pub record StepIn {A : Type 0} (x : List ℕ) (i c d : ℕ) (b : Block A) (j : ℕ) : Type 0 where
  pub tag : A
  pub s : Instr A
  pub rest : Block A
  pub is : b ≡ step tag s rest
  pub k : ℕ
  pub here : InstrText x (i + 2 * d) (c - 1) d s k
  pub after : BlockText x k c d rest j

-- the names of lines have one of three third letters
pub begins : {A : Type 0} {x : List ℕ} {i : ℕ} (d : ℕ) (s : Instr A) (r : List ℕ) (c : ℕ) {j : ℕ} → FlatI s → Stands x i (instr d s ++ r) j
    → eqb 119 c ≡ false → eqb 99 c ≡ false → eqb 115 c ≡ false → both (eqb (get_or x i 0) 122) (eqb (get_or x (i + 2) 0) c) ≡ false
unfolding say
begins d (assign v e) r c f h w l t = rw (first h)
begins d (write y o e) r c f h w l t = rw (first h, byte_in 2 h (omega arith), w)
begins d (read v y o) r c f h w l t = rw (first h)
begins d (while e b) r c f h w l t = rw (first h)
begins d (if e b g) r c f h w l t = rw (first h)
begins d (call m es) r c f h w l t = rw (first h, byte_in 2 h (omega arith), l)
begins d (atomic b) r c f h w l t = absurd f
begins d (select a b) r c f h w l t = rw (first h, byte_in 2 h (omega arith), t)

-- nor has a brace before it
goes_on : {A : Type 0} {x : List ℕ} {i : ℕ} (d : ℕ) (s : Instr A) (r : List ℕ) {j : ℕ} → 1 ≤ d → FlatI s → Stands x i (ind d ++ (instr d s ++ r)) j
    → ended x i (2 * d) ≡ false
unfolding ended
goes_on {x = x} {i} d s r l f h =
    let long : length (ind d) ≡ 2 * d = length-replicate (2 * d) 32 in
    let place : i + 2 * d - 2 ≡ i + (2 * d - 2) = omega arith in
    let space : get_or x (i + (2 * d - 2)) 0 ≡ 32 =
    byte_in (2 * d - 2) h (rw length-append (omega arith)) ∙ get_or-append (ind d) (instr d s ++ r) 0 (2 * d - 2) (omega arith)
    ∙ get_or-replicate (2 * d) (2 * d - 2) 32 0 (omega arith)
    in
    rw (place, space, begins d s r 114 f (behind (ind d) (instr d s ++ r) (2 * d) long h) refl refl refl)

-- the first instruction of a block, and what follows it
step_text : {A : Type 0} {x : List ℕ} {i c d : ℕ} {a : A} {s : Instr A} {b : Block A} {j : ℕ} → BlockText x i c d (step a s b) j
    → InstrText x (i + 2 * d) (c - 1) d s (i + 2 * d + length (instr d s)) × BlockText x (i + 2 * d + length (instr d s)) c d b j
step_text {x = x} {i} {c} {d} {a} {s} {b} {j} h =
    let line : Stands x (i + 2 * d) (instr d s ++ block d b) j =
    behind (ind d) (instr d s ++ block d b) (2 * d) (length-replicate (2 * d) 32) h.stands
    in (
      record {
        stands = front (instr d s) (block d b) line;
        fits = (omega (arith, h.fits.0), h.fits.1.0);
        flat = h.flat.0;
        shown = h.shown;
      },
      record {
        stands = back (instr d s) (block d b) line;
        fits = (omega (arith, h.fits.0), h.fits.1.1);
        flat = h.flat.1;
        shown = h.shown;
        ends = h.ends;
      },
    )

module _ {A : Type 0} {x : List ℕ} {i c d : ℕ} where
  -- its end
  pub block_end : {b : Block A} {j : ℕ} → BlockText x i c d b j → ended x i (2 * d) ≡ true → (b ≡ end) × (j ≡ i)
  block_end {b = end} h e = (refl, omega (arith, h.stands.ends))
  block_end {b = step a s b} h e = absurd (never (sym (goes_on d s (block d b) h.shown h.flat.0 h.stands) ∙ e))

  -- a step
  pub block_step : {b : Block A} {j : ℕ} → BlockText x i c d b j → ended x i (2 * d) ≡ false → StepIn x i c d b j
  block_step {b = end} {j} h e =
      let here : i ≡ j = omega (arith, h.stands.ends) in
      absurd (never (sym e ∙ subst (λ i. ended x i (2 * d) ≡ true) (sym here) h.ends))
  block_step {b = step a s b} {j} h e =
      let parts = step_text h in
      record { tag = a; s = s; rest = b; is = refl; k = _; here = parts.0; after = parts.1 }

-- ---- one thing stands there

-- one number
pub number_text_same : {x : List ℕ} {i n m j k : ℕ} → NumberText x i n j → NumberText x i m k → (n ≡ m) × (j ≡ k)
number_text_same {n = n} {m} p q = number_same n m p.stands q.stands p.stops q.stops (omega (arith, p.fits)) (omega (arith, q.fits))

-- a number from another position on
number_moved : {x : List ℕ} {i k n j : ℕ} → NumberText x i n j → i ≡ k → NumberText x k n j
number_moved {x} {n = n} {j} h q = subst (λ i. NumberText x i n j) q h

-- an end behind no arguments, and a comma before others
no_end : {x : List ℕ} {i : ℕ} {e : Expr} {es : List Expr} {j k : ℕ} → MoreText x i [] j → MoreText x i (e ∷ es) k → ⊥
unfolding say
no_end {x} {i} {j = j} p q =
    let here : i ≡ j = omega (arith, p.stands.ends) in
    let close : get_or x i 0 ≡ 41 = subst (λ i. get_or x i 0 ≡ 41) (sym here) p.close in
    omega (arith, close, first q.stands)

-- arguments after the first
more_same : {x : List ℕ} {i : ℕ} (es fs : List Expr) {j k : ℕ} → MoreText x i es j → MoreText x i fs k → (es ≡ fs) × (j ≡ k)
more_same [] [] p q = (refl, omega (arith, p.stands.ends, q.stands.ends))
more_same [] (f ∷ fs) p q = absurd (no_end p q)
more_same (e ∷ es) [] p q = absurd (no_end q p)
more_same {x} {i} (e ∷ es) (f ∷ fs) {j} {k} p q =
    let a = more_parts p in
    let b = more_parts q in
    let one = expr_same_lem a.0 b.0 in
    let others = more_same {i = i + 2 + length (expr e)} es fs a.1 (subst (λ i. MoreText x i fs k) (sym one.1) b.1) in
    (ap₂ (◌∷◌) one.0 others.0, others.1)

-- arguments
args_same : {x : List ℕ} {i : ℕ} (es fs : List Expr) {j k : ℕ} → ArgsText x i es j → ArgsText x i fs k → (es ≡ fs) × (j ≡ k)
args_same [] [] p q = (refl, omega (arith, p.stands.ends, q.stands.ends))
args_same {x} {i} [] (f ∷ fs) {j} p q =
    let here : i ≡ j = omega (arith, p.stands.ends) in
    absurd (omega (arith, subst (λ i. get_or x i 0 ≡ 41) (sym here) p.close, expr_letter f (args_parts q).0))
args_same {x} {i} (e ∷ es) [] {j} {k} p q =
    let here : i ≡ k = omega (arith, q.stands.ends) in
    absurd (omega (arith, subst (λ i. get_or x i 0 ≡ 41) (sym here) q.close, expr_letter e (args_parts p).0))
args_same {x} (e ∷ es) (f ∷ fs) {j} {k} p q =
    let a = args_parts p in
    let b = args_parts q in
    let one = expr_same_lem a.0 b.0 in
    let others = more_same es fs a.1 (subst (λ i. MoreText x i fs k) (sym one.1) b.1) in
    (ap₂ (◌∷◌) one.0 others.0, others.1)

-- blocks with at most f blocks one in the other
pub record OneBlock (x : List ℕ) (f : ℕ) : Type 0 where
  pub same : {i c e d : ℕ} {a b : Block Plain} {j k : ℕ} → c ≤ f → BlockText x i c d a j → BlockText x i e d b k → (a ≡ b) × (j ≡ k)

-- a block from another position on
block_moved : {x : List ℕ} {i k c d : ℕ} {b : Block Plain} {j : ℕ} → BlockText x i c d b j → i ≡ k → BlockText x k c d b j
block_moved {x} {c = c} {d} {b} {j} h q = subst (λ i. BlockText x i c d b j) q h

module _ {x : List ℕ} {f : ℕ} (less : OneBlock x f) (i c e d : ℕ) (s u : Instr Plain) (j k : ℕ) (l : c ≤ f) where
  -- behind one target
  by_targets : (v n : ℕ) (t : Bool) → ByTarget x i c d s j v n t → ByTarget x i e d u k v n t → (s ≡ u) × (j ≡ k)
  by_targets v n true p q =
      let source = expr_same_lem p.source q.source in
      (p.is ∙ ap (assign v) source.0 ∙ sym q.is, omega (arith, source.1, p.ends, q.ends))
  by_targets v n false p q =
      let pointer = number_text_same p.pointer q.pointer in
      let offset = expr_same_lem p.offset (moved q.offset (ap (λ l. l + 2) (sym pointer.1))) in
      (p.is ∙ ap₂ (read v) pointer.0 offset.0 ∙ sym q.is, omega (arith, offset.1, p.ends, q.ends))

  -- by their lines
  by_lines : (t : Line) → ByLine x i c d s j t → ByLine x i e d u k t → (s ≡ u) × (j ≡ k)
  by_lines target_line p q =
      let target = number_text_same p.target q.target in
      by_targets p.v p.k (eqb (get_or x (p.k + 5) 0) 115) p.then
      (rw (target.0, target.1) q.then)
  by_lines write_line p q =
      let pointer = number_text_same p.pointer q.pointer in
      let offset = expr_same_lem p.offset (moved q.offset (ap (λ l. l + 2) (sym pointer.1))) in
      let source = expr_same_lem p.source (moved q.source (ap (λ l. l + 2) (sym offset.1))) in
      let same : ◌≡◌ {A = Instr Plain} (write p.y p.o p.e) (write q.y q.o q.e) = rw (pointer.0, offset.0, source.0) in
      (p.is ∙ same ∙ sym q.is, omega (arith, source.1, p.ends, q.ends))
  by_lines while_line p q =
      let test = expr_same_lem p.test q.test in
      let body = less.same l p.body (block_moved q.body (ap (λ k. k + 5) (sym test.1))) in
      (p.is ∙ ap₂ while test.0 body.0 ∙ sym q.is, omega (arith, body.1, p.ends, q.ends))
  by_lines if_line p q =
      let test = expr_same_lem p.test q.test in
      let one = less.same l p.first (block_moved q.first (ap (λ k. k + 5) (sym test.1))) in
      let two = less.same l p.second (block_moved q.second (ap (λ l. l + 2 * d + 9) (sym one.1))) in
      let same : ◌≡◌ {A = Instr Plain} (if p.e p.b p.f) (if q.e q.b q.f) = rw (test.0, one.0, two.0) in
      (p.is ∙ same ∙ sym q.is, omega (arith, two.1, p.ends, q.ends))
  by_lines call_line p q =
      let callee = number_text_same p.callee q.callee in
      let args = args_same p.es q.es p.args (subst (λ i. ArgsText x i q.es q.l) (ap (λ k. k + 1) (sym callee.1)) q.args) in
      (p.is ∙ ap₂ call callee.0 args.0 ∙ sym q.is, omega (arith, args.1, p.ends, q.ends))
  by_lines select_line p q =
      let one = number_text_same p.first q.first in
      let two = number_text_same p.second (number_moved q.second (ap (λ k. k + 2) (sym one.1))) in
      (p.is ∙ ap₂ select one.0 two.0 ∙ sym q.is, omega (arith, two.1, p.ends, q.ends))

module _ {x : List ℕ} {f : ℕ} (less : OneBlock x f) where
  -- a row of instructions
  row_same : {i c e d : ℕ} (a b : Block Plain) {j k : ℕ} → c ≤ suc f → BlockText x i c d a j → BlockText x i e d b k → (a ≡ b) × (j ≡ k)
  row_same {i} {d = d} end b {j} l h g =
      let here : i ≡ j = omega (arith, h.stands.ends) in
      let done = block_end g (subst (λ i. ended x i (2 * d) ≡ true) (sym here) h.ends) in
      (sym done.0, omega (arith, h.stands.ends, done.1))
  row_same {i} {d = d} (step t s a) end {j} {k} l h g =
      let here : i ≡ k = omega (arith, g.stands.ends) in
      let done = block_end h (subst (λ i. ended x i (2 * d) ≡ true) (sym here) g.ends) in
      (done.0, omega (arith, g.stands.ends, done.1))
  row_same {i} {c} {e} {d} (step t s a) (step t' u b) {j} {k} l h g =
      let p = step_text h in
      let q = step_text g in
      let one =
      by_lines less (i + 2 * d) (c - 1) (e - 1) d s u _ _ (omega arith) (line_of (get_or x (i + 2 * d) 0) (get_or x (i + 2 * d + 2) 0))
      (by_line s p.0) (by_line u q.0)
      in
      let others = row_same {i = i + 2 * d + length (instr d s)} a b l p.1 (block_moved q.1 (sym one.1)) in
      (ap₂ (λ s b. step t s b) one.0 others.0, others.1)

-- by fewer levels
one_block : (x : List ℕ) (f : ℕ) → OneBlock x f
one_block x zero = record { same = λ {a = a} l h g. absurd (omega (arith, l, h.fits.0, nesting_pos a)) }
one_block x (suc f) = record { same = λ {a = a} {b} l h g. row_same (one_block x f) a b l h g }

-- one block's text stands there
pub block_same : {x : List ℕ} {i c e d : ℕ} {a b : Block Plain} {j k : ℕ} → BlockText x i c d a j → BlockText x i e d b k → (a ≡ b) × (j ≡ k)
block_same {x} {c = c} h g = (one_block x c).same (omega arith) h g

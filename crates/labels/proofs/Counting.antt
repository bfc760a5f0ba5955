-- One law for each way through the walks that skip code and count its labels.
use Prim.Native.Nat.{ℕ, suc, ◌+◌, ◌-◌, ◌≤◌, ◌<◌}
use native.Mathlib.Omega.{arith}
use mathlib.Core.Path.{◌≡◌, refl, sym, ap, ap₂, subst, ◌∙◌}
use mathlib.Core.List.{List, []}
use lib.ListN.{length, get_or, drop, length-drop, drop_of_length-le}
use lib.Dec.{leb}
use borrow.Author.Tests.{leb-true, leb-false}
use Rattle.value.specs.Maybe.{is, nothing}
use Rattle.value.proofs.Laws.Tests.{by_test}
use Rattle.format.specs.Syntax.{Expr, Instr, assign, write, read, while, if, call, atomic, select, Block, Plain}
use Rattle.format.specs.Decode as D
use Rattle.format.specs.Decode.{max_depth}
use Rattle.format.specs.Labels.{count, count_i}
use Rattle.parse.specs.Ends.{end_of, ReadsExpr}
use Rattle.labels.specs.Walks.{InstrIn, BlockIn, ExprEnds, ExprsEnd, PlainEnds, counted, CountsInstr, CountsBlock}
use Rattle.format.proofs.Laws.Stands.{first}
use Rattle.format.proofs.Laws.Blocks.{nesting_pos}
use Rattle.format.proofs.Laws.Grammar
use Rattle.format.proofs.Laws.Positions.{expr_read}
use Rattle.format.proofs.Laws.Reading.{so}
use Rattle.format.proofs.Laws.Rests.{Leaves, expr_leaves}
use Rattle.std.specs.Prelude.{Option, Some, None, unwrap_or}
use Rattle.labels.specs.declared.count.Counted.{Counted}

-- ---- expressions

-- something that ends somewhere is something
ends_nothing : {G : Type 0} {k : ℕ} → Some k ≡ None → G
ends_nothing e = let z : ◌≡◌ {A = ℕ} 0 1 = cc in absurd (omega arith)

-- and ends at one position
ends_at : {j k : ℕ} → Some j ≡ Some k → j ≡ k
ends_at e = cc

module _ {t : List ℕ} {i : ℕ} where
  -- where the reader ends
  read_ends : {f : Option ℕ} {e : Expr} {j : ℕ} → ReadsExpr t i max_depth f → Grammar.ExprAt t i max_depth e j → f ≡ Some j
  read_ends {f} {e} {j} R h =
      let left : length t - length (drop j t) ≡ j = rw length-drop (omega (arith, h.stands.fits)) in
      R.same ∙ ap (end_of t) (expr_read h) ∙ ap Some left

  -- it does not end before it begins
  read_forward : {f : Option ℕ} {k : ℕ} → f ≡ Some k → ReadsExpr t i max_depth f → i ≤ k
  read_forward {f} {k} q R =
      by_test (leb i (length t))
      (λ some. inside (leb-true i (length t) some) (D.expr max_depth (drop i t)) (expr_leaves max_depth (drop i t)) (sym q ∙ R.same))
      (λ past.
      let none : drop i t ≡ [] = drop_of_length-le t {i = i} (omega (arith, leb-false i (length t) past)) in
      ends_nothing (sym q ∙ R.same ∙ ap (λ (bs : List ℕ). end_of t (D.expr max_depth bs)) none))
    where
      inside : i ≤ length t → (m : D.Read Expr) → Leaves (drop i t) m → Some k ≡ end_of t m → i ≤ k
      inside l nothing n e = ends_nothing e
      inside l (is got) (so rest) e =
          let same : k ≡ length t - length got.1 = ends_at e in
          let left : length got.1 ≡ length (drop i t) - rest.taken = ap length rest.is ∙ length-drop rest.taken (drop i t) in
          omega (arith, length-drop i t, rest.few)

  -- an expression that was read, or none was
  pub after_read : {f : Option ℕ} → ReadsExpr t i max_depth f → ExprEnds t i (unwrap_or f i)
  after_read {f = Some k} R = record { forward = read_forward refl R; ends = λ e j h. ends_at (read_ends R h) }
  after_read {f = None} R = record { forward = omega arith; ends = λ e j h. ends_nothing (sym (read_ends R h)) }

-- ---- several expressions

-- what ends from k on with n left, ends from i on
pub record Skipping (t : List ℕ) (i m k c : ℕ) : Type 0 where
  pub back : (r : ℕ) → ExprsEnd t k (m - c) r → ExprsEnd t i m r

module _ (t : List ℕ) (i m : ℕ) where
  pub skip_start : Skipping t i m i 0
  skip_start = let all : m - 0 ≡ m = omega arith in record { back = λ r R. rw all at R }

  pub skip_one : {k c r : ℕ} → Skipping t i m k c → c < m → ExprEnds t k r → Skipping t i m r (c + 1)
  skip_one {k} {c} {r} S h R = record {
    back = λ q Q. S.back q (record {
      ends = λ es j a.
          let w : Grammar.MoreAt t k (m - c) es j = Grammar.exprs_more a (omega arith) in
          let same : r ≡ w.k = R.ends w.e w.k w.here in
          let less : m - (c + 1) ≡ m - c - 1 = omega arith in
          Q.ends w.rest j (subst (λ (x : ℕ). Grammar.ExprsAt t x (m - (c + 1)) w.rest j) (sym same)
          (subst (λ (x : ℕ). Grammar.ExprsAt t w.k x w.rest j) (sym less) w.after));
    });
  }

  pub skip_end : {k c : ℕ} → Skipping t i m k c → m ≤ c → ExprsEnd t i m k
  skip_end {k} {c} S h = S.back k (record { ends = λ es j a. sym (Grammar.exprs_none_lem a (omega arith)).1 })

pub ruleset skip_ways = (skip_start, skip_one, skip_end)

-- ---- something stands there

-- an instruction without blocks
plain_at : {t : List ℕ} {i d : ℕ} (s : Instr Plain) {j : ℕ} → Grammar.InstrAt t i d s j
    → (get_or t i 0 ≡ 0x23 → ⊥) → (get_or t i 0 ≡ 0x24 → ⊥) → (get_or t i 0 ≡ 0x26 → ⊥) → Grammar.InstrAt t i 0 s j
plain_at (assign x e) h a b c = record { stands = h.stands; fits = (omega arith, h.fits.1) }
plain_at (write y o e) h a b c = record { stands = h.stands; fits = (omega arith, h.fits.1) }
plain_at (read x y o) h a b c = record { stands = h.stands; fits = (omega arith, h.fits.1) }
plain_at (while e w) h a b c = absurd (a (first h.stands))
plain_at (if e w f) h a b c = absurd (b (first h.stands))
plain_at (call m es) h a b c = record { stands = h.stands; fits = (omega arith, h.fits.1) }
plain_at (atomic w) h a b c = absurd (c (first h.stands))
plain_at (select x y) h a b c = record { stands = h.stands; fits = (omega arith, h.fits.1) }

-- and its label
plain_one : {t : List ℕ} {i d : ℕ} (s : Instr Plain) {j : ℕ} → Grammar.InstrAt t i d s j → (get_or t i 0 ≡ 0x23 → ⊥) → (get_or t i 0 ≡ 0x24 → ⊥)
    → count_i s ≡ 1
plain_one (assign x e) h a b = refl
plain_one (write y o e) h a b = refl
plain_one (read x y o) h a b = refl
plain_one (while e w) h a b = absurd (a (first h.stands))
plain_one (if e w f) h a b = absurd (b (first h.stands))
plain_one (call m es) h a b = refl
plain_one (atomic w) h a b = refl
plain_one (select x y) h a b = refl

-- an instruction
pub instr_in : {t : List ℕ} {i d : ℕ} {s : Instr Plain} {j : ℕ} → Grammar.InstrAt t i d s j → InstrIn t i d
instr_in {s = s} {j} h = record { instr = s; next = j; there = h; inside = omega (arith, Grammar.instr_inside h) }

-- a block
pub block_in : {t : List ℕ} {i d : ℕ} {b : Block Plain} {j : ℕ} → Grammar.BlockAt t i d b j → BlockIn t i d
block_in {b = b} {j} h = record {
  block = b;
  next = j;
  there = h;
  inside = omega (arith, Grammar.block_long b, h.stands.ends, h.stands.fits);
  deep = omega (arith, nesting_pos b, h.fits.0);
}

module _ {t : List ℕ} {i d : ℕ} where
  -- the count of a call's arguments
  pub count_inside : InstrIn t i d → get_or t i 0 ≡ 0x25 → i + 3 < length t
  count_inside h q = omega (arith, (Grammar.call_here h.there q).room)

  -- the blocks of an instruction
  pub body_in_lem : {k : ℕ} → InstrIn t i d → get_or t i 0 ≡ 0x23 → ExprEnds t (i + 1) k → BlockIn t k d
  body_in_lem {k} h q K =
      let w = Grammar.while_here h.there q in
      let same : k ≡ w.k = K.ends w.e w.k w.test in
      rw same (block_in w.body)

  pub then_in : {k : ℕ} → InstrIn t i d → get_or t i 0 ≡ 0x24 → ExprEnds t (i + 1) k → BlockIn t k d
  then_in {k} h q K =
      let w = Grammar.if_here h.there q in
      let same : k ≡ w.k = K.ends w.e w.k w.test in
      rw same (block_in w.first)

  pub atomic_in : InstrIn t i d → get_or t i 0 ≡ 0x26 → BlockIn t (i + 1) d
  atomic_in h q = block_in (Grammar.atomic_here h.there q).body

  -- an instruction with another byte has none
  pub plain_in : InstrIn t i d → (get_or t i 0 ≡ 0x23 → ⊥) → (get_or t i 0 ≡ 0x24 → ⊥) → (get_or t i 0 ≡ 0x26 → ⊥) → InstrIn t i 0
  plain_in h a b c = instr_in (plain_at h.instr h.there a b c)

-- ---- instructions without blocks

module _ {t : List ℕ} {i : ℕ} where
  -- "20 x e"
  pub plain_assign : {r : ℕ} → get_or t i 0 ≡ 0x20 → ExprEnds t (i + 2) r → PlainEnds t i r
  plain_assign q R = record { ends = λ s j h. let w = Grammar.assign_here h q in R.ends w.e j w.source }

  -- "21 y o e"
  pub plain_write : {k r : ℕ} → get_or t i 0 ≡ 0x21 → ExprEnds t (i + 2) k → ExprEnds t k r → PlainEnds t i r
  plain_write {k} q K R = record {
    ends = λ s j h.
        let w = Grammar.write_here h q in
        let same : k ≡ w.k = K.ends w.o w.k w.offset in
        R.ends w.e j (subst (λ (x : ℕ). Grammar.ExprAt t x max_depth w.e j) (sym same) w.source);
  }

  -- "22 x y o"
  pub plain_read : {r : ℕ} → get_or t i 0 ≡ 0x22 → ExprEnds t (i + 3) r → PlainEnds t i r
  plain_read q R = record { ends = λ s j h. let w = Grammar.read_here h q in R.ends w.o j w.offset }

  -- "25 m(2) n(1) n expressions"
  pub plain_call_lem : {r : ℕ} → get_or t i 0 ≡ 0x25 → ExprsEnd t (i + 4) (get_or t (i + 3) 0) r → PlainEnds t i r
  plain_call_lem q R = record { ends = λ s j h. let w = Grammar.call_here h q in R.ends w.es j w.args }

  -- "27 a(2) b(2)": no other instruction is left
  pub plain_select : (get_or t i 0 ≡ 0x20 → ⊥) → (get_or t i 0 ≡ 0x21 → ⊥) → (get_or t i 0 ≡ 0x22 → ⊥) → (get_or t i 0 ≡ 0x25 → ⊥) → PlainEnds t i (i + 5)
  plain_select a b c d = record { ends = ends }
    where
      ends : (s : Instr Plain) (j : ℕ) → Grammar.InstrAt t i 0 s j → i + 5 ≡ j
      ends (assign x e) j h = absurd (a (first h.stands))
      ends (write y o e) j h = absurd (b (first h.stands))
      ends (read x y o) j h = absurd (c (first h.stands))
      ends (while e w) j h = absurd (omega (arith, nesting_pos w, h.fits.0))
      ends (if e w f) j h = absurd (omega (arith, nesting_pos w, h.fits.0))
      ends (call m es) j h = absurd (d (first h.stands))
      ends (atomic w) j h = absurd (omega (arith, nesting_pos w, h.fits.0))
      ends (select x y) j h = sym h.stands.ends

pub ruleset plain_ways = (count_inside, plain_assign, plain_write, plain_read, plain_call_lem, plain_select)

-- ---- labels of instructions

-- an expression that ends at k has a byte
pub expr_after : {t : List ℕ} {i k : ℕ} (e : Expr) {j : ℕ} → ExprEnds t i k → Grammar.ExprAt t i max_depth e j → i < k
expr_after e {j} K a = omega (arith, K.ends e j a, Grammar.expr_inside a)

module _ {t : List ℕ} {i d : ℕ} where
  -- the body of a loop
  pub body_counts : {k : ℕ} {x : Counted} {s : Instr Plain} {j : ℕ} (w : Grammar.WhileAt t i d s j) → ExprEnds t (i + 1) k → CountsBlock t k d x
      → x ≡ counted j (count w.b)
  body_counts {k} {j = j} w K X =
      X.gives w.b j (subst (λ (n : ℕ). Grammar.BlockAt t n d w.b j) (sym (K.ends w.e w.k w.test)) w.body)

  -- the first branch
  pub then_counts : {k : ℕ} {x : Counted} {s : Instr Plain} {j : ℕ} (w : Grammar.IfAt t i d s j) → ExprEnds t (i + 1) k → CountsBlock t k d x
      → x ≡ counted w.l (count w.b)
  then_counts {k} w K X =
      X.gives w.b w.l (subst (λ (n : ℕ). Grammar.BlockAt t n d w.b w.l) (sym (K.ends w.e w.k w.test)) w.first)

  -- the second
  pub else_counts : {x y : Counted} {s : Instr Plain} {j : ℕ} (w : Grammar.IfAt t i d s j) → x ≡ counted w.l (count w.b)
      → CountsBlock t x.next d y
      → y ≡ counted j (count w.c)
  else_counts {x} {j = j} w e Y =
      Y.gives w.c j (subst (λ (n : ℕ). Grammar.BlockAt t n d w.c j) (sym (ap (λ (z : Counted). z.next) e)) w.second)

  -- it stands where the first ends
  pub else_in : {k : ℕ} {x : Counted} → InstrIn t i d → get_or t i 0 ≡ 0x24 → ExprEnds t (i + 1) k → CountsBlock t k d x → BlockIn t x.next d
  else_in {k} {x} h q K X =
      let w = Grammar.if_here h.there q in
      rw (then_counts w K X) (block_in w.second)

  -- "23 e block"
  pub counts_while : {k : ℕ} {x : Counted} → InstrIn t i d → get_or t i 0 ≡ 0x23 → ExprEnds t (i + 1) k → CountsBlock t k d x
      → CountsInstr t i d (counted x.next (1 + x.labels))
  counts_while {k} {x} h q K X = record {
    gives = λ s j a.
        let w = Grammar.while_here a q in
        let one : 1 + count w.b ≡ suc (count w.b) = omega arith in
        ap (λ (z : Counted). counted z.next (1 + z.labels)) (body_counts w K X) ∙ ap (counted j) (one ∙ ap count_i (sym w.is));
    some = omega arith;
    room =
        let w = Grammar.while_here h.there q in
        omega (arith, expr_after w.e K w.test, X.room);
    fits = X.fits;
  }

  -- "24 e block block"
  pub counts_if : {k : ℕ} {x y : Counted} → InstrIn t i d → get_or t i 0 ≡ 0x24 → ExprEnds t (i + 1) k → CountsBlock t k d x
      → CountsBlock t x.next d y
      → CountsInstr t i d (counted y.next (1 + x.labels + y.labels))
  counts_if {k} {x} {y} h q K X Y = record {
    gives = λ s j a.
        let w = Grammar.if_here a q in
        let first : x ≡ counted w.l (count w.b) = then_counts w K X in
        let second : y ≡ counted j (count w.c) = else_counts w first Y in
        let all : 1 + count w.b + count w.c ≡ suc (count w.b + count w.c) = omega arith in
        ap₂ (λ (u v : Counted). counted v.next (1 + u.labels + v.labels)) first second ∙ ap (counted j) (all ∙ ap count_i (sym w.is));
    some = omega arith;
    room =
        let w = Grammar.if_here h.there q in
        omega (arith, expr_after w.e K w.test, X.room, Y.room);
    fits = Y.fits;
  }

  -- "26 block": what is inside has no labels
  pub counts_atomic : {x : Counted} → InstrIn t i d → get_or t i 0 ≡ 0x26 → CountsBlock t (i + 1) d x → CountsInstr t i d (counted x.next 1)
  counts_atomic {x} h q X = record {
    gives = λ s j a.
        let w = Grammar.atomic_here a q in
        ap (λ (z : Counted). counted z.next 1) (X.gives w.b j w.body) ∙ ap (counted j) (ap count_i (sym w.is));
    some = omega arith;
    room = omega (arith, X.room);
    fits = X.fits;
  }

  -- any other
  pub counts_plain : {r : ℕ} → InstrIn t i d → (get_or t i 0 ≡ 0x23 → ⊥) → (get_or t i 0 ≡ 0x24 → ⊥) → (get_or t i 0 ≡ 0x26 → ⊥) → PlainEnds t i r
      → CountsInstr t i d (counted r 1)
  counts_plain {r} h a b c R =
      let same : r ≡ h.next = R.ends h.instr h.next (plain_at h.instr h.there a b c) in
      record {
        gives = λ s j o. ap₂ counted (R.ends s j (plain_at s o a b c)) (sym (plain_one s o a b));
        some = omega arith;
        room = omega (arith, same, Grammar.instr_inside h.there);
        fits = omega (arith, same, Grammar.instr_inside h.there);
      }

-- ---- labels of blocks

-- what is counted from k on, after n labels, is counted from i on
pub record Counting (t : List ℕ) (i d k n : ℕ) : Type 0 where
  pub rest : BlockIn t k d
  pub room : i + n ≤ k
  pub back : (r : Counted) → CountsBlock t k d r → CountsBlock t i d (counted r.next (n + r.labels))

module _ {t : List ℕ} {i d : ℕ} where
  -- from the beginning
  pub count_start : BlockIn t i d → Counting t i d i 0
  count_start h = record {
    rest = h;
    room = omega arith;
    back = λ r R.
        let same : 0 + r.labels ≡ r.labels = omega arith in
        rw same R;
  }

  -- the next instruction
  pub count_instr_in : {k n : ℕ} → Counting t i d k n → (get_or t k 0 ≡ 0 → ⊥) → InstrIn t k (d - 1)
  count_instr_in C q = instr_in (Grammar.step_here C.rest.there q).here

  pub count_next : {k n : ℕ} {x : Counted} → Counting t i d k n → (get_or t k 0 ≡ 0 → ⊥) → CountsInstr t k (d - 1) x
      → Counting t i d x.next (n + x.labels)
  count_next {k} {n} {x} C q X =
      let w = Grammar.step_here C.rest.there q in
      let here : x ≡ counted w.k (count_i w.s) = X.gives w.s w.k w.here in
      record {
        rest = rw here (block_in w.after);
        room = omega (arith, C.room, X.room);
        back = λ r R.
            let same : n + (x.labels + r.labels) ≡ n + x.labels + r.labels = omega arith in
            rw same at (C.back (counted r.next (x.labels + r.labels)) (record {
              gives = λ b j a.
                  let v = Grammar.step_here a q in
                  let one : x ≡ counted v.k (count_i v.s) = X.gives v.s v.k v.here in
                  let more : r ≡ counted j (count v.rest) =
                  R.gives v.rest j (subst (λ (m : ℕ). Grammar.BlockAt t m d v.rest j) (sym (ap (λ (z : Counted). z.next) one)) v.after)
                  in
                  ap₂ (λ (u z : Counted). counted z.next (u.labels + z.labels)) one more ∙ ap (counted j) (ap count (sym v.is));
              room = omega (arith, X.room, R.room);
              fits = R.fits;
            }));
      }

  -- "a block ends with byte 00"
  pub count_end : {k n : ℕ} → Counting t i d k n → get_or t k 0 ≡ 0 → CountsBlock t i d (counted (k + 1) n)
  count_end {k} {n} C q =
      let same : n + 0 ≡ n = omega arith in
      rw same at (C.back (counted (k + 1) 0) (record {
        gives = λ b j a. let v = Grammar.end_here a q in ap₂ counted (sym v.1) (ap count (sym v.0));
        room = omega arith;
        fits = omega (arith, C.rest.inside);
      }))

pub ruleset count_ways = (
  body_in_lem,
  then_in,
  else_in,
  atomic_in,
  plain_in,
  counts_while,
  counts_if,
  counts_atomic,
  counts_plain,
  count_start,
  count_instr_in,
  count_next,
  count_end,
)

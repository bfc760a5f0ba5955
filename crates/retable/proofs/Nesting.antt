-- One law for each way through the parser of instructions and blocks.
use Prim.Native.Nat.{ℕ, suc, ◌+◌, ◌*◌, ◌-◌, ◌≤◌}
use native.Mathlib.Omega.{arith}
use native.Mathlib.Nat.{add-zero}
use mathlib.Core.Path.{◌≡◌, refl, sym, ap, subst, ◌∙◌}
use mathlib.Core.List.{List, [], ◌∷◌, ◌++◌}
use mathlib.Core.Bool.{Bool, true, false}
use lib.ListN.{length, get_or, get_or-eq_default}
use lib.Dec.{eqb}
use borrow.Author.Tests.{ne_eqb}
use Rattle.format.specs.Syntax.{Instr, Block, Plain}
use Rattle.format.specs.Encode.{expr, instr, block}
use Rattle.format.proofs.Laws.Blocks.{nesting_pos}
use Rattle.ctext.proofs.Laws.ExprText.{moved}
use Rattle.ctext.proofs.Laws.LineText.{ended, InstrText, BlockText, WhileIn, IfIn}
use Rattle.ctext.proofs.Laws.BlockText.{target_in, while_in, if_in, write_in, call_in_lem, select_in, StepIn, block_end, block_step}
use Rattle.writer.specs.Laws.Put.{Put}
use Rattle.writer.proofs.Puts.{put_then, put_cons}
use Rattle.retable.specs.Laws.Pieces.{Skips}
use Rattle.retable.specs.Laws.Exprs.{Parses, ParsesExpr}
use Rattle.retable.specs.Laws.Lines.{ParsesTarget, ParsesWrite, ParsesSelect, ParsesCall}
use Rattle.retable.specs.Laws.Blocks.{ParsesTest, ParsesIf, ParsesInstr, ParsesBlock}
use Rattle.retable.specs.declared.exprs.Parsed.{Parsed}
use Rattle.retable.proofs.Arguing.{hop, expr_at, expr_from}

-- ---- tests and ends

-- a test
pub test_way : {x : List ℕ} {i m : ℕ} {o o₁ o₂ : List ℕ} {p q u : ℕ} {e : Parsed} → Put o p (m ∷ []) o₁ q → ParsesExpr x i 16 o₁ q o₂ e → Skips x e.next 5 u
    → ParsesTest x i m o p o₂ (record { next = u; to = e.to })
test_way P E U = record {
  gives = λ a k h l.
      let one = expr_at E h refl in
      record { puts = put_cons P one.puts; ends = hop U one.ends l };
}

module _ (x : List ℕ) (i w : ℕ) {k : ℕ} (wide : 2 ≤ w) (e : k ≡ get_or x (i + (w - 2)) 0) where
  -- the brace's place
  brace : k ≡ get_or x (i + w - 2) 0
  brace = let same : i + (w - 2) ≡ i + w - 2 = omega arith in rw same at e

  -- a brace
  pub ends_brace : k ≡ 125 → true ≡ ended x i w
  unfolding ended
  ends_brace f = rw (← brace, f)

  module _ (f : k ≡ 125 → ⊥) {l : ℕ} (g : l ≡ get_or x (i + w) 0) where
    -- z_return, or another line with a z
    pub ends_line : {m : ℕ} → l ≡ 122 → m ≡ get_or x (i + (w + 2)) 0 → eqb m 114 ≡ ended x i w
    unfolding ended
    ends_line h n =
        let same : i + (w + 2) ≡ i + w + 2 = omega arith in
        let third : _ ≡ get_or x (i + w + 2) 0 = rw same at n in
        rw (← brace, ne_eqb _ _ f, ← g, h, ← third)

    -- neither
    pub ends_not : (l ≡ 122 → ⊥) → false ≡ ended x i w
    unfolding ended
    ends_not h = rw (← brace, ne_eqb _ _ f, ← g, ne_eqb _ _ h)

-- ---- instructions

-- a block that stands elsewhere
block_moved : {x : List ℕ} {i k c d : ℕ} {b : Block Plain} {j : ℕ} → BlockText x i c d b j → i ≡ k → BlockText x k c d b j
block_moved {x} {c = c} {d} {b} {j} h q = subst (λ i. BlockText x i c d b j) q h

-- a block, at one depth more
block_at : {x : List ℕ} {s i c w d : ℕ} {b : Block Plain} {j : ℕ} {o o' : List ℕ} {p : ℕ} {r : Parsed} → ParsesBlock x s c (w + 2) o p o' r → w ≡ 2 * d
    → BlockText x i c (suc d) b j → s ≡ i → Parses (block b) j o p o' r
block_at {d = d} {b} {j} B e h q = B.gives (suc d) b j (omega arith) (block_moved h (sym q))

-- where it stands is in the text
block_from : {x : List ℕ} {i c d : ℕ} {b : Block Plain} {j : ℕ} → BlockText x i c d b j → i ≤ length x
block_from h = omega (arith, h.stands.ends, h.stands.fits)

-- an if
pub if_way : {x : List ℕ} {i c w : ℕ} {o o₁ o₂ o₃ : List ℕ} {p s t u : ℕ} {e a r : Parsed} → Skips x i 11 s → ParsesTest x s 0x24 o p o₁ e
    → ParsesBlock x e.next c (w + 2) o₁ e.to o₂ a → Skips x a.next (w + 9) t → ParsesBlock x t c (w + 2) o₂ a.to o₃ r
    → Skips x r.next (w + 2) u → ParsesIf x i c w o p o₃ (record { next = u; to = r.to })
if_way {x} {i} {c} {w} {o} {o₁} {o₂} {o₃} {p} {s} {t} {u} {e} {a} {r} S E A T B U = record { gives = gives }
  where
    gives : (d : ℕ) (l : Instr Plain) (j : ℕ) → w ≡ 2 * d → InstrText x i c d l j → IfIn x i c d l j
        → Parses (instr l) j o p o₃ (record { next = u; to = r.to })
    gives d l j q h v =
        let place = hop S refl (expr_from v.test) in
        let test = E.gives v.e v.k (moved v.test (sym place)) (block_from v.first) in
        let one = block_at A q v.first test.ends in
        let else : t ≡ v.l + (w + 9) = hop T one.ends (omega (arith, block_from v.second)) in
        let two = block_at B q v.second (else ∙ omega arith) in
        let last : u ≡ v.m + (w + 2) = hop U two.ends (omega (arith, v.ends, h.stands.fits)) in
        rw v.is
        (record {
          puts = put_then (0x24 ∷ expr v.e) (block v.b ++ block v.f) test.puts
              (put_then (block v.b) (block v.f) one.puts two.puts);
          ends = omega (arith, v.ends);
        })

-- the first byte
first_byte : (x : List ℕ) (i : ℕ) {k : ℕ} → k ≡ get_or x (i + 0) 0 → k ≡ get_or x i 0
first_byte x i e = rw add-zero at e

module _ {x : List ℕ} {i c w : ℕ} {o : List ℕ} {p k : ℕ} (b : k ≡ get_or x (i + 0) 0) where
  -- x
  pub instr_target : {o' : List ℕ} {r : Parsed} → k ≡ 120 → ParsesTarget x i o p o' r → ParsesInstr x i c w o p o' r
  instr_target e T = record { gives = λ d s j q h. T.gives c d s j h (target_in h (sym (first_byte x i b) ∙ e)) }

  -- while
  pub instr_while : {o₁ o₂ : List ℕ} {s u : ℕ} {e r : Parsed} → k ≡ 119 → Skips x i 14 s → ParsesTest x s 0x23 o p o₁ e
      → ParsesBlock x e.next c (w + 2) o₁ e.to o₂ r → Skips x r.next (w + 2) u → ParsesInstr x i c w o p o₂ (record { next = u; to = r.to })
  instr_while {o₁} {o₂} {s} {u} {e} {r} f S E B U = record { gives = gives }
    where
      gives : (d : ℕ) (a : Instr Plain) (j : ℕ) → w ≡ 2 * d → InstrText x i c d a j → Parses (instr a) j o p o₂ (record { next = u; to = r.to })
      gives d a j q h =
          let v : WhileIn x i c d a j = while_in h (sym (first_byte x i b) ∙ f) in
          let place = hop S refl (expr_from v.test) in
          let test = E.gives v.e v.k (moved v.test (sym place)) (block_from v.body) in
          let body = block_at B q v.body test.ends in
          let last : u ≡ v.l + (w + 2) = hop U body.ends (omega (arith, v.ends, h.stands.fits)) in
          rw v.is
          (record { puts = put_then (0x23 ∷ expr v.e) (block v.b) test.puts body.puts; ends = omega (arith, v.ends) })

  -- if
  pub instr_if : {o' : List ℕ} {r : Parsed} → k ≡ 105 → ParsesIf x i c w o p o' r → ParsesInstr x i c w o p o' r
  instr_if e I = record { gives = λ d s j q h. I.gives d s j q h (if_in h (sym (first_byte x i b) ∙ e)) }

  module _ {m : ℕ} {o' : List ℕ} {r : Parsed} (n₁ : k ≡ 120 → ⊥) (n₂ : k ≡ 119 → ⊥) (n₃ : k ≡ 105 → ⊥) (g : m ≡ get_or x (i + 2) 0) where
    -- z_write
    pub instr_write : m ≡ 119 → ParsesWrite x i o p o' r → ParsesInstr x i c w o p o' r
    instr_write e W = record {
      gives = λ d s j q h. W.gives c d s j h (write_in h (λ z. n₁ (first_byte x i b ∙ z)) (λ z. n₂ (first_byte x i b ∙ z)) (λ z. n₃ (first_byte x i b ∙ z)) (sym g ∙ e));
    }

    -- z_call
    pub instr_call : m ≡ 99 → ParsesCall x i o p o' r → ParsesInstr x i c w o p o' r
    instr_call e C = record {
      gives = λ d s j q h. C.gives c d s j h (call_in_lem h (λ z. n₁ (first_byte x i b ∙ z)) (λ z. n₂ (first_byte x i b ∙ z)) (λ z. n₃ (first_byte x i b ∙ z)) (sym g ∙ e));
    }

    -- z_select
    pub instr_select : (m ≡ 119 → ⊥) → (m ≡ 99 → ⊥) → ParsesSelect x i o p o' r → ParsesInstr x i c w o p o' r
    instr_select e f S = record {
      gives = λ d s j q h.
          S.gives c d s j h
          (select_in h (λ z. n₁ (first_byte x i b ∙ z)) (λ z. n₂ (first_byte x i b ∙ z)) (λ z. n₃ (first_byte x i b ∙ z)) (λ z. e (g ∙ z)) (λ z. f (g ∙ z)));
    }

-- ---- blocks

-- what is written from k on is what is written from i on
pub record BlockFrom (x : List ℕ) (i c w : ℕ) (o : List ℕ) (p k : ℕ) (o' : List ℕ) (q : ℕ) : Type 0 where
  pub back : {o'' : List ℕ} {r : Parsed} → ParsesBlock x k c w o' q o'' r → ParsesBlock x i c w o p o'' r
  pub kept : length o' ≡ length o

-- no depth is left
pub block_none : {x : List ℕ} {i c w : ℕ} {o o' : List ℕ} {p : ℕ} {r : Parsed} → c ≡ 0 → ParsesBlock x i c w o p o' r
block_none z = record { gives = λ d b j q h. absurd (omega (arith, h.fits.0, nesting_pos b)) }

-- past the end of the text no block ends
past_not : (x : List ℕ) (i d : ℕ) → length x ≤ i → 1 ≤ d → ended x i (2 * d) ≡ false
unfolding ended
past_not x i d l s =
    let a : get_or x (i + 2 * d - 2) 0 ≡ 0 = get_or-eq_default x 0 {n = i + 2 * d - 2} (omega arith) in
    let b : get_or x (i + 2 * d) 0 ≡ 0 = get_or-eq_default x 0 {n = i + 2 * d} (omega arith) in
    rw (a, b)

-- nor goes one on
past_none : {x : List ℕ} {i c d : ℕ} {b : Block Plain} {j : ℕ} → length x ≤ i → BlockText x i c d b j → ⊥
past_none {x} {i} {c} {d} {b} l h =
    let v : StepIn x i c d b _ = block_step h (past_not x i d l h.shown) in
    omega (arith, h.shown, v.here.stands.ends, v.here.stands.fits)

-- at the start
pub from_start : {x : List ℕ} {i c w : ℕ} {o : List ℕ} {p : ℕ} → BlockFrom x i c w o p i o p
from_start = record { back = λ B. B; kept = refl }

module _ {x : List ℕ} {i c w : ℕ} {o : List ℕ} {p k : ℕ} {o₁ : List ℕ} {q : ℕ} (F : BlockFrom x i c w o p k o₁ q) where
  -- the text ends
  pub from_past : {o₂ : List ℕ} {r : Parsed} → length x ≤ k → ParsesBlock x i c w o p o₂ r
  from_past l = F.back (record { gives = λ d b j e h. absurd (past_none l h) })

  -- the block ends
  pub from_end : {o₂ : List ℕ} {t : Bool} {r : ℕ} → t ≡ ended x k w → t ≡ true → Put o₁ q (0 ∷ []) o₂ r
      → ParsesBlock x i c w o p o₂ (record { next = k; to = r })
  from_end {o₂} {t} {r} e f P = F.back (record { gives = gives })
    where
      gives : (d : ℕ) (b : Block Plain) (j : ℕ) → w ≡ 2 * d → BlockText x k c d b j → Parses (block b) j o₁ q o₂ (record { next = k; to = r })
      gives d b j z h =
          let done = block_end h (subst (λ w. ended x k w ≡ true) z (sym e ∙ f)) in
          rw done.0 (record { puts = P; ends = sym done.1 })

  module _ {o₂ : List ℕ} {t : Bool} {s : ℕ} {r : Parsed} (e : t ≡ ended x k w) (f : t ≡ false) (S : Skips x k w s) (I : ParsesInstr x s (c - 1) w o₁ q o₂ r) where
    -- the instruction that stands there
    step_at : {d : ℕ} {b : Block Plain} {j : ℕ} → w ≡ 2 * d → (h : BlockText x k c d b j)
        → (v : StepIn x k c d b j) × Parses (instr v.s) v.k o₁ q o₂ r
    step_at {d} {b} {j} z h =
        let v : StepIn x k c d b j = block_step h (subst (λ w. ended x k w ≡ false) z (sym e ∙ f)) in
        let inside : k + 2 * d ≤ length x = omega (arith, v.here.stands.ends, v.here.stands.fits) in
        let place : s ≡ k + 2 * d = S.to (omega arith) ∙ ap (λ w. k + w) z in
        (v, I.gives d v.s v.k z (subst (λ i. InstrText x i (c - 1) d v.s v.k) (sym place) v.here))

    -- an instruction more
    pub from_next : length o₂ ≡ length o₁ → BlockFrom x i c w o p r.next o₂ r.to
    from_next keep = record { back = λ B. F.back (record { gives = λ d b j z h. go B d b j z h }); kept = keep ∙ F.kept }
      where
        go : {o'' : List ℕ} {a : Parsed} → ParsesBlock x r.next c w o₂ r.to o'' a → (d : ℕ) (b : Block Plain) (j : ℕ) → w ≡ 2 * d → BlockText x k c d b j
            → Parses (block b) j o₁ q o'' a
        go B d b j z h =
            let v = step_at z h in
            let rest = B.gives d v.0.rest j z (block_moved v.0.after (sym v.1.ends)) in
            rw v.0.is (record { puts = put_then (instr v.0.s) (block v.0.rest) v.1.puts rest.puts; ends = rest.ends })

    -- none that goes on
    pub from_stuck : {o₃ : List ℕ} {a : Parsed} → r.next ≤ k → ParsesBlock x i c w o p o₃ a
    from_stuck l = F.back (record {
      gives = λ d b j z h.
          let v = step_at z h in
          absurd (omega (arith, v.1.ends, v.0.here.stands.ends, h.shown));
    })

-- one law for each way
pub ruleset test_ways = (test_way, ends_brace, ends_line, ends_not)

pub ruleset instr_ways = (instr_target, instr_while, instr_if, instr_write, instr_call, instr_select)

pub ruleset if_ways = (if_way)

pub ruleset block_ways = (block_none, from_start, from_past, from_end, from_next)

pub ruleset stuck_ways = (from_stuck)

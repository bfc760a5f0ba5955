-- One law for each way through the code of an atomic block.
use Prim.Native.Nat.{ℕ, ◌+◌, ◌-◌, ◌≤◌}
use native.Mathlib.Omega.{arith}
use mathlib.Core.Path.{◌≡◌, sym}
use mathlib.Core.List.{List, [], ◌∷◌}
use lib.ListN.{length, get_or}
use Rattle.format.specs.Syntax.{Instr, Block, end}
use Rattle.format.specs.Encode.{expr, block}
use Rattle.format.proofs.Laws.Grammar.{BlockAt, IfAt, if_here, StepAt, end_here, step_here, block_inside, block_deep}
use Rattle.format.specs.Rules.{max_locals}
use Rattle.translation.specs.Layout.{Layout}
use Rattle.translation.specs.Code.{shift, inside_i, inside}
use Rattle.writer.specs.Laws.Pages.{Puts, Writes}
use Rattle.emit.specs.Laws.Sources.{Low, Sited, LoadsOf, InPlaceI, InPlace, PlainIf}
use Rattle.emit.specs.Laws.Sources.{InsideInstr, InsideBlock, Branch, From, Asks}
use Rattle.writer.specs.declared.page.Page.{Page}
use Rattle.emit.specs.declared.layout.Site.{Site}
use Rattle.writer.proofs.Paging.{puts_then, onto_start}
use Rattle.emit.proofs.Coding.{writes_instr, writes_then, writes_block, block_end}
use Rattle.emit.proofs.Plainly.{low_more}

module _ {t : List ℕ} where
  -- ---- instructions

  -- one that holds no block
  pub instr_plain : {i d : ℕ} {s : Site} {o o' : Page} {r : ℕ} → (get_or t i 0 ≡ 0x24 → ⊥) → PlainIf t i s o o' r
      → InsideInstr t i d s o o' r
  instr_plain {i} {d} f P = record {
    gives = λ G m n a j. (P.gives f).gives G m n d a j;
    ends = λ n a j. (P.gives f).ends n d a j;
    forward = P.forward;
  }

  -- an if
  pub instr_if : {i d : ℕ} {s : Site} {o o₁ o₂ o₃ o₄ : Page} {q u r : ℕ} → get_or t i 0 ≡ 0x24 → LoadsOf t (i + 1) s o o₁
      → Asks t (i + 1) o₁ o₂ q → Branch t q d s o₂ o₃ u → Branch t u d s o₃ o₄ r → InsideInstr t i d s o o₄ r
  instr_if {i} {d} {s} {o} {o₄ = o₄} {q = q} {u} {r} b L A B C = record {
    gives = λ G m n a j h at ok. gives G m n a j h ok (if_here at b);
    ends = λ n a j few at ok. ends n a j few ok (if_here at b);
    forward = omega (arith, A.forward, B.forward, C.forward);
  }
    where
      gives : (G : Layout) (m n : ℕ) (a : Instr ℕ) (j : ℕ) → Sited G m n s → InPlaceI n a → IfAt t i d a j → Writes o (inside_i G m n a) o₄
      gives G m n a j h ok w =
          let ok' : Low n w.e × InPlace n w.b × InPlace n w.c = rw w.is at ok in
          let low : Low max_locals w.e = low_more w.e h.few ok'.0 in
          let one : q ≡ w.k = A.ends w.e w.k w.test low in
          let yes : BlockAt t q d w.b w.l = rw one w.first in
          let two : u ≡ w.l = B.ends n w.b w.l h.few yes ok'.1 in
          let no : BlockAt t u d w.c j = rw two w.second in
          rw w.is
          (writes_then (L.gives G m n w.e w.k h (record { stands = w.test; low = ok'.0 }))
          (writes_instr (record {
            puts = puts_then (0x24 ∷ expr (shift w.e)) _ (A.gives w.e w.k w.test low)
                (puts_then (block (inside G m n w.b end)) (block (inside G m n w.c end))
                (B.gives G m n w.b w.l h yes ok'.1).puts (C.gives G m n w.c j h no ok'.2).puts);
          })))

      ends : (n : ℕ) (a : Instr ℕ) (j : ℕ) → n ≤ max_locals → InPlaceI n a → IfAt t i d a j → r ≡ j
      ends n a j few ok w =
          let ok' : Low n w.e × InPlace n w.b × InPlace n w.c = rw w.is at ok in
          let one : q ≡ w.k = A.ends w.e w.k w.test (low_more w.e few ok'.0) in
          let two : u ≡ w.l = B.ends n w.b w.l few (rw one w.first) ok'.1 in
          C.ends n w.c j few (rw two w.second) ok'.2

  -- ---- blocks

  -- a branch, with its end
  pub branch : {i d : ℕ} {s : Site} {o o₁ o₂ : Page} {u : ℕ} → InsideBlock t i d s o o₁ u → Puts o₁ (0 ∷ []) o₂
      → Branch t i d s o o₂ u
  branch I P = record {
    gives = λ G m n b j h at ok. writes_block (I.gives G m n b j h at ok) (block_end P);
    ends = I.ends;
    forward = I.forward;
  }

  -- nothing stands there
  block_none : {i d : ℕ} {s : Site} {o o' : Page} → ((b : Block ℕ) (j : ℕ) → BlockAt t i d b j → ⊥)
      → InsideBlock t i d s o o' i
  block_none f = record {
    gives = λ G m n b j h at ok. absurd (f b j at);
    ends = λ n b j few at ok. absurd (f b j at);
    forward = omega arith;
  }

  -- no depth is left
  pub block_deep_none : {i d : ℕ} {s : Site} {o o' : Page} → d ≡ 0 → InsideBlock t i d s o o' i
  block_deep_none z = block_none (λ b j h. omega (arith, block_deep h))

  -- the end
  ended : {i d : ℕ} {s : Site} {o : Page} → get_or t i 0 ≡ 0 → InsideBlock t i d s o o (i + 1)
  ended {i} {d} {s} {o} z = record {
    gives = λ G m n b j h at ok. gives G m n b (end_here at z).0;
    ends = λ n b j few at ok. sym (end_here at z).1;
    forward = omega arith;
  }
    where
      gives : (G : Layout) (m n : ℕ) (b : Block ℕ) → b ≡ end → Writes o (inside G m n b) o
      gives G m n b e = rw e (record { before = λ c. onto_start })

  -- an instruction, and the others
  stepped : {i d : ℕ} {s : Site} {o o₁ o₂ : Page} {u r : ℕ} → (get_or t i 0 ≡ 0 → ⊥) → InsideInstr t i (d - 1) s o o₁ u
      → InsideBlock t u d s o₁ o₂ r → InsideBlock t i d s o o₂ r
  stepped {i} {d} {s} {o} {o₁} {o₂} {u} {r} z I B = record {
    gives = λ G m n b j h at ok. gives G m n b j h ok (step_here at z);
    ends = λ n b j few at ok. ends n b j few ok (step_here at z);
    forward = omega (arith, I.forward, B.forward);
  }
    where
      gives : (G : Layout) (m n : ℕ) (b : Block ℕ) (j : ℕ) → Sited G m n s → InPlace n b → StepAt t i d b j → Writes o (inside G m n b) o₂
      gives G m n b j h ok w =
          let ok' : InPlaceI n w.s × InPlace n w.rest = rw w.is at ok in
          let next : u ≡ w.k = I.ends n w.s w.k h.few w.here ok'.0 in
          rw w.is
          (writes_then (I.gives G m n w.s w.k h w.here ok'.0) (B.gives G m n w.rest j h (rw next w.after) ok'.1))

      ends : (n : ℕ) (b : Block ℕ) (j : ℕ) → n ≤ max_locals → InPlace n b → StepAt t i d b j → r ≡ j
      ends n b j few ok w =
          let ok' : InPlaceI n w.s × InPlace n w.rest = rw w.is at ok in
          let next : u ≡ w.k = I.ends n w.s w.k few w.here ok'.0 in
          B.ends n w.rest j few (rw next w.after) ok'.1

  -- ---- the loop

  -- an instruction more
  pub from_next : {i d k : ℕ} {s : Site} {o o₁ o₂ : Page} {u : ℕ} → From t i d s o k o₁ → (get_or t k 0 ≡ 0 → ⊥)
      → InsideInstr t k (d - 1) s o₁ o₂ u → From t i d s o u o₂
  from_next F z I = record { back = λ B. F.back (stepped z I B) }

  -- the end
  pub from_end : {i d k : ℕ} {s : Site} {o o' : Page} → From t i d s o k o' → get_or t k 0 ≡ 0
      → InsideBlock t i d s o o' (k + 1)
  from_end F z = F.back (ended z)

  -- the end of the table
  pub from_past : {i d k : ℕ} {s : Site} {o o' : Page} → From t i d s o k o' → length t ≤ k
      → InsideBlock t i d s o o' k
  from_past F l = F.back (block_none (λ b j h. omega (arith, (block_inside h).0, (block_inside h).1)))

-- one law for each way
pub ruleset block_ways = (instr_plain, instr_if, branch, block_deep_none, from_next, from_end, from_past)

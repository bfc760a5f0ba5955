-- One law for each way to show instructions that hold blocks, and blocks.
use Prim.Native.Nat.{ℕ, suc, ◌+◌, ◌-◌, ◌≤◌}
use native.Mathlib.Omega.{arith}
use mathlib.Core.Path.{◌≡◌, refl, sym, subst, ◌∙◌}
use mathlib.Core.List.{List, ◌++◌}
use lib.ListN.{length, get_or, replicate}
use Rattle.format.specs.Syntax.{Instr, Block, Plain}
use Rattle.format.specs.Decode.{max_depth}
use Rattle.format.proofs.Laws.Grammar.{ExprAt, InstrAt, BlockAt, WhileAt, IfAt, StepAt, while_here, if_here, end_here, step_here, block_inside}
use Rattle.format.proofs.Laws.Grammar as G
use Rattle.ctext.specs.Pieces.{say}
use Rattle.ctext.specs.Text.{expr, ind, instr, block}
use Rattle.ctext.proofs.Laws.LineText.{FlatI, Flat}
use Rattle.typeset.specs.declared.pieces.Page.{Page}
use Rattle.typeset.specs.Page.{Put}
use Rattle.typeset.proofs.Setting.{put_none, put_then, put_same}
use Rattle.phrases.specs.Shows.{Shows}
use Rattle.lines.specs.Lines.{ShowsInstr, ShowsPlain, ShowsTest, ShowsBlock, ShowsClosed, Later}
use Rattle.lines.proofs.Plainly.{lit, regroup}

-- a word, a test and a brace
pub test_shown : {word t : List ℕ} {i : ℕ} {p q r s : Page} {ns : ℕ} → Put p word q → Shows t i max_depth 3 q s ns
    → Put s (lit ")) {\n") r → ShowsTest word t i p r ns
unfolding say
test_shown {word} A S B = record {
  shown = λ e j h. put_then word _ A (put_then (expr e) _ (S.shown e j h) B);
  ends = S.ends;
  forward = S.forward;
  kept = B.kept ∙ S.kept ∙ A.kept;
}

-- a block and the line behind it
pub closed_shown : {word t : List ℕ} {i c w : ℕ} {p q r s : Page} {ns : ℕ} → ShowsBlock t i c (w + 2) p s ns
    → Put s (replicate w 32) q → Put q word r → ShowsClosed word t i c w p r ns
closed_shown {word} S A B = record {
  shown = λ d b j e h f. put_then (block (suc d) b) _ (S.shown (suc d) b j (omega (arith, e)) h f) (put_then (ind d) word (rw e at A) B);
  ends = S.ends;
  forward = S.forward;
  kept = B.kept ∙ A.kept ∙ S.kept;
}

module _ {t : List ℕ} {i c w : ℕ} {p : Page} where
  -- ---- instructions

  -- while
  pub while_shown : {s r : Page} {ns nr : ℕ} → get_or t i 0 ≡ 0x23 → ShowsTest (lit "while (z_test(") t (i + 1) p s ns
      → ShowsClosed (lit "}\n") t ns c w s r nr
      → ShowsInstr t i c w p r nr
  unfolding say
  while_shown {s} {r} {ns} {nr} m T C = record {
    shown = λ d a j v h f.
        let g : WhileAt t i c a j = while_here h m in
        let rest : List ℕ = block (suc d) g.b ++ (ind d ++ say "}\n") in
        let apart : (say "while (z_test(" ++ (expr g.e ++ say ")) {\n")) ++ rest ≡ say "while (z_test(" ++ (expr g.e ++ (say ")) {\n" ++ rest)) =
        regroup (say "while (z_test(") (expr g.e) (say ")) {\n") rest
        in
        rw g.is (put_same apart (put_then (say "while (z_test(" ++ (expr g.e ++ say ")) {\n")) rest (T.shown g.e g.k g.test) (C.shown d g.b j v (body a j g) (subst FlatI g.is f))));
    ends = λ a j h f. let g : WhileAt t i c a j = while_here h m in C.ends g.b j (body a j g) (subst FlatI g.is f);
    forward = omega (arith, T.forward, C.forward);
    kept = C.kept ∙ T.kept;
  }
    where
      body : (a : Instr Plain) (j : ℕ) (g : WhileAt t i c a j) → BlockAt t ns c g.b j
      body a j g = subst (λ k. BlockAt t k c g.b j) (sym (T.ends g.e g.k g.test)) g.body

  -- if
  pub if_shown : {s u r : Page} {ns nu nr : ℕ} → get_or t i 0 ≡ 0x24 → ShowsTest (lit "if (z_test(") t (i + 1) p s ns
      → ShowsClosed (lit "} else {\n") t ns c w s u nu → ShowsClosed (lit "}\n") t nu c w u r nr
      → ShowsInstr t i c w p r nr
  unfolding say
  if_shown {s} {u} {r} {ns} {nu} {nr} m T B C = record {
    shown = λ d a j v h f.
        let g : IfAt t i c a j = if_here h m in
        let last : List ℕ = block (suc d) g.c ++ (ind d ++ say "}\n") in
        let mid : List ℕ = block (suc d) g.b ++ (ind d ++ say "} else {\n") in
        let flat : Flat g.b × Flat g.c = subst FlatI g.is f in
        let inner : mid ++ last ≡ block (suc d) g.b ++ (ind d ++ (say "} else {\n" ++ last)) =
        regroup (block (suc d) g.b) (ind d) (say "} else {\n") last
        in
        let rest : List ℕ = block (suc d) g.b ++ (ind d ++ (say "} else {\n" ++ last)) in
        let apart : (say "if (z_test(" ++ (expr g.e ++ say ")) {\n")) ++ rest ≡ say "if (z_test(" ++ (expr g.e ++ (say ")) {\n" ++ rest)) =
        regroup (say "if (z_test(") (expr g.e) (say ")) {\n") rest
        in
        rw g.is
        (put_same apart
        (put_then (say "if (z_test(" ++ (expr g.e ++ say ")) {\n")) rest (T.shown g.e g.k g.test)
        (put_same inner (put_then mid last (B.shown d g.b g.l v (yes_block a j g) flat.0) (C.shown d g.c j v (no_block a j g flat.0) flat.1)))));
    ends = λ a j h f.
        let g : IfAt t i c a j = if_here h m in
        let flat : Flat g.b × Flat g.c = subst FlatI g.is f in
        C.ends g.c j (no_block a j g flat.0) flat.1;
    forward = omega (arith, T.forward, B.forward, C.forward);
    kept = C.kept ∙ B.kept ∙ T.kept;
  }
    where
      yes_block : (a : Instr Plain) (j : ℕ) (g : IfAt t i c a j) → BlockAt t ns c g.b g.l
      yes_block a j g = subst (λ k. BlockAt t k c g.b g.l) (sym (T.ends g.e g.k g.test)) g.first

      no_block : (a : Instr Plain) (j : ℕ) (g : IfAt t i c a j) → Flat g.b → BlockAt t nu c g.c j
      no_block a j g f = subst (λ k. BlockAt t k c g.c j) (sym (B.ends g.b g.l (yes_block a j g) f)) g.second

  -- another
  pub plain_shown : {r : Page} {nr : ℕ} → (get_or t i 0 ≡ 0x23 → ⊥) → (get_or t i 0 ≡ 0x24 → ⊥) → ShowsPlain t i (get_or t i 0) p r nr
      → ShowsInstr t i c w p r nr
  plain_shown a b S = S.gives c w refl a b

  -- ---- blocks

  -- no depth is left
  pub block_deep : c ≡ 0 → ShowsBlock t i c w p p i
  block_deep z = record {
    shown = λ d b j v h f. absurd (omega (arith, z, G.block_deep h));
    ends = λ b j h f. absurd (omega (arith, z, G.block_deep h));
    forward = omega arith;
    kept = refl;
  }

  -- at the start
  pub later_start : Later t i c w p i p
  later_start = record { back = λ S. S; kept = refl }

  -- its end
  pub later_end : {q : Page} {i' : ℕ} → Later t i c w p i' q → get_or t i' 0 ≡ 0
      → ShowsBlock t i c w p q (i' + 1)
  later_end F z = F.back (record {
    shown = λ d b j v h f. rw (end_here h z).0 put_none;
    ends = λ b j h f. sym (end_here h z).1;
    forward = omega arith;
    kept = refl;
  })

  -- the table ends
  pub later_past : {q : Page} {i' : ℕ} → Later t i c w p i' q → length t ≤ i' → ShowsBlock t i c w p q i'
  later_past F z = F.back (record {
    shown = λ d b j v h f. absurd (omega (arith, z, (block_inside h).0, (block_inside h).1));
    ends = λ b j h f. absurd (omega (arith, z, (block_inside h).0, (block_inside h).1));
    forward = omega arith;
    kept = refl;
  })

  -- an instruction more
  pub later_next : {q u : Page} {i' : ℕ} {s : Page} {ns : ℕ} → Later t i c w p i' q → (get_or t i' 0 ≡ 0 → ⊥) → Put q (replicate w 32) u
      → ShowsInstr t i' (c - 1) w u s ns
      → Later t i c w p ns s
  later_next {i' = i'} {s = s} {ns = ns} F z A S = record {
    back = λ M. F.back (record {
      shown = λ d b j v h f.
          let g : StepAt t i' c b j = step_here h z in
          let flat : FlatI g.s × Flat g.rest = subst Flat g.is f in
          rw g.is
          (put_then (ind d) _ (rw v at A)
          (put_then (instr d g.s) _ (S.shown d g.s g.k v g.here flat.0) (M.shown d g.rest j v (after b j g flat.0) flat.1)));
      ends = λ b j h f.
          let g : StepAt t i' c b j = step_here h z in
          let flat : FlatI g.s × Flat g.rest = subst Flat g.is f in
          M.ends g.rest j (after b j g flat.0) flat.1;
      forward = omega (arith, S.forward, M.forward);
      kept = M.kept ∙ S.kept ∙ A.kept;
    });
    kept = S.kept ∙ A.kept ∙ F.kept;
  }
    where
      after : (b : Block Plain) (j : ℕ) (g : StepAt t i' c b j) → FlatI g.s → BlockAt t ns c g.rest j
      after b j g f = subst (λ k. BlockAt t k c g.rest j) (sym (S.ends g.s g.k g.here f)) g.after

-- one law for each way
pub ruleset nested_ways = (
  test_shown,
  closed_shown,
  while_shown,
  if_shown,
  plain_shown,
  block_deep,
  later_start,
  later_end,
  later_past,
  later_next,
)

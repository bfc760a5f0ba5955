-- One law for each way to show arguments and instructions that hold no block.
use Prim.Native.Nat.{ℕ, ◌+◌, ◌-◌, ◌≤◌, ◌<◌}
use Prim.Native.Char.{code}
use Prim.Native.String.{String}
use Prim.Native.String.{[] as empty, ◌∷◌ as ◌before◌}
use native.Mathlib.Omega.{arith}
use mathlib.Core.Path.{◌≡◌, refl, sym, ap, subst, ◌∙◌}
use mathlib.Core.List.{List, [], ◌∷◌, ◌++◌, append_assoc}
use lib.ListN.{get_or}
use Rattle.format.specs.Syntax.{Expr, Instr, assign, write, read, while, if, call, atomic, select, Plain}
use Rattle.format.specs.Decode.{max_depth}
use Rattle.format.proofs.Laws.Stands.{first}
use Rattle.format.proofs.Laws.Grammar.{ExprAt, ExprsAt, MoreAt, InstrAt, WriteAt, exprs_none_lem, exprs_more, assign_here, write_here, read_here, call_here, select_here}
use Rattle.basics.specs.Places.{number_at}
use Rattle.basics.specs.Laws.Places.{number_at_lem}
use Rattle.ctext.specs.Pieces.{say, decimal}
use Rattle.ctext.specs.Text.{var, expr, listed}
use Rattle.ctext.proofs.Laws.LineText.{FlatI}
use Rattle.typeset.specs.declared.pieces.Page.{Page}
use Rattle.typeset.specs.Page.{Put}
use Rattle.typeset.proofs.Setting.{put_none, put_then, put_same}
use Rattle.phrases.specs.Shows.{Shows}
use Rattle.lines.specs.Lines.{ShowsNext, ShowsMore, Further, ShowsArgs, ShowsLast, ShowsAs, ShowsPlain}

-- the bytes of a quoted text, as they stand in the code
abbrev pub lit : String → List ℕ
lit empty = []
lit (c before s) = code c ∷ lit s

-- ---- arguments

-- one behind a comma
pub next_shown : {t : List ℕ} {i : ℕ} {p q s : Page} {ns : ℕ} → Put p (lit ",\n") q → Shows t i max_depth 3 q s ns
    → ShowsNext t i p s ns
unfolding say
next_shown A S = record {
  shown = λ e j h. put_then (say ",\n") (expr e) A (S.shown e j h);
  ends = S.ends;
  forward = S.forward;
  kept = S.kept ∙ A.kept;
}

module _ {t : List ℕ} {i n : ℕ} {p : Page} where
  -- at the start
  pub further_start : Further t i n p i (n - 0) p
  further_start = let all : n - 0 ≡ n = omega arith in rw all (record { back = λ S. S; kept = refl })

  -- one more
  further_by : {q s : Page} {i' left ns : ℕ} → Further t i n p i' left q → 0 < left → ShowsNext t i' q s ns → Further t i n p ns (left - 1) s
  further_by {i' = i'} {left} {ns} F l S = record {
    back = λ M. F.back (record {
      shown = λ es j h.
          let m : MoreAt t i' left es j = exprs_more h l in
          rw m.is (put_then (say ",\n" ++ expr m.e) _ (S.shown m.e m.k m.here) (M.shown m.rest j (rest es j m)));
      ends = λ es j h. let m : MoreAt t i' left es j = exprs_more h l in M.ends m.rest j (rest es j m);
      forward = omega (arith, S.forward, M.forward);
      kept = M.kept ∙ S.kept;
    });
    kept = S.kept ∙ F.kept;
  }
    where
      rest : (es : List Expr) (j : ℕ) (m : MoreAt t i' left es j) → ExprsAt t ns (left - 1) m.rest j
      rest es j m = subst (λ k. ExprsAt t k (left - 1) m.rest j) (sym (S.ends m.e m.k m.here)) m.after

  -- of n, the one behind c of them
  pub further_next : {q s : Page} {i' ns : ℕ} (c : ℕ) → Further t i n p i' (n - c) q → c < n → ShowsNext t i' q s ns
      → Further t i n p ns (n - (c + 1)) s
  further_next c F l S = let less : n - c - 1 ≡ n - (c + 1) = omega arith in rw less at (further_by F (omega arith) S)

  -- none is left
  pub further_end : {q : Page} {i' : ℕ} (c : ℕ) → Further t i n p i' (n - c) q → n ≤ c → ShowsMore t i n p q i'
  further_end c F l =
      F.back (record {
        shown = λ es j h. rw (exprs_none_lem h (omega arith)).0 put_none;
        ends = λ es j h. sym (exprs_none_lem h (omega arith)).1;
        forward = omega arith;
        kept = refl;
      })

  -- no arguments
  pub args_none : n ≡ 0 → ShowsArgs t i n p p i
  args_none z = record {
    shown = λ es j h. rw (exprs_none_lem h z).0 put_none;
    ends = λ es j h. sym (exprs_none_lem h z).1;
    forward = omega arith;
    kept = refl;
  }

  -- some
  pub args_some : {s r : Page} {ns nr : ℕ} → (n ≡ 0 → ⊥) → Shows t i max_depth 3 p s ns → ShowsMore t ns (n - 1) s r nr
      → ShowsArgs t i n p r nr
  args_some {s} {r} {ns} {nr} z S M = record {
    shown = λ es j h.
        let m : MoreAt t i n es j = exprs_more h (omega arith) in
        let rest : ExprsAt t ns (n - 1) m.rest j = subst (λ k. ExprsAt t k (n - 1) m.rest j) (sym (S.ends m.e m.k m.here)) m.after in
        rw m.is (put_then (expr m.e) _ (S.shown m.e m.k m.here) (M.shown m.rest j rest));
    ends = λ es j h.
        let m : MoreAt t i n es j = exprs_more h (omega arith) in
        M.ends m.rest j (subst (λ k. ExprsAt t k (n - 1) m.rest j) (sym (S.ends m.e m.k m.here)) m.after);
    forward = omega (arith, S.forward, M.forward);
    kept = M.kept ∙ S.kept;
  }

-- ---- instructions

-- an expression and the end of its line
pub last_shown : {t : List ℕ} {i : ℕ} {p r s : Page} {ns : ℕ} → Shows t i max_depth 3 p s ns → Put s (lit ");\n") r
    → ShowsLast t i p r ns
unfolding say
last_shown S A = record {
  shown = λ e j h. put_then (expr e) _ (S.shown e j h) A;
  ends = S.ends;
  forward = S.forward;
  kept = A.kept ∙ S.kept;
}

-- a word, a pointer and a comma
pub pointer_put : {word : List ℕ} {p q r s : Page} (y : ℕ) → Put p word q → Put q (var y) r → Put r (lit ", ") s
    → Put p (word ++ (var y ++ say ", ")) s
unfolding say
pointer_put {word} y A B C = put_then word _ A (put_then (var y) _ B C)

-- a word and a number
pub numbered_put : {word : List ℕ} {p q r : Page} (n : ℕ) → Put p word q → Put q (decimal n) r
    → Put p (word ++ decimal n) r
numbered_put {word} n A B = put_then word (decimal n) A B

-- three pieces in another grouping
pub regroup : (a b c r : List ℕ) → (a ++ (b ++ c)) ++ r ≡ a ++ (b ++ (c ++ r))
regroup a b c r = append_assoc a (b ++ c) r ∙ ap (λ l. a ++ l) (append_assoc b c r)

module _ {t : List ℕ} {i : ℕ} {p : Page} where
  -- x<v> = z_set(
  pub assign_shown : {q u : Page} {v : ℕ} {s : Page} {ns : ℕ} → v ≡ get_or t (i + 1) 0 → Put p (var v) q
      → Put q (lit " = z_set(") u
      → ShowsLast t (i + 2) u s ns
      → ShowsAs t i 0x20 p s ns
  unfolding say
  assign_shown {v = v} {s} w A B S = record {
    gives = λ c k m. record {
      shown = λ d a j e h f.
          let g = assign_here h m in
          rw (g.is, sym w) (put_then (var v) _ A (put_then (say " = z_set(") _ B (S.shown g.e j g.source)));
      ends = λ a j h f. let g = assign_here h m in S.ends g.e j g.source;
      forward = omega (arith, S.forward);
      kept = S.kept ∙ B.kept ∙ A.kept;
    };
    forward = omega (arith, S.forward);
    kept = S.kept ∙ B.kept ∙ A.kept;
  }

  -- z_write(here, x<y>,
  pub write_shown : {q₁ q₂ : Page} {y : ℕ} {s u : Page} {ns nu : ℕ} → y ≡ get_or t (i + 1) 0
      → Put p (lit "z_write(here, " ++ (var y ++ say ", ")) q₁ → Shows t (i + 2) max_depth 3 q₁ s ns → Put s (lit ", ") q₂
      → ShowsLast t ns q₂ u nu
      → ShowsAs t i 0x21 p u nu
  unfolding say
  write_shown {y = y} {s} {u} {ns} {nu} w A S B U = record {
    gives = λ c k m. record {
      shown = λ d a j e h f.
          let g = write_here h m in
          let rest : List ℕ = expr g.o ++ (say ", " ++ (expr g.e ++ say ");\n")) in
          rw (g.is, sym w)
          (put_same (regroup (say "z_write(here, ") (var y) (say ", ") rest)
          (put_then (say "z_write(here, " ++ (var y ++ say ", ")) rest A
          (put_then (expr g.o) _ (S.shown g.o g.k g.offset) (put_then (say ", ") _ B (U.shown g.e j (second a j g))))));
      ends = λ a j h f. let g = write_here h m in U.ends g.e j (second a j g);
      forward = omega (arith, S.forward, U.forward);
      kept = U.kept ∙ B.kept ∙ S.kept ∙ A.kept;
    };
    forward = omega (arith, S.forward, U.forward);
    kept = U.kept ∙ B.kept ∙ S.kept ∙ A.kept;
  }
    where
      second : {c : ℕ} (a : Instr Plain) (j : ℕ) (g : WriteAt t i c a j) → ExprAt t ns max_depth g.e j
      second a j g = subst (λ k. ExprAt t k max_depth g.e j) (sym (S.ends g.o g.k g.offset)) g.source

  -- x<v> = z_read(here, x<y>,
  pub read_shown : {q₁ q₂ : Page} {v y : ℕ} {s : Page} {ns : ℕ} → v ≡ get_or t (i + 1) 0 → Put p (var v) q₁ → y ≡ get_or t (i + 2) 0
      → Put q₁ (lit " = z_read(here, " ++ (var y ++ say ", ")) q₂ → ShowsLast t (i + 3) q₂ s ns
      → ShowsAs t i 0x22 p s ns
  unfolding say
  read_shown {v = v} {y} {s} w A z B S = record {
    gives = λ c k m. record {
      shown = λ d a j e h f.
          let g = read_here h m in
          let rest : List ℕ = expr g.o ++ say ");\n" in
          rw (g.is, sym w, sym z)
          (put_then (var v) _ A
          (put_same (regroup (say " = z_read(here, ") (var y) (say ", ") rest)
          (put_then (say " = z_read(here, " ++ (var y ++ say ", ")) rest B (S.shown g.o j g.offset))));
      ends = λ a j h f. let g = read_here h m in S.ends g.o j g.offset;
      forward = omega (arith, S.forward);
      kept = S.kept ∙ B.kept ∙ A.kept;
    };
    forward = omega (arith, S.forward);
    kept = S.kept ∙ B.kept ∙ A.kept;
  }

  -- z_call(); p<m>(
  pub call_shown : {q₁ q₂ r : Page} {w n : ℕ} {s : Page} {ns : ℕ} → w ≡ number_at 2 t (i + 1) → Put p (lit "z_call(); p" ++ decimal w) q₁
      → Put q₁ (40 ∷ []) q₂ → n ≡ get_or t (i + 3) 0 → ShowsArgs t (i + 4) n q₂ s ns → Put s (lit ");\n") r
      → ShowsAs t i 0x25 p r ns
  unfolding say
  call_shown {w = w} {n} {s} v A B k S C = record {
    gives = λ c u m. record {
      shown = λ d a j e h f.
          let g = call_here h m in
          let args : ExprsAt t (i + 4) n g.es j = rw k g.args in
          let rest : List ℕ = say "(" ++ (listed (say ",\n") expr g.es ++ say ");\n") in
          rw (g.is, sym (v ∙ number_at_lem 2 t (i + 1)))
          (put_same (append_assoc (say "z_call(); p") (decimal w) rest)
          (put_then (say "z_call(); p" ++ decimal w) rest A
          (put_then (say "(") _ B (put_then (listed (say ",\n") expr g.es) _ (S.shown g.es j args) C))));
      ends = λ a j h f. let g = call_here h m in S.ends g.es j (rw k g.args);
      forward = omega (arith, S.forward);
      kept = C.kept ∙ S.kept ∙ B.kept ∙ A.kept;
    };
    forward = omega (arith, S.forward);
    kept = C.kept ∙ S.kept ∙ B.kept ∙ A.kept;
  }

  -- z_select(
  pub select_shown : {q₁ q₂ r : Page} {w z : ℕ} → w ≡ number_at 2 t (i + 1) → Put p (lit "z_select(" ++ decimal w) q₁
      → z ≡ number_at 2 t (i + 3) → Put q₁ (lit ", " ++ decimal z) q₂ → Put q₂ (lit ");\n") r
      → ShowsAs t i 0x27 p r (i + 5)
  unfolding say
  select_shown {w = w} {z} v A u B C = record {
    gives = λ c k m. record {
      shown = λ d a j e h f.
          let g = select_here h m in
          let rest : List ℕ = say ", " ++ (decimal z ++ say ");\n") in
          rw (g.is, sym (v ∙ number_at_lem 2 t (i + 1)), sym (u ∙ number_at_lem 2 t (i + 3)))
          (put_same (append_assoc (say "z_select(") (decimal w) rest)
          (put_then (say "z_select(" ++ decimal w) rest A
          (put_same (append_assoc (say ", ") (decimal z) (say ");\n")) (put_then (say ", " ++ decimal z) _ B C))));
      ends = λ a j h f. let g = select_here h m in sym g.ends;
      forward = omega arith;
      kept = C.kept ∙ B.kept ∙ A.kept;
    };
    forward = omega arith;
    kept = C.kept ∙ B.kept ∙ A.kept;
  }

-- ---- by the byte

module _ {t : List ℕ} {i m : ℕ} {p r : Page} {nr : ℕ} where
  -- the byte of that instruction
  pub plain_as : (k : ℕ) → m ≡ k → ShowsAs t i k p r nr → ShowsPlain t i m p r nr
  plain_as k e S = record { gives = λ c w q a b. S.gives c w (q ∙ e); forward = S.forward; kept = S.kept }

  -- the one that is left
  pub plain_select : (m ≡ 0x20 → ⊥) → (m ≡ 0x21 → ⊥) → (m ≡ 0x22 → ⊥) → (m ≡ 0x25 → ⊥) → ShowsAs t i 0x27 p r nr → ShowsPlain t i m p r nr
  plain_select a b c d S = record {
    gives = λ k w q e f. record {
      shown = λ dp s j v h g. (S.gives k w (last s h g q e f)).shown dp s j v h g;
      ends = λ s j h g. (S.gives k w (last s h g q e f)).ends s j h g;
      forward = S.forward;
      kept = S.kept;
    };
    forward = S.forward;
    kept = S.kept;
  }
    where
      last : {k : ℕ} (s : Instr Plain) {j : ℕ} → InstrAt t i k s j → FlatI s → get_or t i 0 ≡ m → (m ≡ 0x23 → ⊥) → (m ≡ 0x24 → ⊥) → get_or t i 0 ≡ 0x27
      last (assign y z) h f q e g = absurd (a (sym q ∙ first h.stands))
      last (write y z w) h f q e g = absurd (b (sym q ∙ first h.stands))
      last (read y z w) h f q e g = absurd (c (sym q ∙ first h.stands))
      last (while y z) h f q e g = absurd (e (sym q ∙ first h.stands))
      last (if y z w) h f q e g = absurd (g (sym q ∙ first h.stands))
      last (call y z) h f q e g = absurd (d (sym q ∙ first h.stands))
      last (atomic y) h f q e g = absurd f
      last (select y z) h f q e g = first h.stands

-- one law for each way
pub ruleset plain_ways = (
  next_shown,
  further_start,
  further_next,
  further_end,
  args_none,
  args_some,
  last_shown,
  pointer_put,
  numbered_put,
  assign_shown,
  read_shown,
  write_shown,
  call_shown,
  select_shown,
  plain_as,
  plain_select,
)

-- One law for each way through the code of a label.
use Prim.Native.Nat.{ℕ, suc, ◌+◌, ◌-◌, ◌≤◌, ◌<◌}
use native.Mathlib.Omega.{arith}
use native.Mathlib.Numerals.{add-one}
use mathlib.Core.Path.{◌≡◌, ◌∙◌}
use mathlib.Core.List.{List, [], ◌∷◌, ◌++◌, append_assoc}
use lib.ListN.{get_or}
use Rattle.value.proofs.Laws.Lists.{Each}
use Rattle.format.specs.Syntax.{Expr, local, Instr, assign, write, read, while, if, call, atomic, select, end}
use Rattle.format.specs.Encode.{expr, block}
use Rattle.format.proofs.Laws.Grammar.{InstrAt, MoreAt, exprs_more, AtomicAt, atomic_here}
use Rattle.format.proofs.Laws.Stands.{first}
use Rattle.format.specs.Decode.{max_nesting}
use Rattle.format.specs.Rules.{max_locals}
use Rattle.translation.specs.Layout.{Layout}
use Rattle.translation.specs.Code.{◌then◌, num, loc, tid, tmp, shift, goto, passes, code}
use Rattle.writer.specs.Laws.Pages.{Puts, PutsInstr, PutsBlock, Writes}
use Rattle.emit.specs.Laws.Sources.{Low, Sited, LoadsOf, Stores, Goes, Asks, InPlace, PlainIf, InsideBlock}
use Rattle.emit.specs.Laws.Sources.{Ways, Questions, Tests, LoadsEach, Passes, Passing}
use Rattle.emit.specs.Laws.Sources.{Marks, Calls, OneLabel, Steps}
use Rattle.writer.specs.declared.page.Page.{Page}
use Rattle.emit.specs.declared.layout.Site.{Site}
use Rattle.writer.proofs.Paging.{puts_then, puts_same}
use Rattle.emit.proofs.Coding.{writes_instr, writes_then, writes_block}
use Rattle.emit.proofs.Plainly.{low_more}

-- ---- tests

-- the bytes of an if, part by part
if_bytes : (a b c z : List ℕ) → (0x24 ∷ a) ++ (b ++ (c ++ z)) ≡ (0x24 ∷ a ++ (b ++ c)) ++ z
if_bytes a b c z = simp append_assoc

module _ {t : List ℕ} where
  -- the loads and "if e"
  pub question : {i : ℕ} {s : Site} {o o₁ o₂ o₃ : Page} {r : ℕ} → LoadsOf t i s o o₁
      → PutsInstr o₁ (assign tmp (loc s.pct)) o₂
      → Asks t i o₂ o₃ r → Questions t i s o o₃
  question L A Q = record {
    gives = λ G m n e j h at b c.
        let loaded = L.gives G m n e j h at in
        let asks = Q.gives e j at.stands (low_more e h.few at.low) in
        record {
          then = λ P.
              (loaded.before (assign tmp (loc G.pct) then if (shift e) b c then end)).then
              (((writes_instr (rw h.pct at A)).before (if (shift e) b c then end)).then
              (puts_same (if_bytes (expr (shift e)) (block b) (block c) (0 ∷ []))
              (puts_then (0x24 ∷ expr (shift e)) (block b ++ (block c ++ (0 ∷ []))) asks P)));
        };
  }

  -- if, while
  pub tested : {i l k : ℕ} {s : Site} {o o₁ o₂ o₃ o₄ : Page} → Questions t i s o o₁ → Ways l o₁ o₂
      → Ways k o₂ o₃
      → Puts o₃ (0 ∷ []) o₄ → Tests t i s l k o o₄
  tested {l = l} {k} Q A B C = record {
    gives = λ G m n e j h at. record {
      puts =
          (Q.gives G m n e j h at (goto G m n l) (goto G m n k)).then
          (puts_then (block (goto G m n l)) _ (A.gives G m n).puts (puts_then (block (goto G m n k)) (0 ∷ []) (B.gives G m n).puts C));
    };
  }

  -- ---- calls

  -- an argument, and the others
  passed_more : {i k x l : ℕ} {c : Site} {o o₁ o₂ : Page} {u : ℕ} → 0 < k → l ≡ c.home + x → Stores t i l o o₁ u
      → Passes t u (k - 1) (x + 1) c o₁ o₂ → Passes t i k x c o o₂
  passed_more {i} {k} {x} {l} {c} {o} {o₁} {o₂} {u} some place S P = record {
    gives = λ G m n q z es j h few at. gives G m n q z es j h few at.low (exprs_more at.stand some);
  }
    where
      gives : (G : Layout) (m n q z : ℕ) (es : List Expr) (j : ℕ) → Sited G q z c → n ≤ max_locals → Each (Low n) es → MoreAt t i k es j
          → Writes o (passes G m n q x es) o₂
      gives G m n q z es j h few low w =
          let lows : Low n w.e × Each (Low n) w.rest = rw w.is at low in
          let low' : Low max_locals w.e = low_more w.e few lows.0 in
          let next : u ≡ w.k = S.ends w.e w.k w.here low' in
          let home : l ≡ G.home q x = place ∙ h.home x in
          let S' : Stores t i (G.home q x) o o₁ u = rw home at S in
          let P' : Passes t u (k - 1) (suc x) c o₁ o₂ = rw add-one at P in
          rw w.is
          (writes_then (S'.gives G m n w.e w.k w.here low')
          (P'.gives G m n q z w.rest j h few (record { stand = rw next w.after; low = lows.1 })))

  -- an argument more
  pub passing_next : {i k i' x l : ℕ} {c : Site} {o o₁ o₂ : Page} {u : ℕ} → Passing t i k c o i' x o₁ → x < k → l ≡ c.home + x
      → Stores t i' l o₁ o₂ u → Passing t i k c o u (x + 1) o₂
  passing_next {k = k} {x = x} F less place S = record {
    back = λ P.
        let left : k - (x + 1) ≡ k - x - 1 = omega arith in
        F.back (passed_more (omega arith) place S (rw left at P));
    most = omega arith;
  }

-- a label into a "from"
pub marks : {c : Site} {label : ℕ} {o o₁ o₂ : Page} → PutsInstr o (assign tmp (loc c.from)) o₁
    → PutsInstr o₁ (write tmp (local tid) (num label)) o₂ → Marks c label o o₂
marks A B = record { gives = λ G m n q l h. writes_then (writes_instr (rw h.from at A)) (writes_instr B) }

module _ {t : List ℕ} where
  -- call
  pub called : {i k begin next : ℕ} {s c : Site} {o o₁ o₂ o₃ o₄ : Page} → LoadsEach t i k s o o₁
      → Passes t i k 0 c o₁ o₂
      → Marks c next o₂ o₃ → Goes s begin o₃ o₄ → Calls t i k s c begin next o o₄
  called L P M E = record {
    gives = λ G m n q l es j h hc at.
        writes_block (L.gives G m n es j h at)
        (writes_block (P.gives G m n q l es j hc h.few at) (writes_block (M.gives G m n q l hc) (E.gives G m n h)));
  }

  -- ---- the code in place, and then pc

  -- atomic
  pub atomically : {i next : ℕ} {s : Site} {o o₁ o₂ : Page} {u : ℕ} → get_or t i 0 ≡ 0x26 → InsideBlock t (i + 1) max_nesting s o o₁ u
      → Goes s next o₁ o₂ → Steps t i s next o o₂
  atomically {i} {next} {s} {o} {o₁} {o₂} {u} b I E = record {
    gives = λ G m n begin l a j h at ok. gives G m n begin l a j h ok (atomic_here at b);
  }
    where
      gives : (G : Layout) (m n : ℕ) (begin : ℕ → ℕ) (l : ℕ) (a : Instr ℕ) (j : ℕ) → Sited G m n s → OneLabel n a → AtomicAt t i max_nesting a j
          → PutsBlock o (code G m n begin l a next) o₂
      gives G m n begin l a j h ok w =
          let ok' : InPlace n w.b = rw w.is at ok in
          rw w.is (writes_block (I.gives G m n w.b j h w.body ok') (E.gives G m n h))

  -- assign, read and write
  pub plainly : {i next : ℕ} {s : Site} {o o₁ o₂ : Page} {u : ℕ} → (get_or t i 0 ≡ 0x26 → ⊥) → PlainIf t i s o o₁ u
      → Goes s next o₁ o₂ → Steps t i s next o o₂
  plainly {i} {next} {s} {o} {o₁} {o₂} {u} b P E = record { gives = gives }
    where
      gives : (G : Layout) (m n : ℕ) (begin : ℕ → ℕ) (l : ℕ) (a : Instr ℕ) (j : ℕ) → Sited G m n s → InstrAt t i max_nesting a j → OneLabel n a
          → PutsBlock o (code G m n begin l a next) o₂
      gives G m n begin l (assign x e) j h at ok =
          writes_block ((P.gives (λ z. omega (arith, first at.stands))).gives G m n max_nesting (assign x e) j h at ok) (E.gives G m n h)
      gives G m n begin l (write y a e) j h at ok =
          writes_block ((P.gives (λ z. omega (arith, first at.stands))).gives G m n max_nesting (write y a e) j h at ok) (E.gives G m n h)
      gives G m n begin l (read x y a) j h at ok =
          writes_block ((P.gives (λ z. omega (arith, first at.stands))).gives G m n max_nesting (read x y a) j h at ok) (E.gives G m n h)
      gives G m n begin l (while e c) j h at ok = absurd ok
      gives G m n begin l (if e c d) j h at ok = absurd ok
      gives G m n begin l (call f es) j h at ok = absurd ok
      gives G m n begin l (atomic c) j h at ok = absurd (b (first at.stands))
      gives G m n begin l (select x y) j h at ok = absurd ok

-- one law for each way
pub ruleset label_ways = (
  question,
  tested,
  passing_next,
  marks,
  called,
  atomically,
  plainly,
)

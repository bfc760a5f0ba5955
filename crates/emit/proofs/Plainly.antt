-- One law for each way through the code of assign, read and write.
use Rattle.std.proofs.Common.{◌≡◌, ℕ, ◌+◌, ◌%◌, ◌<◌, ◌≤◌, List, [], ◌∷◌, get_or, ap, ◌∙◌, arith}
use Rattle.format.specs.Syntax.{Expr, constant, local, one, two, Instr, assign, write, read, while, if, call, atomic, select}
use Rattle.format.specs.Encode.{expr}
use Rattle.format.proofs.Laws.Stands.{first}
use Rattle.format.proofs.Laws.Grammar.{ExprAt, InstrAt, AssignAt, WriteAt, ReadAt, assign_here, write_here, read_here}
use Rattle.labels.specs.Walks.{ExprEnds}
use Rattle.format.specs.Decode.{max_depth}
use Rattle.format.specs.Rules.{max_locals}
use Rattle.translation.specs.Layout.{Layout}
use Rattle.translation.specs.Code.{loc, tmp, moved, shift, inside_i}
use Rattle.writer.specs.Laws.Pages.{Puts, PutsInstr, Writes}
use Rattle.emit.specs.Laws.Sources.{Low, Copies, Sited, Loads, LoadsOf, Stores, Holds, LoadsWrite, Sets, Gets, InPlaceI}
use Rattle.emit.specs.Laws.Sources.{Plain, PlainIf}
use Rattle.writer.specs.declared.page.Page.{Page}
use Rattle.emit.specs.declared.layout.Site.{Site}
use Rattle.writer.proofs.Paging.{puts_then}
use Rattle.emit.proofs.Coding.{writes_instr, writes_then, kept}

-- locals below n are below more
pub low_more : {n k : ℕ} (e : Expr) → n ≤ k → Low n e → Low k e
low_more (constant v) h l = tt
low_more (local x) h l = omega arith
low_more (one o a) h l = low_more a h l
low_more (two o a b) h l = (low_more a h l.0, low_more b h l.1)

-- a moved local, as its byte
moved_byte : {x y : ℕ} → y ≡ (x + 3) % 256 → x < max_locals → y ≡ moved x
moved_byte e h = omega (arith, e, h)

module _ {t : List ℕ} where
  -- ---- loads

  -- ---- stores

  -- tmp := location l; tmp[tid] := e
  pub store : {i l : ℕ} {o o₁ o₂ o₃ : Page} {r : ℕ} → PutsInstr o (assign tmp (loc l)) o₁
      → Puts o₁ (0x21 ∷ 1 ∷ 5 ∷ 0 ∷ []) o₂ → Copies t i max_depth o₂ o₃ r → Stores t i l o o₃ r
  store A B C = record {
    gives = λ G m n e j h low. writes_then (writes_instr A) (writes_instr (kept B (record { puts = C.copied e j h low })));
    ends = C.ends;
    forward = C.forward;
  }

  -- assign
  pub assigned : {i x l : ℕ} {s : Site} {o o₁ o₂ : Page} {r : ℕ} → get_or t i 0 ≡ 0x20 → LoadsOf t (i + 2) s o o₁
      → x ≡ get_or t (i + 1) 0 → l ≡ s.home + x → Stores t (i + 2) l o₁ o₂ r → Plain t i s o o₂ r
  assigned {i} {x} {l} {s} {o} {o₁} {o₂} {r} b L same place S = record {
    gives = λ G m n d a j h at ok. gives G m n d a j h ok (assign_here at b);
    ends = λ n d a j few at ok. ends n d a j few ok (assign_here at b);
    forward = omega (arith, S.forward);
  }
    where
      gives : (G : Layout) (m n d : ℕ) (a : Instr ℕ) (j : ℕ) → Sited G m n s → InPlaceI n a → AssignAt t i d a j
          → Writes o (inside_i G m n a) o₂
      gives G m n d a j h ok w =
          let ok' : (get_or t (i + 1) 0 < n) × Low n w.e = rw w.is at ok in
          let home : l ≡ G.home m (get_or t (i + 1) 0) = place ∙ ap (λ (y : ℕ). s.home + y) same ∙ h.home _ in
          let S' : Stores t (i + 2) (G.home m (get_or t (i + 1) 0)) o₁ o₂ r = rw home at S in
          rw w.is
          (writes_then (L.gives G m n w.e j h (record { stands = w.source; low = ok'.1 }))
          (S'.gives G m n w.e j w.source (low_more w.e h.few ok'.1)))

      ends : (n d : ℕ) (a : Instr ℕ) (j : ℕ) → n ≤ max_locals → InPlaceI n a → AssignAt t i d a j → r ≡ j
      ends n d a j few ok w =
          let ok' : (get_or t (i + 1) 0 < n) × Low n w.e = rw w.is at ok in
          S.ends w.e j w.source (low_more w.e few ok'.1)

  -- ---- write

  -- the loads
  pub write_loads : {i k y : ℕ} {s : Site} {o o₁ o₂ o₃ : Page} → LoadsOf t k s o o₁ → LoadsOf t i s o₁ o₂
      → Loads s y o₂ o₃ → LoadsWrite t i k s y o o₃
  write_loads {k = k} E A L = record {
    gives = λ G m n a e j h sa se low.
        writes_then (E.gives G m n e j h se) (writes_then (A.gives G m n a k h sa) (L.gives G m n h low));
  }

  -- y[a] := e
  pub set_one_lem : {i y z : ℕ} {o o₁ o₂ o₃ : Page} {u r : ℕ} → z ≡ (y + 3) % 256 → Puts o (0x21 ∷ z ∷ []) o₁ → Copies t i max_depth o₁ o₂ u
      → Copies t u max_depth o₂ o₃ r → Sets t i y o o₃ r
  set_one_lem {i} {y} {z} {o} {o₁} {u = u} b A C D = record {
    gives = λ a e k j ha la he le low.
        let mid : u ≡ k = C.ends a k ha la in
        let name : z ≡ moved y = moved_byte b low in
        let first : Puts o (0x21 ∷ moved y ∷ []) o₁ = rw name at A in
        record {
          puts = puts_then (0x21 ∷ moved y ∷ []) _ first
              (puts_then (expr (shift a)) (expr (shift e)) (C.copied a k ha la) (D.copied e j (rw mid he) le));
        };
    ends = λ a e k j ha la he le. let mid : u ≡ k = C.ends a k ha la in D.ends e j (rw mid he) le;
    forward = omega (arith, C.forward, D.forward);
  }

  -- write
  pub written : {i k y : ℕ} {s : Site} {o o₁ o₂ : Page} {r : ℕ} → get_or t i 0 ≡ 0x21 → y ≡ get_or t (i + 1) 0 → ExprEnds t (i + 2) k
      → LoadsWrite t (i + 2) k s y o o₁ → Sets t (i + 2) y o₁ o₂ r → Plain t i s o o₂ r
  written {i} {k} {y} {s} {o} {o₁} {o₂} {r} b same K L S = record {
    gives = λ G m n d a j h at ok. gives G m n d a j h ok (write_here at b);
    ends = λ n d a j few at ok. ends n d a j few ok (write_here at b);
    forward = omega (arith, S.forward);
  }
    where
      gives : (G : Layout) (m n d : ℕ) (a : Instr ℕ) (j : ℕ) → Sited G m n s → InPlaceI n a → WriteAt t i d a j
          → Writes o (inside_i G m n a) o₂
      gives G m n d a j h ok w =
          let ok' : (get_or t (i + 1) 0 < n) × Low n w.o × Low n w.e = rw w.is at ok in
          let mid : k ≡ w.k = K.ends w.o w.k w.offset in
          let low : y < n = rw same ok'.0 in
          let source : ExprAt t k max_depth w.e j = rw mid w.source in
          let offset : ExprAt t (i + 2) max_depth w.o k = rw mid w.offset in
          rw (w.is, ← same)
          (writes_then (L.gives G m n w.o w.e j h (record { stands = offset; low = ok'.1 }) (record { stands = source; low = ok'.2 }) low)
          (writes_instr
          (S.gives w.o w.e k j offset (low_more w.o h.few ok'.1) source (low_more w.e h.few ok'.2)
          (omega (arith, low, h.few)))))

      ends : (n d : ℕ) (a : Instr ℕ) (j : ℕ) → n ≤ max_locals → InPlaceI n a → WriteAt t i d a j → r ≡ j
      ends n d a j few ok w =
          let ok' : (get_or t (i + 1) 0 < n) × Low n w.o × Low n w.e = rw w.is at ok in
          S.ends w.o w.e w.k j w.offset (low_more w.o few ok'.1) w.source (low_more w.e few ok'.2)

  -- ---- read

  -- read
  pub got : {i x y : ℕ} {s : Site} {o o₁ o₂ o₃ o₄ : Page} {r : ℕ} → get_or t i 0 ≡ 0x22 → x ≡ get_or t (i + 1) 0
      → y ≡ get_or t (i + 2) 0
      → LoadsOf t (i + 3) s o o₁ → Loads s y o₁ o₂ → Gets t (i + 3) x y o₂ o₃ r → Holds s x o₃ o₄
      → Plain t i s o o₄ r
  got {i} {x} {y} {s} {o} {o₄ = o₄} {r} b xs ys L O S H = record {
    gives = λ G m n d a j h at ok. gives G m n d a j h ok (read_here at b);
    ends = λ n d a j few at ok. ends n d a j few ok (read_here at b);
    forward = omega (arith, S.forward);
  }
    where
      gives : (G : Layout) (m n d : ℕ) (a : Instr ℕ) (j : ℕ) → Sited G m n s → InPlaceI n a → ReadAt t i d a j → Writes o (inside_i G m n a) o₄
      gives G m n d a j h ok w =
          let ok' : (get_or t (i + 1) 0 < n) × (get_or t (i + 2) 0 < n) × Low n w.o = rw w.is at ok in
          let lx : x < n = rw xs ok'.0 in
          let ly : y < n = rw ys ok'.1 in
          rw (w.is, ← xs, ← ys)
          (writes_then (L.gives G m n w.o j h (record { stands = w.offset; low = ok'.2 }))
          (writes_then (O.gives G m n h ly)
          (writes_then
          (writes_instr (S.gives w.o j w.offset (low_more w.o h.few ok'.2) (omega (arith, lx, h.few)) (omega (arith, ly, h.few))))
          (H.gives G m n h lx))))

      ends : (n d : ℕ) (a : Instr ℕ) (j : ℕ) → n ≤ max_locals → InPlaceI n a → ReadAt t i d a j → r ≡ j
      ends n d a j few ok w =
          let ok' : (get_or t (i + 1) 0 < n) × (get_or t (i + 2) 0 < n) × Low n w.o = rw w.is at ok in
          S.ends w.o j w.offset (low_more w.o few ok'.2)

  -- ---- whichever it is

  -- one of the three
  pub plain_one : {i : ℕ} {s : Site} {o o' : Page} {r : ℕ} → Plain t i s o o' r → PlainIf t i s o o' r
  plain_one P = record { gives = λ f. P; forward = P.forward }

  -- another: none of these may stand in an atomic block
  pub plain_none : {i : ℕ} {s : Site} {o o' : Page} → (get_or t i 0 ≡ 0x20 → ⊥) → (get_or t i 0 ≡ 0x21 → ⊥) → (get_or t i 0 ≡ 0x22 → ⊥)
      → PlainIf t i s o o' (i + 1)
  plain_none {i} f g k = record {
    gives = λ b. record {
      gives = λ G m n d a j h at ok. absurd (never n d a j at ok b);
      ends = λ n d a j few at ok. absurd (never n d a j at ok b);
      forward = omega arith;
    };
    forward = omega arith;
  }
    where
      never : (n d : ℕ) (a : Instr ℕ) (j : ℕ) → InstrAt t i d a j → InPlaceI n a → (get_or t i 0 ≡ 0x24 → ⊥) → ⊥
      never n d (assign x e) j at ok b = f (first at.stands)
      never n d (write y o e) j at ok b = g (first at.stands)
      never n d (read x y o) j at ok b = k (first at.stands)
      never n d (while e c) j at ok b = ok
      never n d (if e c c') j at ok b = b (first at.stands)
      never n d (call q es) j at ok b = ok
      never n d (atomic c) j at ok b = ok
      never n d (select x y) j at ok b = ok

-- one law for each way
pub ruleset plain_ways = (store, assigned, write_loads, set_one_lem, written, got, plain_one, plain_none)

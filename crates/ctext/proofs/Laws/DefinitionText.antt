-- Definitions of procedures in the text, by the bytes there.
use Rattle.std.specs.Prelude.{ℕ, zero, suc, ◌+◌, ◌-◌, ◌^◌, ◌≤◌, ◌<◌, ◌≡◌, refl, List, [], ◌∷◌, ◌++◌, Bool, true, false, length, get_or, eqb}
use Rattle.std.proofs.Common.{arith, sym, ap, ap₂, subst, ◌∙◌, append_assoc}
use Rattle.value.specs.Maybe.{both}
use Rattle.value.specs.Lists.{upto}
use Rattle.value.proofs.Laws.Lists.{Each}
use Rattle.value.proofs.Laws.Tests.{never}
use Rattle.format.specs.Syntax.{Block, end, step, Proc, Plain}
use Rattle.format.specs.Encode.{each}
use Rattle.format.specs.Decode.{max_nesting}
use Rattle.format.proofs.Laws.Fits.{BlockFits}
use Rattle.format.proofs.Laws.Stands.{Stands, first, others, front, back}
use Rattle.ctext.specs.Pieces.{say, decimal}
use Rattle.ctext.specs.Text.{ind, instr, block, numbered, argument, unset, definition}
use Rattle.ctext.proofs.Laws.Numbers.{Digit}
use Rattle.ctext.proofs.Laws.ExprText.{shift, behind, byte_in}
use Rattle.ctext.proofs.Laws.ArgText.{NumberText, take_number}
use Rattle.ctext.proofs.Laws.LineText.{Flat, ended, BlockText}
use Rattle.ctext.proofs.Laws.BlockText.{begins, block_same}
use Rattle.ctext.proofs.Laws.FrameText.{ParamsText, params_same, head_parts}

-- ---- locals that are no parameters

-- does such a line stand here
unfoldable pub unsetting : List ℕ → ℕ → Bool
unsetting x i = both (eqb (get_or x (i + 2) 0) 122) (eqb (get_or x (i + 4) 0) 118)

-- n of them from number a on, and no other behind them
pub record UnsetsText (x : List ℕ) (i a n j : ℕ) : Type 0 where
  pub stands : Stands x i (each unset (upto a n)) j
  pub follows : unsetting x j ≡ false

-- one of them
unset_here : {x : List ℕ} {i a n j : ℕ} → UnsetsText x i a (suc n) j → unsetting x i ≡ true
unfolding say unsetting
unset_here h = rw (byte_in 2 h.stands (omega arith), byte_in 4 h.stands (omega arith))

-- those behind it
pub unset_after : {x : List ℕ} {i a n j : ℕ} → UnsetsText x i a (suc n) j → UnsetsText x (i + length (unset a)) (suc a) n j
unset_after {a = a} {n} h = record { stands = back (unset a) (each unset (upto (suc a) n)) h.stands; follows = h.follows }

module _ {x : List ℕ} {i : ℕ} where
  -- no more of them
  pub unsets_end : {a n j : ℕ} → UnsetsText x i a n j → unsetting x i ≡ false → (n ≡ 0) × (j ≡ i)
  unsets_end {n = zero} h q = (refl, omega (arith, h.stands.ends))
  unsets_end {n = suc n} h q = absurd (never (sym q ∙ unset_here h))

  -- one more
  pub unsets_next : {a n j : ℕ} → UnsetsText x i a n j → unsetting x i ≡ true → (m : ℕ) × (n ≡ suc m)
  unsets_next {n = zero} {j} h q =
      let here : i ≡ j = omega (arith, h.stands.ends) in
      absurd (never (sym (subst (λ i. unsetting x i ≡ false) (sym here) h.follows) ∙ q))
  unsets_next {n = suc n} h q = (n, refl)

-- so many stand there
pub unsets_same : {x : List ℕ} {i a : ℕ} (n m : ℕ) {j k : ℕ} → UnsetsText x i a n j → UnsetsText x i a m k → (n ≡ m) × (j ≡ k)
unsets_same zero zero h g = (refl, omega (arith, h.stands.ends, g.stands.ends))
unsets_same zero (suc m) h g = absurd (omega (arith, (unsets_next h (unset_here g)).1))
unsets_same (suc n) zero h g = absurd (omega (arith, (unsets_next g (unset_here h)).1))
unsets_same {i = i} {a = a} (suc n) (suc m) h g =
    let same = unsets_same {i = i + length (unset a)} {a = suc a} n m (unset_after h) (unset_after g) in
    (ap suc same.0, same.1)

-- ---- a body

-- a body is no such line
body_starts : {x : List ℕ} {i : ℕ} (b : Block Plain) (r : List ℕ) {j : ℕ} → Flat b → Stands x i (block 1 b ++ (say "  z_return();\n}\n" ++ r)) j
    → unsetting x i ≡ false
unfolding say unsetting
body_starts end r f s = rw (byte_in 2 s (omega arith), byte_in 4 s (omega arith))
body_starts {x} {i} (step a t b) r {j} f s =
    let line : Stands x (i + 2) _ j = behind (ind 1) ((instr 1 t ++ block 1 b) ++ (say "  z_return();\n}\n" ++ r)) 2 refl s in
    let four : i + 2 + 2 ≡ i + 4 = omega arith in
    let test = begins 1 t (block 1 b ++ (say "  z_return();\n}\n" ++ r)) 118 f.0 (rw append_assoc at line) refl refl refl in
    rw four at test

-- and its end follows it
take_body : {x : List ℕ} {i : ℕ} (b : Block Plain) (r : List ℕ) {j : ℕ} → Stands x i (block 1 b ++ (say "  z_return();\n}\n" ++ r)) j
    → BlockFits max_nesting b → Flat b
    → BlockText x i max_nesting 1 b (i + length (block 1 b)) × Stands x (i + length (block 1 b) + 16) r j
unfolding say ended
take_body {x} {i} b r {j} s f g =
    let rest : List ℕ = say "  z_return();\n}\n" ++ r in
    let k : ℕ = i + length (block 1 b) in
    let after : Stands x k rest j = back (block 1 b) rest s in
    let place : k + 2 - 2 ≡ k = omega arith in
    let four : k + 2 + 2 ≡ k + 4 = omega arith in (
      record {
        stands = front (block 1 b) rest s;
        fits = f;
        flat = g;
        shown = omega arith;
        ends = rw (place, first after, byte_in 2 after (omega arith), four, byte_in 4 after (omega arith));
      },
      behind (say "  z_return();\n}\n") r 16 refl after,
    )

-- ---- definitions

-- what a text can say of a procedure
pub record ProcFits (p : Proc Plain) : Type 0 where
  pub params : p.params ≤ p.locals
  pub locals : p.locals ≤ 2 ^ 8
  pub body : BlockFits max_nesting p.body
  pub flat : Flat p.body

-- definitions of procedures from number k on
pub record DefinitionsText (x : List ℕ) (i k : ℕ) (ps : List (Proc Plain)) (j : ℕ) : Type 0 where
  pub stands : Stands x i (numbered definition k ps) j
  pub fits : Each ProcFits ps
  pub few : k + length ps ≤ 2 ^ 16

-- one of them, and those after it
pub record DefinitionIn (x : List ℕ) (i k : ℕ) (p : Proc Plain) (ps : List (Proc Plain)) (j : ℕ) : Type 0 where
  pub l : ℕ
  pub u : ℕ
  pub e : ℕ
  pub index : NumberText x (i + 7) k (i + 7 + length (decimal k))
  pub params : ParamsText x (i + 7 + length (decimal k) + 1) p.params l
  pub again : NumberText x (l + 20) k (l + 20 + length (decimal k))
  pub args : Stands x (l + 20 + length (decimal k) + 4) (each argument (upto 0 p.params))
      (l + 20 + length (decimal k) + 4 + length (each argument (upto 0 p.params)))
  pub unsets : UnsetsText x (l + 20 + length (decimal k) + 4 + length (each argument (upto 0 p.params))) p.params (p.locals - p.params) u
  pub body : BlockText x u max_nesting 1 p.body e
  pub after : DefinitionsText x (e + 16) (suc k) ps j

-- a byte below the digits
low : {c : ℕ} → c < 48 → Digit c → ⊥
low l d = omega (arith, l, d.least)

-- the first of some
pub definition_in : {x : List ℕ} {i k : ℕ} (p : Proc Plain) (ps : List (Proc Plain)) {j : ℕ} → DefinitionsText x i k (p ∷ ps) j
    → DefinitionIn x i k p ps j
unfolding say
definition_in {x} {i} {k} p ps {j} h =
    let n : ℕ = p.params in
    let args : List ℕ = each argument (upto 0 n) in
    let unsets : List ℕ = each unset (upto n (p.locals - n)) in
    let close : List ℕ = block 1 p.body ++ (say "  z_return();\n}\n" ++ []) in
    let rest : List ℕ = numbered definition (suc k) ps in
    let few : k < 2 ^ 16 = omega (arith, h.few) in
    let one : i + 1 + 6 ≡ i + 7 = omega arith in
    let whole : Stands x i (definition k p) (i + length (definition k p)) = front (definition k p) rest h.stands in
    let top = head_parts k n (say " {\n  enum { here = " ++ (decimal k ++ (say " };\n" ++ (args ++ (unsets ++ close))))) (others whole) few
    (omega (arith, h.fits.0.params, h.fits.0.locals))
    in
    let l : ℕ = top.0 in
    let start : l + 1 + 19 ≡ l + 20 = omega arith in
    let again = take_number k
    (shift (behind (say " {\n  enum { here = ") (decimal k ++ (say " };\n" ++ (args ++ (unsets ++ close)))) 19 refl top.3) start) few (low (omega arith))
    in
    let lines = behind (say " };\n") (args ++ (unsets ++ close)) 4 refl again.1 in
    let others = back args (unsets ++ close) lines in
    let inner = back unsets close others in
    let body = take_body p.body [] inner h.fits.0.body h.fits.0.flat in
    record {
      l = l;
      u = _;
      e = _;
      index = rw one at top.1;
      params = rw one at top.2;
      again = again.0;
      args = front args (unsets ++ close) lines;
      unsets = record { stands = front unsets close others; follows = body_starts p.body [] h.fits.0.flat inner };
      body = body.0;
      after = record {
        stands = shift (back (definition k p) rest h.stands) (body.1.ends ∙ omega arith);
        fits = h.fits.1;
        few = omega (arith, h.few);
      };
    }

-- ---- one list of procedures stands there

-- a procedure is what it has
proc_same : {p q : Proc Plain} → p.params ≡ q.params → p.locals ≡ q.locals → p.body ≡ q.body → p ≡ q
proc_same a b c = λ t. record { params = a t; locals = b t; body = c t }

-- up to the same end
pub definitions_same : {x : List ℕ} {i k : ℕ} (ps qs : List (Proc Plain)) {j : ℕ} → DefinitionsText x i k ps j → DefinitionsText x i k qs j → ps ≡ qs
unfolding say
definitions_same [] [] h g = refl
definitions_same [] (q ∷ qs) h g = absurd (omega (arith, h.stands.ends, g.stands.ends))
definitions_same (p ∷ ps) [] h g = absurd (omega (arith, h.stands.ends, g.stands.ends))
definitions_same {x} {i} {k} (p ∷ ps) (q ∷ qs) {j} h g =
    let a = definition_in p ps h in
    let b = definition_in q qs g in
    let n = params_same p.params q.params a.params b.params in
    let At : ℕ → ℕ → Type 0 = λ l m.
    UnsetsText x (l + 20 + length (decimal k) + 4 + length (each argument (upto 0 m))) m (q.locals - q.params) b.u
    in
    let moved : At a.l p.params = subst (λ l. At l p.params) (sym n.1) (subst (At b.l) (sym n.0) b.unsets) in
    let unsets = unsets_same (p.locals - p.params) (q.locals - q.params) a.unsets moved in
    let body = block_same a.body (subst (λ u. BlockText x u max_nesting 1 q.body b.e) (sym unsets.1) b.body) in
    let locals : p.locals ≡ q.locals = omega (arith, n.0, unsets.0, h.fits.0.params, g.fits.0.params) in
    let others = definitions_same {i = a.e + 16} ps qs a.after (subst (λ e. DefinitionsText x (e + 16) (suc k) qs j) (sym body.1) b.after) in
    ap₂ (◌∷◌) (proc_same n.0 locals body.0) others

-- One law for each way through the pieces of generated code that do not read the source.
use Rattle.std.proofs.Common.{◌≡◌, ℕ, zero, suc, ◌+◌, ◌-◌, ◌<◌, ◌≤◌, Bool, true, false, List, [], ◌∷◌, sym, refl, ap, ◌∙◌, subst, add-one, arith}
use native.Mathlib.Decide.{dec_lt}
use Rattle.format.specs.Syntax.{Expr, local, Instr, assign, write, Block, end, Plain}
use Rattle.format.specs.Encode.{expr, instr, block}
use Rattle.format.specs.Rules.{max_locals}
use Rattle.basics.specs.BitSets.{bits}
use Rattle.basics.specs.Laws.BitSets.{bits_none}
use Rattle.translation.specs.Code.{◌then◌, num, loc, tid, tmp, aux, mentions, keep, variables, load_all}
use Rattle.writer.specs.declared.page.Page.{Page}
use Rattle.writer.specs.Laws.Pages.{Puts, PutsExpr, PutsInstr, PutsBlock, Onto, Writes}
use Rattle.emit.specs.Laws.Sources.{Takes, Loads, LoadsIf, LoadsAll, Goes, Returns}
use Rattle.emit.specs.declared.layout.Site.{Site}
use Rattle.writer.proofs.Paging.{puts_then, onto_start, onto_next}

module _ {o o' : Page} where
  -- ---- pieces one after the other

  -- an instruction is a piece of code
  pub writes_instr : {i : Instr Plain} → PutsInstr o i o' → Writes o (λ c. i then c) o'
  writes_instr {i} P = record { before = λ c. onto_next (instr i) (block c) onto_start P.puts }

  -- a piece, and a block after it
  pub writes_block : {f : Block Plain → Block Plain} {b : Block Plain} {o'' : Page} → Writes o f o' → PutsBlock o' b o''
      → PutsBlock o (f b) o''
  writes_block {b = b} F B = record { puts = (F.before b).then B.puts }

  -- one piece after another
  pub writes_then : {f g : Block Plain → Block Plain} {o'' : Page} → Writes o f o' → Writes o' g o'' → Writes o (λ c. f (g c)) o''
  writes_then {g = g} F G = record {
    before = λ c. record { then = λ P. (F.before (g c)).then ((G.before c).then P) };
  }

  -- the end of a block
  pub block_end : Puts o (0 ∷ []) o' → PutsBlock o end o'
  block_end P = record { puts = P }

-- ---- instructions

module _ {o o₁ o₂ : Page} where
  -- tmp[tid] := an expression
  pub kept : {e : Expr} → Puts o (0x21 ∷ 1 ∷ 5 ∷ 0 ∷ []) o₁ → PutsExpr o₁ e o₂ → PutsInstr o (write tmp (local tid) e) o₂
  kept {e} A B = record { puts = puts_then (0x21 ∷ 1 ∷ 5 ∷ 0 ∷ []) (expr e) A B.puts }

-- ---- loads

-- the variables from x on: x itself if it is mentioned, and the others
next_variable : (x n : ℕ) (es : List Expr) → x < n → variables x (n - x) es ≡ keep (mentions x es) x (variables (x + 1) (n - (x + 1)) es)
next_variable x n es h =
    let e : n - x ≡ suc (n - (x + 1)) = omega arith in
    ap (λ (k : ℕ). variables x k es) e ∙ ap (λ (y : ℕ). keep (mentions x es) x (variables y (n - (x + 1)) es)) (sym (add-one x))

-- none are left past the last
no_variable : (x n : ℕ) (es : List Expr) → n ≤ x → variables x (n - x) es ≡ []
no_variable x n es h = let e : n - x ≡ 0 = omega arith in ap (λ (k : ℕ). variables x k es) e

-- a start where what is left is the same
onto_same : {o : Page} {a b : List ℕ} → a ≡ b → Onto o a o b
onto_same {o} {a} e = subst (λ (b : List ℕ). Onto o a o b) e onto_start

module _ {s : Site} {u x : ℕ} where
  -- past the locals
  load_past : {o : Page} → s.locals ≤ x → LoadsIf s u x o o
  load_past l = record {
    gives = λ G m n es h f c.
        let none : variables x (n - x) es ≡ [] = no_variable x n es (omega (arith, h.locals)) in
        let more : variables (x + 1) (n - (x + 1)) es ≡ [] = no_variable (x + 1) n es (omega (arith, h.locals)) in
        onto_same (ap (λ (xs : List ℕ). block (load_all G m n xs c)) (none ∙ sym more));
  }

  -- not in the set
  pub load_off : {f : Bool} {o : Page} → f ≡ bits u x → f ≡ false → LoadsIf s u x o o
  load_off q e = record {
    gives = λ G m n es h f c. elim (dec_lt x n) [
      | yes l ↦
          let same : variables x (n - x) es ≡ variables (x + 1) (n - (x + 1)) es =
          next_variable x n es l ∙ ap (λ (b : Bool). keep b x (variables (x + 1) (n - (x + 1)) es)) (sym f ∙ sym q ∙ e)
          in
          onto_same (ap (λ (xs : List ℕ). block (load_all G m n xs c)) same)
      | no l ↦ (load_past (omega (arith, h.locals))).gives G m n es h f c
    ];
  }

  -- in the set
  pub load_on : {f : Bool} {o o' : Page} → f ≡ bits u x → f ≡ true → x < s.locals → Loads s x o o' → LoadsIf s u x o o'
  load_on {f = f₀} {o} {o'} q e l L = record {
    gives = λ G m n es h f c.
        let l' : x < n = omega (arith, h.locals) in
        let more : List ℕ = variables (x + 1) (n - (x + 1)) es in
        let same : variables x (n - x) es ≡ x ∷ more = next_variable x n es l' ∙ ap (λ (b : Bool). keep b x more) (sym f ∙ sym q ∙ e) in
        subst (λ (xs : List ℕ). Onto o (block (load_all G m n xs c)) o' (block (load_all G m n more c))) (sym same)
        ((L.gives G m n h l').before (load_all G m n more c));
  }

-- no variable is mentioned
none_mentioned : (x k : ℕ) (es : List Expr) → x + k ≤ max_locals → ((y : ℕ) → y < max_locals → mentions y es ≡ false) → variables x k es ≡ []
none_mentioned x zero es l h = refl
none_mentioned x (suc k) es l h = rw (h x (omega arith)) (none_mentioned (suc x) k es (omega arith) h)

-- an empty set
pub loads_none : {s : Site} {u : ℕ} {o : Page} → u ≡ 0 → LoadsAll s u o o
loads_none {u = u} e = record {
  gives = λ G m n es h f.
      let empty : variables 0 n es ≡ [] =
      none_mentioned 0 n es (omega (arith, h.few)) (λ y l. sym (f y l) ∙ ap (λ (z : ℕ). bits z y) e ∙ bits_none y)
      in
      record { before = λ c. onto_same (ap (λ (xs : List ℕ). block (load_all G m n xs c)) empty) };
}

-- ---- the end of the code

-- "pc"
pub goes : {o o₁ o₂ o₃ : Page} {s : Site} {label : ℕ} → PutsInstr o (assign tmp (loc s.pct)) o₁
    → PutsInstr o₁ (write tmp (local tid) (num label)) o₂ → Puts o₂ (0 ∷ []) o₃ → Goes s label o o₃
goes {label = label} A B C = record {
  gives = λ G m n h. writes_block (writes_then (writes_instr (rw h.pct at A)) (writes_instr B)) (block_end C);
}

-- the code of an end label
pub came : {o o₁ o₂ o₃ o₄ : Page} {s : Site} → Takes s.from aux o o₁ → PutsInstr o₁ (assign tmp (loc s.pct)) o₂
    → Puts o₂ (0x21 ∷ 1 ∷ 5 ∷ 0 ∷ []) o₃ → Puts o₃ (5 ∷ 2 ∷ 0 ∷ []) o₄ → Returns s o o₄
came {o} {o₁} {s = s} A B C D = record {
  gives = λ G m n h.
      let first : Takes (G.from m) aux o o₁ = rw h.from at A in
      writes_block (writes_then first.gives (writes_instr (rw h.pct at B)))
      (record { puts = puts_then (0x21 ∷ 1 ∷ 5 ∷ 0 ∷ []) (5 ∷ 2 ∷ 0 ∷ []) C D });
}

-- one law for each way
pub ruleset code_ways = (
  kept,
  load_off,
  load_on,
  loads_none,
  goes,
  came,
)

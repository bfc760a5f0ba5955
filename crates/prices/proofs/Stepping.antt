-- One law for each way through the price of a step.
use Prim.Native.Nat.{ℕ, ◌+◌, ◌*◌, ◌-◌, ◌≤◌, ◌<◌}
use native.Mathlib.Omega.{arith}
use mathlib.Core.Path.{◌≡◌, refl, sym, ap, ◌∙◌}
use mathlib.Core.List.{List, [], ◌∷◌}
use mathlib.Core.Bool.{true}
use lib.ListN.{length, get_or}
use Rattle.value.proofs.Laws.Tests.{both_passed, never}
use Rattle.format.specs.Syntax.{Expr, Instr, assign, write, read, while, if, call, atomic, select, Block, concurrent}
use Rattle.format.specs.Decode.{max_depth, max_nesting}
use Rattle.format.specs.Rules.{allowed, allowed_i, max_locals}
use Rattle.format.proofs.Laws.Procs.{body_in}
use Rattle.format.proofs.Laws.Stands.{first}
use Rattle.format.proofs.Laws.Grammar.{ExprAt, InstrAt, BlockAt, CallAt, AtomicAt, StepAt}
use Rattle.format.proofs.Laws.Grammar.{if_here, while_here, call_here, atomic_here, end_here, step_here}
use Rattle.labels.specs.Walks.{Gathers, GathersEach, CountsSet}
use Rattle.labels.specs.declared.variables.Gathered.{Gathered}
use Rattle.agreement.specs.Price.{vars}
use Rattle.agreement.specs.Prices.{Prices, inside, inside_i, step_prices}
use Rattle.prices.specs.Costs.{within, InsideIn, StepIn, costing, CostsPlain, CostsInside, code_prices, CostsStep}
use Rattle.prices.specs.declared.costs.Cost.{Cost}
use Rattle.prices.specs.declared.costs.Inside.{Inside}
use Rattle.prices.proofs.Costing.{exactly, counted, block_in}

-- the prices of a step
abbrev cost : Prices → Cost
cost q = record { least = q.least; most = q.most }

module _ {t : List ℕ} {i : ℕ} where
  -- by the instruction that stands there: no body ends there
  by_instr : {r : Cost} → (get_or t i 0 ≡ 0 → ⊥)
      → ((m d : ℕ) (a : Instr ℕ) (j : ℕ) → InstrAt t i d a j → allowed_i (body_in concurrent m) a ≡ true → d + 1 ≡ max_nesting
      → r ≡ cost (step_prices max_locals a)) → CostsStep t i r
  by_instr {r} q f = record { gives = λ m b j h al. by m b j al (step_here h q) }
    where
      by : (m : ℕ) (b : Block ℕ) (j : ℕ) → allowed (body_in concurrent m) b ≡ true → StepAt t i max_nesting b j → r ≡ cost (code_prices max_locals b)
      by m b j al w =
          let al₂ = both_passed (allowed_i (body_in concurrent m) w.s) (allowed (body_in concurrent m) w.rest) (rw w.is at al) in
          f m (max_nesting - 1) w.s w.k w.here al₂.0 refl ∙ ap (λ (b : Block ℕ). cost (code_prices max_locals b)) (sym w.is)

  -- "end label .. 4"
  pub step_end : {r : Cost} → get_or t i 0 ≡ 0 → r ≡ exactly 4 → CostsStep t i r
  step_end q e = record { gives = λ m b j h al. e ∙ ap (λ (b : Block ℕ). cost (code_prices max_locals b)) (sym (end_here h q).0) }

  -- if and while: 2k+3
  pub step_test : {r : Cost} {k : ℕ} {g : Gathered} → (0x23 ≤ get_or t i 0) × (get_or t i 0 < 0x25) → Gathers t (i + 1) max_depth g
      → CountsSet g.set k → r ≡ exactly (2 * k + 3) → CostsStep t i r
  step_test {r} {k} {g} q G C e = by_instr (λ z. omega arith) by
    where
      tested : (f : Expr) (l : ℕ) → ExprAt t (i + 1) max_depth f l → r ≡ exactly (2 * vars max_locals (f ∷ []) + 3)
      tested f l h = let v = counted G C f l h in e ∙ ap (λ (x : ℕ). exactly (2 * x + 3)) v.0

      by : (m d : ℕ) (a : Instr ℕ) (j : ℕ) → InstrAt t i d a j → allowed_i (body_in concurrent m) a ≡ true → d + 1 ≡ max_nesting
          → r ≡ cost (step_prices max_locals a)
      by m d (assign y f) j h al n = absurd (omega (arith, first h.stands))
      by m d (write y o f) j h al n = absurd (omega (arith, first h.stands))
      by m d (read y p o) j h al n = absurd (omega (arith, first h.stands))
      by m d (while f b) j h al n = let w = while_here h (first h.stands) in tested w.e w.k w.test ∙ ap (λ (a : Instr ℕ). cost (step_prices max_locals a)) (sym w.is)
      by m d (if f b c) j h al n = let w = if_here h (first h.stands) in tested w.e w.k w.test ∙ ap (λ (a : Instr ℕ). cost (step_prices max_locals a)) (sym w.is)
      by m d (call f es) j h al n = absurd (omega (arith, first h.stands))
      by m d (atomic b) j h al n = absurd (omega (arith, first h.stands))
      by m d (select y p) j h al n = absurd (omega (arith, first h.stands))

  -- a call: 2k+2n+4, "k counts the variables of all arguments together"
  pub step_call : {r : Cost} {n o k s : ℕ} → get_or t i 0 ≡ 0x25 → n ≡ get_or t (i + 3) 0 → GathersEach t (i + 4) n s → CountsSet s k
      → o ≡ n → r ≡ exactly (2 * k + 2 * o + 4) → CostsStep t i r
  step_call {r} {n} {o} {k} {s} q c G C f e = by_instr (λ z. omega arith) (λ m d a j h al n. by a j (call_here h q))
    where
      by : {d : ℕ} (a : Instr ℕ) (j : ℕ) → CallAt t i d a j → r ≡ cost (step_prices max_locals a)
      by a j w =
          let all = C.counts w.es (G.gives w.es j (rw c w.args)) in
          let count : n ≡ length w.es = c ∙ sym w.args.count in
          e ∙ rw (w.is, f, all, count)

  -- an atomic block: "inner prices .. + 2"
  pub atomic_in : StepIn t i → get_or t i 0 ≡ 0x26 → InsideIn t (i + 1) max_nesting
  atomic_in H q =
      let w : StepAt t i max_nesting H.block H.next = step_here H.there (λ z. omega arith) in
      let al = both_passed (allowed_i (body_in concurrent H.proc) w.s) (allowed (body_in concurrent H.proc) w.rest) (rw w.is at H.may) in
      let v : AtomicAt t i (max_nesting - 1) w.s w.k = atomic_here w.here q in
      let deeper : BlockAt t (i + 1) max_nesting v.b w.k =
      record { stands = v.body.stands; fits = (omega (arith, v.body.fits.0), v.body.fits.1) }
      in
      block_in H.proc deeper (rw v.is at al.0) H.short

  pub step_atomic : {x : Inside} → get_or t i 0 ≡ 0x26 → CostsInside t (i + 1) max_nesting x
      → CostsStep t i (record { least = x.cost.least + 2; most = x.cost.most + 2 })
  step_atomic {x} q X = by_instr (λ z. omega arith) (λ m d a j h al n. by m d a j al n (atomic_here h q))
    where
      by : (m d : ℕ) (a : Instr ℕ) (j : ℕ) → allowed_i (body_in concurrent m) a ≡ true → d + 1 ≡ max_nesting → AtomicAt t i d a j
          → ◌≡◌ {A = Cost} (record { least = x.cost.least + 2; most = x.cost.most + 2 }) (cost (step_prices max_locals a))
      by m d a j al n w =
          let deeper : BlockAt t (i + 1) max_nesting w.b j = record { stands = w.body.stands; fits = (omega (arith, w.body.fits.0), w.body.fits.1) } in
          let inner : x ≡ costing (inside max_locals w.b) j = X.gives m w.b j deeper (rw w.is at al) in
          rw (w.is, inner)

  -- assign, write and read: 2 more than in place
  pub step_plain : {r : Cost} {x : Inside} → (get_or t i 0 ≡ 0 → ⊥) → (get_or t i 0 ≡ 0x24 → ⊥) → (get_or t i 0 ≡ 0x23 → ⊥) → (get_or t i 0 ≡ 0x25 → ⊥)
      → (get_or t i 0 ≡ 0x26 → ⊥) → CostsPlain t i x → r ≡ exactly (x.cost.least + 2) → CostsStep t i r
  step_plain {r} {x} z b₀ b₁ b₂ b₃ P e = by_instr z by
    where
      -- by its price in place
      lower : (d : ℕ) (a : Instr ℕ) (j : ℕ) → InstrAt t i d a j → allowed_i (within 0) a ≡ true → x.cost.least ≡ (inside_i max_locals a).least
      lower d a j h al = ap (λ (z : Inside). z.cost.least) (P.gives d 0 a j h al b₀)

      by : (m d : ℕ) (a : Instr ℕ) (j : ℕ) → InstrAt t i d a j → allowed_i (body_in concurrent m) a ≡ true → d + 1 ≡ max_nesting
          → r ≡ cost (step_prices max_locals a)
      by m d (assign y f) j h al n = let v = lower d (assign y f) j h refl in e ∙ ap exactly (omega (arith, v))
      by m d (write y o f) j h al n = let v = lower d (write y o f) j h refl in e ∙ ap exactly (omega (arith, v))
      by m d (read y p o) j h al n = let v = lower d (read y p o) j h refl in e ∙ ap exactly (omega (arith, v))
      by m d (while f b) j h al n = absurd (b₁ (first h.stands))
      by m d (if f b c) j h al n = absurd (b₀ (first h.stands))
      by m d (call f es) j h al n = absurd (b₂ (first h.stands))
      by m d (atomic b) j h al n = absurd (b₃ (first h.stands))
      by m d (select y p) j h al n = absurd (never al)

pub ruleset step_ways = (step_end, step_call, atomic_in, step_atomic, step_plain)

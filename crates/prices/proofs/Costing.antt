-- One law for each way through the price list.
use Prim.Native.Nat.{ℕ, ◌+◌, ◌*◌, ◌-◌, ◌≤◌, min, max}
use native.Mathlib.Omega.{arith}
use mathlib.Core.Path.{◌≡◌, sym, ap, ◌∙◌}
use mathlib.Core.List.{List, [], ◌∷◌, ◌++◌}
use mathlib.Core.Bool.{true}
use lib.ListN.{length, get_or, length-append}
use Rattle.value.proofs.Laws.Tests.{both_passed, never, either_false}
use Rattle.format.specs.Syntax.{Expr, Instr, assign, write, read, while, if, call, atomic, select, Block, end, step, concurrent}
use Rattle.format.specs.Encode.{expr, instr, block}
use Rattle.format.specs.Decode.{max_depth}
use Rattle.format.specs.Variables.{mentioned}
use Rattle.format.specs.Rules.{allowed, allowed_i, limits, max_locals}
use Rattle.format.proofs.Laws.Stands.{first}
use Rattle.format.proofs.Laws.Grammar.{ExprAt, InstrAt, BlockAt, AssignAt, WriteAt, ReadAt, IfAt, StepAt}
use Rattle.format.proofs.Laws.Grammar.{assign_here, write_here, read_here, if_here, end_here, step_here, instr_inside, block_inside, block_deep}
use Rattle.labels.specs.Walks.{Gathers, CountsSet}
use Rattle.labels.specs.declared.variables.Gathered.{Gathered}
use Rattle.agreement.specs.Price.{vars}
use Rattle.agreement.specs.Prices.{inside, inside_i}
use Rattle.agreement.proofs.Laws.Cheap.{expr_vars}
use Rattle.prices.specs.Costs.{within, InnerIn, InsideIn, costing, CostsPlain, CostsInner, CostsInside, Walking}
use Rattle.prices.specs.declared.costs.Cost.{Cost}
use Rattle.prices.specs.declared.costs.Inside.{Inside}

-- ---- prices stay small

mutual
  -- an instruction's is at most twice its bytes
  small_instr : (n : ℕ) (i : Instr ℕ) → ((inside_i n i).least ≤ (inside_i n i).most) × ((inside_i n i).most ≤ 2 * length (instr i))
  small_instr n (assign x e) = (omega arith, omega (arith, expr_vars n e))
  small_instr n (write y o e) = (omega arith, omega (arith, expr_vars n e, expr_vars n o, length-append (expr o) (expr e)))
  small_instr n (read x y o) = (omega arith, omega (arith, expr_vars n o))
  small_instr n (while e b) = (omega arith, omega arith)
  small_instr n (if e b c) =
      let v = small_block n b in
      let w = small_block n c in (
        omega (arith, v.0, w.0),
        omega (arith, expr_vars n e, v.1, w.1, length-append (expr e) (block b ++ block c), length-append (block b) (block c)),
      )
  small_instr n (call m es) = (omega arith, omega arith)
  small_instr n (atomic b) = (omega arith, omega arith)
  small_instr n (select x y) = (omega arith, omega arith)

  -- so is a block's
  small_block : (n : ℕ) (b : Block ℕ) → ((inside n b).least ≤ (inside n b).most) × ((inside n b).most ≤ 2 * length (block b))
  small_block n end = (omega arith, omega arith)
  small_block n (step a i b) =
      let v = small_instr n i in
      let w = small_block n b in
      (omega (arith, v.0, w.0), omega (arith, v.1, w.1, length-append (instr i) (block b)))

-- ---- variables

-- k of an expression, and where it ends
pub counted : {t : List ℕ} {i k : ℕ} {g : Gathered} → Gathers t i max_depth g → CountsSet g.set k → (e : Expr) (j : ℕ) → ExprAt t i max_depth e j
    → (k ≡ vars max_locals (e ∷ [])) × (g.next ≡ j)
counted G C e j h = (C.counts (e ∷ []) (λ x l. G.set e j h x l ∙ sym (either_false (mentioned x e))), G.ends e j h)

-- one price, and where it ends
abbrev pub exactly : ℕ → Cost
exactly x = record { least = x; most = x }

abbrev one : ℕ → ℕ → Inside
one x j = record { cost = exactly x; next = j }

module _ {t : List ℕ} {i : ℕ} where
  -- ---- assign, write and read

  -- "20 x e"
  pub plain_assign : {k : ℕ} {g : Gathered} {x : Cost} → get_or t i 0 ≡ 0x20 → Gathers t (i + 2) max_depth g → CountsSet g.set k
      → x ≡ exactly (2 * k + 2) → CostsPlain t i (record { cost = x; next = g.next })
  plain_assign {k} {g} q G C e = rw e (record { gives = λ d m a j h al z. by a j (assign_here h q); few = omega (arith, C.few) })
    where
      by : {d : ℕ} (a : Instr ℕ) (j : ℕ) → AssignAt t i d a j → one (2 * k + 2) g.next ≡ costing (inside_i max_locals a) j
      by a j w = let v = counted G C w.e j w.source in rw (w.is, v.0, v.1)

  -- "21 y o e"
  pub plain_write : {k l : ℕ} {f g : Gathered} {x : Cost} → get_or t i 0 ≡ 0x21 → Gathers t (i + 2) max_depth f → Gathers t f.next max_depth g
      → CountsSet g.set k → CountsSet f.set l → x ≡ exactly (2 * k + 2 * l + 3)
      → CostsPlain t i (record { cost = x; next = g.next })
  plain_write {k} {l} {f} {g} q F G C D e =
      rw e (record { gives = λ d m a j h al z. by a j (write_here h q); few = omega (arith, C.few, D.few) })
    where
      by : {d : ℕ} (a : Instr ℕ) (j : ℕ) → WriteAt t i d a j → one (2 * k + 2 * l + 3) g.next ≡ costing (inside_i max_locals a) j
      by a j w =
          let u = counted F D w.o w.k w.offset in
          let v = counted G C w.e j (rw u.1 w.source) in
          rw (w.is, v.0, v.1, u.0)

  -- "22 x y o": no other instruction is left
  pub plain_read : {k : ℕ} {g : Gathered} {x : Cost} → (get_or t i 0 ≡ 0x20 → ⊥) → (get_or t i 0 ≡ 0x21 → ⊥) → Gathers t (i + 3) max_depth g
      → CountsSet g.set k → x ≡ exactly (2 * k + 5) → CostsPlain t i (record { cost = x; next = g.next })
  plain_read {k} {g} q₀ q₁ G C e = rw e (record { gives = gives; few = omega (arith, C.few) })
    where
      by : {d : ℕ} (a : Instr ℕ) (j : ℕ) → ReadAt t i d a j → one (2 * k + 5) g.next ≡ costing (inside_i max_locals a) j
      by a j w = let v = counted G C w.o j w.offset in rw (w.is, v.0, v.1)

      gives : (d m : ℕ) (a : Instr ℕ) (j : ℕ) → InstrAt t i d a j → allowed_i (within m) a ≡ true → (get_or t i 0 ≡ 0x24 → ⊥)
          → one (2 * k + 5) g.next ≡ costing (inside_i max_locals a) j
      gives d m (assign x e) j h al b₂ = absurd (q₀ (first h.stands))
      gives d m (write y o e) j h al b₂ = absurd (q₁ (first h.stands))
      gives d m (read x y o) j h al b₂ = by (read x y o) j (read_here h (first h.stands))
      gives d m (while e b) j h al b₂ = absurd (never al)
      gives d m (if e b c) j h al b₂ = absurd (b₂ (first h.stands))
      gives d m (call f es) j h al b₂ = absurd (never al)
      gives d m (atomic b) j h al b₂ = absurd (never al)
      gives d m (select x y) j h al b₂ = absurd (never al)

pub ruleset plain_ways = (plain_assign, plain_write, plain_read)

-- ---- in an atomic block

-- an instruction in place
inner_costs : {t : List ℕ} {i d : ℕ} {r : Inside} → InnerIn t i d
    → ((m : ℕ) (a : Instr ℕ) (j : ℕ) → InstrAt t i d a j → allowed_i (within m) a ≡ true → r ≡ costing (inside_i max_locals a) j) → CostsInner t i d r
inner_costs {t} {i} {d} {r} H f =
    let s : r ≡ costing (inside_i max_locals H.instr) H.next = f H.proc H.instr H.next H.there H.may in
    let v = small_instr max_locals H.instr in
    record {
      gives = f;
      order = omega (arith, v.0, ap (λ (x : Inside). x.cost.least) s, ap (λ (x : Inside). x.cost.most) s);
      room = omega (arith, v.1, ap (λ (x : Inside). x.cost.most) s, ap (λ (x : Inside). x.next) s, H.there.stands.ends);
      fits = omega (arith, ap (λ (x : Inside). x.next) s, H.there.stands.fits);
      onward = omega (arith, ap (λ (x : Inside). x.next) s, (instr_inside H.there).0);
    }

-- a block in place
inside_costs : {t : List ℕ} {i d : ℕ} {r : Inside} → InsideIn t i d
    → ((m : ℕ) (b : Block ℕ) (j : ℕ) → BlockAt t i d b j → allowed (within m) b ≡ true → r ≡ costing (inside max_locals b) j) → CostsInside t i d r
inside_costs {t} {i} {d} {r} H f =
    let s : r ≡ costing (inside max_locals H.block) H.next = f H.proc H.block H.next H.there H.may in
    let v = small_block max_locals H.block in
    record {
      gives = f;
      order = omega (arith, v.0, ap (λ (x : Inside). x.cost.least) s, ap (λ (x : Inside). x.cost.most) s);
      room = omega (arith, v.1, ap (λ (x : Inside). x.cost.most) s, ap (λ (x : Inside). x.next) s, H.there.stands.ends);
      fits = omega (arith, ap (λ (x : Inside). x.next) s, H.there.stands.fits);
    }

-- a block that stands there
pub block_in : {t : List ℕ} {i d : ℕ} {b : Block ℕ} {j : ℕ} (m : ℕ) → BlockAt t i d b j → allowed (within m) b ≡ true → length t ≤ (limits concurrent).bytes
    → InsideIn t i d
block_in {b = b} {j} m h al short = record {
  block = b;
  next = j;
  there = h;
  proc = m;
  may = al;
  start = omega (arith, (block_inside h).0, (block_inside h).1);
  deep = block_deep h;
  short = short;
}

module _ {t : List ℕ} {i d : ℕ} where
  -- an instruction that is no if
  pub inner_plain : {r : Inside} → InnerIn t i d → (get_or t i 0 ≡ 0x24 → ⊥) → CostsPlain t i r → CostsInner t i d r
  inner_plain H q P = inner_costs H (λ m a j h al. P.gives d m a j h al q)

  -- the branches of an if
  pub yes_in : {g : Gathered} → InnerIn t i d → get_or t i 0 ≡ 0x24 → Gathers t (i + 1) max_depth g → InsideIn t g.next d
  yes_in {g} H q G =
      let w : IfAt t i d H.instr H.next = if_here H.there q in
      let al = both_passed (allowed (within H.proc) w.b) (allowed (within H.proc) w.c) (rw w.is at H.may) in
      rw (G.ends w.e w.k w.test) (block_in H.proc w.first al.0 H.short)

  pub no_in : {g : Gathered} {x : Inside} → InnerIn t i d → get_or t i 0 ≡ 0x24 → Gathers t (i + 1) max_depth g → CostsInside t g.next d x
      → InsideIn t x.next d
  no_in {g} {x} H q G X =
      let w : IfAt t i d H.instr H.next = if_here H.there q in
      let al = both_passed (allowed (within H.proc) w.b) (allowed (within H.proc) w.c) (rw w.is at H.may) in
      let here : BlockAt t g.next d w.b w.l = rw (G.ends w.e w.k w.test) w.first in
      let ends : x.next ≡ w.l = ap (λ (z : Inside). z.next) (X.gives H.proc w.b w.l here al.0) in
      rw ends (block_in H.proc w.second al.1 H.short)

  -- "2k+1 and the branch taken"
  pub inner_if : {k lo hi : ℕ} {g : Gathered} {x y : Inside} → InnerIn t i d → get_or t i 0 ≡ 0x24 → Gathers t (i + 1) max_depth g
      → CostsInside t g.next d x → CostsInside t x.next d y → CountsSet g.set k → lo ≡ min x.cost.least y.cost.least
      → hi ≡ max x.cost.most y.cost.most → CostsInner t i d (record { cost = record { least = 2 * k + 1 + lo; most = 2 * k + 1 + hi }; next = y.next })
  inner_if {k} {lo} {hi} {g} {x} {y} H q G X Y C e f = inner_costs H (λ m a j h al. by m a j al (if_here h q))
    where
      by : (m : ℕ) (a : Instr ℕ) (j : ℕ) → allowed_i (within m) a ≡ true → IfAt t i d a j
          → ◌≡◌ {A = Inside} (record { cost = record { least = 2 * k + 1 + lo; most = 2 * k + 1 + hi }; next = y.next }) (costing (inside_i max_locals a) j)
      by m a j al w =
          let al₂ = both_passed (allowed (within m) w.b) (allowed (within m) w.c) (rw w.is at al) in
          let v = counted G C w.e w.k w.test in
          let first : x ≡ costing (inside max_locals w.b) w.l = X.gives m w.b w.l (rw v.1 w.first) al₂.0 in
          let ends : x.next ≡ w.l = ap (λ (z : Inside). z.next) first in
          let other : y ≡ costing (inside max_locals w.c) j = Y.gives m w.c j (rw ends w.second) al₂.1 in
          rw (w.is, e, f, v.0, first, other)

  -- ---- the loop over a block

  -- from the beginning
  pub walk_start : InsideIn t i d → Walking t i d i 0 0
  walk_start H = record {
    rest = H;
    inside = H.start;
    short = H.short;
    order = omega arith;
    room = omega arith;
    back = λ r R.
        let lo : 0 + r.cost.least ≡ r.cost.least = omega arith in
        let hi : 0 + r.cost.most ≡ r.cost.most = omega arith in
        rw (lo, hi) R;
  }

  -- the next instruction
  pub walk_in : {k lo hi : ℕ} → Walking t i d k lo hi → (get_or t k 0 ≡ 0 → ⊥) → InnerIn t k (d - 1)
  walk_in {k} W q =
      let H : InsideIn t k d = W.rest in
      let w : StepAt t k d H.block H.next = step_here H.there q in
      record {
        instr = w.s;
        next = w.k;
        there = w.here;
        proc = H.proc;
        may = (both_passed (allowed_i (within H.proc) w.s) (allowed (within H.proc) w.rest) (rw w.is at H.may)).0;
        start = W.inside;
        short = W.short;
      }

  pub walk_next : {k lo hi : ℕ} {x : Inside} → Walking t i d k lo hi → (get_or t k 0 ≡ 0 → ⊥) → CostsInner t k (d - 1) x
      → Walking t i d x.next (lo + x.cost.least) (hi + x.cost.most)
  walk_next {k} {lo} {hi} {x} W q X =
      let H : InsideIn t k d = W.rest in
      let w : StepAt t k d H.block H.next = step_here H.there q in
      let al = both_passed (allowed_i (within H.proc) w.s) (allowed (within H.proc) w.rest) (rw w.is at H.may) in
      let ends : x.next ≡ w.k = ap (λ (z : Inside). z.next) (X.gives H.proc w.s w.k w.here al.0) in
      let next : InsideIn t x.next d = rw ends (block_in H.proc w.after al.1 W.short) in
      record {
        rest = next;
        inside = next.start;
        short = W.short;
        order = omega (arith, W.order, X.order);
        room = omega (arith, W.room, X.room);
        back = λ r R.
            let least : lo + (x.cost.least + r.cost.least) ≡ lo + x.cost.least + r.cost.least = omega arith in
            let most : hi + (x.cost.most + r.cost.most) ≡ hi + x.cost.most + r.cost.most = omega arith in
            rw (← least, ← most) (W.back _ (inside_costs H (λ m b j h al. more r R m b j al (step_here h q))));
      }
    where
      more : (r : Inside) → CostsInside t x.next d r → (m : ℕ) (b : Block ℕ) (j : ℕ) → allowed (within m) b ≡ true → StepAt t k d b j
          → ◌≡◌ {A = Inside} (record { cost = record { least = x.cost.least + r.cost.least; most = x.cost.most + r.cost.most }; next = r.next }) (costing (inside max_locals b) j)
      more r R m b j al v =
          let al₂ = both_passed (allowed_i (within m) v.s) (allowed (within m) v.rest) (rw v.is at al) in
          let here : x ≡ costing (inside_i max_locals v.s) v.k = X.gives m v.s v.k v.here al₂.0 in
          let ends : x.next ≡ v.k = ap (λ (z : Inside). z.next) here in
          let rest : r ≡ costing (inside max_locals v.rest) j = R.gives m v.rest j (rw ends v.after) al₂.1 in
          rw (v.is, here, rest)

  -- "a block ends with byte 00"
  pub walk_end : {k lo hi : ℕ} → Walking t i d k lo hi → get_or t k 0 ≡ 0 → CostsInside t i d (record { cost = record { least = lo; most = hi }; next = k + 1 })
  walk_end {k} {lo} {hi} W q =
      let least : lo + 0 ≡ lo = omega arith in
      let most : hi + 0 ≡ hi = omega arith in
      rw (least, most) at (W.back (record { cost = record { least = 0; most = 0 }; next = k + 1 }) (inside_costs W.rest (λ m b j h al. by b j (end_here h q))))
    where
      by : (b : Block ℕ) (j : ℕ) → (b ≡ end) × (j ≡ k + 1) → ◌≡◌ {A = Inside} (record { cost = record { least = 0; most = 0 }; next = k + 1 }) (costing (inside max_locals b) j)
      by b j v = rw (v.0, v.1)

pub ruleset inside_ways = (inner_plain, yes_in, no_in, inner_if, walk_start, walk_in, walk_next, walk_end)

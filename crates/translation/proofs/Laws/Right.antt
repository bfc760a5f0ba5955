-- Code that a reader accepts, put together instruction by instruction.
use Rattle.std.specs.Prelude.{ℕ, suc, ◌^◌, ◌≤◌, ◌<◌, ◌≡◌, refl, List, ◌++◌, true, length}
use Rattle.std.proofs.Common.{arith, eq-eqb}
use Rattle.std.proofs.Math.Bool as B
use Rattle.value.specs.Maybe.{there}
use Rattle.value.proofs.Laws.Tests.{pass_both}
use Rattle.value.proofs.Laws.Lists.{Each, each_so, all_pass, each_append}
use Rattle.format.specs.Syntax.{Expr, local, assign, write, read, while, if, call, select, Block, end, Program, Plain}
use Rattle.format.specs.Rules.{Here, Known, with, known, after, allowed, plainly, is_concurrent, callees}
use Rattle.format.proofs.Laws.Reading.{so, chain, there_chain}
use Rattle.format.proofs.Laws.Names.{Takes, InRange, Names}
use Rattle.format.proofs.Laws.Depths.{ExprRight, nesting, ExprsRight}
use Rattle.format.proofs.Laws.Blocks.{nesting_pos}
use Rattle.format.proofs.Laws.Sets.{◌⊆◌, grows}
use Rattle.translation.specs.Code.{◌then◌, num, loc}

-- ---- code of the program p, in a procedure of X locals

-- an expression that may stand where s is set
pub record Given (p : Program Plain) (X : ℕ) (s : Known) (e : Expr) : Type 0 where
  pub right : ExprRight e
  pub named : InRange X (length p.sizes) e
  pub known : known s e ≡ true

module _ {p : Program Plain} {X : ℕ} {s : Known} where
  -- a number, a location, a local that is set
  pub num_given : (k : ℕ) → k < 2 ^ 31 → Given p X s (num k)
  num_given k h = record { right = record { deep = omega arith; wholes = h }; named = tt; known = refl }

  -- a location
  pub loc_given : (l : ℕ) → l < length p.sizes → Given p X s (loc l)
  loc_given l h = record { right = record { deep = omega arith; wholes = tt }; named = h; known = refl }

  -- a local that is set
  pub local_given : (x : ℕ) → x < X → s x ≡ true → Given p X s (local x)
  local_given x h k = record { right = record { deep = omega arith; wholes = tt }; named = h; known = k }

-- code that calls only procedures with C
module _ (p : Program Plain) (X : ℕ) (here : Here) (C : ℕ → Type 0) where
  -- a block that may stand where s is set, with at most d blocks one in the other
  pub record Right (d : ℕ) (s : Known) (b : Block Plain) : Type 0 where
    pub deep : nesting b ≤ d
    pub exprs : ExprsRight b
    pub allowed : allowed here b ≡ true
    pub named : Names p X b
    pub calls : Each C (callees b)
    pub set : there (after s b) ≡ true

module _ {p : Program Plain} {X : ℕ} {here : Here} {C : ℕ → Type 0} where
  -- nothing more
  pub end_right : {d : ℕ} {s : Known} → 1 ≤ d → Right p X here C d s end
  end_right h = record { deep = h; exprs = tt; allowed = refl; named = tt; calls = tt; set = refl }

module _ {p : Program Plain} {X : ℕ} {here : Here} {C : ℕ → Type 0} {d : ℕ} {s : Known} {c : Block Plain} where
  -- an assignment sets its target
  pub assign_right : (x : ℕ) (e : Expr) → x < X → Given p X s e → Right p X here C d (with s x) c → Right p X here C d s (assign x e then c)
  assign_right x e h g r = record {
    deep = omega (arith, r.deep, nesting_pos c);
    exprs = (g.right, r.exprs);
    allowed = r.allowed;
    named = ((h, g.named), r.named);
    calls = r.calls;
    set = rw g.known r.set;
  }

  -- a write
  pub write_right : (y : ℕ) (o e : Expr) → y < X → s y ≡ true → Given p X s o → Given p X s e → Right p X here C d s c
      → Right p X here C d s (write y o e then c)
  write_right y o e h t f g r = record {
    deep = omega (arith, r.deep, nesting_pos c);
    exprs = ((f.right, g.right), r.exprs);
    allowed = r.allowed;
    named = ((h, (f.named, g.named)), r.named);
    calls = r.calls;
    set = rw (t, f.known, g.known) r.set;
  }

  -- a read sets its target
  pub read_right : (x y : ℕ) (o : Expr) → x < X → y < X → s y ≡ true → Given p X s o → Right p X here C d (with s x) c
      → Right p X here C d s (read x y o then c)
  read_right x y o h k t g r = record {
    deep = omega (arith, r.deep, nesting_pos c);
    exprs = (g.right, r.exprs);
    allowed = r.allowed;
    named = ((h, (k, g.named)), r.named);
    calls = r.calls;
    set = rw (t, g.known) r.set;
  }

  -- a test: what is set before it is set after it
  pub if_right : (e : Expr) (a b : Block Plain) → Given p X s e → Right p X here C d s a → Right p X here C d s b
      → ((u : Known) → s ⊆ u → Right p X here C (suc d) u c) → Right p X here C (suc d) s (if e a b then c)
  if_right e a b g f h r =
      let same : Right p X here C (suc d) s c = r s (λ x e. e) in
      record {
        deep = omega (arith, same.deep, f.deep, h.deep);
        exprs = ((g.right, f.exprs, h.exprs), same.exprs);
        allowed = pass_both (pass_both f.allowed h.allowed) same.allowed;
        named = ((g.named, (f.named, h.named)), same.named);
        calls = each_append C (callees a ++ callees b) (callees c) (each_append C (callees a) (callees b) f.calls h.calls) same.calls;
        set = rw g.known
            (there_chain _ (chain _ (grows a s) λ u h. chain _ (grows b s) λ v k. so (λ x e. pass_both (h x e) (k x e)))
            (there_chain _ (grows a s) f.set λ u k. there_chain _ (grows b s) h.set λ v l. refl)
            (λ u h. (r u h).set));
      }

  -- a loop, not inside an atomic block
  pub while_right : (e : Expr) (b : Block Plain) → plainly here ≡ true → Given p X s e → Right p X here C d s b
      → ((u : Known) → s ⊆ u → Right p X here C (suc d) u c) → Right p X here C (suc d) s (while e b then c)
  while_right e b out g body r =
      let same : Right p X here C (suc d) s c = r s (λ x e. e) in
      record {
        deep = omega (arith, same.deep, body.deep);
        exprs = ((g.right, body.exprs), same.exprs);
        allowed = pass_both (pass_both out body.allowed) same.allowed;
        named = ((g.named, body.named), same.named);
        calls = each_append C (callees b) (callees c) body.calls same.calls;
        set = rw g.known
            (there_chain {P = λ u. s ⊆ u} _
            (chain _ (grows b s) λ u h. so (λ x e. e))
            (there_chain _ (grows b s) body.set λ u h. refl) (λ u h. (r u h).set));
      }

  -- a call of a procedure that takes so many
  pub call_right : (m : ℕ) (es : List Expr) → Takes p.procs m (length es) → plainly here ≡ true → C m → Each (Given p X s) es
      → Right p X here C d s c
      → Right p X here C d s (call m es then c)
  call_right m es arity out mine g r = record {
    deep = omega (arith, r.deep, nesting_pos c);
    exprs = (each_so (λ e g. g.right) es g, r.exprs);
    allowed = pass_both out r.allowed;
    named = ((arity, each_so (λ e g. g.named) es g), r.named);
    calls = (mine, r.calls);
    set = rw (all_pass _ es (each_so (λ e g. g.known) es g)) r.set;
  }

  -- a select, in procedure 0
  pub select_right : (a b : ℕ) → a < length p.sizes → b < length p.sizes → B.not (is_concurrent here.kind) ≡ true → here.proc ≡ 0
      → Right p X here C d s c → Right p X here C d s (select a b then c)
  select_right a b h k out first r = record {
    deep = omega (arith, r.deep, nesting_pos c);
    exprs = (tt, r.exprs);
    allowed = pass_both (pass_both out (eq-eqb here.proc 0 first)) r.allowed;
    named = ((h, k), r.named);
    calls = r.calls;
    set = r.set;
  }

-- The procedures of a sound program by their numbers: what the rules say of procedure m.
use Rattle.std.specs.Prelude.{ℕ, zero, suc, ◌+◌, ◌≤◌, ◌≡◌, refl, List, [], ◌∷◌, true, false, length, ltb}
use Rattle.std.proofs.Common.{arith, sym, ap, ◌∙◌, length-append}
use Rattle.value.specs.Maybe.{is}
use Rattle.value.specs.Lists.{at}
use Rattle.value.proofs.Laws.Maybes.{is_inj, missing}
use Rattle.value.proofs.Laws.Lists.{each_at}
use Rattle.format.specs.Syntax.{Block, Proc, Program, Plain, Kind, concurrent}
use Rattle.format.specs.Encode.{each, block, bodies_of, middle_of, middle, front, trailer_of, trailer, table, trailer_size}
use Rattle.format.specs.Rules.{takes, Here, Known, limits, allowed, after}
use Rattle.format.proofs.Laws.Names.{Takes, takes?, Names}
use Rattle.format.proofs.Laws.Depths.{BodyRight}
use Rattle.format.proofs.Laws.Permits.{Permitted, permitted?, AllPermitted}
use Rattle.format.proofs.Laws.SetFirst.{ReadsSet, passes}
use Rattle.format.proofs.Laws.Sound.{Sound, LocalsRight}

-- a procedure with a parameters is one of them
pub takes_at : {A : Type 0} (ps : List (Proc A)) (m a : ℕ) → Takes ps m a → (q : Proc A) × (at ps m ≡ is q) × (q.params ≡ a)
takes_at [] m a e = absurd e
takes_at (p ∷ ps) zero a e = (p, refl, e)
takes_at (p ∷ ps) (suc m) a e = takes_at ps m a e

-- and that is how many it has
pub takes_params : {A : Type 0} (ps : List (Proc A)) (m a : ℕ) {q : Proc A} → takes ps m a ≡ true → at ps m ≡ is q → q.params ≡ a
takes_params {A} ps m a t e =
    let found : (q : Proc A) × (at ps m ≡ is q) × (q.params ≡ a) = takes_at ps m a ((takes? ps m a).so t) in
    ap (λ q. q.params) (is_inj (sym e ∙ found.1)) ∙ found.2

-- in the body of procedure m
abbrev pub body_in : Kind → ℕ → Here
body_in k m = record { kind = k; proc = m; inside = false }

-- rules 3, 4, 5 and 8, of procedure m
pub record ProcSound (k : Kind) (p : Program Plain) (m : ℕ) (q : Proc Plain) : Type 0 where
  pub params : q.params ≤ q.locals
  pub locals : q.locals ≤ (limits k).locals
  pub body : BodyRight q.body
  pub allowed : allowed (body_in k m) q.body ≡ true
  pub named : Names p q.locals q.body
  pub sets : (u : Known) × (after (λ x. ltb x q.params) q.body ≡ is u)

-- body m of a list of procedures
pub body_at_lem : (ps : List (Proc Plain)) (m : ℕ) {q : Proc Plain} → at ps m ≡ is q → at (bodies_of ps) m ≡ is q.body
body_at_lem [] m e = missing e
body_at_lem (p ∷ ps) zero e = rw (is_inj e)
body_at_lem (p ∷ ps) (suc m) e = body_at_lem ps m e

-- body m is permitted, where the first is that of procedure i
permitted_at : (k : Kind) (i : ℕ) (bs : List (Block Plain)) (m j : ℕ) {b : Block Plain} → j ≡ i + m → AllPermitted k i bs → at bs m ≡ is b
    → Permitted (body_in k j) b
permitted_at k i [] m j s h e = missing e
permitted_at k i (o ∷ bs) zero j {b} s h e =
    let same : o ≡ b = is_inj e in
    let j=i : j ≡ i = omega arith in
    rw (j=i, ← same) h.0
permitted_at k i (o ∷ bs) (suc m) j s h e = permitted_at k (suc i) bs m j (omega arith) h.1 e

module _ {k : Kind} {p : Program Plain} (sound : Sound k p) where
  -- the rules, of procedure m
  pub proc_sound : (m : ℕ) (q : Proc Plain) → at p.procs m ≡ is q → ProcSound k p m q
  proc_sound m q e = record {
    params = locals.params;
    locals = locals.locals;
    body = each_at BodyRight (bodies_of p.procs) m sound.bodies (body_at_lem p.procs m e);
    allowed =
        (permitted? q.body (body_in k m)).of
        (permitted_at k 0 (bodies_of p.procs) m m (omega arith) sound.allowed (body_at_lem p.procs m e));
    named = each_at (λ q. Names p q.locals q.body) p.procs m sound.named e;
    sets = (_, passes q.body _ (each_at (λ q. ReadsSet (λ x. ltb x q.params) q.body) p.procs m sound.set e));
  }
    where
      locals : LocalsRight (limits k).locals q
      locals = each_at (LocalsRight (limits k).locals) p.procs m sound.locals e

-- a thread's main is a procedure without parameters
pub main_at : {p : Program Plain} → Sound concurrent p → (i m : ℕ) → at p.mains i ≡ is m
    → (q : Proc Plain) × (at p.procs m ≡ is q) × (q.params ≡ 0)
main_at {p} sound i m e = takes_at p.procs m 0 (each_at (λ m. Takes p.procs m 0) p.mains i sound.mains e)

-- ---- a body in the table

-- among the bodies
body_among : (ps : List (Proc Plain)) (m : ℕ) {q : Proc Plain} → at ps m ≡ is q → length (block q.body) ≤ length (each block (bodies_of ps))
body_among [] m e = missing e
body_among (p ∷ ps) zero {q} e =
    let s : p ≡ q = is_inj e in
    rw (← s) (omega (arith, length-append (block p.body) (each block (bodies_of ps))))
body_among (p ∷ ps) (suc m) e = omega (arith, length-append (block p.body) (each block (bodies_of ps)), body_among ps m e)

-- a procedure's body and 16 bytes more are not longer than the table
pub body_in_table : (k : Kind) (p : Program Plain) (m : ℕ) {q : Proc Plain} → at p.procs m ≡ is q
    → length (block q.body) + trailer_size ≤ length (table k p)
body_in_table k p m e =
    omega (
      arith,
      length-append (front p) (trailer (trailer_of k p)),
      length-append (each block (bodies_of p.procs)) (middle (middle_of p)),
      body_among p.procs m e,
    )

-- The procedures that a block calls are those that its calls name, wherever these stand: document 01, "can reach itself by calls".
use Rattle.std.specs.Prelude.{ℕ, zero, suc, ◌≡◌, refl, ◌↔◌, List, [], ◌∷◌}
use Rattle.std.proofs.Common.{ap}
use Rattle.value.specs.Maybe.{is}
use Rattle.value.specs.Lists.{at}
use Rattle.value.proofs.Laws.Maybes.{is_inj, missing}
use Rattle.value.proofs.Laws.Lists.{In, here, in_front, in_back, in_either, each_in}
use Rattle.format.specs.Syntax.{Expr, Instr, assign, write, read, while, if, call, atomic, select, Block, end, step, Proc}
use Rattle.format.specs.Rules.{callees, callees_i, callees_of}

mutual
  -- a call of n stands in an instruction
  pub data CallsI {A : Type 0} (n : ℕ) : Instr A → Type 0 where
    itself : {m : ℕ} {es : List Expr} → m ≡ n → CallsI n (call m es)
    looped : {e : Expr} {b : Block A} → Calls n b → CallsI n (while e b)
    if_true : {e : Expr} {b c : Block A} → Calls n b → CallsI n (if e b c)
    if_false : {e : Expr} {b c : Block A} → Calls n c → CallsI n (if e b c)
    inside : {b : Block A} → Calls n b → CallsI n (atomic b)

  -- and in a block
  pub data Calls {A : Type 0} (n : ℕ) : Block A → Type 0 where
    first : {a : A} {i : Instr A} {b : Block A} → CallsI n i → Calls n (step a i b)
    later : {a : A} {i : Instr A} {b : Block A} → Calls n b → Calls n (step a i b)

-- nothing is listed in an empty list
none : {G : Type 0} {n : ℕ} → In n [] → G
none {G} h = each_in (λ x. G) [] tt h

module _ {A : Type 0} (n : ℕ) where
  mutual
    -- one that is listed stands there
    listed_i : (i : Instr A) → In n (callees_i i) → CallsI n i
    listed_i (assign x e) h = none h
    listed_i (write y o e) h = none h
    listed_i (read x y o) h = none h
    listed_i (while e b) h = looped (listed b h)
    listed_i (if e b c) h = in_either (callees b) (callees c) h (λ p. if_true (listed b p)) (λ p. if_false (listed c p))
    listed_i (call m es) here = itself refl
    listed_i (atomic b) h = inside (listed b h)
    listed_i (select a b) h = none h
    listed_i (call m es) (Rattle.value.proofs.Laws.Lists.there x4) = elim x4 [ ]

    -- in a block
    listed : (b : Block A) → In n (callees b) → Calls n b
    listed end h = none h
    listed (step a i b) h = in_either (callees_i i) (callees b) h (λ p. first (listed_i i p)) (λ p. later (listed b p))

  mutual
    -- one that stands there is listed
    stands_i : {i : Instr A} → CallsI n i → In n (callees_i i)
    stands_i (itself e) = rw e here
    stands_i (looped h) = stands h
    stands_i (if_true {b = b} {c = c} h) = in_front (callees b) (callees c) (stands h)
    stands_i (if_false {b = b} {c = c} h) = in_back (callees b) (callees c) (stands h)
    stands_i (inside h) = stands h

    -- in a block
    stands : {b : Block A} → Calls n b → In n (callees b)
    stands (first {i = i} {b = b} h) = in_front (callees_i i) (callees b) (stands_i h)
    stands (later {i = i} {b = b} h) = in_back (callees_i i) (callees b) (stands h)

  -- N IS LISTED EXACTLY IF A CALL OF IT STANDS IN THE BLOCK.
  pub callees_exactly : (b : Block A) → In n (callees b) ↔ Calls n b
  callees_exactly b = (listed b, stands)

-- those of procedure m are those of its body
pub callees_at : {A : Type 0} (ps : List (Proc A)) (m : ℕ) {q : Proc A} → at ps m ≡ is q → callees_of ps m ≡ callees q.body
callees_at [] m e = missing e
callees_at {A} (p ∷ ps) zero e = ap (λ (q : Proc A). callees q.body) (is_inj e)
callees_at (p ∷ ps) (suc m) e = callees_at ps m e

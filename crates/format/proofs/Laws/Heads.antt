-- The records and the bodies of a table are those of the procedures that they make.
use Rattle.std.specs.Prelude.{ℕ, suc, ◌+◌, ◌≡◌, refl, List, [], ◌∷◌, true, length}
use Rattle.std.proofs.Common.{arith, ap, eq-eqb}
use Rattle.value.proofs.Laws.Tests.{pass_both, itself, ◌and◌, eq?}
use Rattle.format.specs.Syntax.{Block, Proc, Plain}
use Rattle.format.specs.Encode.{Head, heads, bodies_of, block}
use Rattle.format.specs.Rules.{placed, bind}

-- records that are placed right
pub heads_bind : (at : ℕ) (hs : List Head) (bs : List (Block Plain)) → placed at hs bs ≡ true → heads at (bind hs bs) ≡ hs
heads_bind at [] bs t = refl
heads_bind at (h ∷ hs) [] t = cc
heads_bind at (h ∷ hs) (b ∷ bs) t =
    let here : (h.at ≡ at) × (placed (at + length (block b)) hs bs ≡ true) = (eq? h.at at and itself _).so t in
    rw (heads_bind (at + length (block b)) hs bs here.1, ← here.0)

-- bodies, as many as the records
pub bodies_bind : (hs : List Head) (bs : List (Block Plain)) → length bs ≡ length hs → bodies_of (bind hs bs) ≡ bs
bodies_bind [] [] e = refl
bodies_bind [] (b ∷ bs) e = absurd (omega arith)
bodies_bind (h ∷ hs) [] e = absurd (omega arith)
bodies_bind (h ∷ hs) (b ∷ bs) e = rw (bodies_bind hs bs (omega arith))

-- and the other way
pub placed_heads : (at : ℕ) (ps : List (Proc Plain)) → placed at (heads at ps) (bodies_of ps) ≡ true
placed_heads at [] = refl
placed_heads at (p ∷ ps) = pass_both (eq-eqb at at refl) (placed_heads (at + length (block p.body)) ps)

-- the records and the bodies of procedures make those procedures
pub bind_heads : (at : ℕ) (ps : List (Proc Plain)) → bind (heads at ps) (bodies_of ps) ≡ ps
bind_heads at [] = refl
bind_heads at (p ∷ ps) = rw (bind_heads (at + length (block p.body)) ps)

-- as many records as procedures
pub length_heads : {A : Type 0} (at : ℕ) (ps : List (Proc A)) → length (heads at ps) ≡ length ps
length_heads at [] = refl
length_heads at (p ∷ ps) = ap suc (length_heads (at + length (block p.body)) ps)

-- as many bodies as procedures
pub length_bodies : {A : Type 0} (ps : List (Proc A)) → length (bodies_of ps) ≡ length ps
length_bodies [] = refl
length_bodies (p ∷ ps) = ap suc (length_bodies ps)

-- Where code stands in the bytes, and what remains there: positions for the frames of report RR-2017-03.
use Rattle.std.specs.Prelude.{ℕ, zero, suc, ◌+◌, ◌≡◌, List, [], ◌∷◌, length}
use Rattle.value.specs.Maybe.{is}
use Rattle.value.specs.Lists.{at}
use Rattle.format.specs.Syntax.{Expr, Instr, while, if, Block, end, step, ◌⊕◌, Proc}
use Rattle.format.specs.Encode.{expr, instr, block}

mutual
  -- Of a block b that stands at i and is followed by c, `Spot k d r i b c`: at k stands d, which is b, or the rest of b, or that of a
  -- block inside, and r remains after it. What is inside an atomic block is left out: it runs as a block of its own, before `end`.
  pub data Spot {A : Type 0} (k : ℕ) (d r : Block A) : ℕ → Block A → Block A → Type 0 where
    here : {i : ℕ} {b c : Block A} → i ≡ k → b ≡ d → c ≡ r → Spot k d r i b c
    later : {i : ℕ} {a : A} {j : Instr A} {b c : Block A} → Spot k d r (i + length (instr j)) b c → Spot k d r i (step a j b) c
    inner : {i : ℕ} {a : A} {j : Instr A} {b c : Block A} → Inner k d r i a j (b ⊕ c) → Spot k d r i (step a j b) c

  -- the same of the blocks of an instruction with tag a: "After the last instruction of a while body comes the while; after the last of a
  -- branch, what follows the if"
  pub data Inner {A : Type 0} (k : ℕ) (d r : Block A) : ℕ → A → Instr A → Block A → Type 0 where
    body : {i : ℕ} {a : A} {e : Expr} {b c : Block A} → Spot k d r (i + 1 + length (expr e)) b (step a (while e b) c) → Inner k d r i a (while e b) c
    thens : {i : ℕ} {a : A} {e : Expr} {b f c : Block A} → Spot k d r (i + 1 + length (expr e)) b c → Inner k d r i a (if e b f) c
    elses : {i : ℕ} {a : A} {e : Expr} {b f c : Block A} → Spot k d r (i + 1 + length (expr e) + length (block b)) f c → Inner k d r i a (if e b f) c

-- where the body of procedure m begins, if the first begins at i: counted as a walk goes, from body to body
-- (`Laws.Walked.body_place`: i more than `Laws.TablePlaces.body_at`)
abbrev pub body_at : {A : Type 0} → ℕ → List (Proc A) → ℕ → ℕ
body_at i [] m = i
body_at i (p ∷ ps) zero = i
body_at i (p ∷ ps) (suc m) = body_at (i + length (block p.body)) ps m

-- at k, in the body of procedure m, stands d, and r remains after it
pub record CodeAt {A : Type 0} (ps : List (Proc A)) (m k : ℕ) (d r : Block A) : Type 0 where
  pub proc : Proc A
  pub found : at ps m ≡ is proc
  pub spot : Spot k d r (body_at 0 ps m) proc.body end

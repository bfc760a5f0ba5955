-- One law for each way to set heads and locals.
use Prim.Native.Nat.{ℕ, zero, suc, ◌+◌, ◌-◌, ◌≤◌, ◌<◌}
use native.Mathlib.Omega.{arith}
use mathlib.Core.Path.{◌≡◌, refl, ap, ◌∙◌}
use mathlib.Core.List.{List, [], ◌∷◌, ◌++◌, append_assoc}
use Rattle.value.specs.Lists.{upto}
use Rattle.format.specs.Encode.{each}
use Rattle.ctext.specs.Pieces.{say, digits, decimal}
use Rattle.ctext.specs.Text.{var, params, head}
use Rattle.ctext.proofs.Laws.FrameText.{another}
use Rattle.typeset.specs.declared.pieces.Page.{Page}
use Rattle.typeset.specs.Page.{Put, Onto}
use Rattle.typeset.proofs.Setting.{put_then, put_same, onto_start, onto_next, onto_end}
use Rattle.lines.proofs.Plainly.{lit}
use Rattle.frame.specs.declared.heads.Line.{Line}
use Rattle.frame.specs.Frames.{twice}

-- five pieces in another grouping
pub five : (a b c d e : List ℕ) → (a ++ b) ++ ((c ++ d) ++ e) ≡ a ++ (b ++ (c ++ (d ++ e)))
five a b c d e = append_assoc a b _ ∙ ap (λ l. a ++ (b ++ l)) (append_assoc c d e)

-- a piece, then a local
pub named_put : {piece : List ℕ} {p q r : Page} (j : ℕ) → Put p piece q → Put q (var j) r → Put p (piece ++ var j) r
named_put {piece} j A B = put_then piece (var j) A B

-- a piece, then a number
pub counted_put : {piece : List ℕ} {p q r : Page} (k : ℕ) → Put p piece q → Put q (decimal k) r → Put p (piece ++ decimal k) r
counted_put {piece} k A B = put_then piece (decimal k) A B

module _ {p : Page} where
  -- (void)
  pub params_void : {r : Page} (n : ℕ) → n ≡ 0 → Put p (lit "void") r → Put p (params n) r
  unfolding say
  params_void n e P = rw e P

  -- the first of some, and the others
  pub params_some : {q r : Page} (n : ℕ) → (n ≡ 0 → ⊥) → Put p (lit "z_value x0") q
      → Put q (each another (upto 1 (n - 1))) r
      → Put p (params n) r
  unfolding say digits
  params_some zero z P Q = absurd (z refl)
  params_some (suc n) z P Q =
      let less : suc n - 1 ≡ n = omega arith in
      put_then (lit "z_value x0") (each another (upto 1 n)) P (rw less at Q)

  -- ---- a row of pieces

  module _ {all : List ℕ} (f : ℕ → List ℕ) where
    -- one more
    pub row_next : {q r : Page} (j n : ℕ) → Onto p all q (each f (upto j (n - j))) → j < n → Put q (f j) r
        → Onto p all r (each f (upto (j + 1) (n - (j + 1))))
    row_next {q} {r} j n O l P =
        let one : n - j ≡ suc (n - (j + 1)) = omega arith in
        let next : suc j ≡ j + 1 = omega arith in
        rw (← next) (onto_next (f j) (each f (upto (suc j) (n - suc j))) (rw (one, ← next) at O) P)

    -- no more
    pub row_end : {q : Page} (j n : ℕ) → Onto p all q (each f (upto j (n - j))) → n ≤ j → Put p all q
    row_end j n O l = let none : n - j ≡ 0 = omega arith in onto_end (rw none at O)

  -- ---- heads and lines

  -- a head
  pub head_put : {q r s u : Page} (k n : ℕ) → Put p (lit "void p" ++ decimal k) q → Put q (40 ∷ []) r
      → Put r (params n) s → Put s (41 ∷ []) u
      → Put p (head k n) u
  unfolding say
  head_put k n A B C D =
      put_same (append_assoc (say "void p") (decimal k) _)
      (put_then (say "void p" ++ decimal k) _ A (put_then (say "(") _ B (put_then (params n) _ C D)))

  -- a line with a local twice
  pub twice_put : {q r s : Page} (w : Line) (j : ℕ) → Put p (w.before.now ++ var j) q → Put q (w.between.now ++ var j) r → Put r w.behind.now s
      → Put p (twice w j) s
  twice_put w j A B C =
      put_same (five w.before.now (var j) w.between.now (var j) w.behind.now)
      (put_then (w.before.now ++ var j) _ A (put_then (w.between.now ++ var j) _ B C))

-- all parameters but the first
pub others_next : {all : List ℕ} {p q r : Page} (j n : ℕ) → Onto p all q (each another (upto j (n - j))) → j < n → Put q (lit ", z_value " ++ var j) r
    → Onto p all r (each another (upto (j + 1) (n - (j + 1))))
unfolding say
others_next j n O l P = row_next another j n O l P

-- one law for each way
pub ruleset head_ways = (
  named_put,
  counted_put,
  params_void,
  params_some,
  others_next,
  row_next,
  row_end,
  onto_start,
  head_put,
  twice_put,
)

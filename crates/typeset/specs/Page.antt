-- What setting bytes does: into the lent buffer o from place p on, and against the text x.
use Rattle.std.specs.Prelude.{ℕ, suc, ◌+◌, ◌^◌, ◌≤◌, ◌<◌, ◌≡◌, List, [], ◌∷◌, Bool, true, false, not, length, get_or, set, ltb, eqb, Option, Some, None}
use Rattle.std.specs.Borrow.{GName}
use Rattle.value.specs.Maybe.{both}
use Rattle.typeset.specs.declared.pieces.Page.{Page}

-- a buffer, and the place where the text goes on, if it does
pub record Place : Type 0 where
  pub out : List ℕ
  pub at : Option ℕ

-- the place n further, which is none past all numbers of 64 bits
unfoldable pub onward : ℕ → ℕ → Option ℕ
onward p n = elim (ltb (p + n) (2 ^ 64)) [ true ↦ Some (p + n) | false ↦ None ]

-- has the text x another byte than b at p
unfoldable pub otherwise : List ℕ → ℕ → ℕ → Bool
otherwise x p b = both (ltb p (length x)) (not (eqb (get_or x p 0) b))

-- one byte: nothing is set where there is no place, nor where the text has another byte, and then there is no going on
unfoldable pub set_one : List ℕ → Place → ℕ → Place
set_one x s b = elim s.at [
  | None ↦ s
  | Some p ↦ elim (otherwise x p b) [
    | true ↦ record { out = s.out; at = None }
    | false ↦ record { out = set s.out p b; at = onward p 1 }
  ]
]

-- bytes, one after the other
abbrev pub set_all : List ℕ → Place → List ℕ → Place
set_all x s [] = s
set_all x s (b ∷ bs) = set_all x (set_one x s b) bs

-- how many of the bytes bs the text x agrees with from p on: past its end, with all
unfoldable pub agreeing : List ℕ → ℕ → List ℕ → ℕ
agreeing x p [] = 0
agreeing x p (b ∷ bs) = elim (otherwise x p b) [ true ↦ 0 | false ↦ suc (agreeing x (suc p) bs) ]

-- ---- pages

-- where a page is
abbrev pub place : Page → Place
place p = record { out = p.out.now; at = p.at }

-- what stays as it is while a page is set: which buffer is lent, how long it is, and the text
abbrev pub lent : Page → GName × List ℕ × ℕ
lent p = (p.out.ghost_name, p.text.now, length p.out.now)

-- k is past the ends of text and buffer
abbrev pub IsPast : Page → ℕ → Type 0
IsPast p k = (length p.text.now ≤ k) × (length p.out.now ≤ k) × (k < 2 ^ 64)

-- a page at the start, with the text x and the buffer o
pub record Begins (x o : List ℕ) (p : Page) : Type 0 where
  pub text : p.text.now ≡ x
  pub out : p.out.now ≡ o
  pub at : p.at ≡ Some 0

-- the bytes bs were set: page p became page q
pub record Put (p : Page) (bs : List ℕ) (q : Page) : Type 0 where
  pub puts : place q ≡ set_all p.text.now (place p) bs
  pub kept : lent q ≡ lent p

-- Of the bytes `all` from page p on, only `rest` remains to be set, from page q on.
pub record Onto (p : Page) (all : List ℕ) (q : Page) (rest : List ℕ) : Type 0 where
  pub then : {r : Page} → Put q rest r → Put p all r
  pub kept : lent q ≡ lent p

-- What the writer promises: bytes from a place on, and the next place.
use Rattle.std.specs.Prelude.{ℕ, ◌+◌, ◌≤◌, ◌≡◌, List, length}
use Rattle.std.proofs.lemmas.List.Edits.{sets}
use Rattle.basics.specs.Sizes.{too_long}

-- The buffer o becomes o', with the bytes bs from p on as far as they fit, and the next place is r. Counting stops at 65,537, the first
-- length that is refused: from there on only that is known.
pub record Put (o : List ℕ) (p : ℕ) (bs : List ℕ) (o' : List ℕ) (r : ℕ) : Type 0 where
  pub wrote : p + length bs ≤ too_long → o' ≡ sets o p bs
  pub next : p + length bs ≤ too_long → r ≡ p + length bs
  pub far : too_long ≤ p + length bs → too_long ≤ r
  pub kept : length o' ≡ length o

-- Of the bytes `all` from p on in o, only `rest` remains to be written, from q on in o'.
pub record Onto (o : List ℕ) (p : ℕ) (all : List ℕ) (o' : List ℕ) (q : ℕ) (rest : List ℕ) : Type 0 where
  pub then : {o'' : List ℕ} {r : ℕ} → Put o' q rest o'' r → Put o p all o'' r
  pub kept : length o' ≡ length o

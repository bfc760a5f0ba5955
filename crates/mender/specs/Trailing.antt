-- What the code does to the last sixteen bytes of a table, and what it writes into the list of changes.
use Rattle.std.specs.Prelude.{ℕ, ◌-◌, ◌≤◌, ◌≡◌, List, [], ◌∷◌, ◌++◌, length}
use Rattle.format.specs.Syntax.{Kind, sequential}
use Rattle.format.specs.Encode.{each, Trailer, trailer_size}
use Rattle.format.specs.Decode.{but, last}
use Rattle.format.specs.Rules.{limits}
use Rattle.writer.specs.declared.page.Page.{Page}
use Rattle.writer.specs.Laws.Put.{Put}
use Rattle.writer.specs.Laws.Pages.{Puts}
use Rattle.mending.specs.Mending.{trailer_for, with_trailer, changes_from, change_bytes}
use Rattle.mender.specs.declared.trailer.Counts.{Counts}

-- a table that has a trailer, and is not too long
pub record Sized (t : List ℕ) : Type 0 where
  pub long : trailer_size ≤ length t
  pub few : length t ≤ (limits sequential).bytes

-- the trailer of a choice
abbrev pub trailer_as : Kind → List ℕ → Counts → Trailer
trailer_as k t c = trailer_for k (length t) c.procedures c.locations c.threads

-- it is written
pub record Trails (k : Kind) (t : List ℕ) (c : Counts) (t' : List ℕ) : Type 0 where
  pub same : t' ≡ with_trailer t (trailer_as k t c)

-- the last sixteen bytes are kept
pub record Keeps (t old : List ℕ) : Type 0 where
  pub same : old ≡ last trailer_size t

-- and written back
pub record PutsBack (old t t' : List ℕ) : Type 0 where
  pub same : t' ≡ but trailer_size t ++ old

-- the change at a place is listed, if it is one
pub record PutsChange (i a b : ℕ) (o o' : Page) : Type 0 where
  pub puts : Puts o (each change_bytes (changes_from i (a ∷ []) (b ∷ []))) o'

-- the changes from the old to the new ones are listed
pub record ListsChanges (old t o o' : List ℕ) (r : ℕ) : Type 0 where
  pub puts : Put o 0 (each change_bytes (changes_from (length t - trailer_size) old (last trailer_size t))) o' r

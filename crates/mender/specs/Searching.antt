-- What the search finds of the acceptable choices.
use Rattle.std.specs.Prelude.{ℕ, ◌≡◌, List, [], ◌∷◌, ◌++◌, Bool, length}
use Rattle.format.specs.Syntax.{Kind}
use Rattle.format.specs.Encode.{Trailer, trailer_size}
use Rattle.format.specs.Decode.{but}
use Rattle.format.specs.Rules.{limits}
use Rattle.mending.specs.Mending.{accepts, kept}
use Rattle.mending.proofs.Laws.Narrow.{tried, tried_at, narrowed}
use Rattle.mender.specs.Trailing.{trailer_as}
use Rattle.mender.specs.declared.trailer.Counts.{Counts}
use Rattle.mender.specs.declared.search.Found.{Found}
use Rattle.mender.specs.declared.search.Found.TheVariants.{None, One, Several}

-- the counts of a trailer
abbrev pub counts_of : Trailer → Counts
counts_of r = record { procedures = r.procs; locations = r.places; threads = r.threads }

-- what a list of trailers comes to
abbrev pub tally : List Trailer → Found
tally [] = None
tally (r ∷ []) = One (counts_of r)
tally (r ∷ s ∷ rs) = Several

-- is the table accepted
pub record Accepted (k : Kind) (t : List ℕ) (b : Bool) : Type 0 where
  pub same : b ≡ accepts k t

-- one trailer more
pub record Adds (f : Found) (c : Counts) (g : Found) : Type 0 where
  pub same : (xs : List Trailer) (r : Trailer) → f ≡ tally xs → c ≡ counts_of r → g ≡ tally (xs ++ (r ∷ []))

-- the trailers ys more; the bytes before the last sixteen stay
pub record Tallies (t : List ℕ) (f : Found) (ys : List Trailer) (t' : List ℕ) (g : Found) : Type 0 where
  pub front : but trailer_size t' ≡ but trailer_size t
  pub length : length t' ≡ length t
  pub same : (xs : List Trailer) → f ≡ tally xs → g ≡ tally (xs ++ ys)

-- those of one choice
pub record TriesCounts (k : Kind) (t : List ℕ) (c : Counts) (f : Found) (t' : List ℕ) (g : Found) : Type 0 where
  pub tallies : Tallies t f (kept k t (trailer_as k t c)) t' g

-- of P procedures, n locations and threads, and T threads
pub record TriesThreads (k : Kind) (t : List ℕ) (P n T : ℕ) (f : Found) (t' : List ℕ) (g : Found) : Type 0 where
  pub tallies : Tallies t f (tried k t P n T) t' g

-- of P procedures, whose records begin at i
pub record TriesProcedures (k : Kind) (t : List ℕ) (P i : ℕ) (f : Found) (t' : List ℕ) (g : Found) : Type 0 where
  pub tallies : Tallies t f (tried_at k t P i) t' g

-- all
pub record Finds (k : Kind) (t t' : List ℕ) (g : Found) : Type 0 where
  pub tallies : Tallies t None (narrowed k t (limits k).procs 0 0) t' g

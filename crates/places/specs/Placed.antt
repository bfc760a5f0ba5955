-- What is known of the source's table, and what the code promises of it.
use Rattle.std.specs.Prelude.{ℕ, ◌+◌, ◌*◌, ◌≤◌, ◌<◌, ◌≡◌, List, length, get_or}
use Rattle.format.specs.Syntax.{Program, Plain, concurrent}
use Rattle.format.specs.Encode.{table, record_size}
use Rattle.format.specs.Rules.{limits}
use Rattle.format.proofs.Laws.Sound.{Sound}
use Rattle.format.proofs.Laws.TablePlaces.{records_at}
use Rattle.translation.specs.declared.Mode.{Mode}
use Rattle.translation.specs.Placement.{start_in, row_of}
use Rattle.places.specs.declared.Places.{Places}

-- t is the table of the accepted program p, with P procedures, whose records begin at R
pub record Of (t : List ℕ) (P R : ℕ) (p : Program Plain) : Type 0 where
  pub is : t ≡ table concurrent p
  pub sound : Sound concurrent p
  pub procedures : P ≡ length p.procs
  pub records : R ≡ records_at p

-- t is the table of an accepted program
pub record Source (t : List ℕ) (P R : ℕ) : Type 0 where
  pub program : Program Plain
  pub of : Of t P R program
  -- its numbers are small, and the records are inside
  pub few : P ≤ (limits concurrent).procs
  pub long : length t ≤ (limits concurrent).bytes
  pub inside : R + record_size * P ≤ length t

-- the places of p's locals in a mode
pub record PlacesIn (mode : Mode) (p : Program Plain) (r : Places) : Type 0 where
  pub starts : (m : ℕ) → m < length p.procs → get_or r.starts m 0 ≡ start_in mode p.procs m
  pub row : r.row ≡ row_of mode p.procs

-- of the program whose table t is
pub record PlacesOf (t : List ℕ) (P R : ℕ) (mode : Mode) (r : Places) : Type 0 where
  pub gives : (p : Program Plain) → Of t P R p → PlacesIn mode p r

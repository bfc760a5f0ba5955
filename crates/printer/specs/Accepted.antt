-- What the printer's call goes by: a table that its reader accepted.
use Rattle.std.specs.Prelude.{ℕ, ◌+◌, ◌*◌, ◌≤◌, ◌≡◌, List, length}
use Rattle.format.specs.Syntax.{Program, Plain, sequential}
use Rattle.format.specs.Encode.{table}
use Rattle.format.specs.Rules.{accepted, verdict}
use Rattle.format.proofs.Laws.Sound.{Sound}
use Rattle.reader.specs.declared.verdict.Counts.{Counts}

-- t is an accepted table, and a its reader's counts
pub record Accepts (t : List ℕ) (a : Counts) : Type 0 where
  pub program : Program Plain
  pub verdict : verdict sequential t ≡ accepted program
  pub same : t ≡ table sequential program
  pub sound : Sound sequential program
  pub procedures : a.procedures ≡ length program.procs
  pub locations : a.locations ≡ length program.sizes
  -- the records are inside
  pub room : 16 + (6 * a.procedures + 2 * a.locations) ≤ length t

-- The rules of document 01 for an accepted program. Accepted.antt shows that a table is accepted exactly if they hold.
use Rattle.std.specs.Prelude.{ℕ, ◌≤◌, length}
use Rattle.value.specs.Lists.{sum}
use Rattle.value.proofs.Laws.Lists.{Each}
use Rattle.format.specs.Syntax.{Proc, Program, Plain, Kind, concurrent, sequential}
use Rattle.format.specs.Encode.{table, bodies_of}
use Rattle.format.specs.Labels.{counts}
use Rattle.format.specs.Rules.{limits, max_labels, starts, max_size}
use Rattle.format.proofs.Laws.Names.{Takes, AllNames}
use Rattle.format.proofs.Laws.Depths.{BodyRight}
use Rattle.format.proofs.Laws.Permits.{AllPermitted}
use Rattle.format.proofs.Laws.Calls.{Reaches}
use Rattle.format.proofs.Laws.SetFirst.{SetFirst}

-- from the least to the most
pub record Within (least most n : ℕ) : Type 0 where
  pub low : least ≤ n
  pub high : n ≤ most

-- parameters are among the locals, which are not too many
pub record LocalsRight (most : ℕ) (q : Proc Plain) : Type 0 where
  pub params : q.params ≤ q.locals
  pub locals : q.locals ≤ most

-- 1,000 labels; a sequential program has none
abbrev pub FewLabels : Kind → Program Plain → Type 0
FewLabels concurrent p = counts p.procs ≤ max_labels
FewLabels sequential p = Unit {0}

-- no procedure can reach itself by calls
abbrev pub NoCycle : Program Plain → Type 0
NoCycle p = (m : ℕ) → Reaches p.procs m m → ⊥

-- by the number that is answered where the rule is broken; 1 is broken by no program's table
pub record Sound (k : Kind) (p : Program Plain) : Type 0 where
  -- 2: the counts
  pub size : length (table k p) ≤ (limits k).bytes
  pub procs : Within 1 (limits k).procs (length p.procs)
  pub places : length p.sizes ≤ (limits k).places
  pub threads : Within (limits k).fewest (limits k).threads (length p.mains)
  -- 3: the records; each main, and procedure 0 of a sequential program, is there and has no parameters
  pub locals : Each (LocalsRight (limits k).locals) p.procs
  pub sizes : Each (Within 1 max_size) p.sizes
  pub cells : sum p.sizes ≤ (limits k).cells
  pub mains : Each (λ m. Takes p.procs m 0) (starts k p.mains)
  -- 4: the bodies: nothing is too deep, and each instruction is allowed where it stands
  pub bodies : Each BodyRight (bodies_of p.procs)
  pub allowed : AllPermitted k 0 (bodies_of p.procs)
  -- 5: each name means something
  pub named : AllNames p
  -- 6: labels
  pub labels : FewLabels k p
  -- 7: no procedure can reach itself by calls
  pub calls : NoCycle p
  -- 8: no local is read before it is set
  pub set : SetFirst p

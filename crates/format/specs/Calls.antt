-- What the reader's call answers, for every input. Document 01, "Numbers of refusal": "A refusal returns its number and zeros",
-- "An accepted read answers 0 with P, M, T, the number of labels (sequential: 0) and of cells".
use Rattle.std.specs.Prelude.{ℕ, List, length}
use Rattle.value.specs.Lists.{sum}
use Rattle.format.specs.declared.ReadAnswer.{ReadAnswer}
use Rattle.format.specs.Syntax.{Program, Plain, Kind, concurrent, sequential}
use Rattle.format.specs.Labels.{counts}
use Rattle.format.specs.Rules.{Verdict, refused, accepted, verdict}

-- "sequential: 0"
abbrev pub labels_of : Kind → Program Plain → ℕ
labels_of concurrent p = counts p.procs
labels_of sequential p = 0

-- by the verdict
abbrev pub read_as : Kind → Verdict → ReadAnswer
read_as k (refused n) = record { number = n; procedures = 0; locations = 0; threads = 0; labels = 0; cells = 0 }
read_as k (accepted p) = record {
  number = 0;
  procedures = length p.procs;
  locations = length p.sizes;
  threads = length p.mains;
  labels = labels_of k p;
  cells = sum p.sizes;
}

-- the call, on table t of kind k
abbrev pub read_call : Kind → List ℕ → ReadAnswer
read_call k t = read_as k (verdict k t)

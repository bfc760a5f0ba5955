-- `bench::counts::allotments` meets its contract.
use Rattle.std.proofs.Common.{arith}
use Rattle.bench.proofs.Counting.{refused_counts}
use Rattle.bench.proofs.counts.allotments.Goals.{then-rounds-eq0-via-then-rounds-eq0, then-rounds-eq0-via-else-rounds-eq0+then-most-eq0, then-rounds-eq0-via-else-rounds-eq0+else-most-eq0+then-most-gt-MOST_STEPS, then-rounds-eq0-via-else-rounds-eq0+else-most-eq0+else-most-gt-MOST_STEPS+then-rounds}
use Rattle.bench.proofs.counts.allotments.Goals as goal

pub returns-then-rounds-eq0 : goal.returns-then-rounds-eq0
returns-then-rounds-eq0 c =
    refused_counts c.requires (λ r p l m.
    elim c.then-rounds-eq0.branch [
      | then-rounds-eq0-via-then-rounds-eq0 w ↦ r w.if-rounds-eq0.true
      | then-rounds-eq0-via-else-rounds-eq0+then-most-eq0 w ↦ p w.if-most-eq0.true
      | then-rounds-eq0-via-else-rounds-eq0+else-most-eq0+then-most-gt-MOST_STEPS w ↦ omega (arith, w.if-most-gt-MOST_STEPS.true)
      | then-rounds-eq0-via-else-rounds-eq0+else-most-eq0+else-most-gt-MOST_STEPS+then-rounds w ↦ omega (arith, w.if-rounds.true)
    ])

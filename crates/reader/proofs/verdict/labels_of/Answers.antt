-- `reader::verdict::labels_of` meets its contract.
use Rattle.reader.proofs.Verdicts.{shape_room, verdict_ways}
use Rattle.reader.proofs.verdict.labels_of.Goals as goal

pub invariant_of-count_labels : goal.invariant_of-count_labels
invariant_of-count_labels c = record { room = shape_room c.requires.1 }

pub returns-in-Concurrent : goal.returns-in-Concurrent
returns-in-Concurrent c = search verdict_ways

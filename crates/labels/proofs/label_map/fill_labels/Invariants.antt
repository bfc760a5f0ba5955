-- `label_map::fill_labels` meets its contract.

use Rattle.labels.proofs.Mapping.{Mapping}
use Rattle.labels.proofs.label_map.fill_labels.Given as goal

abbrev pub invariant-loop-m : goal.invariant-loop-m
invariant-loop-m l = Mapping l.t l.procs l.initial.map l.initial.bounds l.m l.at l.l l.map l.bounds

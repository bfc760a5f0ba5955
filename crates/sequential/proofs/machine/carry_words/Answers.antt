-- `sequential::carry_words` meets its contract: one law for each quick step.
use Rattle.std.proofs.Common.{rules}
use Rattle.sequential.proofs.Wording.{words_ways}
use Rattle.sequential.proofs.machine.carry_words.Goals as goal

pub overflow_add-words : goal.overflow_add-words
overflow_add-words c = search (words_ways, rules)

pub offset_bounds-words-state : goal.offset_bounds-words-state
offset_bounds-words-state c = search (words_ways, rules)

pub bounds-words-state : goal.bounds-words-state
bounds-words-state c = search (words_ways, rules)

pub settle-requires : goal.settle-requires
settle-requires c = search (words_ways, rules)

pub overflow_add-words-in-Read : goal.overflow_add-words-in-Read
overflow_add-words-in-Read c = search (words_ways, rules)

pub offset_bounds-words-state-in-Read : goal.offset_bounds-words-state-in-Read
offset_bounds-words-state-in-Read c = search (words_ways, rules)

pub bounds-words-state-in-Read : goal.bounds-words-state-in-Read
bounds-words-state-in-Read c = search (words_ways, rules)

pub settle-requires-in-Read : goal.settle-requires-in-Read
settle-requires-in-Read c = search (words_ways, rules)

pub offset_bounds-cells-cell : goal.offset_bounds-cells-cell
offset_bounds-cells-cell c = search (words_ways, rules)

pub bounds-cells-cell : goal.bounds-cells-cell
bounds-cells-cell c = search (words_ways, rules)

pub settle-requires-in-Write : goal.settle-requires-in-Write
settle-requires-in-Write c = search (words_ways, rules)

pub settle-requires-in-Holds : goal.settle-requires-in-Holds
settle-requires-in-Holds c = search (words_ways, rules)

pub settle-to-requires : goal.settle-to-requires
settle-to-requires c = search (words_ways, rules)

pub enter-start-requires : goal.enter-start-requires
enter-start-requires c = search (words_ways, rules)

pub returns-in-Assign : goal.returns-in-Assign
returns-in-Assign c = search (words_ways, rules)

pub returns-in-Read : goal.returns-in-Read
returns-in-Read c = search (words_ways, rules)

pub returns-in-Write : goal.returns-in-Write
returns-in-Write c = search (words_ways, rules)

pub returns-in-Holds : goal.returns-in-Holds
returns-in-Holds c = search (words_ways, rules)

pub returns-in-Call : goal.returns-in-Call
returns-in-Call c = search (words_ways, rules)

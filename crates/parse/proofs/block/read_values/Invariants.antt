-- `parse::block::read_values` meets its contract.
use Rattle.parse.proofs.Values.{ValuesFrom}
use Rattle.parse.proofs.block.read_values.Given as goal

abbrev pub invariant-loop : goal.invariant-loop
invariant-loop l = ValuesFrom l.code l.at l.count l.position l.counter

-- `lines::blocks::put_test` meets its contract.
use Rattle.lines.proofs.Nested.{nested_ways}
use Rattle.lines.proofs.blocks.put_test.Goals as goal

pub returns : goal.returns
returns c = search nested_ways

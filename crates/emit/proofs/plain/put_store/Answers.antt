-- `emit::plain::put_store` meets its contract.
use Rattle.emit.proofs.Plainly.{plain_ways}
use Rattle.emit.proofs.plain.put_store.Goals as goal

pub returns : goal.returns
returns c = search plain_ways

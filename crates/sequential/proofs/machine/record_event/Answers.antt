-- `sequential::record_event` meets its contract.
use Rattle.std.proofs.Common.{rules}
use Rattle.sequential.proofs.CarryingOut.{event_ways}
use Rattle.sequential.proofs.machine.record_event.Goals as goal

pub returns-then-location-h : goal.returns-then-location-h
returns-then-location-h c = search (event_ways, rules)

-- `engine::event::store_event` meets its contract.
use Rattle.engine.specs.Events.{event_of}
use Rattle.engine.specs.Laws.Logging.{event_stored}
use Rattle.engine.proofs.event.store_event.Goals as goal

pub returns : goal.returns
returns c =
    event_stored c.args.out.now c.args.count (event_of c.args.e) c.requires c.way.ensures c.write_two.ensures
    c.write_two-2.ensures c.write_value.ensures.1 c.write_two-3.ensures

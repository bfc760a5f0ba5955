-- `engine::event::write_event` meets its contract.
use Rattle.engine.specs.Events.{event_of}
use Rattle.engine.specs.Laws.Logging.{event_past}
use Rattle.engine.proofs.event.write_event.Goals as goal

pub returns-else-count-out : goal.returns-else-count-out
returns-else-count-out c = event_past c.args.out.now c.args.count (event_of c.args.e) c.if-count-out.false

-- `concurrent::anew::prepare` meets its contract.
use Rattle.concurrent.proofs.ConcurrentCall.{accepted_bodies}
use Rattle.concurrent.proofs.anew.prepare.Goals as goal

pub fill_labels-requires-clause-bodies_in : goal.fill_labels-requires-clause-bodies_in
fill_labels-requires-clause-bodies_in c = accepted_bodies c.requires.accepted

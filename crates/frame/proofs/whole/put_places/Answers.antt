-- `frame::whole::put_places` meets its contract.
use Rattle.frame.proofs.Placing.{places_put}
use Rattle.frame.proofs.whole.put_places.Goals as goal

-- each call after the one before it
pub returns : goal.returns
returns c =
    places_put
    c.put_prelude.ensures
    c.put_locations.ensures
    c.put_all.ensures
    c.put_areas.ensures
    c.put_all-2.ensures

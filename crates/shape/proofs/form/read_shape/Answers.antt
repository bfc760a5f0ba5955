-- `shape::form::read_shape` meets its contract.
use Rattle.shape.proofs.Shaping.{shape_ways}
use Rattle.shape.proofs.form.read_shape.Goals as goal

pub returns : goal.returns
returns c =
    let records = c.if-not-right_records.ensures in
    let bodies = c.if-not-right_bodies.ensures in
    search shape_ways

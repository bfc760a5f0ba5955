-- `frame::locations::put_lines` meets its contract.
use Rattle.std.proofs.Common.{◌∙◌}
use Rattle.frame.specs.Frames.{sized}
use Rattle.frame.proofs.Placing.{sizes_next, place_ways}
use Rattle.frame.proofs.locations.put_lines.Goals as goal

pub loop-k-preserved : goal.loop-k-preserved
loop-k-preserved c =
    sizes_next (sized c.args.line) c.loop-k.invariant c.loop-k-test.true (c.from.ensures ∙ c.two_bytes.ensures) c.put_sized.ensures

pub returns : goal.returns
returns c = search place_ways

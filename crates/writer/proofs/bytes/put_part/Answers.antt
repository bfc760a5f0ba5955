-- `writer::bytes::put_part` meets its contract.
use Rattle.writer.proofs.Puts.{put_ways}
use Rattle.writer.proofs.bytes.put_part.Goals as goal

pub loop-i-preserved : goal.loop-i-preserved
loop-i-preserved c = search put_ways

pub returns : goal.returns
returns c = search put_ways

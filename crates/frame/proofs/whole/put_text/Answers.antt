-- `frame::whole::put_text` meets its contract.
use Rattle.frame.proofs.Gathering.{text_put}
use Rattle.frame.proofs.whole.put_text.Goals as goal

pub returns : goal.returns
returns c = search text_put

-- `typeset::pieces::Page::put_spaces` meets its contract.
use Rattle.typeset.proofs.Setting.{spaces_few}
use Rattle.typeset.proofs.pieces.Page.put_spaces.Goals as goal

-- few
pub returns-then-n : goal.returns-then-n
returns-then-n c = spaces_few c.args.n c.if-n.true c.put_all.ensures

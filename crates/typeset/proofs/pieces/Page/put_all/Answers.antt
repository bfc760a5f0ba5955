-- `typeset::pieces::Page::put_all` meets its contract.
use Rattle.std.proofs.Common.{refl, sym}
use Rattle.std.proofs.lemmas.List.{length-take-le}
use Rattle.typeset.proofs.Setting.{agreeing_most, put_stay_all, put_counted, put_agreed, put_parted}
use Rattle.typeset.proofs.pieces.Page.put_all.Goals as goal
use Rattle.typeset.proofs.pieces.Page.put_all.Goals.{then-same-piece, else-same-piece}

-- no place
pub returns-in_default : goal.returns-in_default
returns-in_default c = search put_stay_all

-- past both ends
pub returns-then-is_past : goal.returns-then-is_past
returns-then-is_past c = put_counted c.args.piece.now c.in-Some.is (c.if-is_past.ensures.0 refl) c.checked_add-self.ensures

-- as many bytes as agree
pub slice_bounds-store_all-end-2 : goal.slice_bounds-store_all-end-2
slice_bounds-store_all-end-2 c =
    sym (length-take-le _ c.args.piece.now (rw c.same_from-same.ensures.counted (agreeing_most c.args.self.now.text.now c.in-Some.at c.args.piece.now)))

pub returns : goal.returns
returns c = elim c.if-same-piece.branch [
  | then-same-piece w ↦ rw w.self-is (put_parted c.args.piece.now c.in-Some.is c.store_all.ensures.fits c.same_from-same.ensures.counted c.store_all.ensures.stored
      refl w.if-same-piece.true)
  | else-same-piece w ↦ rw w.self-is (put_agreed c.args.piece.now c.in-Some.is c.same_from-same.ensures.fits c.store_all.ensures.fits
      c.same_from-same.ensures.counted c.store_all.ensures.stored refl w.if-same-piece.false w.checked_add-self-else-same-piece.ensures)
]

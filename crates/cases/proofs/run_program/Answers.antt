-- `cases::run_program` is safe: the line lies in its buffer.
use Rattle.std.proofs.Common.{◌≤◌, length, arith, length-take}
use Rattle.figures.proofs.Lines.{lies}
use Rattle.cases.proofs.run_program.Goals as goal

-- a part as long as the line can be lent
pub slice_bounds-line-end : goal.slice_bounds-line-end
slice_bounds-line-end c = lies _ _ c.print-n.ensures

-- it is that long
pub slice_bounds-text-end : goal.slice_bounds-text-end
slice_bounds-text-end c =
    let fits : c.print-n.result ≤ length c.print-n.new.out = lies _ _ c.print-n.ensures in
    simp length-take (omega arith)

-- `run::main` is safe: the line lies in its buffer.
use Rattle.std.proofs.Common.{◌≤◌, length, arith, length-take}
use Rattle.figures.proofs.Lines.{lies}
use Rattle.run.proofs.main.Goals as goal

-- a part as long as the line can be lent
pub slice_bounds-line-end : goal.slice_bounds-line-end
slice_bounds-line-end c = lies _ _ c.print-m.ensures

-- it is that long
pub slice_bounds-write_all-end : goal.slice_bounds-write_all-end
slice_bounds-write_all-end c =
    let fits : c.print-m.result ≤ length c.print-m.new.out = lies _ _ c.print-m.ensures in
    simp length-take (omega arith)

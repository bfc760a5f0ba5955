-- `printer::write_text` meets its contract.
use Rattle.std.proofs.Common.{◌^◌, ◌<◌, length, arith, ap, ◌∙◌}
use Rattle.printer.proofs.Printing.{no_place, no_room, printed}
use Rattle.printer.proofs.write_text.Goals as goal

-- 10
pub returns-in_default : goal.returns-in_default
returns-in_default c =
    let fits : length c.args.out.now < 2 ^ 63 = omega arith in
    no_place c.requires c.new-measured.ensures.begins c.put_text.ensures c.args.out.now fits c.end.ensures c.in_default.is

-- 10
pub returns-then-out-length : goal.returns-then-out-length
returns-then-out-length c =
    no_room c.requires c.new-measured.ensures.begins c.put_text.ensures c.args.out.now c.end.ensures c.in-Some.is c.if-out-length.true

-- counted, then written
pub returns : goal.returns
returns c =
    let fits : length c.args.out.now < 2 ^ 63 = omega arith in
    let is = printed c.requires c.new-measured.ensures.begins c.put_text.ensures fits c.end.ensures c.in-Some.is c.if-out-length.false c.new-page.ensures.begins
    c.put_text-2.ensures
    in
    let same = ap (λ f. f.0) c.put_text-2.ensures.kept ∙ c.new-page.ensures.same_reference in
    grind (arith, is, same)

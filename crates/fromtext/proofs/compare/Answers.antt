-- `fromtext::compare` meets its contract.
use Rattle.std.proofs.Common.{◌≡◌, ◌^◌, ◌<◌, length, arith, Some}
use Rattle.value.proofs.Laws.Bytes.{bytes_at}
use Rattle.fromtext.proofs.Judging.{end_same, end_differs, judge_other, judge_room, judge_writes}
use Rattle.fromtext.proofs.compare.Goals as goal

-- another text
pub returns-then-ne : goal.returns-then-ne
returns-then-ne c =
    let fits : length c.args.text.now < 2 ^ 63 = omega arith in
    judge_other c.requires c.new-page.ensures.begins c.put_text.ensures fits c.end.ensures
    (end_differs _ _ c.ne.ensures c.if-ne.true)

-- 10
pub returns-then-out-table : goal.returns-then-out-table
returns-then-out-table c =
    let fits : length c.args.text.now < 2 ^ 63 = omega arith in
    let same : c.end.result ≡ Some (length c.args.text.now) = end_same _ _ c.ne.ensures c.if-ne.false in
    judge_room c.requires c.new-page.ensures.begins c.put_text.ensures fits (bytes_at c.args.table.now (λ i l. (c.type_inv.table i).fits)) c.end.ensures same
    c.if-out-table.true

-- written
pub returns : goal.returns
returns c =
    let fits : length c.args.text.now < 2 ^ 63 = omega arith in
    let same : c.end.result ≡ Some (length c.args.text.now) = end_same _ _ c.ne.ensures c.if-ne.false in
    judge_writes c.requires c.new-page.ensures.begins c.put_text.ensures fits (bytes_at c.args.table.now (λ i l. (c.type_inv.table i).fits)) c.end.ensures same
    c.if-out-table.false c.put_part.ensures

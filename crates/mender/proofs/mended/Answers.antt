-- `mender::mended` meets its contract.
use Rattle.std.proofs.Common.{rules, arith, Err}
use Rattle.std.proofs.lemmas.Grind.{common_steps}
use Rattle.value.proofs.Laws.Bytes.{Bytes}
use Rattle.parse.specs.Ends.{kind_of}
use Rattle.mender.specs.Answering.{Called}
use Rattle.reader.proofs.Verdicts.{slice_bytes}
use Rattle.mender.proofs.Answering.{call_ways}
use Rattle.mender.proofs.mended.Goals as goal

pub returns-in_err-mend_damaged : goal.returns-in_err-mend_damaged
returns-in_err-mend_damaged c =
    let bytes : Bytes c.args.table.now = search (rules, slice_bytes) in
    let refused = c.in_err-mend_damaged.was in
    let done : Called (kind_of c.args.kind) c.args.table.now c.args.list.now c.mend_damaged.new.table c.mend_damaged.new.list
    (Err c.in_err-mend_damaged.field-0.0) = search call_ways
    in
    grind (arith, common_steps)

pub returns : goal.returns
returns c =
    let bytes : Bytes c.args.table.now = search (rules, slice_bytes) in
    let some = c.in_ok-mend_damaged.was in
    search call_ways

-- `translator::copy` meets its contract.
use Rattle.std.proofs.lemmas.Result.{err_from_is_err_and}
use Rattle.translator.proofs.Answering.{call_refused, call_accepts, call_copies}
use Rattle.translator.proofs.copy.Goals as goal

-- a refusal is passed on
pub returns-in_err-counts : goal.returns-in_err-counts
returns-in_err-counts c =
    let why = err_from_is_err_and c.from_residual.result c.from_residual.ensures.1 in
    rw (why.1, why.2) (call_refused c.args.table.now c.args.mode c.args.out.now c.in_err-counts.field-0.0 c.in_err-counts.ensures)

-- counts are found of an accepted table
pub shape_of-requires : goal.shape_of-requires
shape_of-requires c = call_accepts c.args.table.now (λ i l. (c.type_inv.table i).fits) c.in_ok-counts.ensures

-- the copy is written
pub returns : goal.returns
returns c = call_copies c.args.table.now c.args.out.now c.shape_of.ensures c.write_copy.ensures

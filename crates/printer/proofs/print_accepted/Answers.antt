-- `printer::print_accepted` meets its contract.
use Rattle.std.proofs.lemmas.Result.{err_from_is_err_and}
use Rattle.printer.proofs.Printing.{call_refused, call_accepts}
use Rattle.printer.proofs.print_accepted.Goals as goal

-- a refusal is passed on
pub returns-in_err-counts : goal.returns-in_err-counts
returns-in_err-counts c =
    let p = err_from_is_err_and c.from_residual.result c.from_residual.ensures.1 in
    rw (p.1, p.2) (call_refused c.args.table.now c.args.out.now _ c.in_err-counts.ensures)

-- the counts of an accepted table
pub write_text-requires : goal.write_text-requires
write_text-requires c = call_accepts c.args.table.now c.in_ok-counts.ensures (λ i l. (c.type_inv.table i).fits)

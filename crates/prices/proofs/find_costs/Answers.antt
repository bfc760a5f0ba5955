-- `prices::find_costs` meets its contract.
use Rattle.std.proofs.lemmas.Result.{err_from_is_err_and}
use Rattle.prices.proofs.Labelling.{prices_refused, prices_absent, prices_label}
use Rattle.prices.proofs.find_costs.Goals as goal

pub returns-in_err-counts : goal.returns-in_err-counts
returns-in_err-counts c =
    let p = err_from_is_err_and c.from_residual.result c.from_residual.ensures.1 in
    rw (p.1, p.2) (prices_refused c.args.table.now c.check.ensures c.args.label c.in_err-counts.was)

pub returns-then-label-eq0 : goal.returns-then-label-eq0
returns-then-label-eq0 c = prices_absent c.args.table.now c.check.ensures c.in_ok-counts.was c.args.label c.then-label-eq0.either

pub label_costs-cost-requires : goal.label_costs-cost-requires
label_costs-cost-requires c =
    prices_label c.args.table.now c.check.ensures c.in_ok-counts.was c.type_inv.table c.args.label c.if-label-eq0.false c.if-counts-label.false

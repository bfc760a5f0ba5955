-- `clib::store_bench` meets its contract.
use Rattle.std.proofs.Common.{◌≡◌, rules}
use Rattle.std.proofs.lemmas.List.{ext_get_or}
use Rattle.clib.proofs.Storing.{stored_rest, bench_stored}
use Rattle.clib.proofs.store_bench.Goals as goal

pub returns : goal.returns
returns c =
    let r = c.args.r in
    let counts : c.map.result ≡ r.counts = ext_get_or 0 _ _ (search rules) (λ i h. search (rules, c.map.ensures.items.at i 0 0)) in
    bench_stored r c.args.answer.now c.store.new.answer _ {n = c.from.result} {f = c.from-2.result} (search rules) (search rules) (search rules)
    (stored_rest _ 3 c.map.result r.counts c.store.new.answer c.store-2.new.answer c.min-first.ensures counts c.store-2.ensures)

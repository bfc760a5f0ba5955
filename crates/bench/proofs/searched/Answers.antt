-- `bench::searched` meets its contract.
use Rattle.std.proofs.Common.{arith}
use Rattle.reader.proofs.Verdicts.{slice_bytes}
use Rattle.atomic.proofs.Carrying.{handed_on}
use Rattle.concurrent.proofs.ConcurrentCall.{accepted_cells}
use Rattle.bench.proofs.Benching.{bench_refused, bench_accepted, bench_threads, bench_many, none_of, bench_short, bench_searching, bench_searched}
use Rattle.bench.proofs.searched.Goals as goal

pub returns-in_err-read : goal.returns-in_err-read
returns-in_err-read c = rw (handed_on _ c.from_residual.ensures.1) (bench_refused c.args.table.now (slice_bytes c.args.table.now c.type_inv.table) c.args.rounds c.args.most c.args.cells.now c.check.ensures c.in_err-read.was)

pub allotments-requires : goal.allotments-requires
allotments-requires c = bench_threads c.args.table.now (slice_bytes c.args.table.now c.type_inv.table) c.args.rounds c.args.most c.args.cells.now c.check.ensures c.in_ok-read.was

pub returns-in_default : goal.returns-in_default
returns-in_default c = bench_many c.args.table.now (slice_bytes c.args.table.now c.type_inv.table) c.args.rounds c.args.most c.args.cells.now c.check.ensures c.in_ok-read.was c.allotments.ensures (none_of _ c.in_default.not-Some)

pub overflow_mul-read : goal.overflow_mul-read
overflow_mul-read c =
    let few = accepted_cells (bench_accepted c.args.table.now (slice_bytes c.args.table.now c.type_inv.table) c.args.rounds c.args.most c.args.cells.now c.check.ensures c.in_ok-read.was) in
    record { fits = omega arith }

pub returns-then-cells-read : goal.returns-then-cells-read
returns-then-cells-read c =
    bench_short c.args.table.now (slice_bytes c.args.table.now c.type_inv.table) c.args.rounds c.args.most c.args.cells.now c.check.ensures c.in_ok-read.was c.allotments.ensures c.in-Some.is c.if-cells-read.true

pub search-requires : goal.search-requires
search-requires c =
    bench_searching c.args.table.now (slice_bytes c.args.table.now c.type_inv.table) c.args.rounds c.args.most c.args.cells.now c.check.ensures c.in_ok-read.was c.allotments.ensures c.in-Some.is c.if-cells-read.false

pub returns : goal.returns
returns c =
    bench_searched c.args.table.now (slice_bytes c.args.table.now c.type_inv.table) c.args.rounds c.args.most c.args.cells.now c.check.ensures c.in_ok-read.was c.allotments.ensures c.in-Some.is c.if-cells-read.false c.search.ensures

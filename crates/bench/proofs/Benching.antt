-- The call: its refusals, and the search.
use Prim.Native.Nat.{ℕ, ◌*◌, ◌≤◌, ◌<◌}
use mathlib.Core.Path.{◌≡◌, refl, sym, ap, ◌∙◌}
use mathlib.Core.List.{List}
use mathlib.Core.Bool.{true, false}
use lib.ListN.{length}
use borrow.Author.Tests.{le-leb, lt-leb}
use Rattle.value.specs.Values.{cell_size}
use Rattle.value.proofs.Laws.Bytes.{Bytes}
use Rattle.format.specs.Syntax.{Program, Plain, concurrent}
use Rattle.format.specs.Calls.{read_call}
use Rattle.format.specs.Rules.{Verdict, accepted}
use Rattle.semantics.specs.Calls.{roomy}
use Rattle.concurrent.specs.Concurrent.{Accepted}
use Rattle.concurrent.proofs.ConcurrentCall.{numbered, read_refused, read_accepted}
use Rattle.allotments.specs.declared.BenchAnswer.{BenchAnswer}
use Rattle.allotments.specs.Bench.{benched, search, untouched, bench_as}
use Rattle.std.specs.Prelude.{Result, Ok, Err, Option, Some, None}
use Rattle.basics.specs.declared.refusals.Refusal.{Refusal}
use Rattle.basics.specs.declared.refusals.Refusal.TheVariants.{Allotments, NoCells}
use Rattle.reader.specs.declared.verdict.Counts.{Counts}
use Rattle.reader.specs.Answers.{answer_of as read_as}
use Rattle.bench.specs.Benching.{Benches}
use Rattle.bench.specs.Counting.{Threads, SaysAllotments}
use Rattle.bench.specs.Searching.{Searching, Searches}
use Rattle.bench.proofs.Trying.{accepted_threads}

module _ (k s : ℕ) (cs : List ℕ) (p : Program Plain) where
  -- too many allotments
  as_many : benched (length p.mains) k s ≡ false → bench_as k s cs (accepted p) ≡ untouched 13 cs
  as_many e = rw (e, bench_as)

  -- no room for the cells
  as_short : benched (length p.mains) k s ≡ true → roomy p cs ≡ false → bench_as k s cs (accepted p) ≡ untouched 12 cs
  as_short e f = rw (e, f, bench_as)

  -- neither
  as_search : benched (length p.mains) k s ≡ true → roomy p cs ≡ true → bench_as k s cs (accepted p) ≡ search p k s cs
  as_search e f = rw (e, f, bench_as)

-- what is not some is none
pub none_of : (o : Option ℕ) → ((n : ℕ) → o ≡ Some n → ⊥) → o ≡ None
none_of None h = refl
none_of (Some n) h = absurd (h n refl)

module _ (t : List ℕ) (h : Bytes t) (k s : ℕ) (cs : List ℕ) {x : Result Counts Refusal} (q : read_as x ≡ read_call concurrent t) where
  -- as it came out
  told : {v : Result Counts Refusal} → x ≡ v → read_as v ≡ read_call concurrent t
  told e = ap read_as (sym e) ∙ q

  -- 1 to 8
  pub bench_refused : {why : Refusal} → x ≡ Err why → Benches t k s cs cs (Err why)
  bench_refused {why} e = record { same = rw (read_refused t h (told e) (numbered why)) }

  module _ {r : Counts} (e : x ≡ Ok r) where
    -- it is accepted
    pub bench_accepted : Accepted t r.procedures r.locations r.threads r.cells
    bench_accepted = read_accepted t h (told e) refl

    -- its threads
    pub bench_threads : Threads r.threads
    bench_threads = accepted_threads bench_accepted

    module _ {o : Option ℕ} (A : SaysAllotments r.threads k s o) where
      -- 13
      pub bench_many : o ≡ None → Benches t k s cs cs (Err Allotments)
      bench_many m =
          let a = bench_accepted in
          record {
            same = rw a.read (sym (as_many k s cs a.program (ap (λ (x : ℕ). benched x k s) (sym a.threads) ∙ A.none m)));
          }

      module _ {n : ℕ} (m : o ≡ Some n) where
        -- the numbers are not refused
        passed : (a : Accepted t r.procedures r.locations r.threads r.cells) → benched (length a.program.mains) k s ≡ true
        passed a = ap (λ (x : ℕ). benched x k s) (sym a.threads) ∙ (A.some n m).1.tested

        -- 12: "cell buffer shorter than 5 bytes a cell"
        pub bench_short : length cs < cell_size * r.cells → Benches t k s cs cs (Err NoCells)
        bench_short l =
            let a = bench_accepted in
            let short : roomy a.program cs ≡ false = rw (← a.cells) (lt-leb (cell_size * r.cells) (length cs) l) in
            record { same = rw a.read (sym (as_short k s cs a.program (passed a) short)) }

        module _ (l : cell_size * r.cells ≤ length cs) where
          -- the search
          pub bench_searching : Searching t r.procedures r.locations r.threads r.cells k s n cs
          bench_searching = record { accepted = bench_accepted; bench = (A.some n m).1; total = (A.some n m).0; room = l }

          -- its answer
          pub bench_searched : {a : BenchAnswer} {cs' : List ℕ} → Searches t r.procedures r.locations r.threads r.cells k s n cs cs' a
              → Benches t k s cs cs' (Ok a)
          bench_searched S =
              let a = bench_accepted in
              let room : roomy a.program cs ≡ true = rw (← a.cells) (le-leb (cell_size * r.cells) (length cs) l) in
              record {
                same =
                    S.same (record { accepted = a; bench = (A.some n m).1; total = (A.some n m).0; room = l })
                    ∙ sym (ap (λ (v : Verdict). bench_as k s cs v) a.read ∙ as_search k s cs a.program (passed a) room);
              }

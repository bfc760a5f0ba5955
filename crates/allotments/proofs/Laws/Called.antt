-- An allotment's run is what the run call answers for its schedule.
use Rattle.std.specs.Prelude.{ℕ, zero, suc, ◌≤◌, ◌<◌, ◌≡◌, refl, List, [], ◌∷◌, ◌++◌, Bool, true, false, length, replicate, ltb}
use Rattle.std.proofs.Common.{arith, ap, ◌∙◌, lt-ltb, ltb-true, le-leb}
use Rattle.value.specs.Try.{Try, has, lacks}
use Rattle.value.specs.Lists.{at, all, over}
use Rattle.value.proofs.Laws.Tests.{by_test, both_passed}
use Rattle.format.specs.Labels.{labelled}
use Rattle.format.specs.Syntax.{Program, Plain, concurrent}
use Rattle.format.specs.Rules.{verdict, Verdict, accepted}
use Rattle.semantics.specs.Threads.{State, thread_step}
use Rattle.semantics.specs.Threads as P
use Rattle.semantics.specs.Buffers.{cells}
use Rattle.semantics.specs.Calls.{end_number, max_entries, scheduled, roomy, run_as, concurrent_outcome, concurrent_call}
use Rattle.allotments.specs.Allotments.{next, allotted, rests, taken, schedule_of, run_of}

-- the threads of an allotment are below T
module _ (T : ℕ) where
  below_more : (n t : ℕ) (ts : List ℕ) → t < T → all (λ u. ltb u T) ts ≡ true → all (λ u. ltb u T) (replicate n t ++ ts) ≡ true
  below_more zero t ts l e = e
  below_more (suc n) t ts l e = rw (lt-ltb t T l) (below_more n t ts l e)

  below_next : (t : ℕ) → t < T → next T t < T
  below_next t l = by_test (ltb (suc t) T) (λ e. rw e (ltb-true (suc t) T e)) (λ e. rw e (omega arith))

  pub allotted_below : (t : ℕ) (ds : List ℕ) → t < T → all (λ u. ltb u T) (allotted T t ds) ≡ true
  allotted_below t [] l = refl
  allotted_below t (d ∷ ds) l = below_more d t (allotted T (next T t) ds) l (allotted_below (next T t) ds (below_next t l))

-- none is added by leaving steps out
pub taken_all : (p : Program ℕ) (f : ℕ → Bool) (ts : List ℕ) (s : State) → all f ts ≡ true → all f (taken p ts s) ≡ true
taken_all p f [] s e = refl
taken_all p f (t ∷ ts) s e =
    let two = both_passed (f t) (all f ts) e in
    by_test (rests (at s.threads t))
    (λ r. rw (r, taken) (taken_all p f ts s two.1))
    (λ r. on (taken_all p f ts) r two.0 two.1 (thread_step p t s) refl)
  where
    on : ((s : State) → all f ts ≡ true → all f (taken p ts s) ≡ true) → rests (at s.threads t) ≡ false → f t ≡ true → all f ts ≡ true
        → (m : Try P.Step) → thread_step p t s ≡ m → all f (taken p (t ∷ ts) s) ≡ true
    on ih r a b (lacks w) z = rw (r, z, taken, a)
    on ih r a b (has w) z = rw (r, z, taken, a) (ih w.state b)

-- AN ALLOTMENT'S RUN IS WHAT run_concurrent ANSWERS FOR ITS SCHEDULE: its end, and the cells that it leaves
pub run_called : (t : List ℕ) (p : Program Plain) (ds cs es : List ℕ) → verdict concurrent t ≡ accepted p → 1 ≤ length p.mains
    → length (schedule_of p ds) ≤ max_entries → roomy p cs ≡ true
    → ((concurrent_call t (schedule_of p ds) cs es).answer.end ≡ end_number (run_of p ds).how)
    × ((concurrent_call t (schedule_of p ds) cs es).cells ≡ over (cells (run_of p ds).state.memory) cs)
run_called t p ds cs es v h l r =
    let ts : List ℕ = schedule_of p ds in
    let T : ℕ = length p.mains in
    let low : all (λ u. ltb u T) ts ≡ true = taken_all (labelled p) (λ u. ltb u T) (allotted T 0 ds) _ (allotted_below T 0 ds (omega arith)) in
    let asked : scheduled concurrent p ts ≡ true = rw (le-leb (length ts) max_entries l) low in
    let whole : concurrent_call t ts cs es ≡ concurrent_outcome ts cs es p =
    ap (λ (x : Verdict). run_as concurrent x (concurrent_outcome ts cs es) ts cs es) v ∙ rw (asked, r, run_as)
    in
    (ap (λ o. o.answer.end) whole, ap (λ o. o.cells) whole)

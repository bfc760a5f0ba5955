-- One law for each way through a step: the rules of the report's figures.
use Prim.Native.Nat.{ℕ, suc, ◌+◌, ◌*◌, ◌-◌, ◌<◌}
use native.Mathlib.Omega.{arith}
use mathlib.Core.Path.{◌≡◌, refl, sym, ap, subst, ◌∙◌}
use mathlib.Core.List.{List, [], append-nil, map}
use mathlib.Core.Bool.{Bool, true, false}
use lib.ListN.{length, get_or, set, length-set}
use lib.Seq.{get_or-set_same, get_or-set_other}
use Rattle.value.specs.Maybe.{pick}
use Rattle.value.specs.declared.Reason.{Reason}
use Rattle.basics.specs.Places.{number_at}
use Rattle.format.specs.Syntax.{Block, step, ◌⊕◌}
use Rattle.format.specs.Encode.{record_size}
use Rattle.format.specs.Decode.{max_nesting}
use Rattle.format.specs.Labels.{labelled}
use Rattle.format.proofs.Laws.Grammar.{BlockAt, block_deep}
use Rattle.labels.specs.Laws.Spots.{Remains, remains_after, join_end}
use Rattle.semantics.specs.Calls.{unlabelled}
use Rattle.engine.specs.Work.{Beside}
use Rattle.engine.specs.Laws.Work.{beside_same, beside_set}
use Rattle.decide.specs.Decided.{act_end, branch}
use Rattle.atomic.specs.Threaded.{all_frames}
use Rattle.atomic.specs.Laws.Linked.{no_cycle_lem}
use Rattle.atomic.specs.Laws.Threading.{beside_wide}
use Rattle.atomic.proofs.Inside.{beside_again}
use Rattle.concurrent.specs.Laws.Leading.{remains_branch}
use Rattle.report.specs.Rows.{most_rows, RowsAt, none, Known, Tested}
use Rattle.report.specs.Stepping.{Stepping, Went, Stays, Ready}
use Rattle.report.proofs.Rowed.{few_rows, rows_put, rows_below}
use Rattle.report.proofs.Turning.{Turning, IsTest}
use Rattle.report.proofs.Turning as U
use Rattle.report.proofs.Standing.{deeper, TestAt, loops, forks, test_at, BodyAt, body_here}
use Rattle.report.proofs.Ruling.{upmost, at_top, lower, lower_is, row_is, up, turning, goes_on, calls_on_lem, stays}

module _ {t : List ℕ} {records : ℕ} {ss : List ℕ} {thread top : ℕ} {depths heights rows ends ls cs o : List ℕ} {n : ℕ}
    (R : Ready t thread top depths heights rows ls n)
    (h : Stepping t records ss thread depths heights rows ends ls cs o n) where
  -- the code that remains
  remaining : Remains (labelled h.loaded.program).procs (upmost R h).frame.proc (step (up R h).tag (up R h).instr ((up R h).left ⊕ (up R h).rest))
  remaining = subst (Remains (labelled h.loaded.program).procs (upmost R h).frame.proc) (up R h).code (upmost R h).here.remains

  -- the frame is one of all
  pub top_small : top + 1 < all_frames
  top_small = omega (arith, at_top R h, (upmost R h).there, (upmost R h).few)

  -- the row is one of all
  row_small : most_rows * top + lower R h < length rows
  row_small = omega (arith, top_small, few_rows (up R h).whole, h.present.rowed.rows_long)

  -- rows of the frame that are others
  beside_row : (x : ℕ) → Beside rows (set rows (most_rows * top + lower R h) x) (most_rows * top) (most_rows * (top + 1))
  beside_row x = beside_wide (beside_set rows (most_rows * top + lower R h) x) (omega arith) (omega (arith, few_rows (up R h).whole))

  -- the code goes on behind its first instruction
  pub goes_next : {ls' cs' o' : List ℕ} {j k : ℕ} → U.Went (turning R h) ls' cs' o' k → j ≡ (up R h).next
      → Went h depths heights (set rows (most_rows * top + get_or heights top 0 - 1) j) ends ls' cs' o' k
  unfolding turning
  goes_next {j = j} W e =
      let moved : RowsAt t (set rows (most_rows * top + lower R h) j) (most_rows * top) (suc (lower R h)) ((up R h).left ⊕ (up R h).rest) =
      rw e (rows_put (up R h).next row_small (up R h).after (up R h).below)
      in
      let there : RowsAt t (set rows (most_rows * top + lower R h) j) (most_rows * top) (get_or heights top 0) ((up R h).left ⊕ (up R h).rest) =
      rw (lower_is R h) moved
      in
      rw (row_is R h)
      (goes_on h (upmost R h) (rw (← at_top R h) W.beside) W.b W.new ((up R h).left ⊕ (up R h).rest) (W.code (upmost R h).below) W.log
      (rw (← at_top R h) W.works) W.same (remains_after remaining) (rw (← at_top R h) (beside_row j)) beside_same (rw (← at_top R h) there)
      h.present.known W.few)

  -- it goes on where its test leads
  goes_branch : {ls' heights' rows' ends' : List ℕ} {q : Bool} → U.Came (turning R h) ls' cs o q
      → Beside rows rows' (most_rows * top) (most_rows * (top + 1)) → Beside heights heights' top (top + 1)
      → RowsAt t rows' (most_rows * top) (get_or heights' top 0) (branch q (up R h).tag (up R h).instr ((up R h).left ⊕ (up R h).rest)) → Known t ends'
      → Went h depths heights' rows' ends' ls' cs o n
  unfolding turning
  goes_branch {q = q} C B H there known =
      goes_on h (upmost R h) (rw (← at_top R h) C.beside) (turning R h).a [] (branch q (up R h).tag (up R h).instr ((up R h).left ⊕ (up R h).rest))
      (C.code (upmost R h).below) (sym (append-nil (map unlabelled h.so_far))) (rw (← at_top R h) C.works) refl
      (remains_branch q (up R h).instr remaining) (rw (← at_top R h) B) (rw (← at_top R h) H) (rw (← at_top R h) there) known (omega arith)

  -- it blocks
  pub stays_there : {ls' cs' o' : List ℕ} {why : Reason} → U.Stays (turning R h) ls' cs' o' why → Stays h depths heights rows ends ls' cs' o' why
  unfolding turning
  stays_there S = stays h (upmost R h) (rw (← at_top R h) S.beside) (S.code (upmost R h).below) (rw (← at_top R h) S.works)

  -- ---- a test

  -- where it stands
  pub test_here : {j : ℕ} → j ≡ act_end (get_or rows (most_rows * top + get_or heights top 0 - 1) 0) (up R h).instr → IsTest (up R h).instr
      → TestAt t (get_or rows (most_rows * top + get_or heights top 0 - 1) 0) (max_nesting - suc (lower R h)) j (up R h).instr (up R h).next
  test_here e z = test_at (up R h).instr (rw (row_is R h) (up R h).here) z e

  -- a block more fits
  more_small : {x l : ℕ} {b : Block ℕ} → BlockAt t x (max_nesting - suc (lower R h)) b l → most_rows * top + suc (lower R h) < length rows
  more_small w = omega (arith, top_small, block_deep w, h.present.rowed.rows_long)

  -- with it
  beside_more : {x l : ℕ} {b : Block ℕ} (y z : ℕ) → BlockAt t x (max_nesting - suc (lower R h)) b l
      → Beside rows (set (set rows (most_rows * top + lower R h) y) (most_rows * top + suc (lower R h)) z) (most_rows * top) (most_rows * (top + 1))
  beside_more y z w =
      beside_again (beside_row y)
      (beside_wide (beside_set (set rows (most_rows * top + lower R h) y) (most_rows * top + suc (lower R h)) z) (omega arith) (omega (arith, block_deep w)))

  -- a row more
  more_rows : get_or (set heights top (get_or heights top 0 + 1)) top 0 ≡ suc (suc (lower R h))
  more_rows =
      get_or-set_same heights top (get_or heights top 0 + 1) 0 (omega (arith, top_small, h.present.rowed.heights_long)) ∙ omega (arith, lower_is R h)

  -- it goes on in its rows
  pub goes_test : {ls' heights' rows' ends' : List ℕ} {q : Bool} {j : ℕ} → U.Came (turning R h) ls' cs o q
      → j ≡ act_end (get_or rows (most_rows * top + get_or heights top 0 - 1) 0) (up R h).instr → IsTest (up R h).instr
      → Tested t (get_or rows (most_rows * top + get_or heights top 0 - 1) 0) q j top rows heights rows' heights' ends'
      → Went h depths heights' rows' ends' ls' cs o n
  goes_test {ls'} {heights'} {rows'} {ends'} {q} {j} C e z T = by q C T (test_here e z)
    where
      above : most_rows * top + get_or heights top 0 ≡ most_rows * top + suc (lower R h)
      above = omega (arith, lower_is R h)

      by : (q : Bool) → U.Came (turning R h) ls' cs o q
          → Tested t (get_or rows (most_rows * top + get_or heights top 0 - 1) 0) q j top rows heights rows' heights' ends'
          → TestAt t (get_or rows (most_rows * top + get_or heights top 0 - 1) 0) (max_nesting - suc (lower R h)) j (up R h).instr (up R h).next
          → Went h depths heights' rows' ends' ls' cs o n
      by true C T (loops e b s mark body) =
          let m = T.again mark refl in
          let rows_are : rows' ≡ set rows (most_rows * top + suc (lower R h)) j = m.0 ∙ ap (λ r. set rows r j) above in
          let put : RowsAt t (set rows (most_rows * top + suc (lower R h)) j) (most_rows * top) (suc (suc (lower R h))) (b ⊕ (upmost R h).frame.code) =
          rows_put j (more_small body) body (up R h).whole
          in
          let code : branch true (up R h).tag (up R h).instr ((up R h).left ⊕ (up R h).rest) ≡ b ⊕ (upmost R h).frame.code =
          rw ((up R h).code, s)
          in
          goes_branch C
          (rw rows_are (beside_wide (beside_set rows (most_rows * top + suc (lower R h)) j) (omega arith) (omega (arith, block_deep body))))
          (rw m.1 (beside_set heights top (get_or heights top 0 + 1)))
          (rw (code, rows_are, m.1, more_rows) put)
          T.known
      by false C T (loops e b s mark body) =
          let m = T.past mark refl b (up R h).next (deeper (omega arith) body) in
          let rows_are : rows' ≡ set rows (most_rows * top + lower R h) (up R h).next = m.0 ∙ ap (λ r. set rows r (up R h).next) (row_is R h) in
          let put : RowsAt t (set rows (most_rows * top + lower R h) (up R h).next) (most_rows * top) (suc (lower R h)) ((up R h).left ⊕ (up R h).rest) =
          rows_put (up R h).next row_small (up R h).after (up R h).below
          in
          let code : branch false (up R h).tag (up R h).instr ((up R h).left ⊕ (up R h).rest) ≡ (up R h).left ⊕ (up R h).rest = rw s in
          goes_branch C
          (rw rows_are (beside_row (up R h).next))
          (rw m.1 beside_same)
          (rw (code, rows_are, m.1, lower_is R h) put)
          T.known
      by q C T (forks e b c l s mark first second) =
          let m = T.into (λ z. omega (arith, mark)) b l (deeper (omega arith) first) c (up R h).next (deeper (omega arith) second) in
          let rows_are : rows' ≡ set (set rows (most_rows * top + lower R h) (up R h).next) (most_rows * top + suc (lower R h)) (pick q j l) =
          m.0 ∙ rw (row_is R h, above)
          in
          let put : RowsAt t (set rows (most_rows * top + lower R h) (up R h).next) (most_rows * top) (suc (lower R h)) ((up R h).left ⊕ (up R h).rest) =
          rows_put (up R h).next row_small (up R h).after (up R h).below
          in
          let code : branch q (up R h).tag (up R h).instr ((up R h).left ⊕ (up R h).rest) ≡ pick q b c ⊕ ((up R h).left ⊕ (up R h).rest) = rw s in
          let room : most_rows * top + suc (lower R h) < length (set rows (most_rows * top + lower R h) (up R h).next) =
          omega (arith, more_small first, length-set rows (most_rows * top + lower R h) (up R h).next)
          in
          goes_branch C
          (rw rows_are (beside_more (up R h).next (pick q j l) first))
          (rw m.1 (beside_set heights top (get_or heights top 0 + 1)))
          (rw (code, rows_are, m.1, more_rows) (taken q room first second put))
          T.known
        where
          taken : (q : Bool) {b c : Block ℕ} {l : ℕ} → most_rows * top + suc (lower R h) < length (set rows (most_rows * top + lower R h) (up R h).next)
              → BlockAt t j (max_nesting - suc (lower R h)) b l → BlockAt t l (max_nesting - suc (lower R h)) c (up R h).next
              → RowsAt t (set rows (most_rows * top + lower R h) (up R h).next) (most_rows * top) (suc (lower R h)) ((up R h).left ⊕ (up R h).rest)
              → RowsAt t (set (set rows (most_rows * top + lower R h) (up R h).next) (most_rows * top + suc (lower R h)) (pick q j l)) (most_rows * top)
              (suc (suc (lower R h))) (pick q b c ⊕ ((up R h).left ⊕ (up R h).rest))
          taken true {l = l} room first second put = rows_put j room first put
          taken false {l = l} room first second put = rows_put l room second put

  -- ---- a call

  -- the body of the procedure that is called begins in the frame above
  pub goes_call : {ls' : List ℕ} {q j k : ℕ} → U.Calls (turning R h) ls' cs o q → j ≡ (up R h).next → k ≡ number_at 4 t (records + record_size * q + 2)
      → Went h (set depths thread (get_or depths thread 0 + 1)) (set heights (top + 1) 1)
      (set (set rows (most_rows * top + get_or heights top 0 - 1) j) (most_rows * (top + 1)) k) ends ls' cs o n
  unfolding turning
  goes_call {ls'} {q} {j} {k} C e f =
      let u = upmost R h in
      let B : BodyAt h.loaded.same h.loaded.sound records q C.called.proc =
      body_here h.loaded.same h.loaded.sound h.loaded.heads C.called.found
      in
      let rows₁ : List ℕ = set rows (most_rows * top + lower R h) j in
      let heights' : List ℕ = set heights (top + 1) 1 in
      let on : RowsAt t rows₁ (most_rows * top) (suc (lower R h)) ((up R h).left ⊕ (up R h).rest) =
      rw e (rows_put (up R h).next row_small (up R h).after (up R h).below)
      in
      let mine : RowsAt t (set rows₁ (most_rows * (top + 1)) k) (most_rows * top) (suc (lower R h)) ((up R h).left ⊕ (up R h).rest) =
      rows_below (beside_set rows₁ (most_rows * (top + 1)) k) (omega (arith, few_rows (up R h).whole)) on
      in
      let room : most_rows * (top + 1) + 0 < length rows₁ =
      omega (arith, top_small, h.present.rowed.rows_long, length-set rows (most_rows * top + lower R h) j)
      in
      let body : BlockAt t k max_nesting C.called.proc.body B.last = rw f B.here in
      let first : most_rows * (top + 1) + 0 ≡ most_rows * (top + 1) = omega arith in
      let new : RowsAt t (set rows₁ (most_rows * (top + 1)) k) (most_rows * (top + 1)) 1 C.called.proc.body =
      rw (first, join_end C.called.proc.body) at (rows_put {rows = rows₁} k room body (none refl))
      in
      let same : get_or heights' top 0 ≡ suc (lower R h) =
      get_or-set_other heights (top + 1) top 1 0 (λ q. omega arith) ∙ lower_is R h
      in
      let one : get_or heights' (top + 1) 0 ≡ 1 = get_or-set_same heights (top + 1) 1 0 (omega (arith, top_small, h.present.rowed.heights_long)) in
      let more : get_or depths thread 0 + 1 ≡ length u.below + 2 = omega (arith, u.depth) in
      let beside : Beside rows (set rows₁ (most_rows * (top + 1)) k) (most_rows * top) (most_rows * (top + 2)) =
      beside_again (beside_wide (beside_row j) (omega arith) (omega arith))
      (beside_wide (beside_set rows₁ (most_rows * (top + 1)) k) (omega arith) (omega arith))
      in
      rw (row_is R h, more)
      (calls_on_lem h u (rw (← at_top R h) C.beside) q C.called ((up R h).left ⊕ (up R h).rest)
      (C.code u.below (no_cycle_lem h.loaded.sound u.frame.proc q u.frame u.below refl C.called.calls u.linked))
      (rw (← at_top R h) C.works) (rw (← at_top R h) C.above) (remains_after remaining) (rw (← at_top R h) beside)
      (rw (← at_top R h) (beside_wide (beside_set heights (top + 1) 1) (omega arith) (omega arith)))
      (rw (← at_top R h, same) mine) (rw (← at_top R h, one) new))

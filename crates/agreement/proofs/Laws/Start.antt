-- The start of procedure 0: it sets each thread's label and its main's "from", and comes to the loop head.
use Rattle.std.specs.Prelude.{ℕ, zero, suc, ◌+◌, ◌*◌, ◌-◌, ◌≤◌, ◌<◌, ◌≡◌, refl, ◌≢◌, List, [], ◌∷◌, false, length, take, replicate, pos}
use Rattle.std.proofs.Common.{arith, sym, ◌∙◌, le-ltb}
use Rattle.value.specs.Maybe.{Maybe, is, nothing}
use Rattle.value.specs.Try.{has}
use Rattle.value.specs.Lists.{at}
use Rattle.value.specs.declared.Value.{Value}
use Rattle.value.specs.declared.Value.TheVariants.{Whole, Location, Truth}
use Rattle.value.specs.declared.Reason.TheVariants.{IndexOutside}
use Rattle.value.proofs.Laws.Maybes.{is_inj, missing}
use Rattle.value.proofs.Laws.Tries.{lacking, or_lacks_has}
use Rattle.format.specs.Syntax.{assign, write, Block, Proc, Plain}
use Rattle.translation.specs.Code.{◌then◌, num, loc, tmp}
use Rattle.translation.specs.Translate.{for_each, interleavings}
use Rattle.semantics.specs.Memory.{Memory, cell, stored, fresh, Event}
use Rattle.semantics.specs.Step.{Stack}
use Rattle.semantics.specs.Threads as P
use Rattle.semantics.specs.Copy.{Config}
use Rattle.semantics.proofs.Laws.Cells.{cell_stored, cell_elsewhere, cell_other_index, take_stored_above, shape, shape_stored, cell_there, shape_fresh}
use Rattle.agreement.proofs.Laws.Runs.{frame, config, Runs, stop, run_assign, run_write_own, run_steps}
use Rattle.agreement.proofs.Laws.Columns.{number}
use Rattle.agreement.proofs.Laws.Calling.{lookup_entered, length_entered}
use Rattle.agreement.proofs.Laws.Proper.{Proper, ProperMemory}
use Rattle.agreement.proofs.Laws.Frames.{World, Entry}
use Rattle.agreement.proofs.Laws.Linked.{part_body}
use Rattle.agreement.proofs.Laws.Steps.{called}
use Rattle.agreement.proofs.Laws.Mirrors.{Mirrors}
use Rattle.agreement.proofs.Laws.Round.{Zeroth, Arrived}

-- ---- a number for each thread, by its main, from thread t on

module _ (row value : ℕ → ℕ) where
  -- memory after a number is put for each thread, from thread t on
  abbrev puts : Memory → ℕ → List ℕ → Memory
  puts η t [] = η
  puts η t (m ∷ ms) = puts (stored η (row m) t (Whole (pos (value m)))) (suc t) ms

  -- it keeps its shape
  shape_puts : (η : Memory) (t : ℕ) (ms : List ℕ) → shape (puts η t ms) ≡ shape η
  shape_puts η t [] = refl
  shape_puts η t (m ∷ ms) = shape_puts (stored η (row m) t (Whole (pos (value m)))) (suc t) ms ∙ shape_stored η (row m) t (Whole (pos (value m)))

  -- and the program's part
  take_puts : (h : ℕ) → ((m : ℕ) → h ≤ row m) → (η : Memory) (t : ℕ) (ms : List ℕ) → take h (puts η t ms) ≡ take h η
  take_puts h above η t [] = refl
  take_puts h above η t (m ∷ ms) =
      take_puts h above (stored η (row m) t (Whole (pos (value m)))) (suc t) ms ∙ take_stored_above h η (row m) t (Whole (pos (value m))) (above m)

  -- threads before t, and other rows, are as they were
  puts_before : (η : Memory) (t : ℕ) (ms : List ℕ) (l j : ℕ) → j < t → cell (puts η t ms) l j ≡ cell η l j
  puts_before η t [] l j h = refl
  puts_before η t (m ∷ ms) l j h =
      puts_before (stored η (row m) t (Whole (pos (value m)))) (suc t) ms l j (omega arith)
      ∙ cell_other_index η (row m) t (Whole (pos (value m))) l j (λ e. absurd (omega arith))

  -- other cells keep their values
  puts_elsewhere : (η : Memory) (t : ℕ) (ms : List ℕ) (l j : ℕ) → ((m : ℕ) → l ≢ row m) → cell (puts η t ms) l j ≡ cell η l j
  puts_elsewhere η t [] l j h = refl
  puts_elsewhere η t (m ∷ ms) l j h =
      puts_elsewhere (stored η (row m) t (Whole (pos (value m)))) (suc t) ms l j h ∙ cell_elsewhere η (row m) t (Whole (pos (value m))) l j (h m)

  -- and each thread has its number
  puts_at : (Z : List ℕ) (T : ℕ) (η : Memory) (t : ℕ) (ms : List ℕ) → shape η ≡ Z → ((i m : ℕ) → at ms i ≡ is m → at Z (row m) ≡ is T)
      → t + length ms ≤ T
      → (i j m : ℕ) → j ≡ t + i → at ms i ≡ is m → cell (puts η t ms) (row m) j ≡ number (value m)
  puts_at Z T η t [] s rows h i j m p e = missing e
  puts_at Z T η t (o ∷ ms) s rows h zero j m p e =
      let same : o ≡ m = is_inj e in
      let j=t : j ≡ t = omega arith in
      rw (j=t, ← same) (puts_before (stored η (row o) t (Whole (pos (value o)))) (suc t) ms (row o) t (omega arith)
      ∙ cell_stored η (row o) t (Whole (pos (value o))) (cell_there η (row o) t {n = T} (rw s (rows 0 o refl)) (omega arith)).1)
  puts_at Z T η t (o ∷ ms) s rows h (suc i) j m p e =
      puts_at Z T (stored η (row o) t (Whole (pos (value o)))) (suc t) ms (shape_stored η (row o) t (Whole (pos (value o))) ∙ s)
      (λ k r q. rows (suc k) r q)
      (omega arith) i j m (omega arith) e

-- ---- the code

module _ (h : ℕ) (procs : List (Proc Plain)) (Z : List ℕ) (T : ℕ) {Q : Config → Type 0} {ts : List ℕ} {last : ℕ} {evs : List Event} {n : ℕ}
    {a d e : Maybe Value} {c : Block Plain} where
  -- the beginnings of the mains are stored
  run_labels : (pct : ℕ) (begin : ℕ → ℕ) → h ≤ pct → at Z pct ≡ is T → (η : Memory) (t : ℕ) (ms : List ℕ) → shape η ≡ Z → t + length ms ≤ T
      → Runs h procs Q n (config (frame 0 (a ∷ is (Location pct) ∷ d ∷ e ∷ []) c ∷ []) (puts (λ m. pct) begin η t ms) ts last evs)
      → Runs h procs Q (length ms + n)
      (config (frame 0 (a ∷ is (Location pct) ∷ d ∷ e ∷ []) (for_each (λ t m c. write tmp (num t) (num (begin m)) then c) t ms c) ∷ []) η ts last evs)
  run_labels pct begin above row η t [] s fits k = run_steps (omega arith) k
  run_labels pct begin above row η t (m ∷ ms) s fits k =
      let there : (u : Value) × (cell η pct t ≡ has u) = cell_there η pct t {n = T} (rw s row) (omega arith) in
      run_steps {n = suc (length ms + n)} (omega arith)
      (run_write_own h procs t pct (Whole (pos (begin m))) refl refl refl there.1 (le-ltb pct h above)
      (run_labels pct begin above row (stored η pct t (Whole (pos (begin m)))) (suc t) ms
      (shape_stored η pct t (Whole (pos (begin m))) ∙ s) (omega arith) k))

  -- and 0 in each "from"
  run_froms : (from : ℕ → ℕ) → ((m : ℕ) → h ≤ from m) → (η : Memory) (t : ℕ) (ms : List ℕ) (tm : Maybe Value)
      → ((i m : ℕ) → at ms i ≡ is m → at Z (from m) ≡ is T) → shape η ≡ Z → t + length ms ≤ T
      → ((tm : Maybe Value) → Runs h procs Q n (config (frame 0 (a ∷ tm ∷ d ∷ e ∷ []) c ∷ []) (puts from (λ m. 0) η t ms) ts last evs))
      → Runs h procs Q (2 * length ms + n) (config (frame 0 (a ∷ tm ∷ d ∷ e ∷ [])
      (for_each (λ t m c. assign tmp (loc (from m)) then write tmp (num t) (num 0) then c) t ms c) ∷ []) η ts last evs)
  run_froms from above η t [] tm rows s fits k = run_steps (omega arith) (k tm)
  run_froms from above η t (m ∷ ms) tm rows s fits k =
      let there : (u : Value) × (cell η (from m) t ≡ has u) = cell_there η (from m) t {n = T} (rw s (rows 0 m refl)) (omega arith) in
      run_steps {n = suc (suc (2 * length ms + n))} (omega arith)
      (run_assign h procs (Location (from m)) refl
      (run_write_own h procs t (from m) (Whole (pos 0)) refl refl refl there.1 (le-ltb (from m) h (above m))
      (run_froms from above (stored η (from m) t (Whole (pos 0))) (suc t) ms (is (Location (from m))) (λ i o p. rows (suc i) o p)
      (shape_stored η (from m) t (Whole (pos 0)) ∙ s) (omega arith) k)))

-- ---- the first state

-- all cells are numbers
fresh_proper : (h : ℕ) (ns : List ℕ) → ProperMemory h (fresh ns)
fresh_proper h [] l i v e = lacking e
fresh_proper h (n ∷ ns) zero i v e = zeros n i v (or_lacks_has IndexOutside (at (replicate n (Whole (pos 0))) i) e)
  where
    -- all its cells are 0
    zeros : (n i : ℕ) (v : Value) → at (replicate n (Whole (pos 0))) i ≡ is v → Proper h v
    zeros zero i v e = missing e
    zeros (suc n) zero v e = rw (← is_inj e) tt
    zeros (suc n) (suc i) v e = zeros n i v e
fresh_proper h (n ∷ ns) (suc l) i v e = fresh_proper h ns l i v e

-- thread i begins with its main
starts_at : (ps : List (Proc ℕ)) (ms : List ℕ) (i : ℕ) (s : Stack ℕ) → at (P.starts ps ms) i ≡ is s
    → (m : ℕ) × (at ms i ≡ is m) × (s ≡ P.begun m (at ps m))
starts_at ps [] i s e = missing e
starts_at ps (m ∷ ms) zero s e = (m, refl, sym (is_inj e))
starts_at ps (m ∷ ms) (suc i) s e = starts_at ps ms i s e

-- as many threads as mains
length_starts : (ps : List (Proc ℕ)) (ms : List ℕ) → length (P.starts ps ms) ≡ length ms
length_starts ps [] = refl
length_starts ps (m ∷ ms) = rw (length_starts ps ms)

-- what the start needs: mains are procedures without parameters, there is one, and the program's sizes come first
pub record Startable (W : World) : Type 0 where
  -- the mains of the threads
  pub mains : (i m : ℕ) → at W.source.mains i ≡ is m → (p : Proc ℕ) × (at W.source.procs m ≡ is p) × (p.params ≡ 0)
  pub some : 1 ≤ length W.source.mains
  pub sizes : take W.S.h (fresh W.S.Z) ≡ fresh W.source.sizes

module _ (W : World) (L : ℕ) (Z : Zeroth W W.source.mains L) (U : Startable W) where
  abbrev mains : List ℕ
  mains = W.source.mains

  -- memory after the labels
  abbrev labelled_memory : Memory
  labelled_memory = puts (λ m. W.S.G.pct) W.begin (fresh W.S.Z) 0 mains

  -- and at the loop head
  abbrev first_memory : Memory
  first_memory = puts W.S.G.from (λ m. 0) labelled_memory 0 mains

  -- its shape
  shaped : shape labelled_memory ≡ W.S.Z
  shaped = shape_puts (λ m. W.S.G.pct) W.begin (fresh W.S.Z) 0 mains ∙ shape_fresh W.S.Z

  -- the threads fit
  fits : 0 + length mains ≤ W.S.T
  fits = omega (arith, Z.threads)

  -- each "from" has a cell for each thread
  from_rows : (i m : ℕ) → at mains i ≡ is m → at W.S.Z (W.S.G.from m) ≡ is W.S.T
  from_rows i m e = W.S.rows.from m (W.entries m (U.mains i m e).0 (U.mains i m e).1).in_n

  -- thread i, whose main is m
  module _ (i m : ℕ) (e : at mains i ≡ is m) where
    -- its procedure
    main : Proc ℕ
    main = (U.mains i m e).0

    -- is there
    found : at W.source.procs m ≡ is main
    unfolding main
    found = (U.mains i m e).1

    -- and what is known of it
    E : Entry W.S W.source W.procs W.begin m main
    E = W.entries m main found

    -- the thread is at its beginning
    at_begin : cell first_memory W.S.G.pct i ≡ number (W.begin m)
    at_begin = puts_elsewhere W.S.G.from (λ m. 0) labelled_memory 0 mains W.S.G.pct i (λ k p. W.S.apart.from_pct k (sym p))
        ∙ puts_at (λ m. W.S.G.pct) W.begin W.S.Z W.S.T (fresh W.S.Z) 0 mains (shape_fresh W.S.Z)
        (λ j k q. W.S.rows.pct) fits i i m
        (omega arith) e

    -- and will return to 0
    at_from : cell first_memory (W.S.G.from m) i ≡ number 0
    at_from = puts_at W.S.G.from (λ m. 0) W.S.Z W.S.T labelled_memory 0 mains shaped from_rows fits i i m (omega arith) e

    -- it has no parameters
    no_params : main.params ≡ 0
    unfolding main
    no_params = (U.mains i m e).2

  -- the memory at the first loop head mirrors the first state
  first_mirrors : Mirrors W (P.start W.source) first_memory
  first_mirrors = record {
    shared = take_puts W.S.G.from (λ m. 0) W.S.h W.S.private.from labelled_memory 0 mains
        ∙ take_puts (λ m. W.S.G.pct) W.begin W.S.h (λ m. W.S.private.pct) (fresh W.S.Z) 0 mains ∙ U.sizes;
    shaped = shape_puts W.S.G.from (λ m. 0) labelled_memory 0 mains ∙ shaped;
    count = length_starts W.source.procs mains ∙ Z.threads;
    label = λ i s e.
        let g = starts_at W.source.procs mains i s e in
        rw (g.2, found i g.0 g.1, ← (E i g.0 g.1).begins) (at_begin i g.0 g.1);
    kept = λ i s e.
        let g = starts_at W.source.procs mains i s e in
        rw (g.2, found i g.0 g.1) (
          record {
            proc = (E i g.0 g.1).in_n;
            full = length_entered [] (main i g.0 g.1).locals (omega arith) ∙ sym (E i g.0 g.1).size;
            once = refl;
            held = λ x v p. nowhere x v (lookup_entered [] ((main i g.0 g.1).locals - 0) x p);
            back = at_from i g.0 g.1;
          },
          tt,
        );
    sound = λ i s e.
        let g = starts_at W.source.procs mains i s e in
        rw (g.2, found i g.0 g.1) (called g.0 (main i g.0 g.1) (found i g.0 g.1) [] (sym (no_params i g.0 g.1)), tt);
    proper = λ i s e.
        let g = starts_at W.source.procs mains i s e in
        rw (g.2, found i g.0 g.1) ((λ x v p. nowhere x v (lookup_entered [] ((main i g.0 g.1).locals - 0) x p)), tt);
    linked = λ i s e.
        let g = starts_at W.source.procs mains i s e in
        rw (g.2, found i g.0 g.1) (
          part_body W.source.procs W.bytes g.0 (found i g.0 g.1)
              (W.brief g.0 (main i g.0 g.1) (found i g.0 g.1)),
          tt,
          tt,
        );
    proper_memory = λ l i v e. fresh_proper W.S.h W.source.sizes l i v e;
  }
    where
      nowhere : {X : Type 0} (x : ℕ) (v : Value) → at {A = Value} [] x ≡ is v → X
      nowhere x v e = missing e

  -- a thread is not finished at the start
  not_done : (ms : List ℕ) → 1 ≤ length ms → ((i m : ℕ) → at ms i ≡ is m → (p : Proc ℕ) × (at W.source.procs m ≡ is p))
      → P.done (P.starts W.source.procs ms) ≡ false
  not_done [] h f = absurd (omega arith)
  not_done (m ∷ ms) h f = rw (f 0 m refl).1

  -- from the start to the loop head
  pub run_start : (ts : List ℕ)
      → Runs W.S.h W.procs (Arrived W mains L (P.start W.source) ts 0 []) (3 * length mains + 2)
      (config (frame 0 (nothing ∷ nothing ∷ nothing ∷ nothing ∷ []) (interleavings W.S.G W.begin mains L) ∷ []) (fresh W.S.Z) ts 0 [])
  run_start ts =
      let going : P.done (P.starts W.source.procs mains) ≡ false = not_done mains U.some (λ i m e. ((U.mains i m e).0, (U.mains i m e).1)) in
      run_steps {n = suc (length mains + (2 * length mains + 1))} (omega arith)
      (run_assign W.S.h W.procs (Location W.S.G.pct) refl
      (run_labels W.S.h W.procs W.S.Z W.S.T W.S.G.pct W.begin W.S.private.pct W.S.rows.pct (fresh W.S.Z) 0 mains
      (shape_fresh W.S.Z) fits
      (run_froms W.S.h W.procs W.S.Z W.S.T W.S.G.from W.S.private.from labelled_memory 0 mains
      (is (Location W.S.G.pct)) from_rows shaped fits
      (λ tm. run_assign W.S.h W.procs (Truth false) refl
      (stop (record { tid = nothing; tmp = tm; stmt = nothing; memory' = first_memory; mirrors = first_mirrors; at_head = rw going }))))))

-- What the copy's memory shows of a state, and the program's run by cases: what Follows rests on.
use Rattle.std.specs.Prelude.{ℕ, zero, suc, ◌≡◌, refl, List, [], ◌∷◌, map, true, length, take, get_or, pos}
use Rattle.std.proofs.Common.{arith, sym, ◌∙◌}
use Rattle.value.specs.Maybe.{Maybe, is, nothing, ◌>>=◌}
use Rattle.value.specs.Try.{has, lacks}
use Rattle.value.specs.Lists.{at}
use Rattle.value.specs.declared.Value.{Value}
use Rattle.value.specs.declared.Value.TheVariants.{Whole}
use Rattle.value.specs.declared.Reason.{Reason}
use Rattle.value.specs.declared.Reason.TheVariants.{IndexOutside, FinishedThread}
use Rattle.value.proofs.Laws.Maybes.{is_inj, missing}
use Rattle.value.proofs.Laws.Tries.{lacking, or_lacks_has}
use Rattle.value.proofs.Laws.Tests.{never, by_test}
use Rattle.format.specs.Syntax.{Program}
use Rattle.semantics.specs.Memory.{Memory, cell, Event}
use Rattle.semantics.specs.Step.{Stack}
use Rattle.semantics.specs.Threads as P
use Rattle.semantics.specs.Copy as C
use Rattle.semantics.proofs.Laws.Cells.{shape}
use Rattle.semantics.proofs.Laws.Ends.{finished_run, used_run}
use Rattle.agreement.specs.Price.{price}
use Rattle.agreement.specs.Agreement.{prices, chosen}
use Rattle.agreement.proofs.Laws.Reps.{label_by}
use Rattle.agreement.proofs.Laws.Frames.{World}
use Rattle.agreement.proofs.Laws.Mirrors.{Mirrors}

-- ---- a row of memory, by its cells

-- a row that has, for each thing of a list, what f says
row_is : {A : Type 0} (f : A → Value) (row : List Value) (ss : List A) → length row ≡ length ss
    → ((i : ℕ) (s : A) → at ss i ≡ is s → at row i ≡ is (f s)) → row ≡ map f ss
row_is f [] [] e h = refl
row_is f [] (s ∷ ss) e h = absurd (omega arith)
row_is f (v ∷ row) [] e h = absurd (omega arith)
row_is f (v ∷ row) (s ∷ ss) e h =
    let a : v ≡ f s = is_inj (h 0 s refl) in
    let b : row ≡ map f ss = row_is f row ss (omega arith) (λ i r p. h (suc i) r p) in
    cc

-- a row of known length
row_there : (η : Memory) (l : ℕ) {n : ℕ} → at (shape η) l ≡ is n → length (get_or η l []) ≡ n
row_there [] l e = missing e
row_there (row ∷ η) zero e = is_inj e
row_there (row ∷ η) (suc l) e = row_there η l e

-- and its cells
row_cell : (η : Memory) (l i : ℕ) {v : Value} → cell η l i ≡ has v → at (get_or η l []) i ≡ is v
row_cell [] l i e = lacking e
row_cell (row ∷ η) zero i e = or_lacks_has IndexOutside (at row i) e
row_cell (row ∷ η) (suc l) i e = row_cell η l i e

-- ---- the program's run, by cases

-- finished threads, by their numbers
done_at : (ss : List (Stack ℕ)) (t : ℕ) {s : Stack ℕ} → P.done ss ≡ true → at ss t ≡ is s → s ≡ []
done_at [] t d e = missing e
done_at ([] ∷ ss) zero d e = sym (is_inj e)
done_at ([] ∷ ss) (suc t) d e = done_at ss t d e
done_at ((f ∷ s) ∷ ss) t d e = absurd (never d)

module _ (q : Program ℕ) where
  -- what a step costs
  pub price_step : (t : ℕ) (ts : List ℕ) (st : P.State) (s : Stack ℕ) (r : P.Step) → at st.threads t ≡ is s → P.thread_step q t st ≡ has r
      → prices q (t ∷ ts) st ≡ price q t s st.memory ∷ prices q ts r.state
  price_step t ts st s r e f = rw (f, e, prices)

  -- a blocked one costs nothing
  pub price_blocked : (t : ℕ) (ts : List ℕ) (st : P.State) {why : Reason} → P.thread_step q t st ≡ lacks why → prices q (t ∷ ts) st ≡ []
  price_blocked t ts st f = rw (f, prices)

  -- and there is none after the program is finished
  pub price_done : (ts : List ℕ) (st : P.State) → P.done st.threads ≡ true → prices q ts st ≡ []
  price_done [] st d = refl
  price_done (t ∷ ts) st d = price_blocked t ts st (none (at st.threads t) refl)
    where
      none : (s : Maybe (Stack ℕ)) → at st.threads t ≡ s → P.thread_step q t st ≡ lacks FinishedThread
      none nothing e = rw e
      none (is s) e = rw (e, done_at st.threads t d e)

  -- before any step, the run is in its state
  pub start_run : (st : P.State) (k : ℕ) (evs : List Event)
      → ((P.run q [] st k evs).state ≡ st) × ((P.run q [] st k evs).events ≡ evs) × ((P.run q [] st k evs).steps ≡ k)
  start_run st k evs =
      by_test (P.done st.threads)
      (λ e. rw (finished_run q [] st k evs e) (refl, refl, refl))
      (λ e. rw (used_run q st k evs e) (refl, refl, refl))

-- no entry of a finished program is taken
pub chosen_done : (ss : List (Stack ℕ)) (ts : List ℕ) (j : ℕ) → P.done ss ≡ true → chosen (at ts j >>= at ss) ≡ 0
chosen_done ss ts j d = by (at ts j)
  where
    by : (t : Maybe ℕ) → chosen (t >>= at ss) ≡ 0
    by nothing = refl
    by (is t) = go (at ss t) refl
      where
        go : (s : Maybe (Stack ℕ)) → at ss t ≡ s → chosen s ≡ 0
        go nothing e = refl
        go (is s) e = rw (done_at ss t d e)

-- ---- what the copy shows

module _ (W : World) where
  -- of a state and its events
  pub record Shows (st : P.State) (evs : List Event) (c : C.Config) : Type 0 where
    pub memory : take W.S.h c.memory ≡ st.memory
    pub events : c.events ≡ evs
    pub labels : get_or c.memory W.S.G.pct [] ≡ map (λ s. Whole (pos (label_by W.S.ends s))) st.threads

  -- memory that mirrors a state shows it
  pub shows : (st : P.State) (evs : List Event) (c : C.Config) → Mirrors W st c.memory → c.events ≡ evs → Shows st evs c
  shows st evs c M e = record {
    memory = M.shared;
    events = e;
    labels = row_is (λ s. Whole (pos (label_by W.S.ends s))) (get_or η W.S.G.pct []) st.threads
        (row_there η W.S.G.pct {n = W.S.T} (rw M.shaped W.S.rows.pct) ∙ sym M.count)
        (λ i s p. row_cell η W.S.G.pct i (M.label i s p));
  }
    where
      η : Memory
      η = c.memory

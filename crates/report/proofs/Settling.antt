-- One step of a thread: rows that are used up go away, and then the frame returns or does its instruction.
use Prim.Native.Nat.{ℕ, ◌+◌, ◌*◌, ◌-◌, ◌≤◌, ◌<◌}
use native.Mathlib.Omega.{arith}
use mathlib.Core.Path.{◌≡◌, refl, sym, ap, subst, ◌∙◌}
use mathlib.Core.List.{List, [], ◌∷◌}
use lib.ListN.{length, get_or, set, length-set}
use lib.Seq.{get_or-set_same}
use Rattle.value.specs.Maybe.{is}
use Rattle.value.specs.declared.Reason.TheVariants.{FinishedThread}
use Rattle.value.specs.Lists.{at}
use Rattle.format.specs.Syntax.{Block, end}
use Rattle.format.specs.Labels.{labelled}
use Rattle.semantics.specs.Step.{Stack}
use Rattle.atomic.specs.Threaded.{thread_frames, all_frames, most_frames, most_threads}
use Rattle.concurrent.proofs.Stepping.{step_finished}
use Rattle.std.specs.Prelude.{Result, Ok, Err}
use Rattle.value.specs.declared.Reason.{Reason}
use Rattle.report.specs.Rows.{most_rows, all_rows, RowsAt, none, Within, Leaves}
use Rattle.report.specs.Stepping.{Stepping, Answers, Steps, Ready, Rules}
use Rattle.report.proofs.Rowed.{few_rows, rows_within, own_rows, rows_settled}
use Rattle.report.proofs.Ruling.{few_all, stacked, uppermost, comes_back}

-- the number of the uppermost frame
abbrev top_of : ℕ → List ℕ → ℕ
top_of thread depths = thread_frames * thread + get_or depths thread 0 - 1

-- one less, in two ways
less_one : (a r : ℕ) → (r ≡ 0 → ⊥) → a + r - 1 ≡ a + (r - 1)
less_one a r h = omega arith

-- and below
less_below : (r n : ℕ) → (r ≡ 0 → ⊥) → r ≤ n → r - 1 < n
less_below r n h l = omega arith

-- it is one of all, and has few rows
pub record Small (t : List ℕ) (thread : ℕ) (depths heights rows : List ℕ) : Type 0 where
  pub there : thread < most_threads
  pub depth : get_or depths thread 0 ≤ most_frames
  pub some : 1 ≤ get_or depths thread 0
  pub top : thread_frames * thread + get_or depths thread 0 - 1 + 1 < all_frames
  pub few : get_or heights (thread_frames * thread + get_or depths thread 0 - 1) 0 ≤ most_rows
  pub depths_long : length depths ≡ most_threads
  pub heights_long : length heights ≡ all_frames
  pub rows_long : length rows ≡ all_rows

module _ {t : List ℕ} {records : ℕ} {ss : List ℕ} {thread : ℕ} {depths heights rows ends ls cs o : List ℕ} {n : ℕ} where
  -- a finished thread blocks
  pub step_still : get_or depths thread 0 ≡ 0
      → Steps t records ss thread depths heights rows ends ls cs o n depths heights rows ends ls cs o (Err FinishedThread)
  step_still z = record {
    steps = λ h. record {
      blocks = step_finished (labelled h.loaded.program) thread h.state (gone h (stacked h).0 (stacked h).1);
      present = h.present;
    };
  }
    where
      gone : (h : Stepping t records ss thread depths heights rows ends ls cs o n) (s : Stack ℕ) → at h.state.threads thread ≡ is s
          → at h.state.threads thread ≡ is []
      gone h [] e = e
      gone h (f ∷ s) e = absurd (omega (arith, (h.present.threads.each thread (f ∷ s) e).depth, z))

  -- the rows of the uppermost frame
  top_rows : (h : Stepping t records ss thread depths heights rows ends ls cs o n) (z : get_or depths thread 0 ≡ 0 → ⊥)
      → RowsAt t rows (most_rows * top_of thread depths) (get_or heights (top_of thread depths) 0) (uppermost h z).frame.code
  top_rows h z =
      let u = uppermost h z in
      let same : top_of thread depths ≡ thread_frames * thread + length u.below = omega (arith, u.depth) in
      rw same (own_rows thread u.frame u.below h.present.rowed u.found (few_all h))

  -- numbers on the way
  pub step_small : Stepping t records ss thread depths heights rows ends ls cs o n → (get_or depths thread 0 ≡ 0 → ⊥) → Small t thread depths heights rows
  step_small h z =
      let u = uppermost h z in
      record {
        there = u.there;
        depth = omega (arith, u.depth, u.few);
        some = omega (arith, u.depth);
        top = omega (arith, u.depth, u.there, u.few);
        few = few_rows (top_rows h z);
        depths_long = h.present.threads.depths_long;
        heights_long = h.present.rowed.heights_long;
        rows_long = h.present.rowed.rows_long;
      }

  -- its rows can be looked at
  pub step_within : Stepping t records ss thread depths heights rows ends ls cs o n → (get_or depths thread 0 ≡ 0 → ⊥)
      → Within t rows (most_rows * top_of thread depths) (get_or heights (top_of thread depths) 0)
  step_within h z =
      let w = step_small h z in
      record { room = omega (arith, w.top, w.few); long = h.present.rowed.rows_long; each = rows_within (top_rows h z) }

  module _ {r : ℕ} (z : get_or depths thread 0 ≡ 0 → ⊥) (L : Leaves t rows (most_rows * top_of thread depths) (get_or heights (top_of thread depths) 0) r) where
    -- without those that are used up
    unfoldable pub settled : Stepping t records ss thread depths heights rows ends ls cs o n
        → Stepping t records ss thread depths (set heights (top_of thread depths) r) rows ends ls cs o n
    settled h =
        let u = uppermost h z in
        let same : top_of thread depths ≡ thread_frames * thread + length u.below = omega (arith, u.depth) in
        let w = step_small h z in
        record {
          loaded = h.loaded;
          lent = h.lent;
          state = h.state;
          so_far = h.so_far;
          present = record {
            labels = h.present.labels;
            threads = h.present.threads;
            rowed = rw same (rows_settled thread u.frame u.below h.present.rowed u.found (few_all h) (omega (arith, w.top)) (rw same at L));
            known = h.present.known;
            long = h.present.long;
            memory = h.present.memory;
            sizes = h.present.sizes;
            events = h.present.events;
          };
          there = h.there;
          few = h.few;
        }

    -- so many
    left_is : Stepping t records ss thread depths heights rows ends ls cs o n → get_or (set heights (top_of thread depths) r) (top_of thread depths) 0 ≡ r
    left_is h =
        let w = step_small h z in
        get_or-set_same heights (top_of thread depths) r 0 (omega (arith, w.top, w.heights_long))

    -- an instruction is left
    pub step_ready : Stepping t records ss thread depths heights rows ends ls cs o n
        → (get_or (set heights (top_of thread depths) r) (top_of thread depths) 0 ≡ 0 → ⊥)
        → Ready t thread (top_of thread depths) depths (set heights (top_of thread depths) r) rows ls n
    step_ready h y =
        let w = step_small h z in
        let same : get_or (set heights (top_of thread depths) r) (top_of thread depths) 0 ≡ r = left_is h in
        let high : r ≡ 0 → ⊥ = λ e. y (same ∙ e) in
        let place : most_rows * top_of thread depths + r - 1 ≡ most_rows * top_of thread depths + (r - 1) =
        less_one (most_rows * top_of thread depths) r high
        in
        record {
          some = z;
          is = refl;
          high = y;
          begins = rw same (L.next high);
          there = w.there;
          room = w.top;
          few = rw same (omega (arith, L.less, w.few));
          deep = w.depth;
          inside = rw (same, place) ((step_within h z).each (r - 1) (less_below r (get_or heights (top_of thread depths) 0) high L.less));
          short = omega (arith, ap length h.loaded.same, h.loaded.sound.size);
          depths_long = w.depths_long;
          heights_long = length-set heights (top_of thread depths) r ∙ w.heights_long;
          rows_long = w.rows_long;
          words_long = h.present.long;
          small = h.few;
        }

    -- none is: [return]
    pub step_returns : get_or (set heights (top_of thread depths) r) (top_of thread depths) 0 ≡ 0
        → Steps t records ss thread depths heights rows ends ls cs o n (set depths thread (get_or depths thread 0 - 1))
        (set heights (top_of thread depths) r) rows ends ls cs o (Ok n)
    unfolding settled
    step_returns y = record {
      steps = λ h.
          let u = uppermost (settled h) z in
          let ended : u.frame.code ≡ end = empty (rw y at (top_rows' h)) in
          let less : get_or depths thread 0 - 1 ≡ length u.below = omega (arith, u.depth) in
          let w = comes_back (settled h) u ended in
          rw less (record { step = w.step; goes = w.goes; present = w.present; few = w.few });
    }
      where
        empty : {k : ℕ} {c : Block ℕ} → RowsAt t rows k 0 c → c ≡ end
        empty (none e) = e

        top_rows' : (h : Stepping t records ss thread depths heights rows ends ls cs o n)
            → RowsAt t rows (most_rows * top_of thread depths) (get_or (set heights (top_of thread depths) r) (top_of thread depths) 0) (uppermost (settled h) z).frame.code
        top_rows' h =
            let u = uppermost (settled h) z in
            let same : top_of thread depths ≡ thread_frames * thread + length u.below = omega (arith, u.depth) in
            subst (λ k. RowsAt t rows (most_rows * k) (get_or (set heights (top_of thread depths) r) k 0) u.frame.code) (sym same)
            (own_rows thread u.frame u.below (settled h).present.rowed u.found (few_all (settled h)))

    -- it is done
    pub step_rules : {depths' heights' rows' ends' ls' cs' o' : List ℕ} {x : Result ℕ Reason}
        → (get_or (set heights (top_of thread depths) r) (top_of thread depths) 0 ≡ 0 → ⊥)
        → Rules t records ss thread (top_of thread depths) depths (set heights (top_of thread depths) r) rows ends ls cs o n
        depths' heights' rows' ends' ls' cs' o' x
        → Steps t records ss thread depths heights rows ends ls cs o n depths' heights' rows' ends' ls' cs' o' x
    unfolding settled
    step_rules {depths'} {heights'} {rows'} {ends'} {ls'} {cs'} {o'} {x} y U = record {
      steps = λ h. by h x ((U.rules (step_ready h y)).steps (settled h));
    }
      where
        by : (h : Stepping t records ss thread depths heights rows ends ls cs o n) (x : Result ℕ Reason) → Answers (settled h) depths' heights' rows' ends' ls' cs' o' x
            → Answers h depths' heights' rows' ends' ls' cs' o' x
        by h (Ok k) w = record { step = w.step; goes = w.goes; present = w.present; few = w.few }
        by h (Err why) w = record { blocks = w.blocks; present = w.present }

-- one law for each way
pub ruleset step_ways = (step_still, step_within, settled, step_ready, step_returns, step_rules)

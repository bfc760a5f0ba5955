-- The copy's memory represents the thread that runs: a frame of procedure m with locals ρ above the frames s, and the
-- program's memory η. The thread's label, in pct, is not part of it: it is behind while a simulating procedure runs.
use Rattle.std.specs.Prelude.{ℕ, ◌≤◌, ◌<◌, ◌≡◌, refl, ◌≢◌, List, [], ◌∷◌, Bool, true, false, length, take, eqb}
use Rattle.std.proofs.Common.{arith, sym, ap, ◌∙◌, length-set, get_or-set_same, get_or-set_other, eq-eqb}
use Rattle.std.proofs.Math.Decide.{ℕ_discrete}
use Rattle.value.specs.Maybe.{is, nothing, either}
use Rattle.value.specs.Try.{has}
use Rattle.value.specs.declared.Value.{Value}
use Rattle.value.proofs.Laws.Maybes.{is_inj}
use Rattle.value.proofs.Laws.Tests.{either_left, either_right}
use Rattle.format.specs.Syntax.{Proc, Plain}
use Rattle.format.specs.Labels.{first}
use Rattle.translation.specs.Layout.{Layout}
use Rattle.translation.proofs.Laws.Apart.{Private, Apart, Rows}
use Rattle.translation.proofs.Laws.Placing.Apart.{Along, self}
use Rattle.semantics.specs.Memory.{Env, lookup, bound, Memory, cell, stored}
use Rattle.semantics.specs.Step.{Stack, runs}
use Rattle.semantics.proofs.Laws.Cells.{lookup_below, cell_stored, cell_elsewhere, cell_other_index}
use Rattle.semantics.proofs.Laws.Cells.{take_stored_above, take_stored_below, shape, shape_stored}
use Rattle.semantics.proofs.Laws.Cells.{cell_there}
use Rattle.agreement.proofs.Laws.Columns.{Column, Kept, AllKept, Alike, kept_alike, all_alike}

-- the column of thread i
abbrev pub column : Memory → ℕ → Column
column η i = λ l. cell η l i

-- the label that a thread is at, by the end labels of the procedures; 0 once it is finished
abbrev pub label_by : (ℕ → ℕ) → Stack ℕ → ℕ
label_by ends [] = 0
label_by ends (f ∷ s) = first (ends f.proc) f.code

-- the program, as far as the copy's memory needs it: locations below h are the program's
pub record Setting : Type 0 where
  pub h : ℕ
  pub G : Layout
  pub N : ℕ
  pub L : ℕ → ℕ
  pub T : ℕ
  pub Z : List ℕ
  -- the end label of each procedure
  pub ends : ℕ → ℕ
  pub private : Private h G
  -- the program's procedures, for who calls whom
  pub program : List (Proc Plain)
  pub apart : Apart program G N L
  pub rows : Rows G N L T Z

module _ (S : Setting) (i : ℕ) (η₀ : Memory) (m : ℕ) (s : Stack ℕ) where
  -- the copy's memory η', for thread i in a frame of procedure m with locals ρ above s, in the program's memory η
  pub record Rep (ρ : Env) (η η' : Memory) : Type 0 where
    pub thread : i < S.T
    pub shared : take S.h η' ≡ η
    pub shaped : shape η' ≡ S.Z
    pub top : Kept S.G S.N S.L (label_by S.ends) (column η' i) m ρ s
    pub below : AllKept S.G S.N S.L (label_by S.ends) (column η' i) s
    -- the frames below are on one call path with the top
    pub chain : (k : ℕ) → runs k s ≡ true → Along S.program k m
    -- the other threads' columns are as they were in η₀
    pub others : (l j : ℕ) → j ≢ i → S.h ≤ l → cell η' l j ≡ cell η₀ l j

-- the top procedure is no other frame's
pub other_proc : (m k : ℕ) (s : Stack ℕ) → runs m s ≡ false → runs k s ≡ true → k ≢ m
other_proc m k s p q e = let z : ◌≡◌ {A = Bool} true false = sym (rw e at q) ∙ p in let w : ◌≡◌ {A = ℕ} 0 1 = cc in omega arith

module _ {S : Setting} {i : ℕ} {η₀ : Memory} {m : ℕ} {s : Stack ℕ} {ρ : Env} {η η' : Memory} (R : Rep S i η₀ m s ρ η η') where
  -- the running thread has its cell of each row
  pub home_there : (x : ℕ) → x < S.L m → (u : Value) × (cell η' (S.G.home m x) i ≡ has u)
  home_there x below = cell_there η' (S.G.home m x) i (rw R.shaped (S.rows.home m x R.top.proc below)) R.thread

  -- pct has a cell for the thread
  pub pct_there : (u : Value) × (cell η' S.G.pct i ≡ has u)
  pct_there = cell_there η' S.G.pct i (rw R.shaped S.rows.pct) R.thread

  -- a store to a local's home, as the program sets the local
  pub rep_home : (x : ℕ) (v : Value) → x < S.L m → Rep S i η₀ m s (bound ρ x v) η (stored η' (S.G.home m x) i v)
  rep_home x v below = record {
    thread = R.thread;
    shared = take_stored_above S.h η' home i v (S.private.home m x) ∙ R.shared;
    shaped = shape_stored η' home i v ∙ R.shaped;
    top = record {
      proc = R.top.proc;
      full = length-set ρ x (is v) ∙ R.top.full;
      once = R.top.once;
      held = held;
      back = elsewhere (S.G.from m) (λ e. S.apart.home_from m x m R.top.proc (sym e)) ∙ R.top.back;
    };
    below = all_alike S.G S.N S.L (label_by S.ends) s
        (λ k in_n e. record {
          from = elsewhere (S.G.from k) (λ p. S.apart.home_from m x k in_n (sym p));
          home = λ y b. elsewhere (S.G.home k y)
              (λ p. other_proc m k s R.top.once e (S.apart.home_home k y m x in_n R.top.proc (R.chain k e) b below p).0);
        })
        R.below;
    chain = R.chain;
    others = λ l j ne above. cell_other_index η' home i v l j ne ∙ R.others l j ne above;
  }
    where
      home : ℕ
      home = S.G.home m x

      elsewhere : (l : ℕ) → l ≢ home → cell (stored η' home i v) l i ≡ cell η' l i
      elsewhere l ne = cell_elsewhere η' home i v l i ne

      held : (y : ℕ) (w : Value) → lookup (bound ρ x v) y ≡ is w → cell (stored η' home i v) (S.G.home m y) i ≡ has w
      held y w e = elim (ℕ_discrete y x) [
        | yes p ↦
            let inρ : x < length ρ = rw R.top.full below in
            let q : lookup (bound ρ x v) x ≡ is v = get_or-set_same ρ x (is v) nothing inρ in
            let e' : lookup (bound ρ x v) x ≡ is w = rw p at e in
            let there : cell (stored η' home i v) home i ≡ has v = cell_stored η' home i v (home_there x below).1 in
            rw p (there ∙ ap has (is_inj (sym q ∙ e')))
        | no ne ↦
            let e' : lookup ρ y ≡ is w = sym (get_or-set_other ρ x y (is v) nothing ne) ∙ e in
            let b : y < S.L m = rw R.top.full at (lookup_below ρ y e') in
            elsewhere (S.G.home m y) (λ p. ne (S.apart.home_home m y m x R.top.proc R.top.proc self b below p).1) ∙ R.top.held y w e'
      ]

  -- a store to one of the program's locations, as the program stores
  pub rep_shared : (l j : ℕ) (v : Value) → l < S.h → Rep S i η₀ m s ρ (stored η l j v) (stored η' l j v)
  rep_shared l j v low = record {
    thread = R.thread;
    shared = take_stored_below S.h η' l j v low ∙ rw R.shared;
    shaped = shape_stored η' l j v ∙ R.shaped;
    top = kept_alike S.G S.N S.L (label_by S.ends) (alike m) R.top;
    below = all_alike S.G S.N S.L (label_by S.ends) s (λ k in_n e. alike k) R.below;
    chain = R.chain;
    others = λ k o ne above. elsewhere k o above ∙ R.others k o ne above;
  }
    where
      elsewhere : (k o : ℕ) → S.h ≤ k → cell (stored η' l j v) k o ≡ cell η' k o
      elsewhere k o above = cell_elsewhere η' l j v k o (λ e. absurd (omega arith))

      alike : (k : ℕ) → Alike S.G S.N S.L (label_by S.ends) (column η' i) (column (stored η' l j v) i) k
      alike k = record { from = elsewhere (S.G.from k) i (S.private.from k); home = λ y b. elsewhere (S.G.home k y) i (S.private.home k y) }

  -- a store to a location of the copy's that no frame of the thread uses
  pub rep_unused : (l : ℕ) (v : Value) → S.h ≤ l
      → ((k : ℕ) → k < S.N → either (eqb k m) (runs k s) ≡ true → (S.G.from k ≢ l) × ((y : ℕ) → y < S.L k → S.G.home k y ≢ l))
      → Rep S i η₀ m s ρ η (stored η' l i v)
  rep_unused l v above free = record {
    thread = R.thread;
    shared = take_stored_above S.h η' l i v above ∙ R.shared;
    shaped = shape_stored η' l i v ∙ R.shaped;
    top = kept_alike S.G S.N S.L (label_by S.ends) (alike m R.top.proc (either_left (runs m s) (eq-eqb m m refl))) R.top;
    below = all_alike S.G S.N S.L (label_by S.ends) s (λ k in_n e. alike k in_n (either_right (eqb k m) e)) R.below;
    chain = R.chain;
    others = λ k j ne high. cell_other_index η' l i v k j ne ∙ R.others k j ne high;
  }
    where
      alike : (k : ℕ) → k < S.N → either (eqb k m) (runs k s) ≡ true
          → Alike S.G S.N S.L (label_by S.ends) (column η' i) (column (stored η' l i v) i) k
      alike k in_n e = record {
        from = cell_elsewhere η' l i v (S.G.from k) i (free k in_n e).0;
        home = λ y b. cell_elsewhere η' l i v (S.G.home k y) i ((free k in_n e).1 y b);
      }

  -- so is a store to pct
  pub rep_pct : (v : Value) → Rep S i η₀ m s ρ η (stored η' S.G.pct i v)
  rep_pct v = rep_unused S.G.pct v S.private.pct (λ k in_n e. (S.apart.from_pct k, λ y b. S.apart.home_pct k y))

-- The layout by its properties, which are all that the agreement of the copy uses: its locations are above the program's
-- (Private), apart as far as one thread uses them together (Apart), and as long as the threads are many (Rows).
use Rattle.std.specs.Prelude.{ℕ, suc, ◌+◌, ◌≤◌, ◌<◌, ◌≡◌, ◌≢◌, List, ◌∷◌, length, replicate}
use Rattle.std.proofs.Common.{arith, ◌∙◌}
use Rattle.value.specs.Maybe.{is}
use Rattle.value.specs.Lists.{at}
use Rattle.value.proofs.Laws.Lists.{at_after, at_replicate}
use Rattle.format.specs.Syntax.{Proc, Program, Plain}
use Rattle.translation.specs.Placement.{locals_at}
use Rattle.translation.specs.Layout.{Layout, layout_by, sizes_by}
use Rattle.translation.proofs.Laws.Placing.Apart.{Along}
use Rattle.translation.proofs.Laws.Placing.Modes.{Placed}

-- the copy's own locations are not recorded
pub record Private (h : ℕ) (G : Layout) : Type 0 where
  pub ptid : h ≤ G.ptid
  pub pct : h ≤ G.pct
  pub from : (m : ℕ) → h ≤ G.from m
  pub home : (m x : ℕ) → h ≤ G.home m x

-- The copy's own locations are apart, the homes of locals on each call path: N procedures, of which m has L m locals.
pub record Apart (ps : List (Proc Plain)) (G : Layout) (N : ℕ) (L : ℕ → ℕ) : Type 0 where
  pub home_home : (m x k y : ℕ) → m < N → k < N → Along ps m k → x < L m → y < L k → G.home m x ≡ G.home k y → (m ≡ k) × (x ≡ y)
  pub home_from : (m x k : ℕ) → k < N → G.home m x ≢ G.from k
  pub home_pct : (m x : ℕ) → G.home m x ≢ G.pct
  pub from_from : (m k : ℕ) → G.from m ≡ G.from k → m ≡ k
  pub from_pct : (m : ℕ) → G.from m ≢ G.pct
  pub home_ptid : (m x : ℕ) → G.home m x ≢ G.ptid
  pub from_ptid : (m : ℕ) → G.from m ≢ G.ptid
  pub pct_ptid : G.pct ≢ G.ptid

-- the rows of the copy's own locations, in the sizes Z, for T threads
pub record Rows (G : Layout) (N : ℕ) (L : ℕ → ℕ) (T : ℕ) (Z : List ℕ) : Type 0 where
  pub ptid : at Z G.ptid ≡ is 1
  pub pct : at Z G.pct ≡ is T
  pub from : (m : ℕ) → m < N → at Z (G.from m) ≡ is T
  pub home : (m x : ℕ) → m < N → x < L m → at Z (G.home m x) ≡ is T

-- the copy of p, where its locals are placed so
module _ (p : Program Plain) (start : ℕ → ℕ) (R : ℕ) (D : Placed p.procs start R) where
  -- it keeps what is its own above the program's locations
  pub private : Private (length p.sizes) (layout_by start p)
  private = record { ptid = omega arith; pct = omega arith; from = λ m. omega arith; home = λ m x. omega arith }

  -- it keeps nothing in two places at once
  pub apart : Apart p.procs (layout_by start p) (length p.procs) (locals_at p.procs)
  apart = record {
    home_home = λ m x k y in_n inN' a lo lo' e. D.apart.apart m x k y in_n inN' a lo lo' (omega arith);
    home_from = λ m x k in_n e. absurd (omega arith);
    home_pct = λ m x e. absurd (omega arith);
    from_from = λ m k e. omega arith;
    from_pct = λ m e. absurd (omega arith);
    home_ptid = λ m x e. absurd (omega arith);
    from_ptid = λ m e. absurd (omega arith);
    pct_ptid = λ e. absurd (omega arith);
  }

  -- and has a cell for each thread
  pub rows : Rows (layout_by start p) (length p.procs) (locals_at p.procs) (length p.mains) (sizes_by R p)
  rows = record {
    ptid = own (layout_by start p).ptid 0 (omega arith);
    pct = own (layout_by start p).pct 1 (omega arith) ∙ at_replicate K 0 T (omega arith);
    from = λ m in_n. own ((layout_by start p).from m) (suc (suc m)) (omega arith) ∙ at_replicate K (suc m) T (omega arith);
    home = λ m x in_n lo.
        let b : start m + locals_at p.procs m ≤ R = D.ends m in_n in
        own ((layout_by start p).home m x) (suc (1 + length p.procs + start m + x)) (omega arith)
        ∙ at_replicate K (1 + length p.procs + start m + x) T (omega arith);
  }
    where
      K : ℕ
      K = 1 + length p.procs + R

      T : ℕ
      T = length p.mains

      own : (l k : ℕ) → l ≡ length p.sizes + k → at (sizes_by R p) l ≡ at (1 ∷ replicate K T) k
      own l k e = rw e (at_after p.sizes (1 ∷ replicate K T) k)

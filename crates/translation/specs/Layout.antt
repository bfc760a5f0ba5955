-- Where the copy keeps what: the locations after the source's. Document 01, "The translation", first sentence.
use Rattle.std.specs.Prelude.{ℕ, ◌+◌, List, ◌∷◌, ◌++◌, length, replicate}
use Rattle.format.specs.Syntax.{Program}
use Rattle.translation.specs.declared.Mode.{Mode}
use Rattle.translation.specs.declared.Mode.TheVariants.{Own}
use Rattle.translation.specs.Placement.{start_in, row_of}
pub use Rattle.translation.specs.Placement.{locals_of, before}

-- "ptid (size 1), pct, one from per procedure, one per local of each procedure in order (size T each)"
pub record Layout : Type 0 where
  pub ptid : ℕ
  pub pct : ℕ
  pub from : ℕ → ℕ
  -- local x of procedure m
  pub home : ℕ → ℕ → ℕ

-- "New locations after the source's", in this order, where the locals of procedure m begin at start m of their row
abbrev pub layout_by : {A : Type 0} → (ℕ → ℕ) → Program A → Layout
layout_by start p =
    let M : ℕ = length p.sizes in
    let P : ℕ = length p.procs in
    record {
      ptid = M;
      pct = M + 1;
      from = λ m. M + 2 + m;
      home = λ m x. M + 2 + P + start m + x;
    }

-- the sizes of all locations of the copy, with a row of R locals
abbrev pub sizes_by : {A : Type 0} → ℕ → Program A → List ℕ
sizes_by R p = p.sizes ++ (1 ∷ replicate (1 + length p.procs + R) (length p.mains))

-- the layout of a mode
abbrev pub layout_in : {A : Type 0} → Mode → Program A → Layout
layout_in mode p = layout_by (start_in mode p.procs) p

-- and its sizes
abbrev pub sizes_in : {A : Type 0} → Mode → Program A → List ℕ
sizes_in mode p = sizes_by (row_of mode p.procs) p

-- in the old mode
abbrev pub layout : {A : Type 0} → Program A → Layout
layout p = layout_in Own p

-- in the old mode
abbrev pub sizes : {A : Type 0} → Program A → List ℕ
sizes p = sizes_in Own p

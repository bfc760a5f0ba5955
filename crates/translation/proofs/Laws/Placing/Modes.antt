-- Both modes place the locals of every program that rule 7 lets pass, and the old mode is as it was.
use Rattle.std.specs.Prelude.{ℕ, ◌+◌, ◌≤◌, ◌<◌, ◌≡◌, refl, List, length}
use Rattle.std.proofs.Common.{arith}
use Rattle.format.specs.Syntax.{Proc, Program, Plain, concurrent}
use Rattle.format.proofs.Laws.Calls.{Reaches}
use Rattle.format.proofs.Laws.Sound.{Sound}
use Rattle.translation.specs.declared.Mode.{Mode}
use Rattle.translation.specs.declared.Mode.TheVariants.{Own, Shared}
use Rattle.translation.specs.Placement.{locals_at, before, shared, start_in, row_of, mode_number, mode_numbered}
use Rattle.translation.specs.Layout.{layout_by, sizes_by, layout, sizes}
use Rattle.translation.specs.Translate.{translate_by, translate}
use Rattle.translation.proofs.Laws.Procs.{before_next}
use Rattle.translation.proofs.Laws.Placing.Apart.{Apart, from, own_apart, shared_apart}
use Rattle.translation.proofs.Laws.Placing.Shortest.{in_row, shared_shorter}

-- what a placement must keep, by its starts and the length of its row: all that demand 3 needs of it
pub record Placed (ps : List (Proc Plain)) (start : ℕ → ℕ) (R : ℕ) : Type 0 where
  pub ends : (m : ℕ) → m < length ps → start m + locals_at ps m ≤ R
  pub apart : Apart ps (from ps start)

-- BOTH MODES KEEP IT.
pub placed : (mode : Mode) (ps : List (Proc Plain)) → ((m : ℕ) → Reaches ps m m → ⊥) → Placed ps (start_in mode ps) (row_of mode ps)
placed Own ps rule = record { ends = λ m in_n. before_next ps m (length ps) in_n; apart = own_apart ps }
placed Shared ps rule = record { ends = in_row ps (shared ps); apart = shared_apart ps rule }

-- and no row is longer than the old one, so that the copy has no more locations
pub row_short : (mode : Mode) (ps : List (Proc Plain)) → ((m : ℕ) → Reaches ps m m → ⊥) → row_of mode ps ≤ before ps (length ps)
row_short Own ps rule = omega arith
row_short Shared ps rule = shared_shorter ps rule

-- so of a program that keeps the rules
pub sound_placed : (mode : Mode) (p : Program Plain) → Sound concurrent p → Placed p.procs (start_in mode p.procs) (row_of mode p.procs)
sound_placed mode p sound = placed mode p.procs sound.calls

-- ---- modes by number

-- each mode is found by its number
pub mode_found : (mode : Mode) → mode_numbered (mode_number mode) ≡ mode
mode_found Own = refl
mode_found Shared = refl

-- ---- the old mode

-- THE OLD MODE STAYS AS IT WAS: the locals in order, one location for each.
pub old_layout : (p : Program Plain) → layout p ≡ layout_by (before p.procs) p
old_layout p = refl

-- and so do its sizes
pub old_sizes : (p : Program Plain) → sizes p ≡ sizes_by (before p.procs (length p.procs)) p
old_sizes p = refl

-- and so does the copy
pub old_copy : (p : Program Plain) → translate p ≡ translate_by (layout p) (sizes p) p
old_copy p = refl

-- A program prepared once, and the state that a run of it begins with.
use Prim.Native.Nat.{ℕ, ◌*◌, ◌-◌, ◌^◌, ◌≤◌, ◌<◌}
use native.Mathlib.Omega.{arith}
use mathlib.Core.Path.{◌≡◌, sym, ap, subst, ◌∙◌}
use mathlib.Core.List.{List, []}
use lib.ListN.{length, get_or-replicate}
use Rattle.value.specs.Lists.{sum}
use Rattle.format.specs.Encode.{trailer_size}
use Rattle.format.specs.Labels.{labelled}
use Rattle.semantics.specs.Memory.{fresh}
use Rattle.semantics.specs.Threads as Q
use Rattle.semantics.proofs.Laws.Cells.{shape_fresh}
use Rattle.engine.specs.Words.{held}
use Rattle.engine.specs.Work.{program_words, flat, Holds, Bases}
use Rattle.engine.specs.Laws.Holding.{length_flat, holds_fresh}
use Rattle.engine.specs.Laws.Logging.{logged_none}
use Rattle.concurrent.specs.Stepping.{Loaded, Present}
use Rattle.concurrent.specs.Concurrent.{Begins, Accepted}
use Rattle.concurrent.specs.Anew.{Prepares, CellsClear, Renews}
use Rattle.concurrent.proofs.Beginning.{starts_threaded}
use Rattle.concurrent.proofs.ConcurrentCall.{accepted_cells, accepted_map, main_read, sizes_at_lem}

-- ---- the state that a run begins with

-- the arrays at work are the program, prepared
abbrev pub prepared : {t : List ℕ} {P M T c : ℕ} {map bounds ss : List ℕ} (a : Accepted t P M T c) → Prepares t P M T map bounds ss → Loaded t map bounds ss
prepared {ss = ss} a w = record {
  program = a.program;
  same = a.same;
  sound = a.sound;
  mapped = accepted_map a w.maps;
  starts = subst (λ (ns : List ℕ). Bases ns ss) (sizes_at_lem a) w.starts.bases;
}

-- number 0 in each of the program's cells
holds_clear : (ns : List ℕ) {n : ℕ} {cs : List ℕ} → n ≡ sum ns → n ≤ program_words → CellsClear n cs → Holds (fresh ns) cs
holds_clear ns {n} {cs} e l h =
    let all = holds_fresh ns {n = program_words} (omega arith) in
    let few : length (flat (fresh ns)) ≡ sum ns = length_flat (fresh ns) ∙ ap sum (shape_fresh ns) in
    record {
      few = omega (arith, h.room);
      each = λ k m.
          let low : k < n = omega arith in
          ap held (h.zero k low ∙ sym (get_or-replicate program_words k (2 ^ 32) 0 (omega arith))) ∙ all.each k m;
    }

-- A RUN BEGINS: the arrays at work are the state before the first step
pub renewed : {t : List ℕ} {P M T c : ℕ} {map bounds ss labels depths ls cs : List ℕ} (a : Accepted t P M T c)
    → (w : Prepares t P M T map bounds ss) → Renews t (length t - trailer_size - 2 * T) T c bounds labels depths ls cs
    → Present a.program [] labels depths ls cs [] 0 (Q.start (labelled a.program)) []
renewed {t} {T = T} {bounds = bounds} {labels = labels} {depths} {ls} a w r = record {
  threads =
      starts_threaded a.sound (accepted_map a w.maps) (main_read a)
      (subst (λ (n : ℕ). Begins t (length t - trailer_size - 2 * T) n bounds labels depths) a.threads r.begins)
      (λ k x l m. r.frames.zero k x (omega (arith, a.threads)) m) r.frames.long;
  long = r.frames.long;
  memory = holds_clear a.program.sizes a.cells (accepted_cells a) r.cells;
  sizes = shape_fresh a.program.sizes;
  events = logged_none;
}

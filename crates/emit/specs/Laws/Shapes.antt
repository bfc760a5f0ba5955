-- What is known of the source's table, and what the layout's code promises of it.
use Rattle.std.specs.Prelude.{◌≡◌, ℕ, ◌^◌, ◌<◌, List, ◌∷◌, ◌++◌, length, replicate, slice_index}
use Rattle.value.specs.Maybe.{is}
use Rattle.value.specs.Lists.{at}
use Rattle.format.specs.Syntax.{Proc, Program, Plain, concurrent}
use Rattle.format.specs.Encode.{table}
use Rattle.format.specs.Labels.{counts}
use Rattle.format.proofs.Laws.Sound.{Sound}
use Rattle.format.proofs.Laws.TablePlaces.{records_at}
use Rattle.translation.specs.Placement.{locals_of, start_in, row_of}
use Rattle.translation.specs.Layout.{Layout, layout_in, sizes_in}
use Rattle.emit.specs.Laws.Sources.{Sited}
use Rattle.emit.specs.declared.layout.Shape.{Shape}
use Rattle.emit.specs.declared.layout.Hub.{Hub}
use Rattle.emit.specs.declared.layout.Site.{Site}

-- t is the table of the accepted program p, and the shape says where its parts are, and where its mode places the locals
pub record Shaped (t : List ℕ) (h : Shape) (p : Program Plain) : Type 0 where
  pub is : t ≡ table concurrent p
  pub sound : Sound concurrent p
  pub records : h.records ≡ records_at p
  pub procedures : h.procedures ≡ length p.procs
  pub locations : h.locations ≡ length p.sizes
  pub threads : h.threads ≡ length p.mains
  pub labels : h.labels ≡ counts p.procs
  pub starts : (m : ℕ) → m < length p.procs → slice_index h.starts m ≡ start_in h.mode p.procs m
  pub row : h.row ≡ row_of h.mode p.procs

-- the locals of procedure m
pub record LocalsAt (t : List ℕ) (h : Shape) (m r : ℕ) : Type 0 where
  pub gives : (p : Program Plain) → Shaped t h p → r ≡ locals_of (at p.procs m)

-- the main of thread k
pub record MainAt (t : List ℕ) (h : Shape) (k r : ℕ) : Type 0 where
  pub gives : (p : Program Plain) (m : ℕ) → Shaped t h p → at p.mains k ≡ is m → r ≡ m

-- where the thread selected last and the program counters are kept
pub record Hubbed (G : Layout) (r : Hub) : Type 0 where
  pub ptid : r.ptid ≡ G.ptid
  pub pct : r.pct ≡ G.pct

-- for this program
pub record HubAt (h : Shape) (r : Hub) : Type 0 where
  pub gives : (t : List ℕ) (p : Program Plain) → Shaped t h p → Hubbed (layout_in h.mode p) r

-- the site of procedure m
pub record SiteAt (t : List ℕ) (h : Shape) (m : ℕ) (r : Site) : Type 0 where
  pub gives : (p : Program Plain) (q : Proc Plain) → Shaped t h p → at p.procs m ≡ is q → Sited (layout_in h.mode p) m q.locals r

-- how many locations have size T
pub record RowsAt (h : Shape) (r : ℕ) : Type 0 where
  pub gives : (t : List ℕ) (p : Program Plain) → Shaped t h p → sizes_in h.mode p ≡ p.sizes ++ (1 ∷ replicate r (length p.mains))
  pub most : r < 2 ^ 17

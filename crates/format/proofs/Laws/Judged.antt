-- Each test of Rules decides a rule of Sound and of Formed.
use Rattle.std.specs.Prelude.{ℕ, zero, suc, ◌+◌, ◌-◌, ◌≤◌, ◌≡◌, List, [], ◌∷◌, length, leb}
use Rattle.value.specs.Maybe.{both}
use Rattle.value.specs.Lists.{sum, all}
use Rattle.value.proofs.Laws.Tests.{Decides, always, never?, decides_as, ◌and◌, le?, eq?}
use Rattle.value.proofs.Laws.Lists.{Each, all?}
use Rattle.format.specs.Syntax.{Proc, Program, Plain, Kind, concurrent, sequential}
use Rattle.format.specs.Encode.{Head, Middle, Trailer, heads, middle_of, block, kind_mark, distance, trailer_size, form_mark}
use Rattle.format.specs.Rules.{limits, within, begun, starts, few_labels, right_trailer, right_counts, right_records, max_size}
use Rattle.format.proofs.Laws.Names.{Takes}
use Rattle.format.proofs.Laws.Sound.{Within, LocalsRight, FewLabels}
use Rattle.format.proofs.Laws.Formed.{RightCounts, HeadRight, Begun}

-- a number between two others
within? : (least most n : ℕ) → Decides (within least most n) (Within least most n)
within? least most n = decides_as (λ h. record { low = h.0; high = h.1 }) (λ w. (w.low, w.high)) (le? least n and le? n most)

-- 3: the locals, as the records say them
locals? : (most at : ℕ) (ps : List (Proc Plain))
    → Decides (all (λ h. both (leb h.params h.locals) (leb h.locals most)) (heads at ps)) (Each (LocalsRight most) ps)
locals? most at [] = always
locals? most at (p ∷ ps) =
    decides_as (λ h. record { params = h.0; locals = h.1 }) (λ r. (r.params, r.locals)) (le? p.params p.locals and le? p.locals most)
    and locals? most (at + length (block p.body)) ps

-- 3: a main
begun? : (hs : List Head) (m : ℕ) → Decides (begun hs m) (Begun hs m)
begun? [] m = never?
begun? (h ∷ hs) zero = eq? h.params 0
begun? (h ∷ hs) (suc m) = begun? hs m

-- 3: a main, as the records say it
takes_begun? : (at : ℕ) (ps : List (Proc Plain)) (m : ℕ) → Decides (begun (heads at ps) m) (Takes ps m 0)
takes_begun? at [] m = never?
takes_begun? at (p ∷ ps) zero = eq? p.params 0
takes_begun? at (p ∷ ps) (suc m) = takes_begun? (at + length (block p.body)) ps m

-- 6
pub labels? : (k : Kind) (p : Program Plain) → Decides (few_labels k p) (FewLabels k p)
labels? concurrent p = le? _ _
labels? sequential p = always

-- 1
pub trailer? : (k : Kind) (t : List ℕ) (r : Trailer)
    → Decides (right_trailer k t r) ((r.kind ≡ kind_mark k) ×
    ((r.mark ≡ form_mark) × ((r.back ≡ distance r.procs r.places r.threads) ×
    ((r.whole ≡ length t) × (r.back ≤ length t - trailer_size)))))
trailer? k t r = eq? _ _ and eq? _ _ and eq? _ _ and eq? _ _ and le? _ _

-- 2
pub counts? : (k : Kind) (t : List ℕ) (r : Trailer) → Decides (right_counts k t r) (RightCounts k t r)
counts? k t r =
    decides_as (λ h. record { size = h.0; procs = h.1.0; places = h.1.1.0; threads = h.1.1.1 })
    (λ c. (c.size, (c.procs, (c.places, c.threads))))
    (le? _ _ and within? _ _ _ and le? _ _ and within? _ _ _)

-- 3, of the records
pub records? : (k : Kind) (m : Middle)
    → Decides (right_records k m) (Each (HeadRight (limits k).locals) m.heads ×
    (Each (Within 1 max_size) m.sizes × ((sum m.sizes ≤ (limits k).cells) × Each (Begun m.heads) (starts k m.mains))))
records? k m =
    all? (λ h. decides_as (λ p. record { params = p.0; locals = p.1 }) (λ r. (r.params, r.locals)) (le? _ _ and le? _ _)) m.heads
    and all? (within? 1 max_size) m.sizes and le? _ _ and all? (begun? m.heads) (starts k m.mains)

-- 3, of the procedures whose records these are
pub procedures? : (k : Kind) (p : Program Plain)
    → Decides (right_records k (middle_of p)) (Each (LocalsRight (limits k).locals) p.procs ×
    (Each (Within 1 max_size) p.sizes × ((sum p.sizes ≤ (limits k).cells) × Each (λ m. Takes p.procs m 0) (starts k p.mains))))
procedures? k p =
    locals? (limits k).locals 0 p.procs and all? (within? 1 max_size) p.sizes and le? _ _ and
    all? (takes_begun? 0 p.procs) (starts k p.mains)

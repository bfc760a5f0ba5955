-- Request #110: "old tables read as before, and an old reader gives 2, 3 or 6 for the new ones and never a wrong program". The old reader and the
-- new one are one definition, by two rows of bounds.
use Rattle.std.specs.Prelude.{ℕ, zero, suc, ◌≤◌, ◌≡◌, refl, List, [], ◌∷◌, Bool, true, false, length, replicate, leb}
use Rattle.std.proofs.Common.{arith, sym, ◌∙◌, subst}
use Rattle.value.specs.Maybe.{Maybe, is, nothing, both}
use Rattle.value.specs.Lists.{all, sum}
use Rattle.value.specs.declared.Value.TheVariants.{Truth}
use Rattle.value.proofs.Laws.Tests.{Decides, never, itself, ◌and◌, le?}
use Rattle.format.specs.Syntax.{constant, assign, Block, end, step, Program, Plain, Kind, concurrent, sequential}
use Rattle.format.specs.Labels.{counts}
use Rattle.format.specs.Encode.{Trailer, Middle, trailer_size, table}
use Rattle.format.specs.Decode.{finish, but, last}
use Rattle.format.specs.Decode as D
use Rattle.format.specs.Rules.{Limits, limits, max_labels, max_size, within, starts, begun, counts_within, records_within, labels_within, right_trailer, program}
use Rattle.format.specs.Rules.{all_named, Verdict, accepted, refused, demand, require, verdict, verdict_by}

-- document 01: "T not 1..8", "P not 1..512", "all sizes together over 2,048 (sequential 8,192)"
abbrev pub before : Kind → Limits
before concurrent = record { bytes = 16384; procs = 16; places = 64; fewest = 1; threads = 8; locals = 16; cells = 2048 }
before sequential = record { bytes = 65536; procs = 512; places = 512; fewest = 0; threads = 0; locals = 32; cells = 8192 }

-- document 01: "concurrent: over 400 labels"
abbrev pub labels_before : ℕ
labels_before = 400

-- what an old reader says of a table
abbrev pub old_verdict : Kind → List ℕ → Verdict
old_verdict = verdict_by before labels_before

-- ---- what passes by the old bounds passes by the new ones

-- the test of counts, by any bounds
counts_within? : (m : Limits) (t : List ℕ) (r : Trailer)
    → Decides (counts_within m t r) ((length t ≤ m.bytes) × (((1 ≤ r.procs) × (r.procs ≤ m.procs)) ×
    ((r.places ≤ m.places) × ((m.fewest ≤ r.threads) × (r.threads ≤ m.threads)))))
counts_within? m t r = le? _ _ and (le? _ _ and le? _ _) and le? _ _ and (le? _ _ and le? _ _)

-- 2: procedures and threads
counts_wider : (k : Kind) (t : List ℕ) (r : Trailer) → counts_within (before k) t r ≡ true → counts_within (limits k) t r ≡ true
counts_wider concurrent t r e = let h = (counts_within? (before concurrent) t r).so e in (counts_within? (limits concurrent) t r).of (omega (arith, h))
counts_wider sequential t r e = let h = (counts_within? (before sequential) t r).so e in (counts_within? (limits sequential) t r).of (omega (arith, h))

-- of four tests, the third with a larger bound
third_wider : (a b d : Bool) (x m n : ℕ) → m ≤ n → both a (both b (both (leb x m) d)) ≡ true → both a (both b (both (leb x n) d)) ≡ true
third_wider true true d x m n more e = let h = (le? x m and itself d).so e in (le? x n and itself d).of (omega (arith, h.0), h.1)
third_wider true false d x m n more e = e
third_wider false b d x m n more e = e

-- 3: cells of a sequential table
cells_wider : (m : Middle) → records_within (before sequential) sequential m ≡ true → records_within (limits sequential) sequential m ≡ true
cells_wider m e =
    third_wider (all (λ h. both (leb h.params h.locals) (leb h.locals (limits sequential).locals)) m.heads) (all (within 1 max_size) m.sizes)
    (all (begun m.heads) (starts sequential m.mains)) (sum m.sizes) (before sequential).cells (limits sequential).cells (omega arith) e

-- 6: labels of a concurrent one
labels_wider : (p : Program Plain) → labels_within labels_before concurrent p ≡ true → labels_within max_labels concurrent p ≡ true
labels_wider p e = let h = (le? (counts p.procs) labels_before).so e in (le? (counts p.procs) max_labels).of (omega arith)

-- ---- an old reader's answer, by the new one's

-- the numbers of an old reader for what is new
pub data OldNumber : Kind → ℕ → Type 0 where
  for_counts : {k : Kind} → OldNumber k 2
  for_cells : OldNumber sequential 3
  for_labels : OldNumber concurrent 6

-- the same answer, or such a number
pub data Old (k : Kind) (new : Verdict) : Verdict → Type 0 where
  as_new : Old k new new
  for_new : {n : ℕ} → OldNumber k n → Old k new (refused n)

module _ {k : Kind} where
  -- through a test that both make
  alike : (n : ℕ) (b : Bool) {new old : Verdict} → Old k new old → Old k (require n b new) (require n b old)
  alike n true o = o
  alike n false o = as_new

  -- through something that both look for
  found : {A : Type 0} (n : ℕ) (a : Maybe A) {new old : A → Verdict} → ((x : A) → Old k (new x) (old x)) → Old k (demand n a new) (demand n a old)
  found n nothing o = as_new
  found n (is x) o = o x

  -- through a test that has another bound
  wider : {n : ℕ} → OldNumber k n → (now was : Bool) → (was ≡ true → now ≡ true) → {new old : Verdict} → Old k new old
      → Old k (require n now new) (require n was old)
  wider number true true so o = o
  wider number false true so o = absurd (never (so refl))
  wider number now false so o = for_new number

-- rule 3, by kind
records_old : (k : Kind) (m : Middle) {new old : Verdict} → Old k new old
    → Old k (require 3 (records_within (limits k) k m) new) (require 3 (records_within (before k) k m) old)
records_old concurrent m o = alike 3 (records_within (limits concurrent) concurrent m) o
records_old sequential m o =
    wider for_cells (records_within (limits sequential) sequential m) (records_within (before sequential) sequential m) (cells_wider m) o

-- and 6
labels_old : (k : Kind) (p : Program Plain) {new old : Verdict} → Old k new old
    → Old k (require 6 (labels_within max_labels k p) new) (require 6 (labels_within labels_before k p) old)
labels_old concurrent p o =
    wider for_labels (labels_within max_labels concurrent p) (labels_within labels_before concurrent p) (labels_wider p) o
labels_old sequential p o = o

-- AN OLD READER ANSWERS AS THE NEW ONE DOES, OR 2, OR 3 (SEQUENTIAL) OR 6 (CONCURRENT).
pub old_reader : (k : Kind) (t : List ℕ) → Old k (verdict k t) (old_verdict k t)
old_reader k t =
    found 1 (finish (D.trailer (last trailer_size t))) λ r.
    alike 1 (right_trailer k t r)
    (wider for_counts (counts_within (limits k) t r) (counts_within (before k) t r) (counts_wider k t r)
    (found 1 (finish (D.middle r.procs r.places r.threads (last r.back (but trailer_size t)))) λ m.
    records_old k m
    (found 4 (program k (but r.back (but trailer_size t)) m) λ p.
    alike 5 (all_named p)
    (labels_old k p as_new))))

module _ (k : Kind) (t : List ℕ) where
  -- OLD TABLES READ AS BEFORE.
  pub old_table : (p : Program Plain) → old_verdict k t ≡ accepted p → verdict k t ≡ accepted p
  old_table p e = same (verdict k t) (subst (Old k (verdict k t)) e (old_reader k t))
    where
      same : (v : Verdict) → Old k v (accepted p) → v ≡ accepted p
      same v as_new = refl

  -- AN OLD READER NEVER GIVES A WRONG PROGRAM.
  pub never_wrong : (p q : Program Plain) → verdict k t ≡ accepted p → old_verdict k t ≡ accepted q → q ≡ p
  never_wrong p q e f = let same : accepted q ≡ accepted p = sym (old_table q f) ∙ e in (cc)

  -- AND GIVES 2, 3 OR 6 FOR WHAT IT DOES NOT ACCEPT OF THE NEW ONES.
  pub new_table : (p : Program Plain) (n : ℕ) → verdict k t ≡ accepted p → old_verdict k t ≡ refused n → OldNumber k n
  new_table p n e f = number (verdict k t) e (subst (Old k (verdict k t)) f (old_reader k t))
    where
      number : (v : Verdict) → v ≡ accepted p → Old k v (refused n) → OldNumber k n
      number v g (for_new m) = m
      number v g as_new = absurd (never (cc))

-- ---- each of these numbers, computed

-- P procedures of one body, with these sizes and T threads
abbrev of : ℕ → Block Plain → List ℕ → ℕ → Program Plain
of P b sizes T = record { procs = replicate P (record { params = 0; locals = 1; body = b }); sizes = sizes; mains = replicate T 0 }

-- x := false, n times: n + 1 labels
abbrev row : ℕ → Block Plain
row zero = end
row (suc n) = step tt (assign 0 (constant (Truth false))) (row n)

-- what both readers say of a program's table
abbrev both_say : Kind → Program Plain → Verdict × Verdict
both_say k p = (old_verdict k (table k p), verdict k (table k p))

-- THE LAST THAT AN OLD READER ACCEPTS, AND THE FIRST THAT IT REFUSES: 8 and 9 threads, 400 and 401 labels, 513 procedures, 8,192 cells and one more.
pub old_numbers :
    (both_say concurrent (of 1 end [] 8) ≡ (accepted (of 1 end [] 8), accepted (of 1 end [] 8)))
    × (both_say concurrent (of 1 end [] 9) ≡ (refused 2, accepted (of 1 end [] 9)))
    × (both_say concurrent (of 1 (row 399) [] 1) ≡ (accepted (of 1 (row 399) [] 1), accepted (of 1 (row 399) [] 1)))
    × (both_say concurrent (of 1 (row 400) [] 1) ≡ (refused 6, accepted (of 1 (row 400) [] 1)))
    × (old_verdict sequential (table sequential (of 513 end [] 0)) ≡ refused 2)
    × (both_say sequential (of 1 end (replicate 32 256) 0) ≡ (accepted (of 1 end (replicate 32 256) 0), accepted (of 1 end (replicate 32 256) 0)))
    × (both_say sequential (of 1 end (1 ∷ replicate 32 256) 0) ≡ (refused 3, accepted (of 1 end (1 ∷ replicate 32 256) 0)))
old_numbers = (refl, refl, refl, refl, refl, refl, refl)
